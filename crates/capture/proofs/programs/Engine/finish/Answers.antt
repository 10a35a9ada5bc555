use Rattle.std.proofs.Common.{ap, ◌∙◌}
use Rattle.tau_frame.specs.Pairs.{Engine}
use Rattle.capture.specs.Feeds.{Fed, finished_of}
use Rattle.capture.specs.Program.{left_by}
use Rattle.capture.proofs.Room.{finished-sends}
use Rattle.capture.proofs.programs.Engine.finish.Goals as goal

pub returns : goal.returns
returns c =
    let same = c.finish-flushed.ensures ∙ ap (λ (e : Engine). finished_of e c.args.bytes.now) c.self.view_is in
    record {
      engine_after = ap left_by same;
      answer = ap (λ (f : Fed). f.answer) same;
      bytes_after = ap (λ (f : Fed). f.bytes) same;
      delivered_fits = finished-sends _ _ _ same c.finish-flushed.auto.bytes;
    }
