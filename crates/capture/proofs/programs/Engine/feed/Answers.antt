use Rattle.std.proofs.Common.{ap, ◌∙◌}
use Rattle.tau_frame.specs.Pairs.{Engine}
use Rattle.capture.specs.Feeds.{Fed, fed_of}
use Rattle.capture.specs.Program.{left_by}
use Rattle.capture.proofs.Room.{fed-sends}
use Rattle.capture.proofs.programs.Engine.feed.Goals as goal

pub returns : goal.returns
returns c =
    let same = c.feed-answer.ensures ∙ ap (λ (e : Engine). fed_of e c.args.held.now c.args.bytes.now) c.self.view_is in
    record {
      engine_after = ap left_by same;
      answer = ap (λ (f : Fed). f.answer) same;
      bytes_after = ap (λ (f : Fed). f.bytes) same;
      delivered_fits = fed-sends _ _ _ _ same c.feed-answer.auto.bytes;
    }
