use Rattle.std.proofs.Common.{ap, ◌∙◌}
use Rattle.tau_frame.specs.Pairs.{Engine}
use Rattle.tau.specs.Calls.{reset_of}
use Rattle.tau_streams.specs.Stream.{begun_by}
use Rattle.capture.proofs.programs.Engine.reset.Goals as goal

pub returns : goal.returns
returns c = ap begun_by c.reset-started.ensures ∙ ap (λ (e : Engine). begun_by (reset_of e)) c.self.view_is
