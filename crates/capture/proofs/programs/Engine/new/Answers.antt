use Rattle.std.proofs.Common.{ap}
use Rattle.tau_streams.specs.Stream.{begun_by}
use Rattle.capture.specs.Program.{start_of}
use Rattle.capture.proofs.programs.Engine.new.Goals as goal

pub returns : goal.returns
unfolding start_of
returns c = ap begun_by c.create-started.ensures
