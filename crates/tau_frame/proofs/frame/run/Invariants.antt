use Rattle.tau_run.specs.Ran.{engine_of}
use Rattle.tau_frame.proofs.Going.{Going}
use Rattle.tau_frame.proofs.frame.run.Given as goal

abbrev pub invariant-loop-k : goal.invariant-loop-k
invariant-loop-k l =
    Going (engine_of l.initial.state l.initial.shadow l.initial.output l.initial.spectra l.initial.powers) l.near l.far l.initial.out l.k l.done
    (engine_of l.state l.shadow l.output l.spectra l.powers) l.out l.last
