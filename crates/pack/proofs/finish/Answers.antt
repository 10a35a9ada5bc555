use Rattle.std.proofs.Common.{ap, sym, ◌∙◌, length-take-le}
use Rattle.tau_frame.specs.Pairs.{Engine}
use Rattle.recorded.specs.Program.{engine_by, flush_of}
use Rattle.recorded.proofs.Calls.{finish-sends}
use Rattle.pack.proofs.finish.Goals as goal

pub slice_bounds-out-end : goal.slice_bounds-out-end
slice_bounds-out-end g c = finish-sends _ _ _ c.in-Ok.ensures

pub slice_bounds-write_all-end : goal.slice_bounds-write_all-end
slice_bounds-write_all-end g c = sym (length-take-le _ _ (finish-sends _ _ _ c.in-Ok.ensures))

pub returns : goal.returns
returns g c = ap engine_by c.in-Ok.ensures ∙ ap (λ (e : Engine). engine_by (flush_of e)) c.engine.view_is
