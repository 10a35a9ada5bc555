use Rattle.std.proofs.Common.{ap, sym, ◌∙◌, length-take-le}
use Rattle.tau_frame.specs.Pairs.{Engine}
use Rattle.recorded.specs.Program.{engine_by, block_of}
use Rattle.recorded.proofs.Calls.{feed-sends}
use Rattle.pack.proofs.feed.Goals as goal

pub slice_bounds-out-end : goal.slice_bounds-out-end
slice_bounds-out-end g c = feed-sends _ _ _ _ c.in-Ok.ensures

pub slice_bounds-write_all-end : goal.slice_bounds-write_all-end
slice_bounds-write_all-end g c = sym (length-take-le _ _ (feed-sends _ _ _ _ c.in-Ok.ensures))

pub returns : goal.returns
returns g c = ap engine_by c.in-Ok.ensures ∙ ap (λ (e : Engine). engine_by (block_of e c.args.held.now)) c.engine.view_is

pub returns-in_default : goal.returns-in_default
returns-in_default g c = ap engine_by c.in_default.ensures ∙ ap (λ (e : Engine). engine_by (block_of e c.args.held.now)) c.engine.view_is
