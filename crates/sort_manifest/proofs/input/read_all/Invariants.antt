-- `sort_manifest::input::read_all` is safe and ends: each turn holds a byte more at least, and no more than there is room for.
-- Assumes nothing.
use Rattle.std.proofs.Common.{length, ◌-◌, ◌≡◌, ◌≤◌}
use Rattle.sort_manifest.proofs.input.read_all.Given as goal

abbrev pub invariant-loop-held : goal.invariant-loop-held
invariant-loop-held g l = (length l.text ≡ length l.initial.text) × (l.held ≤ length l.initial.text)

abbrev pub decreases-loop-held : goal.decreases-loop-held
decreases-loop-held g l = length l.initial.text - l.held
