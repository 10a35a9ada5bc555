use Rattle.std.proofs.Common.{◌≡◌, ◌+◌, get_or}
use Rattle.std.specs.Float.{nan}
use Rattle.laws.specs.Loops.{over, over_at}
use Rattle.tau_spectra.proofs.windows.slide.Given as goal

abbrev pub invariant-loop-i : goal.invariant-loop-i
invariant-loop-i l = l.window ≡ over l.i (λ k x. get_or l.initial.window (256 + k) nan) l.initial.window

abbrev pub invariant-loop-j : goal.invariant-loop-j
invariant-loop-j l = l.window ≡ over_at 256 l.j (λ k x. get_or l.block k nan) l.initial.window
