use Rattle.std.proofs.Common.{◌≡◌}
use Rattle.std.specs.Float.{binary64}
use Rattle.std.specs.Float.Ieee.{mul}
use Rattle.laws.specs.Loops.{over}
use Rattle.rho_taps.specs.Runs.{newest}
use Rattle.rho_taps.proofs.update.widened_products.Given as goal

abbrev pub invariant-loop-k : goal.invariant-loop-k
invariant-loop-k g l = l.products ≡ over l.k (λ j x. mul binary64 l.scale (newest l.samples j)) l.initial.products
