use Rattle.std.proofs.Common.{◌≡◌, refl, sym, Bool, true, false, not, arith}
use Rattle.rho_taps.proofs.NoNan.{all}
use Rattle.rho_taps.proofs.clean.clean.Goals as goal

off : (b : Bool) → not b ≡ true → b ≡ false
off true h = sym h
off false h = refl

pub returns : goal.returns
returns c h k l = all c.args.xs.now c.lanes-s.result c.lanes-s.ensures (off _ h) k (omega (arith, l, c.requires))
