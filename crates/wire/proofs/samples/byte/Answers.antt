use Rattle.std.proofs.Common.{arith, ◌≡◌, sym, ◌∙◌, ap, refl, ℕ, zero, suc, ◌<◌, ◌/◌, ◌%◌, get_or}
use Rattle.std.specs.Int.{to_le_bytes, w32}
use Rattle.laws.specs.Choice.{pick}
use Rattle.wire.specs.Wire.{place_of, byte_of}
use Rattle.wire.proofs.samples.byte.Goals as goal

byte_is : (p j : ℕ) → j < 4 → get_or (to_le_bytes w32 p) j 0 ≡ byte_of p j
unfolding place_of byte_of pick
byte_is p zero h = let q : p / 1 ≡ p = omega arith in ap (λ (n : ℕ). n % 256) (sym q)
byte_is p (suc zero) h = refl
byte_is p (suc (suc zero)) h = refl
byte_is p (suc (suc (suc zero))) h = refl
byte_is p (suc (suc (suc (suc n)))) h = absurd (omega arith)

pub returns : goal.returns
returns c = ap (λ l. get_or l c.args.j 0) c.to_le_bytes.ensures ∙ byte_is _ _ c.requires
