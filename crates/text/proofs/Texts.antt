-- What a caller's proof cites. Assumes nothing.
--     behind          a number behind one text is behind another that is the same
--     digits-low      a digit is a byte of ASCII
use mathlib.Core.Path.{◌≡◌, subst}
use mathlib.Core.List.{List}
use Prim.Native.Nat.{ℕ, zero, suc, ◌/◌, ◌%◌, ◌<◌, ◌≤◌}
use native.Mathlib.Omega.{arith}
use Rattle.std.proofs.lemmas.Bool.Decides.{nat_tests}
use Rattle.laws.specs.Kinds.{All, all_none, all_cons, all_append}
use Rattle.text.specs.Digits.{digit_ascii, last_digits}
use Rattle.text.specs.Text.{Appended}

pub behind : {n : ℕ} {s u t : List ℕ} → s ≡ u → Appended n s t → Appended n u t
behind {n} {t = t} e h = subst (λ (l : List ℕ). Appended n l t) e h

digit-low : (d : ℕ) → d < 16 → digit_ascii d < 128
digit-low d h = grind (arith, nat_tests)

-- a digit is a byte of ASCII
pub digits-low : (b k n : ℕ) → 0 < b → b ≤ 16 → All (λ d. d < 128) (last_digits b k n)
digits-low b zero n h l = all_none
digits-low b (suc k) n h l = all_append (digits-low b k (n / b) h l) (all_cons (digit-low (n % b) (let m : n % b < b = omega arith in omega arith)) all_none)
