-- A leak as a decimal number: to the nearest millionth, with no zero at the end of its places. Definitions only.
--     millionths_of leak     how many millionths are nearest; 0 where that is no number of 64 bits
--     places_of n rest       the first n places of `rest` millionths, up to the last that is not 0
--     Leak leak s t         t is s with the leak behind it
use Rattle.std.specs.Prelude.{◌≡◌, ℕ, zero, suc, ◌+◌, ◌*◌, ◌/◌, ◌%◌, List, [], ◌∷◌, ◌++◌, ◌==◌, from_bits, Float}
use Rattle.std.specs.Float.{binary64}
use Rattle.std.specs.Float.Ieee.{add, mul, lt, to_unsigned}
use Rattle.laws.specs.Choice.{pick}
use Rattle.text.specs.Text.{Appended}
use Rattle.tau_state.specs.Constants.{f0·5}

-- 1000000.0
abbrev pub million : Float
million = from_bits binary64 0x412e_8480_0000_0000

abbrev pub minus_one : Float
minus_one = from_bits binary64 0xbff0_0000_0000_0000

-- 2 ^ 64
abbrev pub f2p64 : Float
f2p64 = from_bits binary64 0x43f0_0000_0000_0000

-- a half more than the millionths, and of that the whole part
unfoldable pub millionths_of : Float → ℕ
millionths_of leak =
    let above = add binary64 (mul binary64 leak million) f0·5 in
    pick (lt minus_one above) (pick (lt above f2p64) (to_unsigned 64 above) 0) 0

-- 48 is the digit 0 in ASCII
unfoldable pub places_of : ℕ → ℕ → List ℕ
places_of zero rest = []
places_of (suc n) rest = pick (rest == 0) [] ((48 + rest / 100000) ∷ places_of n (rest % 100000 * 10))

-- "." and the places behind it, where there are any
abbrev pub behind_of : ℕ → List ℕ
behind_of rest = pick (rest == 0) [] (46 ∷ places_of 6 rest)

pub record Leak (leak : Float) (s t : List ℕ) : Type 0 where
  pub whole : List ℕ
  pub is_whole : Appended (millionths_of leak / 1000000) s whole
  pub is-leak : t ≡ whole ++ behind_of (millionths_of leak % 1000000)
