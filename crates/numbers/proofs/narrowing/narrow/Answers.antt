-- `numbers::narrow` meets its contract: a plain number is rounded straight to the narrowed one; else what the bits of a narrowed number are
-- read as is that number. Assumes nothing.
-- on the short way: the narrowed number, of no NaN
use Rattle.std.proofs.Common.{◌≡◌, ℕ, Bool, true, not, T, sym, ap, ◌∙◌, subst}
use lib.Ieee.{Float, fits, binary32, binary64, div, is_nan, nan_bits, of_bits}
use Rattle.numbers.specs.Narrowing.{narrow_of, is_plain, rounded_of}
use Rattle.numbers.proofs.Plain.{plain-rounded, plain-number, castable}
use Rattle.numbers.proofs.Tests.{is-nan, no_nan, narrow_back, narrow-no-nan}
use Rattle.numbers.proofs.narrowing.narrow.Goals as goal

plain : (x : Float) {r : Float} {b : Bool} → T (fits binary64 x) → b ≡ is_plain x → b ≡ true → r ≡ rounded_of x → (r ≡ narrow_of x) × T (not (is_nan x))
plain x f e k h = let p = sym e ∙ k in (h ∙ plain-rounded x f p, plain-number x f p)

pub float_to_float-result : goal.float_to_float-result
float_to_float-result c = let r = plain c.args.x (subst T (sym c.well_formed.0.1) tt) c.is_plain.ensures c.if-is_plain.true c.rounded.ensures in castable _ r.0 r.1

pub returns-then-is_plain : goal.returns-then-is_plain
returns-then-is_plain c = (plain c.args.x (subst T (sym c.well_formed.0.1) tt) c.is_plain.ensures c.if-is_plain.true c.rounded.ensures).0

pub returns-then-x : goal.returns-then-x
unfolding narrow_of div of_bits
returns-then-x c = sym (ap narrow_of (is-nan c.args.x c.if-x.true))

pub bits_by_fields-requires : goal.bits_by_fields-requires
bits_by_fields-requires c = no_nan c.args.x c.if-x.false

pub float_from_bits-result : goal.float_from_bits-result
float_from_bits-result c = subst (λ (n : ℕ). T (not (nan_bits binary32 n))) (sym c.bits_by_fields.ensures) (narrow-no-nan c.args.x (no_nan c.args.x c.if-x.false))

pub returns : goal.returns
returns c = ap (of_bits binary32) c.bits_by_fields.ensures ∙ narrow_back c.args.x
