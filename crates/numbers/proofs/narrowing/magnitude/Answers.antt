-- `numbers::magnitude` meets its contract: each way out is a case of `mag_of`. Assumes nothing.
use Rattle.std.proofs.Common.{◌≡◌, ℕ, ◌+◌, ◌-◌, ◌*◌, ◌^◌, ◌<◌, ◌≤◌, sym, ap, ◌∙◌, subst, arith, lit<, lit≤, pow_pos}
use lib.Ieee.Nearest.{closest}
use Rattle.numbers.proofs.Rounding.{closest-le, unit-is, mag-tiny, mag_low, mag-mid, mag-big}
use Rattle.numbers.proofs.narrowing.magnitude.Goals as goal

pub returns-then-exponent-lt873 : goal.returns-then-exponent-lt873
returns-then-exponent-lt873 c = record {
  value = sym (mag-tiny c.args.exponent c.args.digits c.if-exponent-lt873.true);
  upper_bound = lit< tt;
}

pub half_even-requires : goal.half_even-requires
half_even-requires c = record {
  unit_positive = subst (λ (z : ℕ). 0 < z) (sym (unit-is c.args.exponent c.if-exponent-lt873.false)) (pow_pos (926 - c.args.exponent));
  digits_53 = omega arith;
}

pub returns-then-exponent-lt897 : goal.returns-then-exponent-lt897
returns-then-exponent-lt897 c = record {
  value = let l : 873 ≤ c.args.exponent = c.if-exponent-lt873.false in
      let k : c.args.exponent < 897 = c.if-exponent-lt897.true in
      let m : 2 ^ 52 + c.args.digits < 2 ^ 53 = omega arith in
      let d : 29 ≤ 926 - c.args.exponent = omega arith in
      let q : c.half_even.result ≡ closest (2 ^ 52 + c.args.digits) (2 ^ (926 - c.args.exponent)) = c.half_even.ensures ∙ ap (closest (2 ^ 52 + c.args.digits)) (unit-is c.args.exponent l) in
      let b = closest-le (2 ^ 52 + c.args.digits) (926 - c.args.exponent) m d in
      q ∙ sym (mag_low c.args.exponent c.args.digits l k);
  upper_bound = let l : 873 ≤ c.args.exponent = c.if-exponent-lt873.false in
      let k : c.args.exponent < 897 = c.if-exponent-lt897.true in
      let m : 2 ^ 52 + c.args.digits < 2 ^ 53 = omega arith in
      let d : 29 ≤ 926 - c.args.exponent = omega arith in
      let q : c.half_even.result ≡ closest (2 ^ 52 + c.args.digits) (2 ^ (926 - c.args.exponent)) = c.half_even.ensures ∙ ap (closest (2 ^ 52 + c.args.digits)) (unit-is c.args.exponent l) in
      let b = closest-le (2 ^ 52 + c.args.digits) (926 - c.args.exponent) m d in
      omega (arith, q, b);
}

pub overflow_add-result : goal.overflow_add-result
overflow_add-result c = let k : c.args.exponent < 1151 = c.if-exponent-lt1151.true in
    let m : 2 ^ 52 + c.args.digits < 2 ^ 53 = omega arith in
    let b = closest-le (2 ^ 52 + c.args.digits) 29 m (lit≤ tt) in
    omega (arith, k, b, c.half_even-then-exponent-lt1151.ensures)

pub returns-then-exponent-lt1151 : goal.returns-then-exponent-lt1151
returns-then-exponent-lt1151 c = record {
  value = let l : 897 ≤ c.args.exponent = c.if-exponent-lt897.false in
      let k : c.args.exponent < 1151 = c.if-exponent-lt1151.true in
      let m : 2 ^ 52 + c.args.digits < 2 ^ 53 = omega arith in
      let q : c.half_even-then-exponent-lt1151.result ≡ closest (2 ^ 52 + c.args.digits) (2 ^ 29) = c.half_even-then-exponent-lt1151.ensures in
      let b = closest-le (2 ^ 52 + c.args.digits) 29 m (lit≤ tt) in
      ap (λ (z : ℕ). (c.args.exponent - 897) * 2 ^ 23 + z) q ∙ sym (mag-mid c.args.exponent c.args.digits l k);
  upper_bound = let l : 897 ≤ c.args.exponent = c.if-exponent-lt897.false in
      let k : c.args.exponent < 1151 = c.if-exponent-lt1151.true in
      let m : 2 ^ 52 + c.args.digits < 2 ^ 53 = omega arith in
      let q : c.half_even-then-exponent-lt1151.result ≡ closest (2 ^ 52 + c.args.digits) (2 ^ 29) = c.half_even-then-exponent-lt1151.ensures in
      let b = closest-le (2 ^ 52 + c.args.digits) 29 m (lit≤ tt) in
      omega (arith, k, b, q);
}

pub returns : goal.returns
returns c = record {
  value = sym (mag-big c.args.exponent c.args.digits c.if-exponent-lt1151.false);
  upper_bound = lit< tt;
}
