-- `text::decimal` meets its contract: a number below 2 ^ 64 has at most 20 decimal digits, each a byte of ASCII. Assumes nothing.
use Rattle.std.proofs.Common.{◌≡◌, ◌<◌, ℕ, List, rules, arith, ap, sym, subst, ◌∙◌, length, take, length-take-le}
use lib.ListN.{get_or}
use lib.Seq.{take_all}
use Rattle.std.proofs.lemmas.List.{take_more}
use Rattle.std.proofs.lemmas.Str.{encode_ascii}
use Rattle.laws.specs.Kinds.{all-get}
use Rattle.text.specs.Digits.{last_digits}
use Rattle.text.proofs.Texts.{digits-low}
use Rattle.text.proofs.Powers.{few}
use Rattle.text.proofs.decimal.Goals as goal

pub write_digits-requires-clause-in_bounds : goal.write_digits-requires-clause-in_bounds
write_digits-requires-clause-in_bounds c = few c.args.n c.digit_count-count.result (search rules) c.digit_count-count.ensures

pub slice_bounds-digits-end : goal.slice_bounds-digits-end
slice_bounds-digits-end c = let k = few c.args.n c.digit_count-count.result (search rules) c.digit_count-count.ensures in omega arith

pub slice_bounds-digit-items-end : goal.slice_bounds-digit-items-end
slice_bounds-digit-items-end c =
    let k = few c.args.n c.digit_count-count.result (search rules) c.digit_count-count.ensures in
    sym (length-take-le c.digit_count-count.result c.write_digits.new.out (omega arith))

-- the byte that comes next
low : (n k : ℕ) {i d : ℕ} {items : List ℕ} → items ≡ last_digits 10 k n → i < length items → d ≡ get_or items i 0 → d < 128
low n k {i} {d} {items} e h q =
    rw q (subst (λ (l : List ℕ). i < length l → get_or l i 0 < 128) (sym e) (λ l. all-get i 0 (digits-low 10 k n (omega arith) (omega arith)) l) h)

pub push-requires : goal.push-requires
push-requires c =
    let k = few c.args.n c.digit_count-count.result (search rules) c.digit_count-count.ensures in
    let t = length-take-le c.digit_count-count.result c.write_digits.new.out (omega arith) in
    let b : c.from.result < 128 = low c.args.n c.digit_count-count.result c.write_digits.ensures.digits c.loop-digit-test.true c.from.ensures in
    let e = ap length (encode_ascii c.from.result b) in
    let l = ap length c.loop-digit.invariant in
    let m = length-take-le c.loop-digit.digit-index (take c.digit_count-count.result c.write_digits.new.out) (omega arith) in
    (omega arith, omega arith)

pub loop-digit-preserved : goal.loop-digit-preserved
loop-digit-preserved c =
    let b : c.from.result < 128 = low c.args.n c.digit_count-count.result c.write_digits.ensures.digits c.loop-digit-test.true c.from.ensures in
    c.push.ensures.ascii b ∙ rw (c.loop-digit.invariant, c.from.ensures) (sym (take_more _ c.loop-digit.digit-index 0 c.loop-digit-test.true))

pub returns : goal.returns
returns c =
    let t : c.loop-digit.text.bytes ≡ take c.digit_count-count.result c.write_digits.new.out =
    c.loop-digit.invariant ∙ take_all c.loop-digit.digit-index (take c.digit_count-count.result c.write_digits.new.out) c.loop-digit-test.false in
    record { places = c.digit_count-count.result; fewest = c.digit_count-count.ensures; is = t ∙ c.write_digits.ensures.digits }
