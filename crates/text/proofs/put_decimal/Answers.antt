-- `text::put_decimal` meets its contract: a number below 2 ^ 64 has at most 20 decimal digits. Assumes nothing.
use Rattle.std.proofs.Common.{rules, arith, take, sym, length-take-le}
use Rattle.text.proofs.Powers.{few}
use Rattle.text.proofs.put_decimal.Goals as goal

pub write_digits-requires : goal.write_digits-requires
write_digits-requires c = omega (arith, few c.args.n c.digit_count-count.result (search rules) c.digit_count-count.ensures)

pub slice_bounds-digits-end : goal.slice_bounds-digits-end
slice_bounds-digits-end c = omega (arith, few c.args.n c.digit_count-count.result (search rules) c.digit_count-count.ensures)

pub slice_bounds-put-end : goal.slice_bounds-put-end
slice_bounds-put-end c =
    let k = few c.args.n c.digit_count-count.result (search rules) c.digit_count-count.ensures in
    sym (length-take-le c.digit_count-count.result c.write_digits.new.out (omega (arith, k)))

pub returns : goal.returns
returns c =
    let k = few c.args.n c.digit_count-count.result (search rules) c.digit_count-count.ensures in
    let long = length-take-le c.digit_count-count.result c.write_digits.new.out (omega (arith, k)) in
    record {
      upper_bound = omega (arith, k, long);
      appended = record {
        text = take c.digit_count-count.result c.write_digits.new.out;
        decimal = record { places = c.digit_count-count.result; fewest = c.digit_count-count.ensures; is = c.write_digits.ensures.digits };
        joined = c.put.ensures.out_after;
      };
    }
