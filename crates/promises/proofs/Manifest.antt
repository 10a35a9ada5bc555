-- The release list, from what line_order and manifest prove. Assumes nothing.
use Rattle.line_order.proofs.Order.{at-most-refl, at-most-trans, at-most-total, at-most-antisym, at-most-numerals, at-most-versions, at-most-bytes, at-most-behind, leading-zero}
use Rattle.manifest.proofs.Manifest.{in_order, same_lines, only_one, nothing-lost, as_long, lines-again, sorted-again}
use Rattle.promises.specs.Manifest.{Ordered, Numerals, Bytes, Zeros, Sorts}

pub ordered : Ordered
ordered = (at-most-refl, at-most-trans, at-most-total, at-most-antisym)

pub numerals : Numerals
numerals ds es a b n = (at-most-numerals ds es a b n, λ q c h. at-most-versions q c ds es h a b n)

pub bytes : Bytes
bytes = (at-most-bytes, at-most-behind)

pub zeros : Zeros
zeros = leading-zero

pub sorts : Sorts
sorts text =
    let again = lines-again text in
    record { ordered = rw again (in_order text); same = rw again (same_lines text); long = as_long text; whole = nothing-lost text; only = only_one text; again = sorted-again text }
