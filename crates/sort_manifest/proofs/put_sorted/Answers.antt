-- `sort_manifest::put_sorted` is safe: what it writes lies in its buffer. Assumes nothing.
use Rattle.std.proofs.Common.{◌≡◌, ℕ, ◌≤◌, List, Result, Ok, arith, ap, sym, ◌∙◌, replicate, length-take-le}
use Rattle.std.proofs.lemmas.List.{length-replicate}
use Rattle.manifest.specs.declared.SortError.{SortError}
use Rattle.manifest.specs.Promises.{Sort, sorted_by}
use Rattle.manifest.specs.Sorted.{Answer}
use Rattle.manifest.proofs.Manifest.{written-within}
use Rattle.sort_manifest.proofs.put_sorted.Goals as goal

within : (text : List ℕ) (n : ℕ) {r : Result ℕ SortError} {w : ℕ} {after : List ℕ} → r ≡ Ok w → Sort text (replicate n 0) (sorted_by r) after → w ≤ n
within text n e h =
    let a = sym (ap (λ (s : Result ℕ SortError). (sorted_by s).written) e) ∙ ap (λ (a : Answer). a.written) h in
    let k = written-within text (replicate n 0) in
    let l = length-replicate {A = ℕ} n 0 in
    omega arith

pub slice_bounds-out-end : goal.slice_bounds-out-end
slice_bounds-out-end g c =
    let w = within c.args.text.now 65536 c.in_ok-written.was c.sort.ensures in
    omega arith

pub slice_bounds-write_all-end : goal.slice_bounds-write_all-end
slice_bounds-write_all-end g c =
    let w = within c.args.text.now 65536 c.in_ok-written.was c.sort.ensures in
    sym (length-take-le c.in_ok-written.written c.sort.new.out (omega arith))
