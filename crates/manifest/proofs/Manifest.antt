-- What a sorted manifest is, in sentences. Assumes nothing.
use mathlib.Core.Path.{◌≡◌, refl, sym, ap, ◌∙◌}
use mathlib.Core.List.{List}
use Prim.Native.Nat.{ℕ, ◌≤◌}
use native.Mathlib.Omega.{arith}
use borrow.Author.Tests.{ltb-false}
use lib.Dec.{ltb}
use lib.ListN.{length}
use Rattle.laws.specs.Choice.{pick-if}
use Rattle.line_order.specs.Order.{at_most}
use Rattle.line_order.proofs.Order.{at-most-refl, at-most-trans, at-most-total, at-most-antisym, at-most-empty}
use Rattle.manifest.specs.Lines.{lines_of, ends_in_newline, joined_of}
use Rattle.manifest.specs.Sorting.{sort_of, InOrder, Permuted}
use Rattle.manifest.specs.Sorted.{sorted_of, Answer, refused_of, answer_of}
use Rattle.manifest.proofs.Again.{lines-sorted}
use Rattle.manifest.proofs.Lines.{joined-lines, length-sorted}
use Rattle.manifest.proofs.Sorting.{sorted-in-order, sorted-permuted, sorted-unique}

-- every line is at most each line after it
pub in_order : (text : List ℕ) → InOrder at_most (sort_of at_most (lines_of text))
in_order text = sorted-in-order at_most at-most-trans at-most-total (lines_of text)

-- they are the manifest's lines, each as often
pub same_lines : (text : List ℕ) → Permuted (sort_of at_most (lines_of text)) (lines_of text)
same_lines text = sorted-permuted at_most (lines_of text)

-- no other list of lines is both: whoever puts the manifest's lines in order gets this text
pub only_one : (text : List ℕ) (ls : List (List ℕ)) → Permuted ls (lines_of text) → InOrder at_most ls → joined_of (ends_in_newline text) ls ≡ sorted_of text
unfolding sorted_of
only_one text ls p h =
    ap (joined_of (ends_in_newline text)) (sorted-unique at_most at-most-trans at-most-total at-most-refl at-most-antisym (lines_of text) ls p h)

-- nothing is lost in splitting and joining
pub nothing-lost : (text : List ℕ) → joined_of (ends_in_newline text) (lines_of text) ≡ text
nothing-lost text = joined-lines text

-- the answer is as long as the manifest
pub as_long : (text : List ℕ) → length (sorted_of text) ≡ length text
as_long text = length-sorted text

-- the answer's lines are the manifest's in order
pub lines-again : (text : List ℕ) → lines_of (sorted_of text) ≡ sort_of at_most (lines_of text)
unfolding sorted_of
lines-again text = lines-sorted at_most at-most-empty text

-- lines that are in order already stay as they are
kept : (ls ms : List (List ℕ)) → ls ≡ sort_of at_most ms → sort_of at_most ls ≡ ls
kept ls ms e =
    sym
    (sorted-unique at_most at-most-trans at-most-total at-most-refl at-most-antisym ls ls (λ x. refl)
    (rw e (sorted-in-order at_most at-most-trans at-most-total ms)))

sorted-kept : (text : List ℕ) → sort_of at_most (lines_of text) ≡ lines_of text → sorted_of text ≡ text
unfolding sorted_of
sorted-kept text e = ap (joined_of (ends_in_newline text)) e ∙ joined-lines text

-- and to sort the answer again changes nothing
pub sorted-again : (text : List ℕ) → sorted_of (sorted_of text) ≡ sorted_of text
sorted-again text = sorted-kept (sorted_of text) (kept (lines_of (sorted_of text)) (lines_of text) (lines-again text))

-- what a call counts as written lies in the buffer
pub written-within : (text out : List ℕ) → (answer_of text out).written ≤ length out
unfolding answer_of refused_of
written-within text out =
    pick-if (λ (a : Answer). a.written ≤ length out) (ltb 65536 (length text)) (λ e. omega arith)
    (λ e. pick-if (λ (a : Answer). a.written ≤ length out) (ltb 4096 (length (lines_of text))) (λ f. omega arith)
    (λ f. pick-if (λ (a : Answer). a.written ≤ length out) (ltb (length out) (length text)) (λ g. omega arith) (λ g. ltb-false (length out) (length text) g)))
