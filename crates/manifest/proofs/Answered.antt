-- The ways out of a call, as the tests of `answer_of` pick them. Assumes nothing.
use Rattle.std.proofs.Common.{◌≡◌, ◌++◌, ◌<◌, ◌≤◌, ℕ, List, arith, refl, sym, ap, ◌∙◌, Bor, length, take, drop}
use borrow.Author.Tests.{lt-ltb, le-ltb}
use Rattle.laws.specs.Choice.{pick_yes, pick_no}
use Rattle.line_order.specs.Order.{at_most}
use Rattle.manifest.specs.Lines.{lines_of, ends_in_newline, joined_of}
use Rattle.manifest.specs.Sorting.{sort_of}
use Rattle.manifest.specs.Sorted.{sorted_of, refused_of, answer_of}
use Rattle.manifest.specs.Steps.{lines_in, Holds}
use Rattle.manifest.proofs.Lines.{sort-length, length-sorted}

module _ (text out : List ℕ) where
  pub too_long : 65536 < length text → record { refusal = 1; written = 0; out = out } ≡ answer_of text out
  unfolding answer_of refused_of
  too_long h = pick_yes _ _ _ (lt-ltb 65536 (length text) h) refl

  pub too_many : length text ≤ 65536 → 4096 < length (lines_of text) → record { refusal = 2; written = 0; out = out } ≡ answer_of text out
  unfolding answer_of refused_of
  too_many h k = pick_no _ _ _ (le-ltb 65536 (length text) h) (pick_yes _ _ _ (lt-ltb 4096 (length (lines_of text)) k) refl)

  pub no_room : length text ≤ 65536 → length (lines_of text) ≤ 4096 → length out < length text
      → record { refusal = 3; written = 0; out = out } ≡ answer_of text out
  unfolding answer_of refused_of
  no_room h k l =
      pick_no _ _ _ (le-ltb 65536 (length text) h)
      (pick_no _ _ _ (le-ltb 4096 (length (lines_of text)) k) (pick_yes _ _ _ (lt-ltb (length out) (length text) l) refl))

  pub sorted : {after : List ℕ} → after ≡ sorted_of text ++ drop (length text) out
      → length text ≤ 65536 → length (lines_of text) ≤ 4096 → length text ≤ length out
      → record { refusal = 0; written = length text; out = after } ≡ answer_of text out
  unfolding answer_of refused_of
  sorted e h k l =
      pick_no _ _ _ (le-ltb 65536 (length text) h)
      (pick_no _ _ _ (le-ltb 4096 (length (lines_of text)) k) (pick_no _ _ _ (le-ltb (length out) (length text) l) (cc)))

-- the lines in order, joined with a newline at the end where the text has one, are as long as the text
pub as-long : (text : List ℕ) (lent : List (Bor (List ℕ))) (n : ℕ) → Holds lent (sort_of at_most (lines_of text)) n
    → length text ≡ length (joined_of (ends_in_newline text) (lines_in (take n lent)))
unfolding sorted_of
as-long text lent n h = sym (length-sorted text) ∙ ap (λ (ls : List (List ℕ)). length (joined_of (ends_in_newline text) ls)) (sym h.same)

pub joined-is : (text : List ℕ) (lent : List (Bor (List ℕ))) (n : ℕ) → Holds lent (sort_of at_most (lines_of text)) n
    → joined_of (ends_in_newline text) (lines_in (take n lent)) ≡ sorted_of text
unfolding sorted_of
joined-is text lent n h = ap (joined_of (ends_in_newline text)) h.same

pub few : (text : List ℕ) (lent : List (Bor (List ℕ))) (n : ℕ) → Holds lent (sort_of at_most (lines_of text)) n → length (lines_of text) ≤ length lent
few text lent n h = let w = h.within in let c = h.count in let l = sort-length at_most (lines_of text) in omega arith
