use Rattle.std.proofs.Common.{rules, arith, ◌≡◌, sym, ◌∙◌, ap, ℕ, ◌+◌, ◌-◌, ◌*◌, ◌/◌, ◌%◌, ◌≤◌, List, ◌++◌, length, get_or, take, drop, get_or-drop, length-drop, take-append-drop, zero-add}
use Rattle.std.specs.List.{copy_within}
use Rattle.std.proofs.Math.Seq.{paste}
use Rattle.std.proofs.lemmas.List.Edits.{take-paste, drop-paste}
use Rattle.laws.specs.Choice.{choices, pick_yes}
use Rattle.laws.specs.Loops.{over}
use Rattle.laws.specs.Readings.{over-cong, over-copied}
use Rattle.wire.proofs.pairs.keep_rest.Goals as goal

-- n places from i on, copied to the front
to_front : (i n : ℕ) (d : List ℕ) → i + n ≤ length d → paste d 0 (drop i d) n ≡ over n (λ k x. get_or d (i + k) 0) d
to_front i n d h =
    let room : n ≤ length (drop i d) = let l = length-drop i d in omega arith in
    let copied : paste d 0 (drop i d) n ≡ take n (drop i d) ++ drop n d =
    sym (take-append-drop n (paste d 0 (drop i d) n))
    ∙ (λ j. ap (λ (m : ℕ). take m (paste d 0 (drop i d) n)) (sym (zero-add n)) j ++ ap (λ (m : ℕ). drop m (paste d 0 (drop i d) n)) (sym (zero-add n)) j)
    ∙ (λ j. take-paste d 0 (drop i d) n (omega arith) room j ++ drop-paste d 0 (drop i d) n (omega arith) room j)
    ∙ ap (λ (m : ℕ). take n (drop i d) ++ drop m d) (zero-add n) in
    copied ∙ sym (over-copied 0 n (drop i d) d room (omega arith)) ∙ over-cong _ _ d n (λ k x l. get_or-drop i d k 0)

kept : (held : ℕ) (d : List ℕ) → held ≤ length d → copy_within d (held / 8 * 8) held 0 ≡ over (held % 8) (λ k x. get_or d (held / 8 * 8 + k) 0) d
kept held d h =
    let size : held - held / 8 * 8 ≡ held % 8 = omega arith in
    ap (paste d 0 (drop (held / 8 * 8) d)) size ∙ to_front (held / 8 * 8) (held % 8) d (omega arith)

pub returns-then-held-block : goal.returns-then-held-block
returns-then-held-block c = pick_yes _ _ _ (search (rules, choices)) (c.copy_within.ensures.after ∙ kept _ _ c.if-held-block.true)

pub returns-else-held-block : goal.returns-else-held-block
returns-else-held-block c = search (rules, choices)
