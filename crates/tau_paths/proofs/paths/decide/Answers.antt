use Rattle.tau_paths.specs.Paths.{reason_of, advantage_of}
use Rattle.laws.specs.Choice.{choices, pick_no}
use borrow.Author.Rules.{rules}
use Rattle.tau_paths.proofs.paths.decide.Goals as goal

pub returns-then-asked : goal.returns-then-asked
unfolding reason_of advantage_of
returns-then-asked c = search (rules, choices)

pub returns-then-asked-2 : goal.returns-then-asked-2
unfolding reason_of advantage_of
returns-then-asked-2 c = search (rules, choices)

pub returns-then-not-asked : goal.returns-then-not-asked
unfolding reason_of advantage_of
returns-then-not-asked c = search (rules, choices)

pub returns-then-not-asked-2 : goal.returns-then-not-asked-2
unfolding reason_of advantage_of
returns-then-not-asked-2 c = search (rules, choices) depth 12

pub returns-then-q-ge-RESCUE_STREAK_BLOCKS : goal.returns-then-q-ge-RESCUE_STREAK_BLOCKS
unfolding reason_of advantage_of
returns-then-q-ge-RESCUE_STREAK_BLOCKS c = search (rules, choices) depth 12

pub returns-then-q-lt-TRANSFER_QUIET_STREAK_BLOCKS : goal.returns-then-q-lt-TRANSFER_QUIET_STREAK_BLOCKS
unfolding reason_of advantage_of
returns-then-q-lt-TRANSFER_QUIET_STREAK_BLOCKS c = search (rules, choices) depth 12

pub returns-then-not-q : goal.returns-then-not-q
unfolding reason_of advantage_of
returns-then-not-q c = search (rules, choices) depth 12

pub returns-then-not-advantage : goal.returns-then-not-advantage
unfolding reason_of advantage_of
returns-then-not-advantage c = search (rules, choices) depth 12

pub returns : goal.returns
unfolding reason_of advantage_of
returns c = pick_no _ _ _ (search rules) (pick_no _ _ _ (search rules) (pick_no _ _ _ (search rules) (pick_no _ _ _ (search rules) (pick_no _ _ _ (search (rules, choices)) (pick_no _ _ _ (search (rules, choices)) (pick_no _ _ _ (search rules) (pick_no _ _ _ (search rules) (rw c.leak.ensures))))))))
