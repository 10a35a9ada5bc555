use Rattle.tau_suppressor.specs.Suppressor.{span_of}
use Rattle.laws.specs.Choice.{choices, pick_yes, pick_no}
use native.Mathlib.Omega.{arith}
use borrow.Author.Rules.{rules}
use Rattle.tau_suppressor.proofs.suppressor.span.Goals as goal

pub returns-then-k-lt253 : goal.returns-then-k-lt253
unfolding span_of
returns-then-k-lt253 c = (pick_yes _ _ _ (search (rules, choices)) (omega arith), omega arith, omega arith)

pub returns : goal.returns
unfolding span_of
returns c = (pick_no _ _ _ (search (rules, choices)) (omega arith), omega arith, omega arith)
