-- A block that ran says so: its outcome is no move, a rescue or a move with a leak in its bounds, and the counter of transfers goes by
-- it. And it hands the carry on as it is. Assumes nothing.
use mathlib.Core.Path.{◌≡◌, refl}
use mathlib.Core.Bool.{Bool}
use mathlib.Core.List.{List}
use Prim.Native.Nat.{ℕ}
use lib.Ieee.{Float}
use Rattle.tau_state.specs.Report.{outcome_of}
use Rattle.tau_state.specs.declared.state.TauCanceller.{TauCanceller}
use Rattle.tau_state.specs.declared.state.Paths.{Paths}
use Rattle.tau_state.specs.declared.report.Outcome.{Outcome}
use Rattle.tau_state.specs.declared.report.Outcome.TheVariants.{NoMove, Rescue, Move}
use Rattle.tau_steps.specs.Bounds.{Leak}
use Rattle.tau_steps.proofs.Bounds.{leak-bounds}
use Rattle.tau_steps.proofs.Reasons.{reason-if}
use Rattle.tau_paths.specs.Paths.{counted, acted, weighed_if, compared}
use Rattle.tau_paths.specs.declared.paths.Conditions.{Conditions}
use Rattle.tau_block.specs.Block.{Block, Engine, listen, run_block}

module _ (Q : Outcome → Type 0) (none : Q NoMove) (rescue : Q Rescue) (move : (leak : Float) → Leak leak → Q (Move leak)) where
  compared-outcome : (asked : Conditions) (quiet : Bool) (es eo : List Float) (n : ℕ) (p : Paths) (transfers : ℕ) (sh ou : List Float)
      → Q (outcome_of (compared asked quiet es eo n p transfers sh ou).reason)
  unfolding compared acted
  compared-outcome asked quiet es eo n p transfers sh ou =
      reason-if Q asked (weighed_if asked quiet es eo n p) (λ _. none) (λ _ _. rescue) (λ _ _. none) (λ _ _ h. move _ (leak-bounds _ h))

  -- What holds of the three cases, of a move with a leak in its bounds, holds of a block's outcome.
  pub ran-bounded : (e : Engine) (far : List Float) (b : Block) → Q (outcome_of (run_block e far b).told.reason)
  unfolding run_block listen
  ran-bounded e far b = compared-outcome _ _ _ _ b.valid _ e.state.mic.transfers _ _

-- So does what holds of them whatever the leak.
pub ran-outcome : (Q : Outcome → Type 0) → Q NoMove → Q Rescue → ((leak : Float) → Q (Move leak)) → (e : Engine) (far : List Float) (b : Block)
    → Q (outcome_of (run_block e far b).told.reason)
ran-outcome Q none rescue move = ran-bounded Q none rescue (λ leak _. move leak)

-- What a block hands on.
pub record Handed (s t : TauCanceller) : Type 0 where
  pub parts : t.partitions ≡ s.partitions
  pub flag : t.suppress ≡ s.suppress
  pub carried : t.carried ≡ s.carried
  pub near : t.near_carry ≡ s.near_carry
  pub far : t.far_carry ≡ s.far_carry

pub ran-handed : (e : Engine) (far : List Float) (b : Block) → Handed e.state (run_block e far b).engine.state
unfolding run_block
ran-handed e far b = record { parts = refl; flag = refl; carried = refl; near = refl; far = refl }

-- The counter of transfers goes by the outcome: one more after a move, and else as it was.
pub ran-transfers : (e : Engine) (far : List Float) (b : Block)
    → (run_block e far b).engine.state.mic.transfers ≡ counted (outcome_of (run_block e far b).told.reason) e.state.mic.transfers
unfolding run_block listen compared acted
ran-transfers e far b = refl
