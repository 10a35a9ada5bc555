-- `capi::record_calls::aspeyruni_record_read` is what `record::read` answers, with the payload's place and length. Assumes nothing.
use mathlib.Core.Path.{◌≡◌, refl, sym, ap, ◌∙◌}
use mathlib.Core.List.{List}
use Prim.Native.Nat.{ℕ, ◌+◌}
use native.Mathlib.Nat.{add-sub_cancel_left}
use borrow.Author.Tests.{ne_eqb}
use Rattle.laws.specs.Choice.{pick, pick_no}
use Rattle.refusal.specs.declared.Refusal.{Refusal}
use Rattle.refusal.specs.Refusal.{number_of}
use Rattle.record.specs.Reading.{read_of}
use Rattle.record.proofs.Records.{some-number}
use Rattle.capi.specs.Record.{placed_of, record_read_of}
use Rattle.capi.proofs.record_calls.aspeyruni_record_read.Goals as goal

placed : (s : List ℕ) (k n : ℕ) → record { refusal = 0; kind = k; size = 6 + n } ≡ read_of s
    → record { refusal = 0; kind = k; size = 6 + n; payload_at = 6; payload_len = n } ≡ record_read_of s
unfolding pick
placed s k n e = ap (λ (m : ℕ). record { refusal = 0; kind = k; size = 6 + n; payload_at = 6; payload_len = m }) (sym (add-sub_cancel_left 6 n)) ∙ ap placed_of e

refused : (s : List ℕ) (r : Refusal) → record { refusal = number_of r; kind = 0; size = 0 } ≡ read_of s
    → record { refusal = number_of r; kind = 0; size = 0; payload_at = 0; payload_len = 0 } ≡ record_read_of s
refused s r e = pick_no _ _ _ (ne_eqb (number_of r) 0 (some-number r)) refl ∙ ap placed_of e

pub returns-in-Ok : goal.returns-in-Ok
returns-in-Ok c = rw (c.from.ensures, c.size.ensures) (placed _ _ _ c.in-Ok.ensures)

pub returns-in-Err : goal.returns-in-Err
returns-in-Err c = rw c.from-in-Err.ensures (refused _ _ c.in-Err.ensures)
