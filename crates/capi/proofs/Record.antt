-- What the place and the length of a payload are for. Assumes nothing.
--     payload-placed   cut out of the host's bytes at this place and with this length, it is the payload
use mathlib.Core.Path.{◌≡◌, refl, sym, ap, ◌∙◌}
use mathlib.Core.Bool.{Bool, true, false}
use mathlib.Core.List.{List}
use Prim.Native.Nat.{ℕ, ◌≤◌}
use native.Mathlib.Nat.{add-sub_cancel_left}
use borrow.Author.Tests.{eqb-true, eqb-false}
use lib.Dec.{eqb}
use lib.ListN.{take, drop}
use Rattle.laws.specs.Choice.{pick}
use Rattle.record.specs.Reading.{length_in, read_refusal, read_of, payload_of}
use Rattle.record.proofs.Records.{read-refusal, read-yes, read_no, payload-yes, payload-no, size-least}
use Rattle.capi.specs.Record.{record_read_of}

pub payload-placed : (s : List ℕ) → payload_of s ≡ take (record_read_of s).payload_len (drop (record_read_of s).payload_at s)
unfolding pick
payload-placed s = go (eqb (read_refusal s) 0) refl
  where
    go : (b : Bool) → eqb (read_refusal s) 0 ≡ b → payload_of s ≡ take (record_read_of s).payload_len (drop (record_read_of s).payload_at s)
    go true e =
        let h = eqb-true (read_refusal s) 0 e in
        rw (read-yes s h) (payload-yes s h ∙ ap (λ (n : ℕ). take n (drop 6 s)) (sym (add-sub_cancel_left 6 (length_in s))))
    go false e = let h = eqb-false (read_refusal s) 0 e in rw (read_no s h) (rw e (payload-no s h))
