-- `Input::find` meets its contract, and ends: each read leaves fewer places free, or the input's end. Assumes nothing.
use mathlib.Core.Path.{ap, ◌∙◌, subst}
use mathlib.Core.List.{List}
use Prim.Native.Nat.{ℕ, ◌+◌}
use native.Mathlib.Omega.{arith}
use lib.ListN.{length}
use Rattle.std.specs.Prelude.{Ok}
use Rattle.record.specs.Kind.{number_of}
use Rattle.record_input.specs.Front.{Whole, Begun, front_in}
use Rattle.record_input.proofs.Held.{Meets, told, nine-few}
use Rattle.record_input.proofs.Turns.{length-held}
use Rattle.record_input.proofs.reading.Input.find.Goals as goal

pub returns-in-Ok-Whole : goal.returns-in-Ok-Whole
returns-in-Ok-Whole g c =
    let h = c.in-Ok-Whole.header in
    let is = ap front_in c.in-Ok-Whole.is ∙ ap (λ f. front_in (Ok f)) c.in-Ok-Whole.field-0-is in
    let meets = told c.held.result.now c.loop-header.self.ended c.at_front.ensures is in
    (c.loop-header.invariant, subst (λ (s : List ℕ). Meets (Whole (number_of h.kind) (6 + h.len)) s c.loop-header.self.ended) c.held.ensures meets)

pub read_more-requires : goal.read_more-requires
read_more-requires g c =
    let is = ap front_in c.in-Ok-Begun.is ∙ ap (λ f. front_in (Ok f)) c.in-Ok-Begun.field-0-is in
    let begun = told c.held.result.now c.loop-header.self.ended c.at_front.ensures is in
    let few = nine-few c.held.result.now begun.0 in
    let long = ap length c.held.ensures ∙ length-held c.loop-header.self in
    record { ended_value = (begun.1, omega (arith, c.loop-header.self.room)) }
