-- `Input::next_record` meets its contract: a whole record lies within what is held. Assumes nothing.
use mathlib.Core.Path.{◌≡◌, refl}
use native.Mathlib.Omega.{arith}
use borrow.Author.Rules.{rules}
use Rattle.record.specs.declared.kind.Kind.{Kind}
use Rattle.record_input.proofs.Turns.{ends-within, handed, found-some, found-none}
use Rattle.record_input.proofs.reading.Input.next_record.Goals as goal

pub returns-in_err-header : goal.returns-in_err-header
returns-in_err-header g c = (search rules, record { says = tt; at_once = record { left = c.find.new.self; says = search rules } })

pub returns-in_default : goal.returns-in_default
returns-in_default g c =
    let ends = found-none c.args.self.now.place c.find.new.self c.in_default.is c.in_ok-header.ensures in
    ((refl, (λ _. tt), ends), record { says = tt; at_once = record { left = c.find.new.self; says = ends } })

pub overflow_add-end : goal.overflow_add-end
overflow_add-end g c =
    let found = found-some c.args.self.now.place c.find.new.self c.in-Some.is c.in_ok-header.ensures in
    let ends = ends-within c.find.new.self _ _ found.1 in
    omega (arith, ends, c.size-size.ensures, c.find.new.self.lies.1, c.find.new.self.room)

pub pass-requires : goal.pass-requires
pass-requires g c =
    let found = found-some c.args.self.now.place c.find.new.self c.in-Some.is c.in_ok-header.ensures in
    let ends = ends-within c.find.new.self _ _ found.1 in
    omega (arith, ends, c.size-size.ensures)

pub returns : goal.returns
returns g c =
    let found = found-some c.args.self.now.place c.find.new.self c.in-Some.is c.in_ok-header.ensures in
    let says = λ (kind : Kind) (named : kind ≡ c.in-Some.header.kind).
    handed c.find.new.self c.in-Some.header found.1 kind c.part.result named found.0 c.size-size.ensures c.pass.ensures c.part.ensures (omega arith)
    (omega (arith, c.size-size.ensures)) in
    ((refl, (λ _. tt), says _ (search rules)), record { says = tt; at_once = record { left = c.pass.new.self; says = says _ (search rules) } })
