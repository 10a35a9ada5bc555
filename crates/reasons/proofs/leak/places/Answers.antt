-- `reasons::leak::places` meets its contract: the places that stand and those that are still to come are all. Assumes nothing.
use Rattle.std.proofs.Common.{◌≡◌, ◌∷◌, [], ◌/◌, length, refl, ◌-◌, ◌+◌, ◌++◌, ℕ, ap, ◌∙◌, arith}
use lib.ListN.{length-append}
use Rattle.reasons.proofs.Places.{none, no_place, placed, ended}
use Rattle.reasons.proofs.leak.places.Goals as goal

pub returns-then-rest-eq0 : goal.returns-then-rest-eq0
returns-then-rest-eq0 c = ended _ (6 - c.loop.counter) c.loop.rest (none (6 - c.loop.counter) c.loop.rest (omega arith)) c.loop.invariant.3

pub loop-preserved : goal.loop-preserved
loop-preserved c =
    let b : c.push.new.self.bytes ≡ c.loop.digits.bytes ++ ((48 + c.loop.rest / 100000) ∷ []) =
    c.push.ensures.ascii (omega arith) ∙ ap (λ (x : ℕ). c.loop.digits.bytes ++ (x ∷ [])) c.from.ensures in
    let l : length c.push.new.self.bytes ≡ length c.loop.digits.bytes + 1 = ap length b ∙ simp length-append refl in
    let all = placed c.loop.digits.bytes (6 - c.loop.counter) c.loop.rest (omega arith) (omega arith) c.loop.invariant.3 b in
    let fewer : 6 - c.loop.counter - 1 ≡ 6 - (c.loop.counter + 1) = omega arith in
    (omega arith, omega arith, omega arith, rw fewer at all)

pub returns : goal.returns
returns c = ended _ (6 - c.loop.counter) c.loop.rest (no_place (6 - c.loop.counter) c.loop.rest (omega arith)) c.loop.invariant.3
