-- `numbers::kind_of` meets its contract: each way out is a case of `kind_of`. Assumes nothing.
use Rattle.std.proofs.Common.{sym, ◌∙◌}
use Rattle.numbers.proofs.Overs.{kind-exact, kind-rounded, kind-over, kind-none}
use Rattle.numbers.proofs.narrowing.kind_of.Goals as goal

pub returns-then-x-widen : goal.returns-then-x-widen
returns-then-x-widen c = kind-exact c.args.x c.requires (sym c.is_finite.ensures ∙ c.if-is_finite.true) c.widen.ensures c.if-x-widen.true

pub returns-then-is_finite : goal.returns-then-is_finite
returns-then-is_finite c = kind-rounded c.args.x c.requires (sym c.is_finite.ensures ∙ c.if-is_finite.true) c.widen.ensures c.if-x-widen.false

pub returns-then-is_finite-2 : goal.returns-then-is_finite-2
returns-then-is_finite-2 c = kind-over c.args.x c.requires (sym c.is_finite.ensures ∙ c.if-is_finite.false) (sym c.is_finite-2.ensures ∙ c.if-is_finite-2.true)

pub returns : goal.returns
returns c = kind-none c.args.x (sym c.is_finite-2.ensures ∙ c.if-is_finite-2.false)
