-- What the public function promises: what it is given, then its answer. The contract cites this name, and crate promises proves that it
-- admits one answer (Answers).
use Rattle.std.specs.Prelude.{◌≡◌, Bool, List, ℕ}
use Rattle.line_order.specs.Order.{at_most}

abbrev pub AtMost : List ℕ → List ℕ → Bool → Type 0
AtMost a b r = r ≡ at_most a b
