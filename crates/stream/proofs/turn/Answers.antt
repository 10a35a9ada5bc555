use Rattle.std.proofs.Common.{rules, ◌≡◌, refl, sym, ap, ◌∙◌, List, ℕ, ◌+◌, ◌*◌, ◌/◌, ◌%◌, ◌≤◌, le-leb, leb, length, get_or, take}
use Rattle.laws.specs.Choice.{pick, pick_yes}
use Rattle.laws.specs.Loops.{over}
use Rattle.wire.specs.Wire.{rest_in}
use Rattle.wire.proofs.Captures.{rest-kept}
use Rattle.stream.proofs.turn.Goals as goal

-- b is the block after `keep_rest`: what is behind the last whole pair stands at its start
kept : (block b : List ℕ) (held : ℕ) → held ≤ length block
    → b ≡ pick (leb held (length block)) (over (held % 8) (λ k x. get_or block (held / 8 * 8 + k) 0) block) block
    → take (held % 8) b ≡ rest_in (take held block)
kept block b held l k = ap (take (held % 8)) (k ∙ sym (pick_yes _ _ _ (le-leb held (length block) l) refl)) ∙ rest-kept held block l

pub returns-clause-rest : goal.returns-clause-rest
returns-clause-rest g c = kept c.args.block.now _ c.args.held (search rules) c.keep_rest.ensures
