use Rattle.std.proofs.Common.{rules, arith, sym, ap, ◌∙◌, subst, List, ℕ, ◌-◌, min, length, drop, length-drop}
use lib.Seq.{take_all}
use Rattle.watch.specs.Watched.{lent_at}
use Rattle.watch.proofs.Pieces.{Going, begun, next, done}
use Rattle.watch.proofs.lent.pairs.Goals as goal

pub loop-rest-init : goal.loop-rest-init
loop-rest-init g c = (search rules, begun _ _)

pub loop-rest-preserved : goal.loop-rest-preserved
loop-rest-preserved g c =
    let m = c.min-size.result in
    let rest = c.loop-rest.rest.now in
    let size = length-drop m rest in
    let start = lent_at c.args.state.now c.args.course.now c.args.shadow.now c.args.output.now c.args.spectra.now c.args.powers.now c.args.counts.now in
    let w = lent_at c.loop-rest.state c.loop-rest.course c.loop-rest.shadow c.loop-rest.output c.loop-rest.spectra c.loop-rest.powers c.loop-rest.counts in
    let v = lent_at c.feed.new.state c.feed.new.course c.feed.new.shadow c.feed.new.output c.feed.new.spectra c.feed.new.powers c.feed.new.counts in
    let after = next start w v c.args.bytes.now rest m (search rules) (search rules)
    (c.min-size.ensures ∙ ap (min (length rest)) c.room.ensures.value) c.feed.ensures.fed c.loop-rest.invariant.1 in (
      search rules,
      subst (λ (s : List ℕ). Going start c.args.bytes.now v s) (sym (take_all (length rest - m) (drop m rest) (omega (arith, size)))) after,
    )

pub returns-clause-watched : goal.returns-clause-watched
returns-clause-watched g c =
    let start = lent_at c.args.state.now c.args.course.now c.args.shadow.now c.args.output.now c.args.spectra.now c.args.powers.now c.args.counts.now in
    let w = lent_at c.loop-rest.state c.loop-rest.course c.loop-rest.shadow c.loop-rest.output c.loop-rest.spectra c.loop-rest.powers c.loop-rest.counts in
    done start w c.args.bytes.now c.loop-rest.rest.now (search rules) c.loop-rest.invariant.1
