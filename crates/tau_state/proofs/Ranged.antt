-- Refusal 6's test, and what it tells: a state that passes has its six numbers in their ranges, and one that has them there passes.
-- Assumes nothing.
use mathlib.Core.Path.{◌≡◌}
use mathlib.Core.Bool.{true}
use lib.Dec.{ltb, leb}
use borrow.Author.Tests.{leb-true, ltb-true, le-leb, lt-ltb}
use Rattle.laws.specs.Choice.{both}
use Rattle.tau_state.specs.Ranges.{ranged_of, Ranged}
use Rattle.tau_state.specs.declared.state.TauCanceller.{TauCanceller}

pub ranged-is : (s : TauCanceller) → ranged_of s ≡ true → Ranged s
unfolding ranged_of
ranged-is s e =
    let P = s.partitions in
    let p = both (leb 1 P) _ e in
    let q = both (leb P 32) _ p.1 in
    let r = both (ltb s.far.head P) _ q.1 in
    let t = both (leb s.carried 255) _ r.1 in
    let u = both (leb s.mic.paths.rescue_streak 7) _ t.1 in
    record {
      some = leb-true 1 P p.0;
      most = leb-true P 32 q.0;
      inring = ltb-true s.far.head P r.0;
      waiting = leb-true s.carried 255 t.0;
      streak = leb-true s.mic.paths.rescue_streak 7 u.0;
      count = leb-true s.mic.detector.dtd_blocks 64 u.1;
    }

pub ranged-true : (s : TauCanceller) → Ranged s → ranged_of s ≡ true
unfolding ranged_of
ranged-true s r =
    rw (le-leb _ _ r.some, le-leb _ _ r.most, lt-ltb _ _ r.inring, le-leb _ _ r.waiting, le-leb _ _ r.streak)
    (le-leb _ _ r.count)
