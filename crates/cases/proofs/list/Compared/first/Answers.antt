-- `Compared::first` meets its contract: `find` gives the first two that differ, and `map_or` says them.
use Rattle.std.proofs.Common.{rules, tests, sym, nat_eq, not}
use Rattle.std.proofs.lemmas.Iterator.{YieldsList-from_slice, YieldsList-from_zip}
use Rattle.std.proofs.lemmas.Iterator.Search.{find_from_yields_List}
use Rattle.cases.proofs.list.Compared.first.Goals as goal

pub returns-clause-which : goal.returns-clause-which
returns-clause-which c =
    let e = find_from_yields_List (λ p. not (nat_eq p.0 p.1)) c.find.new.self _ c.find.result c.find.ensures.ran (YieldsList-from_zip (YieldsList-from_slice c.args.got.now cc) (YieldsList-from_slice c.args.want.now cc)) (λ x b q k. search (rules, tests)) in
    rw (sym e) (search (rules, tests))
