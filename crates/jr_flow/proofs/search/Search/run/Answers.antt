use Rattle.jr_flow.specs.Spread.{lets}
use Rattle.jr_flow.proofs.Searching.{begun_search}
use Rattle.jr_flow.proofs.search.Search.run.Goals as goal

pub returns : goal.returns
returns c = λ bound first all starts linked counted. let new = c.in_ok-begin.ensures bound counted in
    c.finish.ensures bound first all c.args.key linked
    (begun_search bound (lets c.args.gate.now.set.now c.args.gate.now.is_inside) first c.args.key all c.begin.new.self c.enter_all.new.self new (c.in_ok-enter_all.ensures bound first starts new.is))
