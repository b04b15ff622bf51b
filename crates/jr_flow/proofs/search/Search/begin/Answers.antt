use Rattle.jr_flow.proofs.Searching.{new_search}
use Rattle.jr_flow.proofs.search.Search.begin.Goals as goal

pub returns : goal.returns
returns c = λ bound counted. new_search bound (record { met = c.empty.new.self; found = c.clear.new.self }) (c.in_ok-empty.ensures bound counted) c.clear.ensures.items
