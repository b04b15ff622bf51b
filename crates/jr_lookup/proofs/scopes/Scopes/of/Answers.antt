use Rattle.jr_lookup.proofs.Scoping.{scopes_start, tops_start}
use Rattle.jr_lookup.proofs.scopes.Scopes.of.Goals as goal

pub returns-clause-scopes : goal.returns-clause-scopes
returns-clause-scopes c = λ placed. c.in_ok-add_rows.ensures.scopes placed (scopes_start c.args.rows.now _ c.new-scopes.ensures.locals c.new-scopes.ensures.parameters c.new-scopes.ensures.singles c.new-scopes.ensures.statics c.new-scopes.ensures.demanded)

pub returns-clause-tops : goal.returns-clause-tops
returns-clause-tops c = λ placed. c.in_ok-add_rows.ensures.tops placed (tops_start c.args.rows.now c.args.places.now _ c.new-scopes.ensures.tops)
