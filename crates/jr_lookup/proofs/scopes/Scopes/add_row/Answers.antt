use Rattle.std.proofs.Common.{◌≡◌, ◌∙◌, ap, arith, ◌+◌}
use Rattle.jr_places.specs.Names.{name_row}
use Rattle.jr_lookup.proofs.Scoping.{scopes_more, tops_more}
use Rattle.jr_lookup.proofs.scopes.Scopes.add_row.Goals as goal

pub returns-clause-scopes : goal.returns-clause-scopes
returns-clause-scopes c = λ placed few lt h. scopes_more _ c.add_declared.new.self _ c.name-name.result c.name.result placed lt h (c.name-name.ensures c.args.rows.now placed.are lt)
    (λ more. let next : c.saturating_add-next.result ≡ c.args.at + 1 = omega arith in c.name.ensures c.args.rows.now placed.are (omega arith) ∙ ap (name_row c.args.rows.now) next)
    c.local_entry-local.ensures c.parameter_entry-parameter.ensures c.single_entry-single.ensures c.static_entry-by_name.ensures c.demand_entry-demanded.ensures
    c.in_ok-add_declared.ensures.locals c.in_ok-add_declared.ensures.parameters c.in_ok-add_declared.ensures.singles c.in_ok-add_declared.ensures.statics c.in_ok-add_declared.ensures.demanded
    c.in_ok-add_imported.ensures.locals c.in_ok-add_imported.ensures.parameters c.in_ok-add_imported.ensures.singles c.in_ok-add_imported.ensures.statics c.in_ok-add_imported.ensures.demanded

pub returns-clause-tops : goal.returns-clause-tops
returns-clause-tops c = λ placed lt h. tops_more c.args.rows.now c.args.places.now c.args.at _ c.add_declared.new.self _ _ _ _ h (c.name-name.ensures c.args.rows.now placed.are lt) c.package.ensures c.top_entry-top.ensures
    c.in_ok-add_declared.ensures.tops c.in_ok-add_imported.ensures.tops
