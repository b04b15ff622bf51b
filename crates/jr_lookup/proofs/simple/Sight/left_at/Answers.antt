use Rattle.std.proofs.Common.{sym, ◌∙◌}
use Rattle.jr_defs.specs.Constants.{HasConstantForm}
use Rattle.jr_lookup.proofs.Dotted.{left_package, no_value_of_package}
use Rattle.jr_lookup.proofs.simple.Sight.left_at.Goals as goal

pub returns-in-Package-clause-before : goal.returns-in-Package-clause-before
returns-in-Package-clause-before c = λ t sight same low. let p = c.args.self.now.world.under.rows.now in let places = c.args.self.now.world.under.places.now in let placed = sight.world.seen.placed in
    left_package p t places c.args.at c.referent.result (c.referent.ensures ∙ same) c.spelled.result c.in-Package.is (c.spelled.ensures placed.are placed.local placed.packages sight.few low)

pub returns-in-Package-clause-value : goal.returns-in-Package-clause-value
returns-in-Package-clause-value c = λ t o can lt. let p = c.args.self.now.world.under.rows.now in
    no_value_of_package p t (HasConstantForm p t) can.refers c.args.at c.referent.result (c.referent.ensures ∙ can.seen c.args.at lt) c.spelled.result c.in-Package.is

pub returns-in_default-clause-before : goal.returns-in_default-clause-before
returns-in_default-clause-before c = λ t sight same low. c.type_or_value.ensures.before t same (λ e. c.in_default.not-Package (c.referent.ensures ∙ e))

pub returns-in_default-clause-value : goal.returns-in_default-clause-value
returns-in_default-clause-value c = λ t o can lt. c.type_or_value.ensures.value t o can lt
