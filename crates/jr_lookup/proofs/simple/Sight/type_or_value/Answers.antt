use Rattle.std.proofs.Common.{sym, ◌∙◌, ap, subst}
use Rattle.jr_defs.specs.Constants.{HasConstantForm}
use Rattle.jr_defs.specs.Referents.{entries}
use Rattle.jr_defs.specs.Typing.{TypeOf}
use Rattle.jr_plain.specs.Search.{Finds}
use Rattle.jr_lookup.specs.Behind.{IsLeftAt, left_by, value_of, type_in}
use Rattle.jr_lookup.proofs.Dotted.{left_type, left_rest, value_left, no_value_of_type}
use Rattle.jr_lookup.proofs.simple.Sight.type_or_value.Goals as goal

pub returns-in-Some-clause-before : goal.returns-in-Some-clause-before
returns-in-Some-clause-before c = λ t same out. let p = c.args.self.now.world.under.rows.now in let places = c.args.self.now.world.under.places.now in
    left_type p t places c.args.at (entries c.args.self.now.world.under.table.now c.args.at) same c.in-Some.over c.referred_type.result c.referred_type.ensures c.in-Some.is

pub returns-in-Some-clause-value : goal.returns-in-Some-clause-value
returns-in-Some-clause-value c = λ t o can lt. let p = c.args.self.now.world.under.rows.now in
    no_value_of_type p t (HasConstantForm p t) can.refers c.args.at (entries c.args.self.now.world.under.table.now c.args.at) (can.seen c.args.at lt) c.in-Some.over c.referred_type.result c.referred_type.ensures c.in-Some.is

pub returns-in-None-clause-before : goal.returns-in-None-clause-before
returns-in-None-clause-before c = λ t same out. let p = c.args.self.now.world.under.rows.now in let places = c.args.self.now.world.under.places.now in
    subst (λ l. IsLeftAt p t places c.args.at l) (sym c.left_by.ensures)
    (left_rest p t places c.args.at (entries c.args.self.now.world.under.table.now c.args.at) same c.referred_type.result c.type_at.result out c.referred_type.ensures c.in-None.is)

pub returns-in-None-clause-value : goal.returns-in-None-clause-value
returns-in-None-clause-value c = λ t o can lt. let p = c.args.self.now.world.under.rows.now in
    subst (λ l. Finds (value_of l) (λ a. TypeOf p t (HasConstantForm p t) c.args.at a)) (sym (c.left_by.ensures ∙ ap left_by c.type_at.ensures))
    (value_left p t (HasConstantForm p t) c.args.at (type_in c.args.types.now c.args.at) (can.typed c.args.at lt))
