use Rattle.std.proofs.Common.{◌≡◌, ◌+◌, arith, subst, sym}
use Rattle.jr_defs.specs.Constants.{HasConstantForm}
use Rattle.jr_defs.specs.Typing.{TypeOf}
use Rattle.jr_defs.specs.Referents.{entries}
use Rattle.jr_plain.specs.Search.{Finds}
use Rattle.jr_lookup.specs.Behind.{value_of}
use Rattle.jr_lookup.proofs.Dotted.{child_inside, child_below, not_inside, left_child, left_none}
use Rattle.jr_lookup.proofs.simple.Sight.left_of.Goals as goal

pub returns-in-Some-clause-before : goal.returns-in-Some-clause-before
returns-in-Some-clause-before c = λ t sight same. let p = c.args.self.now.world.under.rows.now in let places = c.args.self.now.world.under.places.now in let few = sight.few in
    let found = c.first_child.ensures few in let i = child_inside p t c.args.place c.first_child.result c.in-Some.child found c.in-Some.is in
    let at = i.0 in let below = child_below p t c.args.place i.1 in
    left_child p t places c.args.place c.first_child.result c.in-Some.child c.left_at.result found c.in-Some.is
    (c.left_at.ensures.before t sight (subst (λ n. entries c.args.self.now.world.under.table.now n ≡ t n) (sym at) same) (omega (arith, at, below)))

pub returns-in-Some-clause-value : goal.returns-in-Some-clause-value
returns-in-Some-clause-value c = λ t can. let p = c.args.self.now.world.under.rows.now in let places = c.args.self.now.world.under.places.now in let found = c.first_child.ensures can.sight_is.few in let i = child_inside p t c.args.place c.first_child.result c.in-Some.child found c.in-Some.is in let at = i.0 in
    record { typed = λ up. subst (λ n. Finds (value_of c.left_at.result) (λ a. TypeOf p t (HasConstantForm p t) n a)) at (c.left_at.ensures.value t c.args.place can (omega (arith, at))) }

pub returns-in-None-clause-before : goal.returns-in-None-clause-before
returns-in-None-clause-before c = λ t sight same. let p = c.args.self.now.world.under.rows.now in let places = c.args.self.now.world.under.places.now in left_none p t places c.args.place c.first_child.result (c.first_child.ensures sight.few) c.in-None.is

pub returns-in-None-clause-value : goal.returns-in-None-clause-value
returns-in-None-clause-value c = λ t can. let p = c.args.self.now.world.under.rows.now in let places = c.args.self.now.world.under.places.now in record { typed = λ up. absurd (not_inside p t c.args.place c.first_child.result (c.first_child.ensures can.sight_is.few) c.in-None.is up) }
