use Rattle.std.proofs.Common.{◌+◌, sym, ◌∙◌, ap, subst}
use Rattle.jr_defs.specs.Constants.{HasConstantForm}
use Rattle.jr_defs.specs.Typing.{TypeOf}
use Rattle.jr_lookup.specs.Behind.{type_in, IsLeftOf, HasValue}
use Rattle.jr_plain.specs.Search.{Finds}
use Rattle.jr_lookup.proofs.Dotted.{child_inside, not_inside}
use Rattle.jr_bind.proofs.Dotting.{left_with, value_with, value_none}
use Rattle.jr_bind.proofs.dotted.left_before.Goals as goal

pub returns-in-Some-clause-before : goal.returns-in-Some-clause-before
returns-in-Some-clause-before c = λ t is same. let p = c.args.sight.world.under.rows.now in let places = c.args.sight.world.under.places.now in
    let child = child_inside p t c.args.at _ c.in-Some.child (c.first_child.ensures is.few) c.in-Some.is in
    subst (IsLeftOf p t places c.args.at) (sym c.with_type.ensures) (left_with p t places c.args.at child.1 c.type_at-ty.result c.left_of-left.result (c.left_of-left.ensures.before t is same))

pub returns-in-Some-clause-value : goal.returns-in-Some-clause-value
returns-in-Some-clause-value c = λ t is same typed. let p = c.args.sight.world.under.rows.now in let places = c.args.sight.world.under.places.now in let K = HasConstantForm p t in
    let child = child_inside p t c.args.at _ c.in-Some.child (c.first_child.ensures is.few) c.in-Some.is in
    subst (HasValue p t K c.args.at) (sym c.with_type.ensures) (value_with p t places c.args.at child.1 c.type_at-ty.result K typed.refers
    (subst (λ a. Finds a (λ b. TypeOf p t K (c.args.at + 1) b)) (sym (c.type_at-ty.ensures ∙ ap (type_in c.args.types.now) child.0)) (typed.typed child.1)) c.left_of-left.result (c.left_of-left.ensures.before t is same))

pub returns-in-None-clause-before : goal.returns-in-None-clause-before
returns-in-None-clause-before c = λ t is same. IsLeftOf.none (not_inside c.args.sight.world.under.rows.now t c.args.at _ (c.first_child.ensures is.few) c.in-None.is)

pub returns-in-None-clause-value : goal.returns-in-None-clause-value
returns-in-None-clause-value c = λ t is same typed. let p = c.args.sight.world.under.rows.now in value_none p t (HasConstantForm p t) c.args.at _ (not_inside p t c.args.at _ (c.first_child.ensures is.few) c.in-None.is)
