use Rattle.std.proofs.Common.{◌≡◌, sym, ◌∙◌, Some}
use Rattle.jr_plain.specs.Enclosing.{innermost}
use Rattle.jr_plain.proofs.Enclosed.{innermost_finds}
use Rattle.jr_lookup.proofs.Instancing.{around_is, context_in, context_none}
use Rattle.jr_lookup.proofs.instances.is_in_static_context.Goals as goal

pub returns-in-Some : goal.returns-in-Some
returns-in-Some c = λ placed.
    let is : innermost c.args.rows.now c.args.place ≡ Some c.in-Some.over = sym (c.in-Some.ensures ∙ around_is c.args.rows.now c.args.places.now placed c.args.place) in
    context_in c.args.rows.now c.args.place c.in-Some.over _ is (c.is_static_in.ensures placed.local.tree ((innermost_finds c.args.rows.now c.args.place c.in-Some.over).0 is).holds)

pub returns-in-None : goal.returns-in-None
returns-in-None c = λ placed. context_none c.args.rows.now c.args.place (sym (c.in-None.ensures ∙ around_is c.args.rows.now c.args.places.now placed c.args.place))
