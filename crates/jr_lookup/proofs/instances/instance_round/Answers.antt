use Rattle.std.proofs.Common.{sym, ◌∙◌}
use Rattle.jr_lookup.proofs.Instancing.{around_is, round_some, round_none}
use Rattle.jr_lookup.proofs.instances.instance_round.Goals as goal

pub returns-in-Some : goal.returns-in-Some
returns-in-Some c = λ placed. round_some c.args.rows.now c.args.place c.in-Some.over c.is_in_static_context.result c.unless.result
    (sym (c.in-Some.ensures ∙ around_is c.args.rows.now c.args.places.now placed c.args.place)) (c.is_in_static_context.ensures placed) c.unless.ensures

pub returns-in-None : goal.returns-in-None
returns-in-None c = λ placed. round_none c.args.rows.now c.args.place (sym (c.in-None.ensures ∙ around_is c.args.rows.now c.args.places.now placed c.args.place))
