use Rattle.std.proofs.Common.{sym, ◌∙◌, arith}
use Rattle.jr_flow_defs.specs.Acts.{is_default_group}
use Rattle.jr_flow.proofs.Siblings.{any_next, any_found, any_past, any_none}
use Rattle.jr_flow.proofs.statements.has_default_group.Goals as goal

pub loop-turn-preserved : goal.loop-turn-preserved
loop-turn-preserved c = any_next c.args.rows.now (is_default_group c.args.rows.now) _ c.args.room c.loop-turn._turn c.loop-turn.group c.args.stop c.end_at-group.result (omega arith) (omega arith) (c.end_at-group.ensures (omega arith)) (sym (c.is_default_group.ensures (omega arith)) ∙ c.if-is_default_group.false) c.loop-turn.invariant

pub returns-then-is_default_group : goal.returns-then-is_default_group
returns-then-is_default_group c = any_found c.args.rows.now (is_default_group c.args.rows.now) _ c.args.room c.loop-turn._turn c.loop-turn.group c.args.stop (omega arith) (omega arith) (sym (c.is_default_group.ensures (omega arith)) ∙ c.if-is_default_group.true) c.loop-turn.invariant

pub returns-then-group-stop : goal.returns-then-group-stop
returns-then-group-stop c = any_past c.args.rows.now (is_default_group c.args.rows.now) _ _ c.loop-turn.group c.args.stop (omega arith) c.loop-turn.invariant

pub returns : goal.returns
returns c = any_none c.args.rows.now (is_default_group c.args.rows.now) _ c.args.room c.loop-turn._turn c.loop-turn.group c.args.stop (omega arith) c.loop-turn.invariant
