use Rattle.std.proofs.Common.{sym, ◌∙◌, arith}
use Rattle.jr_tree.specs.Rows.{label}
use Rattle.jr_flow_defs.specs.Acts.{is_default}
use Rattle.jr_flow.proofs.Siblings.{any_next, any_found, any_past, any_none}
use Rattle.jr_flow.proofs.statements.has_default.Goals as goal

pub loop-turn-preserved : goal.loop-turn-preserved
loop-turn-preserved c = any_next c.args.rows.now (λ k. is_default (label c.args.rows.now k)) _ c.args.room c.loop-turn._turn c.loop-turn.part c.args.stop c.end_at-part.result (omega arith) (omega arith) (c.end_at-part.ensures (omega arith)) (sym c.is_default.ensures ∙ c.if-is_default.false) c.loop-turn.invariant

pub returns-then-is_default : goal.returns-then-is_default
returns-then-is_default c = any_found c.args.rows.now (λ k. is_default (label c.args.rows.now k)) _ c.args.room c.loop-turn._turn c.loop-turn.part c.args.stop (omega arith) (omega arith) (sym c.is_default.ensures ∙ c.if-is_default.true) c.loop-turn.invariant

pub returns-then-part-stop : goal.returns-then-part-stop
returns-then-part-stop c = any_past c.args.rows.now (λ k. is_default (label c.args.rows.now k)) _ _ c.loop-turn.part c.args.stop (omega arith) c.loop-turn.invariant

pub returns : goal.returns
returns c = any_none c.args.rows.now (λ k. is_default (label c.args.rows.now k)) _ c.args.room c.loop-turn._turn c.loop-turn.part c.args.stop (omega arith) c.loop-turn.invariant
