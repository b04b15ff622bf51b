use Rattle.std.proofs.Common.{sym, ◌∙◌, arith}
use Rattle.jr_plain.specs.Supertypes.{is_at_or_above}
use Rattle.jr_flow_faults.proofs.Letting.{any_now, any_next}
use Rattle.jr_flow_faults.proofs.thrown.is_any_above.Goals as goal

pub returns-then-is_above : goal.returns-then-is_above
returns-then-is_above c = λ t above. any_now (is_at_or_above c.args.under.now.rows.now t c.args.class) c.args.declared.now c.loop-over.over-index 0 (omega arith) (sym c.if-is_above.true ∙ c.is_above.ensures t above) (c.loop-over.invariant t above)

pub loop-over-preserved : goal.loop-over-preserved
loop-over-preserved c = λ t above. any_next (is_at_or_above c.args.under.now.rows.now t c.args.class) c.args.declared.now c.loop-over.over-index 0 (omega arith) (sym c.if-is_above.false ∙ c.is_above.ensures t above) (c.loop-over.invariant t above)
