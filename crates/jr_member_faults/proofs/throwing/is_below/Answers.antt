use Rattle.std.proofs.Common.{sym, ◌∙◌, arith, ℕ}
use Rattle.jr_member_faults.proofs.Looped.{some_hit, some_next, some_end}
use Rattle.jr_plain.specs.Supertypes.{is_at_or_above}
use Rattle.jr_member_faults.proofs.Checked.{above_is}
use Rattle.jr_member_faults.specs.Views.{rows_of, table_of}
use Rattle.jr_member_faults.proofs.throwing.is_below.Goals as goal

pub returns-then-is_at_or_above : goal.returns-then-is_at_or_above
returns-then-is_at_or_above c = λ h. some_hit (λ (s : ℕ). is_at_or_above (rows_of c.args.world.now) (table_of c.args.world.now) c.args.class s) c.args.uppers.now c.loop-over.over-index (omega arith) (sym (above_is (rows_of c.args.world.now) (table_of c.args.world.now) h.whole.world_is.seen.above.well.headed c.args.class _ _ (c.is_at_or_above.ensures (table_of c.args.world.now) h.whole.world_is.seen.above)) ∙ c.if-is_at_or_above.true) (c.loop-over.invariant h)

pub loop-over-preserved : goal.loop-over-preserved
loop-over-preserved c = λ h. some_next (λ (s : ℕ). is_at_or_above (rows_of c.args.world.now) (table_of c.args.world.now) c.args.class s) c.args.uppers.now c.loop-over.over-index (omega arith) (sym (above_is (rows_of c.args.world.now) (table_of c.args.world.now) h.whole.world_is.seen.above.well.headed c.args.class _ _ (c.is_at_or_above.ensures (table_of c.args.world.now) h.whole.world_is.seen.above)) ∙ c.if-is_at_or_above.false) (c.loop-over.invariant h)

pub returns : goal.returns
returns c = λ h. some_end (λ (s : ℕ). is_at_or_above (rows_of c.args.world.now) (table_of c.args.world.now) c.args.class s) c.args.uppers.now c.loop-over.over-index (omega arith) (c.loop-over.invariant h)
