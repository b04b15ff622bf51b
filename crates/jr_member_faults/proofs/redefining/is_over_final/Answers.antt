use Rattle.std.proofs.Common.{sym, ◌∙◌, arith, ℕ}
use Rattle.jr_member_faults.proofs.Looped.{some_hit, some_next, some_end}
use Rattle.jr_tree.specs.Rows.{label}
use Rattle.jr_defs.specs.Modifiers.{written}
use Rattle.jr_member_faults.specs.Views.{rows_of}
use Rattle.jr_member_faults.proofs.redefining.is_over_final.Goals as goal

pub returns-then-is_final : goal.returns-then-is_final
returns-then-is_final c = some_hit (λ (k : ℕ). (written (label (rows_of c.args.world.now) k)).is_final) c.args.redefined.now c.loop-other.other-index (omega arith) (sym c.is_final.ensures ∙ c.if-is_final.true) c.loop-other.invariant

pub loop-other-preserved : goal.loop-other-preserved
loop-other-preserved c = some_next (λ (k : ℕ). (written (label (rows_of c.args.world.now) k)).is_final) c.args.redefined.now c.loop-other.other-index (omega arith) (sym c.is_final.ensures ∙ c.if-is_final.false) c.loop-other.invariant

pub returns : goal.returns
returns c = some_end (λ (k : ℕ). (written (label (rows_of c.args.world.now) k)).is_final) c.args.redefined.now c.loop-other.other-index (omega arith) c.loop-other.invariant
