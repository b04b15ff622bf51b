use Rattle.std.proofs.Common.{sym, ◌∙◌, ap, arith, ℕ, not}
use Rattle.jr_member_faults.proofs.Looped.{some_hit, some_next, some_end}
use Rattle.jr_plain.specs.Overloads.{is_result_fit}
use Rattle.jr_member_faults.specs.Views.{rows_of, table_of}
use Rattle.jr_member_faults.proofs.redefining.Redefining.has_other_result.Goals as goal

pub returns-then-not-is_result_fit : goal.returns-then-not-is_result_fit
returns-then-not-is_result_fit c = λ h. some_hit (λ (k : ℕ). not (is_result_fit (rows_of c.args.self.now.world.now) (table_of c.args.self.now.world.now) c.args.method k)) c.args.redefined.now c.loop-other.other-index (omega arith) (ap not (sym (c.is_result_fit.ensures h) ∙ c.if-not-is_result_fit.true)) (c.loop-other.invariant h)

pub loop-other-preserved : goal.loop-other-preserved
loop-other-preserved c = λ h. some_next (λ (k : ℕ). not (is_result_fit (rows_of c.args.self.now.world.now) (table_of c.args.self.now.world.now) c.args.method k)) c.args.redefined.now c.loop-other.other-index (omega arith) (ap not (sym (c.is_result_fit.ensures h) ∙ c.if-not-is_result_fit.false)) (c.loop-other.invariant h)

pub returns : goal.returns
returns c = λ h. some_end (λ (k : ℕ). not (is_result_fit (rows_of c.args.self.now.world.now) (table_of c.args.self.now.world.now) c.args.method k)) c.args.redefined.now c.loop-other.other-index (omega arith) (c.loop-other.invariant h)
