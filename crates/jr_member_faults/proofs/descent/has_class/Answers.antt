use Rattle.std.proofs.Common.{sym, ◌∙◌, ap, arith, ℕ, not}
use Rattle.jr_member_faults.specs.Descent.{is_other_type}
use Rattle.jr_member_faults.proofs.Looped.{some_hit, some_next, some_end}
use Rattle.jr_member_faults.proofs.descent.has_class.Goals as goal

pub returns-then-not-is_interface : goal.returns-then-not-is_interface
returns-then-not-is_interface c = some_hit (λ (s : ℕ). is_other_type c.args.rows.now s) c.args.overs.now c.loop-over.over-index (omega arith) (ap not (sym c.is_interface.ensures ∙ c.if-not-is_interface.true)) c.loop-over.invariant

pub loop-over-preserved : goal.loop-over-preserved
loop-over-preserved c = some_next (λ (s : ℕ). is_other_type c.args.rows.now s) c.args.overs.now c.loop-over.over-index (omega arith) (ap not (sym c.is_interface.ensures ∙ c.if-not-is_interface.false)) c.loop-over.invariant

pub returns : goal.returns
returns c = some_end (λ (s : ℕ). is_other_type c.args.rows.now s) c.args.overs.now c.loop-over.over-index (omega arith) c.loop-over.invariant
