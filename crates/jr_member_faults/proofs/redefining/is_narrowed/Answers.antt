use Rattle.std.proofs.Common.{sym, ◌∙◌, arith, ℕ}
use Rattle.jr_member_faults.proofs.Looped.{some_hit, some_next, some_end}
use Rattle.jr_member_rules.specs.Redefining.{is_narrower}
use Rattle.jr_member_faults.specs.Views.{rows_of}
use Rattle.jr_member_faults.proofs.redefining.is_narrowed.Goals as goal

pub returns-then-is_narrower : goal.returns-then-is_narrower
returns-then-is_narrower c = some_hit (λ (k : ℕ). is_narrower (rows_of c.args.world.now) c.args.method k) c.args.redefined.now c.loop-other.other-index (omega arith) (sym c.is_narrower.ensures ∙ c.if-is_narrower.true) c.loop-other.invariant

pub loop-other-preserved : goal.loop-other-preserved
loop-other-preserved c = some_next (λ (k : ℕ). is_narrower (rows_of c.args.world.now) c.args.method k) c.args.redefined.now c.loop-other.other-index (omega arith) (sym c.is_narrower.ensures ∙ c.if-is_narrower.false) c.loop-other.invariant

pub returns : goal.returns
returns c = some_end (λ (k : ℕ). is_narrower (rows_of c.args.world.now) c.args.method k) c.args.redefined.now c.loop-other.other-index (omega arith) c.loop-other.invariant
