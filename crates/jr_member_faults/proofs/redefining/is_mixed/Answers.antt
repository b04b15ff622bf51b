use Rattle.std.proofs.Common.{sym, ◌∙◌, arith, ℕ}
use Rattle.jr_member_faults.proofs.Looped.{some_hit, some_next, some_end}
use Rattle.jr_member_faults.specs.Redefined.{are_mixed}
use Rattle.jr_member_faults.specs.Views.{rows_of}
use Rattle.jr_member_faults.proofs.redefining.is_mixed.Goals as goal

pub returns-then-are_mixed : goal.returns-then-are_mixed
returns-then-are_mixed c = some_hit (λ (k : ℕ). are_mixed (rows_of c.args.world.now) c.args.method k) c.args.redefined.now c.loop-other.other-index (omega arith) (sym c.are_mixed.ensures ∙ c.if-are_mixed.true) c.loop-other.invariant

pub loop-other-preserved : goal.loop-other-preserved
loop-other-preserved c = some_next (λ (k : ℕ). are_mixed (rows_of c.args.world.now) c.args.method k) c.args.redefined.now c.loop-other.other-index (omega arith) (sym c.are_mixed.ensures ∙ c.if-are_mixed.false) c.loop-other.invariant

pub returns : goal.returns
returns c = some_end (λ (k : ℕ). are_mixed (rows_of c.args.world.now) c.args.method k) c.args.redefined.now c.loop-other.other-index (omega arith) c.loop-other.invariant
