use Rattle.std.proofs.Common.{sym, ◌∙◌, arith, ℕ}
use Rattle.jr_member_faults.proofs.Looped.{some_hit, some_next, some_end}
use Rattle.jr_members.proofs.Each.{item_in}
use Rattle.jr_member_rules.specs.Throwing.{declares_more}
use Rattle.jr_member_faults.specs.Views.{rows_of, table_of}
use Rattle.jr_member_faults.proofs.redefining.Redefining.throws_more.Goals as goal

pub returns-then-is_more : goal.returns-then-is_more
returns-then-is_more c = λ h th same. some_hit (λ (k : ℕ). declares_more (rows_of c.args.self.now.world.now) (table_of c.args.self.now.world.now) c.args.method k) c.args.redefined.now c.loop-other.other-index (omega arith) (let at = same _ (item_in c.args.redefined.now c.loop-other.other-index 0 (omega arith)) in sym (c.in_ok-is_more.ensures h th at.first at.second) ∙ c.if-is_more.true) (c.loop-other.invariant h th same)

pub loop-other-preserved : goal.loop-other-preserved
loop-other-preserved c = λ h th same. some_next (λ (k : ℕ). declares_more (rows_of c.args.self.now.world.now) (table_of c.args.self.now.world.now) c.args.method k) c.args.redefined.now c.loop-other.other-index (omega arith) (let at = same _ (item_in c.args.redefined.now c.loop-other.other-index 0 (omega arith)) in sym (c.in_ok-is_more.ensures h th at.first at.second) ∙ c.if-is_more.false) (c.loop-other.invariant h th same)

pub returns : goal.returns
returns c = λ h th same. some_end (λ (k : ℕ). declares_more (rows_of c.args.self.now.world.now) (table_of c.args.self.now.world.now) c.args.method k) c.args.redefined.now c.loop-other.other-index (omega arith) (c.loop-other.invariant h th same)
