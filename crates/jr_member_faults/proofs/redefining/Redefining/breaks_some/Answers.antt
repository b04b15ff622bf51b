use Rattle.std.proofs.Common.{sym, ◌∙◌, arith, ℕ}
use Rattle.jr_members.proofs.Each.{item_in}
use Rattle.jr_member_faults.specs.Nearest.{breaks_same}
use Rattle.jr_member_faults.specs.Views.{rows_of, table_of}
use Rattle.jr_member_faults.proofs.Looped.{some_hit, some_next, some_end}
use Rattle.jr_member_faults.proofs.redefining.Redefining.breaks_some.Goals as goal

pub returns-then-is : goal.returns-then-is
returns-then-is c = λ h th m are. some_hit (λ (k : ℕ). breaks_same (rows_of c.args.self.now.world.now) (table_of c.args.self.now.world.now) c.args.method k) c.args.all.now c.loop-other.other-index (omega arith) (sym (c.in_ok-is.ensures h th m (are.each _ (item_in c.args.all.now c.loop-other.other-index 0 (omega arith)))) ∙ c.if-is.true) (c.loop-other.invariant h th m are)

pub loop-other-preserved : goal.loop-other-preserved
loop-other-preserved c = λ h th m are. some_next (λ (k : ℕ). breaks_same (rows_of c.args.self.now.world.now) (table_of c.args.self.now.world.now) c.args.method k) c.args.all.now c.loop-other.other-index (omega arith) (sym (c.in_ok-is.ensures h th m (are.each _ (item_in c.args.all.now c.loop-other.other-index 0 (omega arith)))) ∙ c.if-is.false) (c.loop-other.invariant h th m are)

pub returns : goal.returns
returns c = λ h th m are. some_end (λ (k : ℕ). breaks_same (rows_of c.args.self.now.world.now) (table_of c.args.self.now.world.now) c.args.method k) c.args.all.now c.loop-other.other-index (omega arith) (c.loop-other.invariant h th m are)
