use Rattle.std.proofs.Common.{◌≡◌, sym, subst, IfOk, None}
use Rattle.jr_kept.specs.Courses.{KeepsRaisedControl, KeepsRaisedFlow}
use Rattle.jr_kept.specs.Started.{LeavesStartIn}
use Rattle.jr_kept.proofs.raising.lost_by_raising.Goals as goal

pub returns-in-Some-clause-control : goal.returns-in-Some-clause-control
returns-in-Some-clause-control c = λ m w seen other. let p = c.args.old.now.marks.rows.now in let q = c.args.locked.now.marks.rows.now in
    subst (λ o. IfOk c.lost_by_pull_up.result (λ lost. lost.control ≡ None → KeepsRaisedControl o p q m w c.args.locks.now.origin.items c.args.locks.now.copy.items)) (sym c.in-Some.is) (c.lost_by_pull_up.ensures.control m w seen other)

pub returns-in-Some-clause-uses : goal.returns-in-Some-clause-uses
returns-in-Some-clause-uses c = λ m w seen other. let p = c.args.old.now.marks.rows.now in let q = c.args.locked.now.marks.rows.now in
    subst (λ o. IfOk c.lost_by_pull_up.result (λ lost. lost.control ≡ None → lost.def_use ≡ None → KeepsRaisedFlow o p q m w c.args.locks.now.origin.items c.args.locks.now.copy.items)) (sym c.in-Some.is) (c.lost_by_pull_up.ensures.uses m w seen other)

pub returns-in-Some-clause-only_control : goal.returns-in-Some-clause-only_control
returns-in-Some-clause-only_control c = λ m w seen other. let p = c.args.old.now.marks.rows.now in let q = c.args.locked.now.marks.rows.now in
    subst (λ o. IfOk c.lost_by_pull_up.result (λ lost. KeepsRaisedControl o p q m w c.args.locks.now.origin.items c.args.locks.now.copy.items → (LeavesStartIn o p m → ⊥) → lost.control ≡ None)) (sym c.in-Some.is) (c.lost_by_pull_up.ensures.only_control m w seen other)

pub returns-in-Some-clause-only_uses : goal.returns-in-Some-clause-only_uses
returns-in-Some-clause-only_uses c = λ m w seen other. let p = c.args.old.now.marks.rows.now in let q = c.args.locked.now.marks.rows.now in
    subst (λ o. IfOk c.lost_by_pull_up.result (λ lost. KeepsRaisedFlow o p q m w c.args.locks.now.origin.items c.args.locks.now.copy.items → lost.def_use ≡ None)) (sym c.in-Some.is) (c.lost_by_pull_up.ensures.only_uses m w seen other)
