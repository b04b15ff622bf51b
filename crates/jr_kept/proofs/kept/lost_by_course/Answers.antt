use Rattle.std.proofs.Common.{◌≡◌, sym, subst, IfOk, None}
use Rattle.jr_kept.specs.Courses.{HandsByOneIn, KeepsCourse, KeepsUsesOf}
use Rattle.jr_kept.specs.Started.{BeginsFirstIn}
use Rattle.jr_kept.proofs.kept.lost_by_course.Goals as goal

pub returns-in-Inlined-clause-control : goal.returns-in-Inlined-clause-control
returns-in-Inlined-clause-control c = λ m w seen other. let p = c.args.old.now.marks.rows.now in let q = c.args.locked.now.marks.rows.now in
    subst (λ course. IfOk c.lost_by_inlining.result (λ lost. lost.control ≡ None → KeepsCourse course p q m w c.args.locks.now.origin.items c.args.locks.now.copy.items)) (sym c.in-Inlined.is) (c.lost_by_inlining.ensures.control m w seen other)

pub returns-in-Inlined-clause-uses : goal.returns-in-Inlined-clause-uses
returns-in-Inlined-clause-uses c = λ m w seen other. let p = c.args.old.now.marks.rows.now in let q = c.args.locked.now.marks.rows.now in
    subst (λ course. IfOk c.lost_by_inlining.result (λ lost. lost.control ≡ None → lost.def_use ≡ None → KeepsUsesOf course p q m w c.args.locks.now.origin.items c.args.locks.now.copy.items)) (sym c.in-Inlined.is) (c.lost_by_inlining.ensures.uses m w seen other)

pub returns-in-Extracted-clause-control : goal.returns-in-Extracted-clause-control
returns-in-Extracted-clause-control c = λ m w seen other. let p = c.args.old.now.marks.rows.now in let q = c.args.locked.now.marks.rows.now in
    subst (λ course. IfOk c.lost_by_extracting.result (λ lost. lost.control ≡ None → KeepsCourse course p q m w c.args.locks.now.origin.items c.args.locks.now.copy.items)) (sym c.in-Extracted.is) (c.lost_by_extracting.ensures.control m w seen other)

pub returns-in-Extracted-clause-uses : goal.returns-in-Extracted-clause-uses
returns-in-Extracted-clause-uses c = λ m w seen other. let p = c.args.old.now.marks.rows.now in let q = c.args.locked.now.marks.rows.now in
    subst (λ course. IfOk c.lost_by_extracting.result (λ lost. lost.control ≡ None → lost.def_use ≡ None → KeepsUsesOf course p q m w c.args.locks.now.origin.items c.args.locks.now.copy.items)) (sym c.in-Extracted.is) (c.lost_by_extracting.ensures.uses m w seen other)

pub returns-in-Inlined-clause-only_control : goal.returns-in-Inlined-clause-only_control
returns-in-Inlined-clause-only_control c = λ m w seen other free. let p = c.args.old.now.marks.rows.now in let q = c.args.locked.now.marks.rows.now in
    subst (λ course. IfOk c.lost_by_inlining.result (λ lost. KeepsCourse course p q m w c.args.locks.now.origin.items c.args.locks.now.copy.items → lost.control ≡ None)) (sym c.in-Inlined.is)
    (c.lost_by_inlining.ensures.only_control m w seen other (subst (λ course. BeginsFirstIn course p m → ⊥) c.in-Inlined.is free))

pub returns-in-Inlined-clause-only_uses : goal.returns-in-Inlined-clause-only_uses
returns-in-Inlined-clause-only_uses c = λ m w seen other here. let p = c.args.old.now.marks.rows.now in let q = c.args.locked.now.marks.rows.now in
    subst (λ course. IfOk c.lost_by_inlining.result (λ lost. KeepsUsesOf course p q m w c.args.locks.now.origin.items c.args.locks.now.copy.items → lost.def_use ≡ None)) (sym c.in-Inlined.is) (c.lost_by_inlining.ensures.only_uses m w seen other)

pub returns-in-Extracted-clause-only_control : goal.returns-in-Extracted-clause-only_control
returns-in-Extracted-clause-only_control c = λ m w seen other free. let p = c.args.old.now.marks.rows.now in let q = c.args.locked.now.marks.rows.now in
    subst (λ course. IfOk c.lost_by_extracting.result (λ lost. KeepsCourse course p q m w c.args.locks.now.origin.items c.args.locks.now.copy.items → lost.control ≡ None)) (sym c.in-Extracted.is) (c.lost_by_extracting.ensures.only_control m w seen other)

pub returns-in-Extracted-clause-only_uses : goal.returns-in-Extracted-clause-only_uses
returns-in-Extracted-clause-only_uses c = λ m w seen other hands. let p = c.args.old.now.marks.rows.now in let q = c.args.locked.now.marks.rows.now in
    subst (λ course. IfOk c.lost_by_extracting.result (λ lost. KeepsUsesOf course p q m w c.args.locks.now.origin.items c.args.locks.now.copy.items → lost.def_use ≡ None)) (sym c.in-Extracted.is)
    (c.lost_by_extracting.ensures.only_uses m w seen other (subst (λ course. HandsByOneIn course q w c.args.locks.now.origin.items) c.in-Extracted.is hands))
