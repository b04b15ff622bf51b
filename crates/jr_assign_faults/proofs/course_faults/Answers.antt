use Rattle.std.proofs.Common.{sym}
use Rattle.jr_assign_faults.proofs.Unassigned.{read_so, reads_exact, blanks_exact, on_ok_both}
use Rattle.jr_assign_faults.proofs.course_faults.Goals as goal

pub returns-clause-reads : goal.returns-clause-reads
returns-clause-reads c = λ local known flow. on_ok_both c.assignment_faults.result
    (λ lasts h. reads_exact c.args.view.now local known c.deref.result.now (read_so c.args.view.now (sym c.deref.ensures.value) (c.in_ok-facts.ensures flow)) lasts _ _ h)
    c.assignment_faults.ensures.lasts (c.assignment_faults.ensures.exact local.tree)

pub returns-clause-blanks : goal.returns-clause-blanks
returns-clause-blanks c = λ local known flow. on_ok_both c.assignment_faults.result
    (λ lasts h. blanks_exact c.args.view.now local known c.deref.result.now (read_so c.args.view.now (sym c.deref.ensures.value) (c.in_ok-facts.ensures flow)) lasts _ _ h)
    c.assignment_faults.ensures.lasts (c.assignment_faults.ensures.blank local.tree)
