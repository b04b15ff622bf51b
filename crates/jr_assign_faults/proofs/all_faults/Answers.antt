use Rattle.jr_assign_faults.proofs.Unassigned.{reads_behind, blanks_behind}
use Rattle.jr_assign_faults.proofs.all_faults.Goals as goal

pub returns-clause-reads : goal.returns-clause-reads
returns-clause-reads c = λ local known flow. reads_behind c.args.view.now _ _ _ c.in_ok-final_faults.ensures.others (c.in_ok-course_faults.ensures.reads local known flow)

pub returns-clause-blanks : goal.returns-clause-blanks
returns-clause-blanks c = λ local known flow. blanks_behind c.args.view.now _ _ _ c.in_ok-final_faults.ensures.others (c.in_ok-course_faults.ensures.blanks local known flow)
