use Rattle.jr_marks.proofs.Made as made
use Rattle.jr_marks.proofs.law.marks_are_ordered.Goals as goal

pub returns : goal.returns
returns c = made.marks_ordered
