use Rattle.std.proofs.Common.{sym, subst}
use Rattle.jr_assign.specs.Walked.{IsTableOf}
use Rattle.jr_assign.proofs.locals.judge_word.Goals as goal

pub returns : goal.returns
returns c = c.judge.ensures (subst (IsTableOf _ 0) (sym c.deref.ensures.value) c.in_ok-table.ensures)
