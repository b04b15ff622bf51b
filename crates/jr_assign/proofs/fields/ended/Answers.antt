use Rattle.std.proofs.Common.{sym, subst}
use Rattle.jr_assign.specs.Walked.{IsTableOf}
use Rattle.jr_assign.proofs.fields.ended.Goals as goal

pub returns : goal.returns
returns c = c.ended_by.ensures (subst (IsTableOf _ c.args.start) (sym c.deref-2.ensures.value) c.in_ok-table.ensures)
