use Rattle.std.proofs.Common.{drop}
use Rattle.jr_member_faults.specs.Lefts.{CanJudge}
use Rattle.jr_member_faults.specs.Inherited.{IsAddingNames}
use Rattle.jr_member_faults.proofs.inheriting.left_at_all.Given as goal

abbrev pub invariant-loop-name : goal.invariant-loop-name
invariant-loop-name l = CanJudge l.beside → IsAddingNames l.beside.world.now l.beside.over l.names (drop l.name-index l.names) l.fn.open_names l.open_names l.left
