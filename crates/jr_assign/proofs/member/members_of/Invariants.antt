use Rattle.std.proofs.Common.{◌≡◌}
use Rattle.jr_assign.specs.Changes.{members}
use Rattle.jr_assign.proofs.member.members_of.Given as goal

abbrev pub invariant-loop-n : goal.invariant-loop-n
invariant-loop-n l = l.all.items ≡ members l.rows l.n
