use Rattle.std.proofs.Common.{◌≡◌}
use Rattle.jr_type_facts.specs.Tables.{grown, member_by}
use Rattle.jr_type_facts.proofs.tables.members_of.Given as goal

abbrev pub invariant-loop-at : goal.invariant-loop-at
invariant-loop-at l = l.all.items ≡ grown (member_by l.rows) l.at
