use Rattle.std.proofs.Common.{sym, subst}
use Rattle.jr_plain.specs.Search.{Finds}
use Rattle.jr_type_facts.specs.Facts.{rows_of}
use Rattle.jr_type_facts.specs.Tables.{IsMemberOf}
use Rattle.jr_type_faults.proofs.objects.member.Goals as goal

pub returns : goal.returns
returns c = λ right. subst (λ o. Finds o (λ m. IsMemberOf (rows_of c.args.facts.now) c.args.at m)) (sym c.member.ensures) (right.tables_are.members_are c.args.at)
