use Rattle.std.proofs.Common.{◌∙◌, subst, Some, None}
use Rattle.jr_plain.specs.Search.{Finds}
use Rattle.jr_type_facts.specs.Facts.{rows_of}
use Rattle.jr_type_facts.specs.Tables.{IsMemberOf}
use Rattle.jr_type_faults.specs.Parts.{does_not_fit_member}
use Rattle.jr_type_faults.proofs.Holding.{member_told}
use Rattle.jr_type_faults.proofs.statements.does_not_fit_there.Goals as goal

pub returns-in-Some : goal.returns-in-Some
returns-in-Some c = λ right. c.does_not_fit_member.ensures right.seen ∙ member_told (rows_of c.args.facts.now) c.args.at (Some c.in-Some.member) (λ m. does_not_fit_member c.args.facts.now c.args.at m)
    (subst (λ o. Finds o (λ m. IsMemberOf (rows_of c.args.facts.now) c.args.at m)) c.in-Some.is (c.member.ensures right))

pub returns-in-None : goal.returns-in-None
returns-in-None c = λ right. member_told (rows_of c.args.facts.now) c.args.at None (λ m. does_not_fit_member c.args.facts.now c.args.at m)
    (subst (λ o. Finds o (λ m. IsMemberOf (rows_of c.args.facts.now) c.args.at m)) c.in-None.is (c.member.ensures right))
