use Rattle.std.proofs.Common.{◌∙◌, subst, Some, None}
use Rattle.jr_tree.specs.Rows.{label}
use Rattle.jr_plain.specs.Search.{Finds}
use Rattle.jr_rules.specs.InitializingTests.{is_initializing}
use Rattle.jr_type_facts.specs.Facts.{rows_of}
use Rattle.jr_type_facts.specs.Tables.{IsMemberOf}
use Rattle.jr_type_faults.proofs.Holding.{member_in}
use Rattle.jr_type_faults.proofs.initializing.is_in_initializer.Goals as goal

pub returns-in-Some : goal.returns-in-Some
returns-in-Some c = λ right class. c.is_initializing.ensures ∙ member_in (rows_of c.args.facts.now) c.args.at (Some c.in-Some.member) (λ m. is_initializing (label (rows_of c.args.facts.now) m))
    (subst (λ o. Finds o (λ m. IsMemberOf (rows_of c.args.facts.now) c.args.at m)) c.in-Some.is (c.member.ensures right)) c.args.class class

pub returns-in-None : goal.returns-in-None
returns-in-None c = λ right class. member_in (rows_of c.args.facts.now) c.args.at None (λ m. is_initializing (label (rows_of c.args.facts.now) m))
    (subst (λ o. Finds o (λ m. IsMemberOf (rows_of c.args.facts.now) c.args.at m)) c.in-None.is (c.member.ensures right)) c.args.class class
