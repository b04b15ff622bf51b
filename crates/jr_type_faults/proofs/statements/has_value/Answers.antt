use Rattle.std.proofs.Common.{◌∙◌, sym}
use Rattle.jr_type_facts.specs.Facts.{rows_of, types_of}
use Rattle.jr_type_faults.proofs.Standing.{child_is, child_none}
use Rattle.jr_type_faults.proofs.statements.has_value.Goals as goal

pub returns-in-Some : goal.returns-in-Some
returns-in-Some c = λ right. sym (child_is (rows_of c.args.facts.now) (types_of c.args.facts.now) c.args.at _ (sym (c.first_child.ensures right.sized.few) ∙ c.in-Some.is)).2

pub returns-in-None : goal.returns-in-None
returns-in-None c = λ right. sym (child_none (rows_of c.args.facts.now) c.args.at (sym (c.first_child.ensures right.sized.few) ∙ c.in-None.is))
