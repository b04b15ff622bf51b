use Rattle.std.proofs.Common.{sym, ◌∙◌}
use Rattle.jr_assign.proofs.faults.assignment_faults.Goals as goal

pub returns-clause-exact : goal.returns-clause-exact
returns-clause-exact c = λ tree. c.all_faults.ensures.exact tree (sym c.are_last.ensures ∙ c.if-not-are_last.false) (sym c.have_parts.ensures ∙ c.if-not-have_parts.false)

pub returns-clause-blank : goal.returns-clause-blank
returns-clause-blank c = λ tree. c.all_faults.ensures.blank tree (sym c.are_last.ensures ∙ c.if-not-are_last.false) (sym c.have_parts.ensures ∙ c.if-not-have_parts.false)
