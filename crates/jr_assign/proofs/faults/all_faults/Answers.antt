use Rattle.jr_faults.proofs.Told.{only_then}
use Rattle.jr_assign.proofs.Unassigned.{reads_then, then_blanks}
use Rattle.jr_assign.proofs.faults.all_faults.Goals as goal

pub returns-clause-exact : goal.returns-clause-exact
returns-clause-exact c = λ tree lasts parts. reads_then c.args.rows.now c.args.facts.now _ _ _ (c.in_ok-read_faults.ensures.exact tree lasts parts) c.in_ok-blank_faults.ensures.others

pub returns-clause-blank : goal.returns-clause-blank
returns-clause-blank c = λ tree lasts parts. then_blanks c.args.rows.now c.args.facts.now _ _ _ c.in_ok-read_faults.ensures.others (c.in_ok-blank_faults.ensures.exact tree lasts parts)

pub returns-clause-only : goal.returns-clause-only
returns-clause-only c = only_then c.in_ok-read_faults.ensures.others c.in_ok-blank_faults.ensures.others
