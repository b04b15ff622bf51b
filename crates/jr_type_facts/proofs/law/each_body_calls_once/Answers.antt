use Rattle.jr_type_facts.proofs.CallRows.{one_call}
use Rattle.jr_type_facts.proofs.law.each_body_calls_once.Goals as goal

pub returns : goal.returns
returns c = one_call
