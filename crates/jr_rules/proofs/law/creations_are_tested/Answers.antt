use Rattle.jr_rules.proofs.Creations.{calls_itself_tells, abstract_used_tells}
use Rattle.jr_rules.proofs.law.creations_are_tested.Goals as goal

pub returns : goal.returns
returns c = record { rounds = calls_itself_tells; abstracts = abstract_used_tells }
