use Rattle.jr_rules.proofs.Objects.{lacks_object_tells}
use Rattle.jr_rules.proofs.Initializing.{used_too_early_tells}
use Rattle.jr_rules.proofs.law.contexts_are_tested.Goals as goal

pub returns : goal.returns
returns c = record { objects = lacks_object_tells; early = used_too_early_tells }
