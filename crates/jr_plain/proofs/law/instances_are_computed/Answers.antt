use Rattle.jr_plain.proofs.Instanced.{static_context_tells, constructor_call_tells, instance_tells}
use Rattle.jr_plain.proofs.law.instances_are_computed.Goals as goal

pub returns : goal.returns
returns c = record { static_context = static_context_tells; constructor_call = constructor_call_tells; instances = instance_tells }
