use Rattle.jr_plain.proofs.Typed.{named_finds, type_finds, has_type_finds, parameters_find, signature_tells}
use Rattle.jr_plain.proofs.law.types_are_computed.Goals as goal

pub returns : goal.returns
returns c = record {
  named = named_finds;
  written = type_finds;
  declared = has_type_finds;
  parameters = parameters_find;
  signatures = signature_tells;
}
