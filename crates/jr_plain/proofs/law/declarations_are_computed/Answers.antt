use Rattle.jr_plain.proofs.Declared.{declares_tells, type_tells, class_tells, interface_tells, variable_tells, prelude_tells, occurrence_tells, part_tells, reference_tells}
use Rattle.jr_plain.proofs.law.declarations_are_computed.Goals as goal

pub returns : goal.returns
returns c = record {
  named = declares_tells;
  types = type_tells;
  classes = class_tells;
  interfaces = interface_tells;
  variables = variable_tells;
  prelude = prelude_tells;
  occurrences = occurrence_tells;
  parts = part_tells;
  references = reference_tells;
}
