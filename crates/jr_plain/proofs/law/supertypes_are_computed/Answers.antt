use Rattle.jr_plain.proofs.Supertyped.{super_at_tells, supers_list, superclasses_list, above_tells, at_or_above_tells, subtype_tells}
use Rattle.jr_plain.proofs.law.supertypes_are_computed.Goals as goal

pub returns : goal.returns
returns c = record {
  at = λ p t k n s headed. super_at_tells p t headed k n s;
  direct = λ p t k headed. supers_list p t headed k;
  superclass = λ p t k headed. superclasses_list p t headed k;
  above = λ p t a s headed. above_tells p t headed a s;
  at_or_above = λ p t a s headed. at_or_above_tells p t headed a s;
  subtypes = λ p t a b headed. subtype_tells p t headed a b;
}
