use Rattle.std.proofs.Common.{refl}
use Rattle.jr_defs.specs.Laws.{Picked}
use Rattle.jr_defs.specs.Operators.{cast_to, assigned_to}
use Rattle.jr_plain.specs.Constants.{constants}
use Rattle.jr_plain.proofs.Expressions.{expression_finds}
use Rattle.jr_plain.proofs.Valued.{convert_finds, constants_find, constant_form_tells}
use Rattle.jr_plain.proofs.law.constants_are_computed.Goals as goal

pub returns : goal.returns
returns c = record {
  conversions = λ p e v. convert_finds p assigned_to (λ s units. refl) e v;
  casts = λ p e v. convert_finds p cast_to (λ s units. refl) e v;
  constants = λ p t k typable. constants_find p t k typable;
  form = constant_form_tells;
  types = λ p t k typable. expression_finds p t typable (Picked k) (constants p t k) (constants_find p t k typable);
}
