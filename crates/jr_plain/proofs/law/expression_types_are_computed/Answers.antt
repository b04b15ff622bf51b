use Rattle.jr_defs.specs.Laws.{Picked}
use Rattle.jr_plain.proofs.Operated.{literal_finds, binary_finds}
use Rattle.jr_plain.proofs.Expressions.{expression_finds}
use Rattle.jr_plain.proofs.law.expression_types_are_computed.Goals as goal

pub returns : goal.returns
returns c = record {
  literals = λ p t token typable. literal_finds p typable.one_string token;
  operators = λ p t op a b typable. binary_finds p t typable op a b;
  types = λ p t k constant typable known. expression_finds p t typable (Picked k) constant known;
}
