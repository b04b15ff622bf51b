use Rattle.jr_tree.specs.Rows.{name, sought_at}
use Rattle.jr_defs.specs.Laws.{Picked}
use Rattle.jr_plain.specs.Typing.{expression_types}
use Rattle.jr_plain.specs.Constants.{constants}
use Rattle.jr_plain.proofs.Expressions.{expression_finds}
use Rattle.jr_plain.proofs.LookedUp.{look_for_is}
use Rattle.jr_plain.proofs.Valued.{constants_find}
use Rattle.jr_plain.proofs.law.lookup_has_an_answer.Goals as goal

pub returns : goal.returns
returns c = record {
  answer = λ p t k typable o. look_for_is p t typable.headed (Picked k) (expression_types p t (constants p t k))
      (expression_finds p t typable (Picked k) (constants p t k) (constants_find p t k typable)) o (name p o) (sought_at p o);
}
