use Rattle.jr_defs.specs.Laws.{Picked}
use Rattle.jr_plain.proofs.Converted.{promoted_finds, both_finds, castable_tells, assignable_tells}
use Rattle.jr_plain.proofs.law.conversions_are_computed.Goals as goal

pub returns : goal.returns
returns c = record {
  promotion = promoted_finds;
  both = both_finds;
  casts = λ p t a b headed. castable_tells p t headed a b;
  assignment = λ p t k constant n a b headed known. assignable_tells p t headed (Picked k) constant n known a b;
}
