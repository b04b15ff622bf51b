use Rattle.jr_defs.specs.Laws.{Picked}
use Rattle.jr_plain.proofs.Typables.{typable_from_lookup, acyclic_from_settled}
use Rattle.jr_plain.proofs.law.looked_up_tables_are_typable.Goals as goal

pub returns : goal.returns
returns c = record {
  typable = λ p t k headed one_string acyclic looked. typable_from_lookup p t (Picked k) headed one_string acyclic looked;
  acyclic = acyclic_from_settled;
}
