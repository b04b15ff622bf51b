use Rattle.jr_tree.specs.Rows.{name, sought_at}
use Rattle.jr_defs.specs.Laws.{Picked}
use Rattle.jr_plain.proofs.LookedUp.{candidates_tell, look_for_is, look_for_finds}
use Rattle.jr_plain.proofs.law.lookup_is_computed.Goals as goal

pub returns : goal.returns
returns c = record {
  candidates = λ p t k type_of headed typed o x s d level. candidates_tell p t headed (Picked k) type_of typed o x s d level;
  answer = λ p t k type_of headed typed o. look_for_is p t headed (Picked k) type_of typed o (name p o) (sought_at p o);
  only = λ p t k type_of headed typed o a h. look_for_finds p t headed (Picked k) type_of typed o (name p o) (sought_at p o) a h;
}
