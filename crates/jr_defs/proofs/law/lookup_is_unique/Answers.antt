use Rattle.jr_defs.specs.Laws.{Picked}
use Rattle.jr_defs.specs.Lookup.{Candidate, Otherwise}
use Rattle.jr_defs.proofs.Unique.{answer_unique}
use Rattle.jr_defs.proofs.TypesAgree.{otherwise_one}
use Rattle.jr_defs.proofs.law.lookup_is_unique.Goals as goal

pub returns : goal.returns
returns c p t k o x s a b h w = answer_unique (Candidate p t (Picked k) o x s) (Otherwise p t (Picked k) o x s) (otherwise_one p t (Picked k) o x s) a b h w
