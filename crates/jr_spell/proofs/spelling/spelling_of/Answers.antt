use Rattle.std.proofs.Common.{refl}
use Rattle.jr_spell.proofs.Spelled.{written_some, written_none}
use Rattle.jr_spell.proofs.spelling.spelling_of.Goals as goal

pub returns-in-Some-clause-first : goal.returns-in-Some-clause-first
returns-in-Some-clause-first c = λ o s h. written_some h _ c.in-Some.is _ refl refl c.new.ensures.items refl refl

pub returns-in-None-clause-first : goal.returns-in-None-clause-first
returns-in-None-clause-first c = λ o s h. written_none h c.in-None.is
