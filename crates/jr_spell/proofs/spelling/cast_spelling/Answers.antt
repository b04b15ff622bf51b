use Rattle.std.proofs.Common.{◌∙◌, sym, ap, subst, refl, option_map}
use Rattle.jr_spell.specs.Calling as calling
use Rattle.jr_spell.specs.Spelling.{IsWritten}
use Rattle.jr_spell.proofs.Casting.{cast_written, cast_unwritten}
use Rattle.jr_spell.proofs.spelling.cast_spelling.Goals as goal

pub returns-in-Some-clause-first : goal.returns-in-Some-clause-first
returns-in-Some-clause-first c = λ q s names h is. cast_written h names _ (sym is ∙ ap (option_map (λ all. all.items)) c.in-Some.is) _ refl refl refl refl refl

pub returns-in-None-clause-first : goal.returns-in-None-clause-first
returns-in-None-clause-first c = λ q s names h is. cast_unwritten s c.args.row q names (sym is ∙ ap (option_map (λ all. all.items)) c.in-None.is)
