use Rattle.std.proofs.Common.{◌∙◌, ap, reverse}
use Rattle.jr_spell.specs.Spellers.{rows_of}
use Rattle.jr_spell.proofs.Suffixed.{numbers_back}
use Rattle.jr_spell.proofs.speller.Speller.numbers_back.Goals as goal

pub returns : goal.returns
returns c = λ whole within. numbers_back (rows_of c.args.self.now) c.args.at.now _ within (c.in_reverse.ensures ∙ ap (λ xs. reverse xs) (c.in_ok-all.ensures whole within))
