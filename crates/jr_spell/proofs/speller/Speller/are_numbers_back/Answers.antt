use Rattle.std.proofs.Common.{◌∙◌}
use Rattle.jr_spell.specs.Spellers.{rows_of}
use Rattle.jr_spell.proofs.Staying.{numbers_alike}
use Rattle.jr_spell.proofs.speller.Speller.are_numbers_back.Goals as goal

pub returns : goal.returns
returns c = λ texts whole within numbers e. numbers_alike (rows_of c.args.self.now) texts _ c.args.names.now c.in_ok-back.back.items numbers (c.in_ok-back.ensures whole within) (c.are_equal.ensures.0 e ∙ c.deref.ensures.value)
