use Rattle.std.proofs.Common.{◌∙◌, sym, ap}
use Rattle.jr_plain.specs.Typing as plain
use Rattle.jr_types.proofs.typing.literal_type.Goals as goal

pub returns-in-Word : goal.returns-in-Word
returns-in-Word c = λ p string. c.word_type.ensures p ∙ ap (plain.literal_type p) (sym c.in-Word.is)
