use Rattle.jr_assign.proofs.Bits.{each_word}
use Rattle.jr_assign.proofs.law.each_word_is_of_variables.Goals as goal

pub returns : goal.returns
returns c = each_word
