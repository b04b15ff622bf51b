use Rattle.std.proofs.lemmas.Bool.{false≢true}
use Rattle.jr_base.proofs.Words.{word_utf8}
use Rattle.jr_base.proofs.identifier.is_identifier.Goals as goal

pub returns-in-Err : goal.returns-in-Err
returns-in-Err c = ((λ t. absurd (false≢true t)), (λ i. absurd (c.in-Err.ensures.cases.0 (word_utf8 c.args.bytes.now i.word))))
