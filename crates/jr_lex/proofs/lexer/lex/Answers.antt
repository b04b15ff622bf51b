use Rattle.std.proofs.Common.{ap, ◌∙◌}
use Rattle.jr_lex.specs.declared.fault.LexFault.TheVariants.{NotUtf8}
use Rattle.jr_lex.proofs.Utf8.{front_one, front_short}
use Rattle.jr_lex.proofs.lexer.lex.Goals as goal

pub returns-in-Ok-clause-not_utf8 : goal.returns-in-Ok-clause-not_utf8
returns-in-Ok-clause-not_utf8 c at h = absurd (front_short _ at h c.in-Ok.ensures.cases.1)

pub returns-in-Err-clause-not_utf8 : goal.returns-in-Err-clause-not_utf8
returns-in-Err-clause-not_utf8 c at h = ap NotUtf8 (c.valid_up_to.ensures ∙ front_one _ _ at c.in-Err.ensures.cases.1 h)
