use Rattle.std.proofs.Common.{sym, ◌∙◌}
use Rattle.jr_base.proofs.Runs.{word_ascii}
use Rattle.jr_base.proofs.characters.continues_word.Goals as goal

pub returns-then-c-lt128 : goal.returns-then-c-lt128
returns-then-c-lt128 c = c.continues_ascii.ensures ∙ sym (word_ascii c.args.c c.if-c-lt128.true)
