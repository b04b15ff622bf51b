use Rattle.std.proofs.Common.{sym, ◌∙◌}
use Rattle.jr_base.proofs.Runs.{start_ascii}
use Rattle.jr_base.proofs.characters.starts_word.Goals as goal

pub returns-then-c-lt128 : goal.returns-then-c-lt128
returns-then-c-lt128 c = c.starts_ascii.ensures ∙ sym (start_ascii c.args.c c.if-c-lt128.true)
