use Rattle.std.proofs.lemmas.Result.{on_ok_weaker}
use Rattle.jr_run.proofs.Reported.{added_twice}
use Rattle.jr_run.proofs.report.add_word_and_type.Goals as goal

pub returns : goal.returns
returns c = λ source. on_ok_weaker c.add_type.result (λ h. added_twice _ _ _ _ _ c.in_ok-add_word.ensures h) (c.add_type.ensures source)
