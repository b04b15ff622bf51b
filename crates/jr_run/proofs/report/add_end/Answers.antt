use Rattle.std.proofs.Common.{◌∙◌, ap, sym, ◌++◌}
use Rattle.std.proofs.lemmas.Result.{on_ok_weaker}
use Rattle.jr_codes.specs.Reads.{facts, rows_of}
use Rattle.jr_run.specs.Reports.{end_text}
use Rattle.jr_run.proofs.report.add_end.Goals as goal

pub returns-in-Uncaught : goal.returns-in-Uncaught
returns-in-Uncaught c = λ source. on_ok_weaker c.add_word_and_type.result
    (λ h. h ∙ ap (λ xs. c.args.text.now.items ++ xs) (sym (ap (end_text (rows_of c.args.source.now) (facts c.args.source.now).decl) c.in-Uncaught.is))) (c.add_word_and_type.ensures source)

pub returns-in-InitFailed : goal.returns-in-InitFailed
returns-in-InitFailed c = λ source. on_ok_weaker c.add_word_and_type-in-InitFailed.result
    (λ h. h ∙ ap (λ xs. c.args.text.now.items ++ xs) (sym (ap (end_text (rows_of c.args.source.now) (facts c.args.source.now).decl) c.in-InitFailed.is))) (c.add_word_and_type-in-InitFailed.ensures source)

pub returns-in-Native : goal.returns-in-Native
returns-in-Native c = λ source. on_ok_weaker c.add_word_and_member.result
    (λ h. h ∙ ap (λ xs. c.args.text.now.items ++ xs) (sym (ap (end_text (rows_of c.args.source.now) (facts c.args.source.now).decl) c.in-Native.is))) (c.add_word_and_member.ensures source)
