use Rattle.std.proofs.Common.{◌∙◌, ap, ◌∷◌, [], ◌++◌}
use Rattle.jr_codes.specs.Reads.{facts, rows_of}
use Rattle.jr_run.specs.Reports.{end_text}
use Rattle.jr_run.specs.Texts.{lines, utf8_text}
use Rattle.jr_run.proofs.report.report.Goals as goal

pub returns : goal.returns
returns c = λ source. c.new.ensures ∙ c.in_ok-add_last_line.ensures source
    ∙ ap (λ xs. xs ++ (end_text (rows_of c.args.source.now) (facts c.args.source.now).decl c.args.ran.now.end ++ 10 ∷ [])) (c.in_ok-text.ensures ∙ ap (λ units. lines (utf8_text units)) c.units.ensures)
