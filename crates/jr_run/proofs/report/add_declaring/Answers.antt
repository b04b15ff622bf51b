use Rattle.std.proofs.Common.{◌∙◌, ap, sym, ◌++◌}
use Rattle.std.proofs.lemmas.Result.{on_ok_weaker}
use Rattle.jr_codes.specs.Reads.{rows_of}
use Rattle.jr_plain.specs.Enclosing.{declaring_type}
use Rattle.jr_run.specs.Names.{canonical_name}
use Rattle.jr_run.proofs.Reported.{added_none, text_there}
use Rattle.jr_run.proofs.report.add_declaring.Goals as goal

pub returns-in-Some : goal.returns-in-Some
returns-in-Some c = λ source. on_ok_weaker c.add_name.result
    (λ h. h ∙ ap (λ xs. c.args.text.now.items ++ xs) (text_there (canonical_name (rows_of c.args.source.now)) _ _ (sym (c.declaring_type.ensures ∙ ap (λ p. declaring_type p c.args.row) c.rows.ensures) ∙ c.in-Some.is))) (c.add_name.ensures source)

pub returns-in-None : goal.returns-in-None
returns-in-None c = λ source. added_none _ (canonical_name (rows_of c.args.source.now)) _ (sym (c.declaring_type.ensures ∙ ap (λ p. declaring_type p c.args.row) c.rows.ensures) ∙ c.in-None.is)
