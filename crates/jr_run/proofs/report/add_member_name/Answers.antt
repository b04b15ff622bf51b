use Rattle.std.proofs.Common.{◌∙◌, ap, ◌∷◌, ◌++◌}
use Rattle.std.proofs.lemmas.Result.{on_ok_weaker}
use Rattle.jr_tree.specs.Rows.{name}
use Rattle.jr_codes.specs.Reads.{rows_of}
use Rattle.jr_run.specs.Reports.{declaring_name}
use Rattle.jr_run.proofs.Reported.{added_twice}
use Rattle.jr_run.proofs.report.add_member_name.Goals as goal

pub returns : goal.returns
returns c = λ source. on_ok_weaker c.add_behind_dot.result
    (λ h. added_twice c.args.text.now.items c.add_declaring.new.text.items c.add_behind_dot.new.text.items (declaring_name (rows_of c.args.source.now) c.args.row) (46 ∷ name (rows_of c.args.source.now) c.args.row)
    (c.in_ok-add_declaring.ensures source) (h ∙ ap (λ p. c.add_declaring.new.text.items ++ 46 ∷ name p c.args.row) c.rows.ensures)) c.add_behind_dot.ensures
