use Rattle.jr_names.proofs.Answers.{renamed_so}
use Rattle.jr_names.proofs.renaming.with_rows.Goals as goal

pub returns-clause-ok : goal.returns-clause-ok
returns-clause-ok c = renamed_so c.args.marks.now c.args.declared c.args.name.now c.in_ok-path.path (record { name = c.in_ok-of.field-0; rows = c.args.rows }) c.unit_of.result
    c.finished.result c.in_ok-path.ensures c.in_ok-of.ensures c.unit_of.ensures c.finished.ensures.ok
