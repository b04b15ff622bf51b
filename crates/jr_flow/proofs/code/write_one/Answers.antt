use Rattle.std.proofs.Common.{sym, arith}
use Rattle.std.proofs.lemmas.Bool.{ltb-true, ltb-false}
use Rattle.jr_flow.specs.Seen.{seen}
use Rattle.jr_flow.specs.Views.{rows_in}
use Rattle.jr_flow.proofs.Coding.{end_few, label_of, row_written}
use Rattle.jr_flow.proofs.code.write_one.Goals as goal

pub returns-in-Some-clause-written : goal.returns-in-Some-clause-written
returns-in-Some-clause-written c = λ m view tree lt. let p = rows_in c.args.view.now in
    row_written _ p m c.args.at c.in-Some.row.now.label _ _ (label_of p c.args.at c.in-Some.row.now lt c.in-Some.ensures.lookup.1)
    (c.write_row.ensures (omega (arith, view.few, lt)) (end_few p c.args.at tree view.few lt) m view)

pub returns-in-None-clause-written : goal.returns-in-None-clause-written
returns-in-None-clause-written c = λ m view tree lt. let le = c.in-None.ensures.lookup.3 in absurd (omega (arith, le, lt))
