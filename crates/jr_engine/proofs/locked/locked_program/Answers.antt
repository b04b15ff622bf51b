use Rattle.jr_engine.proofs.Reading.{indexed_as}
use Rattle.jr_engine.proofs.Stepping.{locked_begins, locked_shaped}
use Rattle.jr_engine.proofs.locked.locked_program.Goals as goal

pub returns-in-Some-clause-shaped : goal.returns-in-Some-clause-shaped
returns-in-Some-clause-shaped c = locked_shaped c.args.program c.in_ok-index.index.value.rows c.locked_rows.result c.requires c.in_ok-index.ensures.rows c.locked_rows.ensures.rows

pub returns-in-Some-clause-begins : goal.returns-in-Some-clause-begins
returns-in-Some-clause-begins c = λ begins. locked_begins c.args.program c.in_ok-index.index.value.rows c.locked_rows.result begins c.in_ok-index.ensures.rows c.locked_rows.ensures.rows

pub returns-in-Some-clause-read : goal.returns-in-Some-clause-read
returns-in-Some-clause-read c = indexed_as c.args.program c.in_ok-index.index.value.rows c.in_ok-index.index.value.marks c.locked_rows.result c.requires c.in_ok-index.ensures.rows c.in_ok-index.ensures.marks
    c.locked_rows.ensures.program c.locked_rows.ensures.rows c.locked_rows.ensures.marks
