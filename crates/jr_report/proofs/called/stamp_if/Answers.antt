use Rattle.jr_report.proofs.Gathering.{stamps_no, stamps_one}
use Rattle.jr_report.proofs.called.stamp_if.Goals as goal

pub returns-then-not-is_such : goal.returns-then-not-is_such
returns-then-not-is_such c = λ bound counted. stamps_no bound c.args.at c.args.is_such c.args.called.now c.if-not-is_such.true counted

pub returns : goal.returns
returns c = λ bound counted. stamps_one bound c.args.at c.args.is_such _ c.args.called.now _ c.if-not-is_such.false (c.add.ensures bound counted)
