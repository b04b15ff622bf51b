use Rattle.std.proofs.Common.{arith}
use Rattle.jr_members.proofs.Declaring.{declared_end}
use Rattle.jr_members.proofs.declared.Declared.add_rows.Goals as goal

pub loop-at-preserved : goal.loop-at-preserved
loop-at-preserved c = λ kind places h. c.in_ok-add_row.ensures kind places (omega arith) (c.loop-at.invariant kind places h)

pub returns : goal.returns
returns c = λ kind places h. declared_end c.args.under.rows.now kind c.loop-at.at _ (omega arith) (c.loop-at.invariant kind places h)
