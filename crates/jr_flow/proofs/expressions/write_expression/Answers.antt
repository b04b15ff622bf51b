use Rattle.std.proofs.Common.{◌++◌, OnOk, sym, subst, arith}
use Rattle.jr_flow_defs.specs.Acts.{acts_by}
use Rattle.jr_flow.specs.Seen.{seen}
use Rattle.jr_flow.specs.Views.{rows_in}
use Rattle.jr_flow.proofs.expressions.write_expression.Goals as goal

pub returns-in-NewArray : goal.returns-in-NewArray
returns-in-NewArray c = λ lt fits m view statement. rw c.in-NewArray.is (c.write_new_array.ensures (omega (arith, lt)) m c.in-NewArray.primitive c.in-NewArray.more)
