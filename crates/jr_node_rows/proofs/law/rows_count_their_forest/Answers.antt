-- The clause is two lemmas: the rows count what their sum is, and that is the weight of the forest.
use Rattle.std.proofs.Common.{arith}
use Rattle.jr_tree.specs.Rows.{rows_from}
use Rattle.jr_node_rows.proofs.Before.{before_end, sum_of_rows}
use Rattle.jr_node_rows.proofs.law.rows_count_their_forest.Goals as goal

pub returns : goal.returns
returns c = record {
  forest = λ a c over before at f. let b = before_end a (rows_from over before at f) c in let s = sum_of_rows over before at f in omega arith;
}
