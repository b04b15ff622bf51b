use Rattle.std.proofs.Common.{ℕ, ◌<◌, get_or}
use Rattle.jr_tree.specs.Tree.{IsTree}
use Rattle.jr_flow_defs.specs.Meaning.{Meaning}
use Rattle.jr_flow.specs.Views.{rows_in, IsViewOf}
use Rattle.jr_flow.specs.Coded.{IsTooLarge}
use Rattle.jr_flow.proofs.limit.has_too_many_points.Given as goal

abbrev pub invariant-loop-body : goal.invariant-loop-body
invariant-loop-body l = (m : Meaning) → IsViewOf l.view m → IsTree (rows_in l.view) → (k : ℕ) → k < l.body-index → IsTooLarge (rows_in l.view) m (get_or l.body-items k 0) → ⊥
