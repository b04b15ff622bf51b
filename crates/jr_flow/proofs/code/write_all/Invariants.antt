use Rattle.std.proofs.Common.{◌≤◌, length}
use Rattle.jr_tree.specs.Tree.{IsTree}
use Rattle.jr_flow_defs.specs.Meaning.{Meaning}
use Rattle.jr_flow.specs.Seen.{seen}
use Rattle.jr_flow.specs.Views.{rows_in, IsViewOf}
use Rattle.jr_flow.proofs.Coding.{IsWriting}
use Rattle.jr_flow.proofs.code.write_all.Given as goal

abbrev pub invariant-loop-at : goal.invariant-loop-at
invariant-loop-at l = (m : Meaning) → IsViewOf l.view m → IsTree (rows_in l.view) → l.end ≤ length (rows_in l.view)
    → IsWriting (rows_in l.view) m l.from l.at l.end (seen l.fn.acts) (seen l.acts) l.fn.firsts.items l.firsts.items
