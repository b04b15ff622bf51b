use Rattle.std.proofs.Common.{◌≤◌, length}
use Rattle.jr_tree.specs.Tree.{IsTree}
use Rattle.jr_flow_defs.specs.Meaning.{Meaning}
use Rattle.jr_meaning.specs.Meaning.{IsMeant}
use Rattle.jr_meaning.specs.Kept.{KeepBodies}
use Rattle.jr_meaning.proofs.keeping.keeps_bodies.Given as goal

abbrev pub invariant-loop-body : goal.invariant-loop-body
invariant-loop-body l = l.count ≤ length l.old.rows.now → IsTree l.old.rows.now → (m w : Meaning) → IsMeant l.old m → IsMeant l.new w
    → KeepBodies l.old.rows.now l.new.rows.now m w l.near.targets.now l.near.loops.now l.copy l.body
