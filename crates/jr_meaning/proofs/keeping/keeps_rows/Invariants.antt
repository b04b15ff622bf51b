use Rattle.std.proofs.Common.{◌≤◌, length}
use Rattle.jr_flow_defs.specs.Meaning.{Meaning}
use Rattle.jr_meaning.specs.Meaning.{IsMeant}
use Rattle.jr_meaning.specs.Kept.{AreKept}
use Rattle.jr_meaning.proofs.keeping.keeps_rows.Given as goal

abbrev pub invariant-loop-at : goal.invariant-loop-at
invariant-loop-at l = l.range.end ≤ length l.old.rows.now → (m w : Meaning) → IsMeant l.old m → IsMeant l.new w
    → AreKept l.old.rows.now l.new.rows.now m w l.near.targets.now l.near.loops.now l.copy l.range l.at
