use Rattle.jr_flow_defs.specs.Meaning.{Meaning}
use Rattle.jr_kept.specs.Courses.{IsSeen}
use Rattle.jr_kept.specs.Ordered.{AreNone, OnlyAdds}
use Rattle.jr_kept.specs.Started.{BeginsFirst}
use Rattle.jr_kept.proofs.creating.put_begun.Given as goal

abbrev pub invariant-loop-row : goal.invariant-loop-row
invariant-loop-row l = OnlyAdds l.fn.lost l.lost × ((m : Meaning) → IsSeen l.old m → AreNone l.fn.lost → (BeginsFirst l.old.marks.rows.now m l.local → ⊥) → AreNone l.lost)
