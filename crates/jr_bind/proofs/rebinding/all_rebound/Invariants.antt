use Rattle.jr_bind.specs.Confirmed.{rows_of, table_of, CanLookTo}
use Rattle.jr_bind.specs.Rebound.{AreReboundTo}
use Rattle.jr_bind.proofs.rebinding.all_rebound.Given as goal

abbrev pub invariant-loop-at : goal.invariant-loop-at
invariant-loop-at l = CanLookTo l.sight l.types l.end → AreReboundTo (rows_of l.sight) (table_of l.sight) l.at l.all.items
