use Rattle.jr_supers.specs.Supers.{AreSupersOf}
use Rattle.jr_report.specs.Listed.{rows_in, table_in, IsSubtypeOf}
use Rattle.jr_report.proofs.Listing.{IsListing}
use Rattle.jr_report.proofs.listed.subtypes.Given as goal

abbrev pub invariant-loop-at : goal.invariant-loop-at
invariant-loop-at l = AreSupersOf (rows_in l.world) (table_in l.world) l.world.supers.now → IsListing (IsSubtypeOf (rows_in l.world) (table_in l.world) l.over) l.at l.all.items
