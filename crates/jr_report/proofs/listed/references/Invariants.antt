use Rattle.jr_report.specs.Listed.{rows_in, table_in, IsReferenceTo}
use Rattle.jr_report.proofs.Listing.{IsListing}
use Rattle.jr_report.proofs.listed.references.Given as goal

abbrev pub invariant-loop-at : goal.invariant-loop-at
invariant-loop-at l = IsListing (IsReferenceTo (rows_in l.world) (table_in l.world) l.declared) l.at l.all.items
