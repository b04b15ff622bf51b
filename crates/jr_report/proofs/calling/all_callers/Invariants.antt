use Rattle.jr_report.specs.Calling.{IsSoughtIn, IsTreeOf}
use Rattle.jr_report.proofs.Listing.{IsListing}
use Rattle.jr_report.proofs.calling.all_callers.Given as goal

abbrev pub invariant-loop-at : goal.invariant-loop-at
invariant-loop-at l = IsTreeOf l.view → IsListing (IsSoughtIn l.view l.sought.called.now l.sought.is_to_string) l.at l.all.items
