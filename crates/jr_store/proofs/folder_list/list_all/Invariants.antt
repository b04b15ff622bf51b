use Rattle.jr_store.specs.Listing.{IsListed}
use Rattle.jr_store.proofs.folder_list.list_all.Given as goal

abbrev pub invariant-loop : goal.invariant-loop
invariant-loop g l = IsListed l.most l.listed
