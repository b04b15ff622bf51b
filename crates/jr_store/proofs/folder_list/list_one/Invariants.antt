use Rattle.jr_store.specs.Listing.{IsListed}
use Rattle.jr_store.proofs.folder_list.list_one.Given as goal

abbrev pub invariant-loop-entry : goal.invariant-loop-entry
invariant-loop-entry g l = IsListed l.most l.fn.listed → IsListed l.most l.listed
