use Rattle.jr_store.proofs.Listing.{listed_none}
use Rattle.jr_store.proofs.folder_list.list_all.Goals as goal

pub loop-init : goal.loop-init
loop-init g c = c.in_ok-list_one.ensures (listed_none _ _ c.new.ensures.items c.new-2.ensures.empty)
