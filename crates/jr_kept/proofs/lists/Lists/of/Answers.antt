use Rattle.std.proofs.Common.{refl}
use Rattle.jr_kept.proofs.Listing.{listing_none}
use Rattle.jr_kept.proofs.lists.Lists.of.Goals as goal

pub returns : goal.returns
returns c = c.in_ok-add_all.ensures c.args.first c.args.count (listing_none (record { first = c.args.first; lists = c.in_ok-lists.lists }) c.args.first c.args.count refl c.in_ok-lists.ensures)
