use Rattle.std.proofs.Common.{rules}
use Rattle.std.proofs.lemmas.Fn.{always_returns_same}
use Rattle.jr_base.proofs.Search.{found_slot, compared}
use Rattle.jr_base.proofs.files.find_slot.Goals as goal

pub returns : goal.returns
returns c =
    let facts = c.binary_search_by.ensures in
    found_slot c.args.entries.now c.args.path.now c.requires c.binary_search_by.result facts.bound
    (facts.position (compared c.args.path.now) (always_returns_same _ _ _ (λ a r g called. search rules)))
