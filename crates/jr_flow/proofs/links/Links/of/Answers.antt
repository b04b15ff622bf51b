use Rattle.std.proofs.Common.{◌≡◌, ◌∙◌, sym, length, subst}
use Rattle.std.specs.List.Sorted.{IsPermutation, IsNonDecreasingBy}
use Rattle.jr_flow.specs.Linked.{AreFilled}
use Rattle.jr_flow.proofs.Linking.{none_filled, all_linked}
use Rattle.jr_flow.proofs.links.Links.of.Goals as goal

pub returns : goal.returns
returns c = let old = c.args.pairs.now.items in let sorted = c.sort_pairs.new.pairs.items in let same = c.deref.ensures.value in
    all_linked old sorted c.fill.new.self c.sort_pairs.ensures.permutation
    (subst (λ xs. AreFilled xs (length xs) c.fill.new.self) same (c.in_ok-fill.ensures (subst (IsNonDecreasingBy (λ pair. pair.0)) (sym same) c.sort_pairs.ensures.rising) (none_filled c.deref.result.now c.new-links.result c.new-links.ensures.firsts c.new-links.ensures.items)))
