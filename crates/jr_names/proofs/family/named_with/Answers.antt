use Rattle.std.proofs.Common.{◌∙◌, ap, subst, ◌++◌}
use Rattle.std.specs.List.Sorted.{IsPermutation}
use Rattle.std.proofs.lemmas.List.Sorted.{IsNonDecreasingBy-from_sort}
use Rattle.jr_names.specs.Renaming.{constructors_of}
use Rattle.jr_names.proofs.family.named_with.Goals as goal

pub returns : goal.returns
returns c = let h = c.in_ok-add_named.ensures in record {
  imports = h.imports;
  are_imports = h.are_imports;
  moved = subst (λ xs. IsPermutation xs c.sort_unstable.new.self.items)
      (h.added ∙ ap (λ xs. xs ++ h.imports ++ constructors_of c.args.old.now.marks.rows.now c.args.declared ++ c.args.family.now) c.new-all.ensures.items)
      c.sort_unstable.ensures.permutation;
  rising = IsNonDecreasingBy-from_sort (λ n. n) _ c.sort_unstable.ensures.sorted;
}
