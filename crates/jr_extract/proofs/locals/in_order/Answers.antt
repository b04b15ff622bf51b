use Rattle.std.proofs.lemmas.List.Sorted.{IsNonDecreasingBy-from_sort}
use Rattle.jr_extract.proofs.locals.in_order.Goals as goal

pub returns : goal.returns
returns c = record {
  sorted = c.sort_unstable.new.self;
  moved = c.sort_unstable.ensures.permutation;
  rising = IsNonDecreasingBy-from_sort (λ n. n) _ c.sort_unstable.ensures.sorted;
  is = c.in_ok-all.ensures;
}
