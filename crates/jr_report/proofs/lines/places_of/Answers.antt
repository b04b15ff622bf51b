use Rattle.std.proofs.Common.{subst}
use Rattle.std.specs.List.Sorted.{IsPermutation}
use Rattle.jr_report.proofs.lines.places_of.Goals as goal

pub returns : goal.returns
returns c = λ ordered. record { moved = subst (λ xs. IsPermutation xs c.sort_unstable.new.self.items) (c.in_ok-all.ensures ordered) c.sort_unstable.ensures.permutation; rising = c.sort_unstable.ensures.sorted }
