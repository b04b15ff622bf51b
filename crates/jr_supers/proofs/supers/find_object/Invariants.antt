use Rattle.std.proofs.Common.{◌≡◌, None}
use Rattle.jr_plain.specs.Search.{first_below}
use Rattle.jr_plain.specs.Declarations.{is_object}
use Rattle.jr_supers.proofs.supers.find_object.Given as goal

abbrev pub invariant-loop-at : goal.invariant-loop-at
invariant-loop-at l = first_below l.at (λ k. is_object l.rows k) ≡ None
