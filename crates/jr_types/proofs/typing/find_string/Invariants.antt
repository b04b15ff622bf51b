use Rattle.std.proofs.Common.{◌≡◌, None}
use Rattle.jr_plain.specs.Search.{first_below}
use Rattle.jr_plain.specs.Declarations.{is_string}
use Rattle.jr_types.proofs.typing.find_string.Given as goal

abbrev pub invariant-loop-at : goal.invariant-loop-at
invariant-loop-at l = first_below l.at (λ k. is_string l.rows k) ≡ None
