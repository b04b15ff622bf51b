use Rattle.std.proofs.Common.{◌≡◌, None, codes}
use Rattle.jr_plain.specs.Search.{first_below}
use Rattle.jr_plain.specs.Declarations.{is_prelude}
use Rattle.jr_type_facts.proofs.tables.find_throwable.Given as goal

abbrev pub invariant-loop-at : goal.invariant-loop-at
invariant-loop-at l = first_below l.at (λ k. is_prelude l.rows (codes "Throwable") k) ≡ None
