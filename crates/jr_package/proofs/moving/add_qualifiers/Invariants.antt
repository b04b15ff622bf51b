use Rattle.std.proofs.Common.{◌≡◌}
use Rattle.jr_package.specs.Repackaging.{with_qualifiers}
use Rattle.jr_package.proofs.moving.add_qualifiers.Given as goal

abbrev pub invariant-loop-qualifier : goal.invariant-loop-qualifier
invariant-loop-qualifier l = l.draft ≡ with_qualifiers l._qualifier l.fn.draft
