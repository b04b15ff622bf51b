use Rattle.std.proofs.Common.{◌≡◌}
use Rattle.jr_tree.specs.Rows.{parent}
use Rattle.jr_plain.specs.Search.{last_below}
use Rattle.jr_delete.specs.Deleting.{is_field_of}
use Rattle.jr_delete.proofs.removal.field_before.Given as goal

abbrev pub invariant-loop-at : goal.invariant-loop-at
invariant-loop-at l = l.before ≡ last_below l.at (is_field_of l.rows (parent l.rows l.field))
