use Rattle.std.proofs.Common.{◌≡◌, ◌++◌}
use Rattle.jr_plain.specs.Search.{all_such}
use Rattle.jr_names.specs.Renaming.{has_class_name}
use Rattle.jr_names.proofs.family.add_constructors.Given as goal

abbrev pub invariant-loop-at : goal.invariant-loop-at
invariant-loop-at l = l.all.items ≡ l.fn.all.items ++ all_such l.at (has_class_name l.rows l.class)
