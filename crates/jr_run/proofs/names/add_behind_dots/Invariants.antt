use Rattle.std.proofs.Common.{◌≡◌, ◌++◌, drop, map}
use Rattle.jr_tree.specs.Rows.{name}
use Rattle.jr_run.specs.Names.{behind_dots}
use Rattle.jr_run.proofs.names.add_behind_dots.Given as goal

abbrev pub invariant-loop-at : goal.invariant-loop-at
invariant-loop-at l = l.name.items ++ behind_dots (map (name l.rows) (drop l.at-index l.some)) ≡ l.fn.name.items ++ behind_dots (map (name l.rows) l.some)
