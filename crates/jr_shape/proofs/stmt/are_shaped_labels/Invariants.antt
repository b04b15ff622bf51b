use Rattle.std.proofs.Common.{◌≡◌, ◌&&◌, drop}
use Rattle.std.specs.List.{list_all}
use Rattle.jr_tree.specs.Mirror.Stmts as m
use Rattle.jr_shape.specs.Stmts as t
use Rattle.jr_shape.proofs.stmt.are_shaped_labels.Given as goal

abbrev pub invariant-loop-label : goal.invariant-loop-label
invariant-loop-label l = (l.shaped && list_all t.is_shaped_label (m.plain_labels (drop l.label-index l.labels))) ≡ t.are_shaped_labels (m.plain_labels l.labels)
