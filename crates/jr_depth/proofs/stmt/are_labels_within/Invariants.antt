use Rattle.std.proofs.Common.{◌≡◌, ◌&&◌, drop}
use Rattle.std.specs.List.{list_all}
use Rattle.jr_tree.specs.Mirror.Stmts as m
use Rattle.jr_depth.specs.Within as w
use Rattle.jr_depth.proofs.stmt.are_labels_within.Given as goal

abbrev pub invariant-loop-label : goal.invariant-loop-label
invariant-loop-label l = (l.within && list_all (w.label_within l.most) (m.plain_labels (drop l.label-index l.labels))) ≡ list_all (w.label_within l.most) (m.plain_labels l.labels)
