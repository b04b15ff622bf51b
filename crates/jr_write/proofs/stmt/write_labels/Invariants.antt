use Rattle.std.proofs.Common.{◌≡◌, ◌++◌, drop}
use Rattle.jr_tree.specs.Mirror.Stmts as m
use Rattle.jr_tree.specs.Tokens as e
use Rattle.jr_write.proofs.stmt.write_labels.Given as goal

abbrev pub invariant-loop-label : goal.invariant-loop-label
invariant-loop-label l = l.out.items ++ e.labels_tokens (m.plain_labels (drop l.label-index l.labels)) ≡ l.initial.out.items ++ e.labels_tokens (m.plain_labels l.labels)
