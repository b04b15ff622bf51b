use Rattle.std.proofs.Common.{◌≡◌, drop}
use Rattle.jr_tree.specs.Nodes as n
use Rattle.jr_nodes.specs.Progress.{go_on, progress}
use Rattle.jr_nodes.proofs.words.in_imports.Given as goal

abbrev pub invariant-loop-import : goal.invariant-loop-import
invariant-loop-import l = go_on (n.each n.import_nodes (drop l.import-index l.imports)) (progress l.state) ≡ go_on (n.each n.import_nodes l.imports) (progress l.initial.state)
