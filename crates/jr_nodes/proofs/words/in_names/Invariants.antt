use Rattle.std.proofs.Common.{◌≡◌, drop}
use Rattle.jr_tree.specs.Nodes as n
use Rattle.jr_nodes.specs.Progress.{go_on, progress}
use Rattle.jr_nodes.proofs.words.in_names.Given as goal

abbrev pub invariant-loop-name : goal.invariant-loop-name
invariant-loop-name l = go_on (n.each n.name_nodes (drop l.name-index l.names)) (progress l.state) ≡ go_on (n.each n.name_nodes l.names) (progress l.initial.state)
