use Rattle.std.proofs.Common.{◌≡◌, drop}
use Rattle.jr_tree.specs.Nodes as n
use Rattle.jr_nodes.specs.Progress.{go_on, progress}
use Rattle.jr_nodes.proofs.words.in_params.Given as goal

abbrev pub invariant-loop-param : goal.invariant-loop-param
invariant-loop-param l = go_on (n.each n.param_nodes (drop l.param-index l.params)) (progress l.state) ≡ go_on (n.each n.param_nodes l.params) (progress l.initial.state)
