-- How many nodes of the tree the labels of a forest stand for.
use Rattle.std.specs.Prelude.{ℕ, ◌+◌}
use Rattle.jr_tree.specs.Labels.{nodes_of}
use Rattle.jr_tree.specs.Forest.{Forest, none, more}

-- the sum of the nodes that each label stands for
abbrev pub weight : Forest → ℕ
weight none = 0
weight (more l name kids rest) = nodes_of l + weight kids + weight rest
