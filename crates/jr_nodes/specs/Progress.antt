-- How far a search for the node at a number has come, and how it goes on over a list of nodes.
use Rattle.std.specs.Prelude.{ℕ, zero, suc, [], ◌∷◌}
use Rattle.jr_tree.specs.Nodes.{Node, Nodes}
use Rattle.jr_nodes.specs.declared.search.Search.{Search}
use Rattle.jr_nodes.specs.declared.search.Search.TheVariants as search
use Rattle.jr_nodes.specs.Seen.{seen}

-- the node is found, or so many nodes are to be passed before it
pub data Progress : Type 0 where
  At : Node → Progress
  Before : ℕ → Progress

-- past one node
abbrev pub past : Node → Progress → Progress
past n (At m) = At m
past n (Before zero) = At n
past n (Before (suc k)) = Before k

-- past all of them, in order
abbrev pub go_on : Nodes → Progress → Progress
go_on [] p = p
go_on (n ∷ ns) p = go_on ns (past n p)

abbrev pub progress : Search → Progress
progress (search.Found node) = At (seen node)
progress (search.Ahead count) = Before count
