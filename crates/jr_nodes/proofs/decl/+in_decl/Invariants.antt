use Rattle.std.proofs.Common.{◌≡◌, drop}
use Rattle.jr_tree.specs.Mirror.Decls as d
use Rattle.jr_tree.specs.Nodes as n
use Rattle.jr_nodes.specs.Progress.{go_on, progress}
use Rattle.jr_nodes.proofs.decl.+in_decl.Given as goal

abbrev pub invariant-in_members-loop-member : goal.invariant-in_members-loop-member
invariant-in_members-loop-member l = go_on (n.members_nodes (d.plain_members (drop l.member-index l.members))) (progress l.state) ≡ go_on (n.members_nodes (d.plain_members l.members)) (progress l.initial.state)
