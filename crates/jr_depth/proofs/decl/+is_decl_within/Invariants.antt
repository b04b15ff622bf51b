use Rattle.std.proofs.Common.{◌≡◌, ◌&&◌, drop}
use Rattle.jr_tree.specs.Mirror.Decls as m
use Rattle.jr_depth.specs.Within as w
use Rattle.jr_depth.proofs.decl.+is_decl_within.Given as goal

abbrev pub invariant-are_members_within-loop-member : goal.invariant-are_members_within-loop-member
invariant-are_members_within-loop-member l = (l.within && w.members_within l.most (m.plain_members (drop l.member-index l.members))) ≡ w.members_within l.most (m.plain_members l.members)
