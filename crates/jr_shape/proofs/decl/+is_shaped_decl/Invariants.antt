use Rattle.std.proofs.Common.{◌≡◌, ◌&&◌, drop}
use Rattle.jr_tree.specs.Mirror.Decls as m
use Rattle.jr_shape.specs.Decls as t
use Rattle.jr_shape.proofs.decl.+is_shaped_decl.Given as goal

abbrev pub invariant-are_shaped_members-loop-member : goal.invariant-are_shaped_members-loop-member
invariant-are_shaped_members-loop-member l = (l.shaped && t.are_shaped_members (m.plain_members (drop l.member-index l.members))) ≡ t.are_shaped_members (m.plain_members l.members)
