use Rattle.std.proofs.Common.{◌≡◌, ◌||◌, drop}
use Rattle.jr_tree.specs.Mirror.Decls as d
use Rattle.jr_tree.specs.Decls.{has_constructor}
use Rattle.jr_index.proofs.decl.has_constructor.Given as goal

abbrev pub invariant-loop-member : goal.invariant-loop-member
invariant-loop-member l = (l.has || has_constructor (d.plain_members (drop l.member-index l.members))) ≡ has_constructor (d.plain_members l.members)
