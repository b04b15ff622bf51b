use Rattle.std.proofs.Common.{◌≡◌, ◌&&◌, drop}
use Rattle.std.specs.List.{list_all}
use Rattle.jr_tree.specs.Mirror.Decls as m
use Rattle.jr_shape.specs.Decls as t
use Rattle.jr_shape.proofs.decl.are_shaped_decls.Given as goal

abbrev pub invariant-loop-decl : goal.invariant-loop-decl
invariant-loop-decl l = (l.shaped && list_all t.is_shaped_decl (m.plain_decls (drop l.decl-index l.decls))) ≡ list_all t.is_shaped_decl (m.plain_decls l.decls)
