use Rattle.std.proofs.Common.{◌≡◌, ◌&&◌, drop}
use Rattle.std.specs.List.{list_all}
use Rattle.jr_tree.specs.Mirror.Decls as m
use Rattle.jr_depth.specs.Within as w
use Rattle.jr_depth.proofs.decl.are_decls_within.Given as goal

abbrev pub invariant-loop-decl : goal.invariant-loop-decl
invariant-loop-decl l = (l.within && list_all (w.decl_within l.most) (m.plain_decls (drop l.decl-index l.decls))) ≡ list_all (w.decl_within l.most) (m.plain_decls l.decls)
