-- A search over a node's parts is one over them joined; a turn of a loop passes one item.
use Rattle.std.proofs.Common.{◌∙◌, refl, List}
use Rattle.jr_tree.specs.declared.tree.TypeDecl.{TypeDecl}
use Rattle.jr_tree.specs.Mirror.Decls as d
use Rattle.jr_tree.specs.Nodes as n
use Rattle.jr_nodes.proofs.Passing.{over_one_more}
use Rattle.jr_nodes.proofs.decl.in_decls.Goals as goal

pub loop-decl-preserved : goal.loop-decl-preserved
loop-decl-preserved c =
    over_one_more (λ (items : List TypeDecl). n.each n.decl_nodes (d.plain_decls items)) (λ (item : TypeDecl). n.decl_nodes (d.plain_decl item)) (λ item items. refl)
    c.args.decls.now c.loop-decl.decl-index c.decl-item.result c.loop-decl-test.true c.decl-item.is _ _ c.in_decl-state.ensures ∙ c.loop-decl.invariant
