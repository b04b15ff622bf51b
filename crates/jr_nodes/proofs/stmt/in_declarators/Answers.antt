-- A search over a node's parts is one over them joined; a turn of a loop passes one item.
use Rattle.std.proofs.Common.{◌∙◌, refl, List}
use Rattle.jr_tree.specs.declared.tree.Declarator.{Declarator}
use Rattle.jr_tree.specs.Mirror.Stmts as s
use Rattle.jr_tree.specs.Nodes as n
use Rattle.jr_nodes.proofs.Passing.{over_one_more}
use Rattle.jr_nodes.proofs.stmt.in_declarators.Goals as goal

pub loop-decl-preserved : goal.loop-decl-preserved
loop-decl-preserved c =
    over_one_more (λ (items : List Declarator). n.each n.declarator_nodes (s.plain_declarators items)) (λ (item : Declarator). n.declarator_nodes (s.plain_declarator item)) (λ item items. refl)
    c.args.decls.now c.loop-decl.decl-index c.decl-item.result c.loop-decl-test.true c.decl-item.is _ _ c.in_declarator-state.ensures ∙ c.loop-decl.invariant
