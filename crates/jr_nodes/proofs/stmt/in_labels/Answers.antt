-- A search over a node's parts is one over them joined; a turn of a loop passes one item.
use Rattle.std.proofs.Common.{◌∙◌, refl, List}
use Rattle.jr_tree.specs.declared.tree.SwitchLabel.{SwitchLabel}
use Rattle.jr_tree.specs.Mirror.Stmts as s
use Rattle.jr_tree.specs.Nodes as n
use Rattle.jr_nodes.proofs.Passing.{over_one_more}
use Rattle.jr_nodes.proofs.stmt.in_labels.Goals as goal

pub loop-label-preserved : goal.loop-label-preserved
loop-label-preserved c =
    over_one_more (λ (items : List SwitchLabel). n.each n.label_nodes (s.plain_labels items)) (λ (item : SwitchLabel). n.label_nodes (s.plain_label item)) (λ item items. refl)
    c.args.labels.now c.loop-label.label-index c.label-item.result c.loop-label-test.true c.label-item.is _ _ c.in_label-state.ensures ∙ c.loop-label.invariant
