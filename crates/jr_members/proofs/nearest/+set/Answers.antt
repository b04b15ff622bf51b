use Rattle.std.proofs.Common.{◌≡◌, ◌-◌, ◌/◌, ◌∙◌, ap, sym, subst, arith, Some}
use Rattle.jr_members.specs.Nearest.{node_of, below, IsIn, Sets}
use Rattle.jr_members.proofs.Trees.{node_in, leaf_set, here_set, below_set}
use Rattle.jr_members.proofs.nearest.+set.Goals as goal

pub returns-then-node-name : goal.returns-then-node-name
returns-then-node-name t c = λ closed there. here_set c.args.bits c.args.name c.args.lister c.args.levels (c.args.levels - 1) (omega (arith, c.if-levels-eq0.false)) c.args.tree _ _ closed _ _ c.in-Some.node
    (ap (λ l. node_of l c.args.tree) (sym c.deref.ensures.value) ∙ sym c.in-Some.ensures) c.if-node-name.true c.in_ok-push_node-in-Some.ensures.at c.in_ok-push_node-in-Some.ensures.items c.with_lister.ensures

pub returns-in_ok-push_node-in-Some-2 : goal.returns-in_ok-push_node-in-Some-2
returns-in_ok-push_node-in-Some-2 t c = λ closed there. let nodes = c.args.nodes.now.items in let e = ap (λ l. node_of l c.args.tree) (sym c.deref.ensures.value) ∙ sym c.in-Some.ensures in
    let under = c.in_ok-under-in-Some.ensures closed (subst (λ o. IsIn nodes o) (sym c.below.ensures) (node_in nodes c.args.tree c.in-Some.node c.args.bits closed e)) in
    below_set c.args.bits c.args.name c.args.lister c.args.levels (c.args.levels - 1) (omega (arith, c.if-levels-eq0.false)) c.args.tree _ _ closed _ _ c.in-Some.node c.in-Some-2.under _ e c.if-node-name.false
    (subst (λ o. Sets (c.args.levels - 1) o (c.args.bits / 2) c.args.name c.args.lister nodes c.set.new.nodes.items (Some c.in-Some-2.under)) c.below.ensures
    (subst (λ f. Sets (c.args.levels - 1) c.below.result (c.args.bits / 2) c.args.name c.args.lister nodes c.set.new.nodes.items f) c.in-Some-2.is under))
    c.in_ok-push_node-in-Some-2.ensures.at c.in_ok-push_node-in-Some-2.ensures.items c.with_below.ensures

pub returns-in_ok-push_node-in-None : goal.returns-in_ok-push_node-in-None
returns-in_ok-push_node-in-None t c = λ closed there. leaf_set c.args.bits c.args.name c.args.lister c.args.levels (c.args.levels - 1) (omega (arith, c.if-levels-eq0.false)) c.args.tree _ _ closed _ _
    (ap (λ l. node_of l c.args.tree) (sym c.deref.ensures.value) ∙ sym c.in-None.ensures) c.in_ok-push_node-in-None.ensures.at c.in_ok-push_node-in-None.ensures.items c.leaf.ensures
