use Rattle.std.proofs.Common.{◌≡◌, ◌∙◌, List, subst, sym, map, length}
use Rattle.jr_flow.specs.Reached.{step_seen, AreReaching}
use Rattle.jr_flow.specs.Woven.{AreLocals}
use Rattle.jr_flow.proofs.Followed.{reaching_moved, reaching_edges}
use Rattle.jr_flow.proofs.webs.reaching.Goals as goal
use Rattle.jr_flow.proofs.webs.reaching.Goals.{After-drop-locals-2}

reached : (c : After-drop-locals-2) → AreReaching c.args.graph.now.points.items (map step_seen c.args.graph.now.steps.items) c.sort_found.new.pairs.items
reached c = let found = c.in_ok-pairs.pairs.items in
    let locals = subst (AreLocals c.deref.result.now (length c.deref.result.now)) (sym c.deref_mut.ensures.value) c.in_ok-locals.ensures in
    let pairs = c.in_ok-pairs.ensures (subst (λ xs. AreLocals xs (length xs) c.deref_mut.result.now) (c.deref.ensures.value ∙ sym c.deref-2.ensures.value) locals) in
    reaching_moved c.args.graph.now.points.items (map step_seen c.args.graph.now.steps.items) found c.sort_found.new.pairs.items c.sort_found.ensures
    (subst (λ xs. AreReaching xs (map step_seen c.args.graph.now.steps.items) found) c.deref-2.ensures.value (subst (λ ss. AreReaching c.deref-2.result.now (map step_seen ss) found) c.deref-3.ensures.value pairs))

pub returns-clause-pairs : goal.returns-clause-pairs
returns-clause-pairs c = reached c

pub returns-clause-edges : goal.returns-clause-edges
returns-clause-edges c = λ p m graph. let made = c.args.graph.now in reaching_edges p m made.body made.points.items (map step_seen made.steps.items) c.sort_found.new.pairs.items graph (reached c)
