use Rattle.std.proofs.Common.{sym, subst, length}
use Rattle.jr_kept.specs.Named.{origin_in}
use Rattle.jr_kept.specs.Returned.{AreFreeTo, LeadOutTo}
use Rattle.jr_kept.proofs.Moved.{leaves_by_numbers, all_free, all_leave}
use Rattle.jr_kept.proofs.returning.put_held_returns.Goals as goal

pub returns-clause-adds : goal.returns-clause-adds
returns-clause-adds c = λ none. (c.put_all_pending.ensures.none (c.put_all_steps.ensures.none none).0).0

pub returns-clause-shaped : goal.returns-clause-shaped
returns-clause-shaped c = λ few_body. c.have_parts.ensures few_body c.if-not-have_parts.false

pub returns-clause-leaves : goal.returns-clause-leaves
returns-clause-leaves c = λ few_body few_method none. let flows = c.args.flows.now in let graph = flows.before.now in let points = graph.points.items in let steps = graph.steps.items in let p = flows.names.rows.now in let body = flows.names.body in
    let moved = c.in_ok-moved.moved in let second = c.put_all_steps.ensures.none none in let first = c.put_all_pending.ensures.none second.0 in
    let free : AreFreeTo p body moved points (length points) = subst (λ ps. AreFreeTo p body moved ps (length ps)) c.as_slice.ensures.value first.1 in
    let out : LeadOutTo body moved points steps (length steps) = subst (λ ps. LeadOutTo body moved ps steps (length steps)) c.as_slice-2.ensures.value (subst (λ ss. LeadOutTo body moved c.as_slice-2.result.now ss (length ss)) c.as_slice-3.ensures.value second.1) in
    leaves_by_numbers p flows.rows.now body c.args.method (origin_in flows.origin.now) moved points steps (c.have_parts.ensures few_body c.if-not-have_parts.false) (c.in_ok-moved.ensures.every few_body few_method) free out

pub returns-clause-kept : goal.returns-clause-kept
returns-clause-kept c = λ few_body few_method none leaves. let flows = c.args.flows.now in let graph = flows.before.now in let points = graph.points.items in let steps = graph.steps.items in let p = flows.names.rows.now in let body = flows.names.body in
    let moved = c.in_ok-moved.moved in let only = c.in_ok-moved.ensures.only few_body few_method in let origin = origin_in flows.origin.now in
    let free : AreFreeTo p body moved points (length points) = all_free p flows.rows.now body c.args.method origin moved only points steps leaves in
    let out : LeadOutTo body moved points steps (length steps) = all_leave p flows.rows.now body c.args.method origin moved only points steps leaves in
    c.put_all_steps.ensures.kept (c.put_all_pending.ensures.kept none (subst (λ ps. AreFreeTo p body moved ps (length ps)) (sym c.as_slice.ensures.value) free))
    (subst (λ ss. LeadOutTo body moved c.as_slice-2.result.now ss (length ss)) (sym c.as_slice-3.ensures.value) (subst (λ ps. LeadOutTo body moved ps steps (length steps)) (sym c.as_slice-2.ensures.value) out))
