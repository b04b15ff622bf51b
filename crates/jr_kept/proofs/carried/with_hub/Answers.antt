use Rattle.std.proofs.Common.{◌≡◌, inl, inr, ⊎_elim, ◌∙◌, subst, arith, true, length, map, slice_get}
use Rattle.std.specs.List.{Contains}
use Rattle.jr_flow.specs.Reached.{step_seen}
use Rattle.jr_kept.specs.Carried.{is_exit_at}
use Rattle.jr_kept.proofs.carried.with_hub.Goals as goal

pub returns-clause-only : goal.returns-clause-only
returns-clause-only c = λ i j u h. let graph = c.args.graph.now in let len = c.len.ensures in let ok = graph.points.ok.0 in let same = c.in_ok-hub.ensures in
    let size : c.in_ok-hub.hub ≡ length graph.points.items = omega (arith, len, ok, same) in
    ⊎_elim (λ early. inl (subst (λ ss. Contains (map step_seen ss) (i, j, u)) c.in_ok-made.ensures.steps early))
    (λ o. inr (o.0 ∙ size, subst (λ ps. is_exit_at c.args.method c.args.is_throw (slice_get ps j) ≡ true) c.as_slice.ensures.value o.1)) (c.in_ok-put_exits.ensures.only i j u h)
