use Rattle.std.proofs.Common.{sym, subst}
use Rattle.std.proofs.lemmas.Result.{on_ok_weaker}
use Rattle.jr_flow_defs.specs.Kept.{Same}
use Rattle.jr_kept.specs.Named.{AreNames, origin_in, old_naming}
use Rattle.jr_kept.specs.Copied.{HasEventsOnce}
use Rattle.jr_kept.specs.Compared.{OldEdge, NewEdge, KeepsByNumbers}
use Rattle.jr_kept.proofs.Telling.{tells_both, tells_like}
use Rattle.jr_kept.proofs.control.put_lost_control.Goals as goal

pub returns : goal.returns
returns c = λ within after. let flows = c.args.flows.now in let names = flows.names in let before = flows.before.now in let count = c.count-count.result in let le = c.count-count.ensures in
    let named = c.in_ok-of_points.ensures le in
    let events = c.in_ok-put_events_without_one_copy.ensures count (subst (AreNames names.body count (old_naming names) before.body before.points.items) (sym c.deref.ensures.value) named) in
    on_ok_weaker c.put_lost_edges.result
    (λ tells. tells_like c.args.lost.now c.put_lost_edges.new.lost (HasEventsOnce names.rows.now names.dropped (origin_in flows.origin.now) before.points.items × Same (OldEdge flows) (NewEdge flows)) (KeepsByNumbers flows)
    (λ both. record { once = both.0; same = both.1 }) (λ kept. (kept.once, kept.same))
    (tells_both c.args.lost.now c.put_events_without_one_copy.new.lost c.put_lost_edges.new.lost (HasEventsOnce names.rows.now names.dropped (origin_in flows.origin.now) before.points.items) (Same (OldEdge flows) (NewEdge flows)) events tells))
    (c.put_lost_edges.ensures named le within after)
