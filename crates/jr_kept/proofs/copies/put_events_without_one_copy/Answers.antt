use Rattle.std.proofs.Common.{sym, subst, length}
use Rattle.std.proofs.lemmas.Result.{on_ok_weaker}
use Rattle.jr_kept.specs.Named.{AreNames, origin_in, old_naming}
use Rattle.jr_kept.specs.Ordered.{Tells}
use Rattle.jr_kept.specs.Copied.{AreCounted, HasEventsOnce}
use Rattle.jr_kept.proofs.copies.put_events_without_one_copy.Goals as goal

pub returns : goal.returns
returns c = λ count named. let flows = c.args.flows.now in let names = flows.names in let origin = flows.origin.now in
    on_ok_weaker c.put_events.result
    (λ tells. subst (λ points. Tells c.args.lost.now c.put_events.new.lost (HasEventsOnce names.rows.now names.dropped (origin_in origin) points)) c.deref-2.ensures.value tells)
    (c.put_events.ensures origin flows.before.now.body count
    (subst (AreCounted origin names.body (length origin)) (sym c.deref.ensures.value) c.in_ok-copies.ensures)
    (subst (λ points. AreNames names.body count (old_naming names) flows.before.now.body points c.args.of_points.now) (sym c.deref-2.ensures.value) named))
