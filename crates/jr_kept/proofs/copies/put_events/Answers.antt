use Rattle.std.proofs.Common.{◌≡◌, ⊎_elim, sym, ◌∙◌, subst, arith, Some, slice_get}
use Rattle.std.proofs.lemmas.Bool.{cases_lt}
use Rattle.std.proofs.lemmas.Option.{same_Some}
use Rattle.jr_flow_defs.specs.Kept.{HasOneCopy}
use Rattle.jr_kept.specs.Named.{origin_in}
use Rattle.jr_kept.specs.Copied.{IsEvent, HasEventsOnce}
use Rattle.jr_kept.proofs.Naming.{get_inside}
use Rattle.jr_kept.proofs.Telling.{tells_still, tells_both, tells_like}
use Rattle.jr_kept.proofs.copies.put_events.Goals as goal

pub loop-number-init : goal.loop-number-init
loop-number-init c = λ origin at count counted named. tells_still c.args.lost.now _ (λ k x lt e event. absurd (omega (arith, lt)))

pub loop-number-preserved : goal.loop-number-preserved
loop-number-preserved c = λ origin at count counted named. let names = c.args.names.now in let points = c.args.points.now in let i = c.loop-number.number in
    let here : slice_get points i ≡ Some c.in-Some.point = sym c.point_at.ensures ∙ c.in-Some.is in
    let name_here : slice_get c.args.of_points.now i ≡ Some c.in-Some-name_at.name = sym c.name_at.ensures ∙ c.in-Some-name_at.is in
    tells_like c.args.lost.now c.put_event.new.lost _ _
    (λ both k x lt e event. ⊎_elim (λ early. both.0 k x early e event)
    (λ past. let same : k ≡ i = omega (arith, lt, past) in let is : c.in-Some.point ≡ x = same_Some c.in-Some.point x (sym here ∙ subst (λ z. slice_get points z ≡ Some x) same e) in
    subst (λ y. HasOneCopy (origin_in origin) y.row) is (both.1 (subst (IsEvent names.rows.now names.dropped) (sym is) event))) (cases_lt k i))
    (λ all. (λ k x lt e event. all k x (omega (arith, lt)) e event, λ event. all i c.in-Some.point (omega arith) here event))
    (tells_both c.args.lost.now c.loop-number.lost c.put_event.new.lost _ _ (c.loop-number.invariant origin at count counted named)
    (c.in_ok-put_event.ensures origin at count counted (named.named i c.in-Some.point c.in-Some-name_at.name here name_here)))

pub returns : goal.returns
returns c = λ origin at count counted named. let points = c.args.points.now in let past = c.loop-number-test.false in
    tells_like c.args.lost.now c.loop-number.lost _ (HasEventsOnce c.args.names.now.rows.now c.args.names.now.dropped (origin_in origin) points)
    (λ all k x e event. all k x (let lt = get_inside points k x e in omega (arith, lt, past)) e event)
    (λ all k x lt e event. all k x e event)
    (c.loop-number.invariant origin at count counted named)
