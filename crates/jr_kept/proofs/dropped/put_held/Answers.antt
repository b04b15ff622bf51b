use Rattle.std.proofs.Common.{◌≡◌, sym, ◌∙◌, ap, subst, arith, length, slice_get}
use Rattle.std.proofs.lemmas.Bool.{false≢true}
use Rattle.jr_kept.specs.Disturbed.{held_at, AreHeld}
use Rattle.jr_kept.proofs.Disturbing.{held_more, only_held_more}
use Rattle.jr_kept.proofs.dropped.put_held.Goals as goal

pub loop-number-init : goal.loop-number-init
loop-number-init c = λ bound empty below. (empty.counted, λ k d lt. absurd (omega (arith, lt)), λ d s. absurd (false≢true (sym (empty.none d) ∙ s)))

pub loop-number-preserved : goal.loop-number-preserved
loop-number-preserved c = λ bound empty below. let range = c.args.range in let points = c.args.points.now in let lt = c.loop-number-test.true in let n = c.loop-number.number in let set = c.loop-number.set in let new = c.add_if.new.set in
    let inv = c.loop-number.invariant bound empty below in let adds = c.add_if.ensures bound inv.0 in
    let is : c.held.result ≡ held_at range.first range.end c.args.may_throw (slice_get points n) = c.held.ensures ∙ ap (held_at range.first range.end c.args.may_throw) c.point_at.ensures in (
      adds.counted,
      held_more range.first range.end c.args.may_throw points n bound set new c.held.result is (omega (arith, lt)) below adds inv.1,
      only_held_more range.first range.end c.args.may_throw points n bound set new c.held.result is adds inv.2,
    )

pub returns : goal.returns
returns c = λ bound empty below. let past = c.loop-number-test.false in let near = c.loop-number.auto.number-end in let inv = c.loop-number.invariant bound empty below in
    let all : c.loop-number.number ≡ length c.args.points.now = omega (arith, past, near) in
    (subst (λ n. AreHeld c.args.range.first c.args.range.end c.args.may_throw c.args.points.now n c.loop-number.set) all inv.1, inv.2)
