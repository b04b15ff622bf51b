use Rattle.std.proofs.Common.{◌≡◌, sym, ◌∙◌, subst, arith, length, Some, slice_get}
use Rattle.jr_kept.specs.Arrived.{AreDone}
use Rattle.jr_kept.proofs.Naming.{get_inside}
use Rattle.jr_kept.proofs.Uses.{compares_still, compares_both, done_more}
use Rattle.jr_kept.proofs.arriving.Comparing.compare_all.Goals as goal

pub loop-number-init : goal.loop-number-init
loop-number-init c = λ many bound inside below can. (can, compares_still c.args.uses.now c.args.self.now.done c.args.lost.now, λ k x lt e. absurd (omega (arith, lt)), λ before none same. none)

pub loop-number-preserved : goal.loop-number-preserved
loop-number-preserved c = λ many bound inside below can. let uses = c.args.uses.now in let points = c.args.points.now in let i = c.loop-number.number in
    let at : slice_get points i ≡ Some c.in-Some.point = sym c.point_at.ensures ∙ c.in-Some.is in
    let inv = c.loop-number.invariant many bound inside below can in
    let ok = c.in_ok-compare_at.ensures.checks many bound inside (below i c.in-Some.point (get_inside points i c.in-Some.point at) at) inv.0 in (
      ok.0,
      compares_both uses c.args.self.now.done c.loop-number.self.done c.compare_at.new.self.done c.args.lost.now c.loop-number.lost c.compare_at.new.lost inv.1 ok.1,
      done_more uses c.loop-number.self.done c.compare_at.new.self.done points i c.in-Some.point at ok.1.kept inv.2 ok.2,
      λ before none same. c.in_ok-compare_at.ensures.kept many bound before inside inv.0 (inv.3 before none same) (λ old is. same i c.in-Some.point old at is),
    )

pub returns-clause-checks : goal.returns-clause-checks
returns-clause-checks c = λ many bound inside below can. let past = c.loop-number-test.false in let near = c.loop-number.auto.number-end in
    let inv = c.loop-number.invariant many bound inside below can in
    let all : c.loop-number.number ≡ length c.args.points.now = omega (arith, past, near) in
    (inv.1, subst (AreDone c.args.uses.now c.loop-number.self.done c.args.points.now) all inv.2)

pub returns-clause-kept : goal.returns-clause-kept
returns-clause-kept c = λ many bound before inside below can none same. (c.loop-number.invariant many bound inside below can).3 before none same
