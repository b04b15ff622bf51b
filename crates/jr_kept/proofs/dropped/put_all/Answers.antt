use Rattle.std.proofs.Common.{◌≡◌, sym, ◌∙◌, subst, arith, length}
use Rattle.jr_kept.specs.Ordered.{Tells}
use Rattle.jr_kept.specs.Disturbed.{NoneDisturbs}
use Rattle.jr_kept.proofs.Telling.{tells_still}
use Rattle.jr_kept.proofs.Disturbing.{none_told}
use Rattle.jr_kept.proofs.dropped.put_all.Goals as goal

pub loop-number-init : goal.loop-number-init
loop-number-init c = tells_still c.args.lost.now (NoneDisturbs c.args.range.first c.args.range.end c.args.held.now c.args.between.now.behind c.args.between.now.before c.args.points.now 0) (λ k x lt. absurd (omega (arith, lt)))

pub loop-number-preserved : goal.loop-number-preserved
loop-number-preserved c = let range = c.args.range in
    none_told range.first range.end c.args.held.now c.args.between.now.behind c.args.between.now.before c.args.points.now c.loop-number.number c.in-Some.point c.disturbs.result c.args.lost.now c.loop-number.lost c.put_if.new.lost
    (sym c.point_at.ensures ∙ c.in-Some.is) c.disturbs.ensures c.loop-number.invariant c.put_if.ensures

pub returns : goal.returns
returns c = let past = c.loop-number-test.false in let near = c.loop-number.auto.number-end in let size = c.in_ok-count.ensures in
    let all : c.loop-number.number ≡ length c.args.points.now = omega (arith, past, near, size) in
    subst (λ n. Tells c.args.lost.now c.loop-number.lost (NoneDisturbs c.args.range.first c.args.range.end c.args.held.now c.args.between.now.behind c.args.between.now.before c.args.points.now n)) all c.loop-number.invariant
