use Rattle.std.proofs.Common.{◌≡◌, sym, ◌∙◌, subst, arith, length}
use Rattle.jr_kept.specs.Pruned.{AreNumbered}
use Rattle.jr_kept.proofs.reached.Left.put_all.Goals as goal

pub loop-number-preserved : goal.loop-number-preserved
loop-number-preserved c = λ h. c.in_ok-put_if.ensures c.args.points.now c.args.met.now c.loop-number.number (sym c.point_at.ensures ∙ c.in-Some.is) (sym c.is_left.ensures) (c.loop-number.invariant h)

pub returns : goal.returns
returns c = λ h. let past = c.loop-number-test.false in let near = c.loop-number.auto.number-end in let size = c.in_ok-count.ensures in
    let all : c.loop-number.number ≡ length c.args.points.now = omega (arith, past, near, size) in
    subst (λ n. AreNumbered c.args.points.now c.args.met.now n c.loop-number.self.points.items c.loop-number.self.numbers.items) all (c.loop-number.invariant h)
