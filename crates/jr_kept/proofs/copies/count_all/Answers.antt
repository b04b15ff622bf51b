use Rattle.std.proofs.Common.{◌≡◌, arith, subst, length}
use Rattle.jr_kept.specs.Copied.{AreCounted}
use Rattle.jr_kept.proofs.Counting.{or_at}
use Rattle.jr_kept.proofs.copies.count_all.Goals as goal

pub loop-from-init : goal.loop-from-init
loop-from-init c = λ h. h

pub loop-from-preserved : goal.loop-from-preserved
loop-from-preserved c = λ h. let lt = c.loop-from-test.true in c.count_one.ensures c.args.origin.now c.loop-from.from-index (or_at c.args.origin.now c.loop-from.from-index 0 (omega (arith, lt))) (c.loop-from.invariant h)

pub returns : goal.returns
returns c = λ h. let past = c.loop-from-test.false in let near = c.loop-from.auto.from-index-end in let all : c.loop-from.from-index ≡ length c.args.origin.now = omega (arith, past, near) in
    subst (λ n. AreCounted c.args.origin.now c.args.body n c.loop-from.copies.items) all (c.loop-from.invariant h)
