use Rattle.std.proofs.Common.{◌≡◌, ⊎_elim, subst, arith, ◌+◌}
use Rattle.std.proofs.lemmas.Bool.{cases_lt}
use Rattle.jr_kept.specs.Ordered.{Tells}
use Rattle.jr_kept.specs.Compared.{SameFrom, SameNames}
use Rattle.jr_kept.proofs.Telling.{tells_still, tells_both, tells_like}
use Rattle.jr_kept.proofs.control.Searches.compare_all.Goals as goal

pub loop-name-init : goal.loop-name-init
loop-name-init c = λ s t side other ready. (ready, tells_still c.args.lost.now (SameNames c.args.old.now s c.args.new.now t 0) (λ x lt. absurd (omega (arith, lt))))

pub loop-name-preserved : goal.loop-name-preserved
loop-name-preserved c = λ s t side other ready. let old = c.args.old.now in let new = c.args.new.now in let i = c.loop-name.name in let below = c.loop-name-test.true in
    let inv = c.loop-name.invariant s t side other ready in
    let ok = c.in_ok-compare.ensures c.args.count s t side other inv.0 (omega (arith, below)) in (
      ok.0,
      tells_like c.args.lost.now c.compare.new.lost (SameNames old s new t i × SameFrom old s new t i) (SameNames old s new t (i + 1))
          (λ both x lt. ⊎_elim (λ early. both.0 x early) (λ past. let same : i ≡ x = omega (arith, lt, past) in subst (SameFrom old s new t) same both.1) (cases_lt x i))
          (λ all. (λ x lt. all x (omega (arith, lt)), all i (omega arith)))
          (tells_both c.args.lost.now c.loop-name.lost c.compare.new.lost (SameNames old s new t i) (SameFrom old s new t i) inv.1 ok.1),
    )

pub returns : goal.returns
returns c = λ s t side other ready. let past = c.loop-name-test.false in let near = c.loop-name.auto.name-end in let all : c.loop-name.name ≡ c.args.count = omega (arith, past, near) in
    subst (λ n. Tells c.args.lost.now c.loop-name.lost (SameNames c.args.old.now s c.args.new.now t n)) all (c.loop-name.invariant s t side other ready).1
