use Rattle.std.proofs.Common.{◌≡◌, ⊎_elim, subst, arith}
use Rattle.std.proofs.lemmas.Bool.{cases_lt}
use Rattle.jr_kept.specs.Waiting.{IsShaped}
use Rattle.jr_kept.proofs.parts.are_shaped.Goals as goal

pub loop-at-preserved : goal.loop-at-preserved
loop-at-preserved c = λ n low lt. let at = c.loop-at.at in
    ⊎_elim (λ early. c.loop-at.invariant n low early) (λ past. let same : at ≡ n = omega (arith, lt, past) in subst (IsShaped c.args.rows.now) same (c.is_shaped.ensures c.if-not-is_shaped.false)) (cases_lt n at)
