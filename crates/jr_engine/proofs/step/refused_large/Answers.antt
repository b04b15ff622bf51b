use Rattle.std.proofs.Common.{◌≡◌, ◌⊎◌, subst, sym}
use Rattle.jr_engine.proofs.Stepping.{flow_number}
use Rattle.jr_engine.proofs.step.refused_large.Goals as goal

pub returns-clause-number : goal.returns-clause-number
returns-clause-number c = flow_number c.args.old.now c.args.fault c.refused_old.result.fault c.args.request c.refused_old.result.request c.requires c.refused_old.ensures.told
    (subst (λ n. (n ≡ c.args.request) ⊎ ((c.args.request ≡ 1) × (n ≡ 0))) (sym c.refused_old.ensures.number) c.first_zero.ensures)
