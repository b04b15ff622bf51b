use Rattle.std.proofs.Common.{refl}
use Rattle.std.proofs.lemmas.Result.{on_ok_weaker}
use Rattle.jr_rule.specs.declared.Rule.TheVariants as rule
use Rattle.jr_faults.proofs.Told.{none_then, then_none, only_more}
use Rattle.jr_flow_faults.proofs.Exceptions.{on_ok_both, followed_added}
use Rattle.jr_flow_faults.proofs.throwing.throw_faults.Goals as goal

pub returns-clause-only : goal.returns-clause-only
returns-clause-only c = on_ok_weaker c.follow_faults.result (λ h. only_more c.in_ok-catches.ensures.only (followed_added h)) c.follow_faults.ensures.only

pub returns-clause-covered : goal.returns-clause-covered
returns-clause-covered c = λ sized above. on_ok_weaker c.follow_faults.result (λ h. then_none rule.CoveredCatch (c.in_ok-catches.ensures.covered sized above) (h.others rule.CoveredCatch refl)) c.follow_faults.ensures.only

pub returns-clause-thrown : goal.returns-clause-thrown
returns-clause-thrown c = λ right around. let own = c.in_ok-catches.ensures.own in let catches = c.in_ok-catches.ensures.all right.sized in on_ok_both c.follow_faults.result
    (λ h k. record { uncaught = none_then rule.UncaughtException (own.others rule.UncaughtException refl) h; unthrown = none_then rule.UnthrownCatch (own.others rule.UnthrownCatch refl) k })
    (c.follow_faults.ensures.uncaught right around catches) (c.follow_faults.ensures.unthrown right around catches)
