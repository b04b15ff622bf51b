use Rattle.std.proofs.Common.{sym, ◌∙◌, subst, length}
use Rattle.std.proofs.lemmas.Bool.{false≢true}
use Rattle.jr_kept.specs.Named.{origin_in}
use Rattle.jr_kept.specs.Handed.{HasPairs}
use Rattle.jr_kept.proofs.Crossing.{crossing_tells, crossing_pairs, crossing_assigned, crossing_only}
use Rattle.jr_kept.proofs.handing.Handing.has_all.Goals as goal

pub returns-then-not-has_pairs : goal.returns-then-not-has_pairs
returns-then-not-has_pairs c = let handing = c.args.self.now in let crossing = c.args.crossing.now in (
  λ e. absurd (false≢true e),
  λ h. sym c.if-not-has_pairs.true ∙ c.has_pairs.ensures.exact
      (subst (λ ds. HasPairs handing ds c.deref-2.result.now (length ds)) (sym c.deref.ensures.value) (subst (λ us. HasPairs handing crossing.parameters.items us (length crossing.parameters.items)) (sym c.deref-2.ensures.value)
      (crossing_pairs handing crossing c.args.points.now (origin_in c.args.origin.now) h))),
)

pub returns-then-not-has_assigned : goal.returns-then-not-has_assigned
returns-then-not-has_assigned c = (λ e. absurd (false≢true e), λ h. sym c.if-not-has_assigned.true ∙ c.has_assigned.ensures.exact (crossing_assigned c.args.self.now c.args.crossing.now c.args.points.now (origin_in c.args.origin.now) h))

pub returns : goal.returns
returns c = let handing = c.args.self.now in let crossing = c.args.crossing.now in let points = c.args.points.now in let origin = origin_in c.args.origin.now in (
  λ e. crossing_tells handing crossing points origin
      (subst (λ ds. HasPairs handing ds crossing.arguments.items (length ds)) c.deref.ensures.value (subst (λ us. HasPairs handing c.deref.result.now us (length c.deref.result.now)) c.deref-2.ensures.value (c.has_pairs.ensures.told c.if-not-has_pairs.false)))
      (c.has_assigned.ensures.told c.if-not-has_assigned.false) (c.is_only.ensures.told e),
  λ h. c.is_only.ensures.exact (crossing_only handing crossing points origin h),
)
