use Rattle.std.proofs.Common.{inl, sym, subst, refl, Option}
use Rattle.jr_base.specs.declared.token.Place.{Place}
use Rattle.jr_rule.specs.declared.Rule.{Rule}
use Rattle.jr_front.specs.Broken.{IsBetterOf}
use Rattle.jr_front.proofs.broken.better_of.Goals as goal

pub returns-in_default : goal.returns-in_default
returns-in_default c = subst (λ (best : Option (Rule × Place)). IsBetterOf best (c.args.rule, c.args.place) (c.args.rule, c.args.place)) (sym c.in-Some.is) (inl (c.is_better.ensures.0 c.if-not-is_better.false, refl))
