use Rattle.std.proofs.Common.{refl, ◌∙◌, ap, cond, Some}
use Rattle.std.specs.Prelude.{is_some}
use Rattle.std.specs.HashMap.{get}
use Rattle.std.proofs.Math.Facts.{to_z-of_z}
use Rattle.jr_type_facts.specs.Cases.{same_key}
use Rattle.jr_type_facts.proofs.repeated.Met.meet_number.Goals as goal

pub returns-clause-met : goal.returns-clause-met
returns-clause-met c = record {
  updates = λ q. c.in_ok-earlier.ensures.updates.0 q ∙ ap (λ z. cond (same_key (c.args.over, z) q) (Some c.args.at) (get same_key c.args.self.now.values q)) (to_z-of_z c.ranges.number);
  kept = refl;
}

pub returns-clause-told : goal.returns-clause-told
returns-clause-told c = c.is_some.ensures ∙ ap is_some (c.in_ok-earlier.ensures.old ∙ ap (λ z. get same_key c.args.self.now.values (c.args.over, z)) (to_z-of_z c.ranges.number))
