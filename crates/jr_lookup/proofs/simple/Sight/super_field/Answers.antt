use Rattle.std.proofs.Common.{refl}
use Rattle.jr_defs.specs.declared.referent.Referent.TheVariants.{Unbound}
use Rattle.jr_lookup.specs.Answers.{IsSuperField}
use Rattle.jr_lookup.proofs.Referring.{answer_all, answer_none, super_fields, no_super}
use Rattle.jr_lookup.proofs.simple.Sight.super_field.Goals as goal

pub returns-in_ok-rows-in-Some : goal.returns-in_ok-rows-in-Some
returns-in_ok-rows-in-Some c = λ t x world number. let p = c.args.self.now.world.under.rows.now in answer_all (λ d l. IsSuperField p t x c.args.place d l) _ _ Unbound _
    (super_fields p t x c.args.place c.args.name number c.in-Some.over _ (c.super_before.ensures t world) c.in-Some.is c.in_ok-rows-in-Some.rows.items _ (c.in_ok-rows-in-Some.ensures t world) refl) c.answer.ensures

pub returns-in-None : goal.returns-in-None
returns-in-None c = λ t x world number. answer_none (λ d l. IsSuperField c.args.self.now.world.under.rows.now t x c.args.place d l) Unbound _ (no_super c.args.self.now.world.under.rows.now t x c.args.place _ (c.super_before.ensures t world) c.in-None.is) refl
