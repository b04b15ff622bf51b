use Rattle.std.proofs.Common.{refl}
use Rattle.jr_defs.specs.declared.referent.Referent.TheVariants.{Unbound}
use Rattle.jr_lookup.specs.Answers.{IsCalled}
use Rattle.jr_lookup.proofs.Referring.{answer_all, answer_none}
use Rattle.jr_lookup.proofs.Calling.{constructor_some, no_constructor}
use Rattle.jr_lookup.proofs.simple.Sight.constructor.Goals as goal

pub returns-in_ok-rows-in-Some : goal.returns-in_ok-rows-in-Some
returns-in_ok-rows-in-Some c = λ t world can. let p = c.args.self.now.world.under.rows.now in answer_all (λ d l. IsCalled p t c.args.place c.args.which c.args.arguments.now d l) c.in_ok-rows-in-Some.rows.items _ Unbound _
    (constructor_some p t c.args.place c.in-Some.class c.args.which c.args.arguments.now _ (c.called_class.ensures t world) c.in-Some.is c.in_ok-rows-in-Some.rows.items _ (c.in_ok-rows-in-Some.ensures t world can) refl) c.answer.ensures

pub returns-in-None : goal.returns-in-None
returns-in-None c = λ t world can. let p = c.args.self.now.world.under.rows.now in answer_none (λ d l. IsCalled p t c.args.place c.args.which c.args.arguments.now d l) Unbound _
    (no_constructor p t c.args.place c.args.which c.args.arguments.now _ (c.called_class.ensures t world) c.in-None.is) refl
