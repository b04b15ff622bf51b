use Rattle.std.proofs.Common.{sym, ◌∙◌, refl}
use Rattle.std.proofs.lemmas.Result.{IfOk-weaker}
use Rattle.jr_defs.specs.declared.referent.Referent.TheVariants.{Unbound}
use Rattle.jr_plain.specs.Modifiers.{is_inner}
use Rattle.jr_plain.proofs.Modified.{inner_tells}
use Rattle.jr_lookup.specs.Answers.{IsCreated}
use Rattle.jr_lookup.proofs.Referring.{answer_none}
use Rattle.jr_lookup.proofs.Calling.{created_free, created_inner, never_created}
use Rattle.jr_lookup.proofs.simple.Sight.creation.Goals as goal

pub returns-then-not-is_inner : goal.returns-then-not-is_inner
returns-then-not-is_inner c = λ t world can. let p = c.args.self.now.world.under.rows.now in IfOk-weaker c.created.result _ _
    (λ a h. created_free p t c.args.place c.args.class c.args.arguments.now a (is_inner p c.args.class) (inner_tells p c.args.class) (sym c.is_inner.ensures ∙ c.if-not-is_inner.true) h) (c.created.ensures t world can)

pub returns-in-Some : goal.returns-in-Some
returns-in-Some c = λ t world can. let p = c.args.self.now.world.under.rows.now in IfOk-weaker c.created-in-Some.result _ _
    (λ a h. created_inner p t c.args.place c.args.class c.args.arguments.now a (is_inner p c.args.class) (inner_tells p c.args.class) (sym c.is_inner.ensures ∙ c.if-not-is_inner.false) c.in_ok-level.level _ (c.in_ok-level.ensures t world) c.in-Some.is h) (c.created-in-Some.ensures t world can)

pub returns-in-None : goal.returns-in-None
returns-in-None c = λ t world can. let p = c.args.self.now.world.under.rows.now in answer_none (λ d l. IsCreated p t c.args.place c.args.class c.args.arguments.now d l) Unbound _
    (never_created p t c.args.place c.args.class (is_inner p c.args.class) (inner_tells p c.args.class) (sym c.is_inner.ensures ∙ c.if-not-is_inner.false) c.in_ok-level.level (c.in_ok-level.ensures t world) c.in-None.is c.args.arguments.now) refl
