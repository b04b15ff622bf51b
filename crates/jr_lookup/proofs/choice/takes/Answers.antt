use Rattle.std.proofs.Common.{◌∙◌, refl, sym, ap, subst, arith, Some}
use Rattle.jr_plain.specs.Types.{parameters}
use Rattle.jr_supers.specs.Signatures.{AreSignatures}
use Rattle.jr_lookup.proofs.Fitting.{fit_start, second_lost, sizes_apart, fit_stop, fit_next, fit_end}
use Rattle.jr_lookup.proofs.choice.takes.Goals as goal

pub returns-in_default : goal.returns-in_default
returns-in_default c = λ t h m. let p = c.args.world.under.rows.now in second_lost p t (Some c.args.arguments.now) (parameters p t c.args.method) c.count.result c.in_default.is (c.count.ensures p t (subst (λ s. AreSignatures p t s) (sym c.signatures-signatures.ensures) h.members_are.signatures_are) m)

pub returns-then-arguments-count : goal.returns-then-arguments-count
returns-then-arguments-count c = λ t h m. let p = c.args.world.under.rows.now in sizes_apart p t (Some c.args.arguments.now) (parameters p t c.args.method) _ _ refl (sym (c.count.ensures p t (subst (λ s. AreSignatures p t s) (sym c.signatures-signatures.ensures) h.members_are.signatures_are) m) ∙ c.in-Some.is) c.if-arguments-count.true

pub loop-nth-init : goal.loop-nth-init
loop-nth-init c = λ t h m. let p = c.args.world.under.rows.now in fit_start p t (Some c.args.arguments.now) (parameters p t c.args.method)

pub returns-then-not-below : goal.returns-then-not-below
returns-then-not-below c = λ t h m. let p = c.args.world.under.rows.now in let signed = subst (λ s. AreSignatures p t s) (sym c.signatures-signatures.ensures) h.members_are.signatures_are in
    fit_stop p t (Some c.args.arguments.now) (parameters p t c.args.method) c.in-Some.count c.loop-nth.nth c.type_at-argument.result c.parameter-parameter.result c.is_below-below.result (ap Some c.if-arguments-count.false) (sym (c.count.ensures p t signed m) ∙ c.in-Some.is) (omega arith)
    c.type_at-argument.ensures (c.parameter-parameter.ensures p t signed m) (c.is_below-below.ensures t h.seen.above) c.if-not-below.true (c.loop-nth.invariant t h m)

pub loop-nth-preserved : goal.loop-nth-preserved
loop-nth-preserved c = λ t h m. let p = c.args.world.under.rows.now in let signed = subst (λ s. AreSignatures p t s) (sym c.signatures-signatures.ensures) h.members_are.signatures_are in
    fit_next p t (Some c.args.arguments.now) (parameters p t c.args.method) c.in-Some.count c.loop-nth.nth _ c.type_at-argument.result c.parameter-parameter.result c.is_below-below.result (ap Some c.if-arguments-count.false) (sym (c.count.ensures p t signed m) ∙ c.in-Some.is) (omega arith) (omega arith)
    c.type_at-argument.ensures (c.parameter-parameter.ensures p t signed m) (c.is_below-below.ensures t h.seen.above) c.if-not-below.false (c.loop-nth.invariant t h m)

pub returns : goal.returns
returns c = λ t h m. let p = c.args.world.under.rows.now in fit_end p t (Some c.args.arguments.now) (parameters p t c.args.method) c.in-Some.count c.loop-nth.nth (ap Some c.if-arguments-count.false) (sym (c.count.ensures p t (subst (λ s. AreSignatures p t s) (sym c.signatures-signatures.ensures) h.members_are.signatures_are) m) ∙ c.in-Some.is) (omega arith) (c.loop-nth.invariant t h m)
