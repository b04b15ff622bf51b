use Rattle.std.proofs.Common.{◌∙◌, sym, ap, subst, arith, Some}
use Rattle.jr_plain.specs.Types.{parameters}
use Rattle.jr_supers.specs.Signatures.{AreSignatures}
use Rattle.jr_lookup.proofs.Fitting.{fit_start, first_lost, second_lost, sizes_apart, fit_stop, fit_next, fit_end}
use Rattle.jr_lookup.proofs.choice.is_more_specific.Goals as goal

pub returns-in_default : goal.returns-in_default
returns-in_default c = λ t h m k. let p = c.args.world.under.rows.now in first_lost p t (parameters p t c.args.method) (parameters p t c.args.other) c.count.result c.in_default.is (c.count.ensures p t (subst (λ s. AreSignatures p t s) (sym c.signatures-signatures.ensures) h.members_are.signatures_are) m)

pub returns-in_default-count : goal.returns-in_default-count
returns-in_default-count c = λ t h m k. let p = c.args.world.under.rows.now in second_lost p t (parameters p t c.args.method) (parameters p t c.args.other) c.count-2.result c.in_default-count.is (c.count-2.ensures p t (subst (λ s. AreSignatures p t s) (sym c.signatures-signatures.ensures) h.members_are.signatures_are) k)

pub returns-then-count-others : goal.returns-then-count-others
returns-then-count-others c = λ t h m k. let p = c.args.world.under.rows.now in let signed = subst (λ s. AreSignatures p t s) (sym c.signatures-signatures.ensures) h.members_are.signatures_are in
    sizes_apart p t (parameters p t c.args.method) (parameters p t c.args.other) c.in-Some.count c.in-Some-count.others (sym (c.count.ensures p t signed m) ∙ c.in-Some.is) (sym (c.count-2.ensures p t signed k) ∙ c.in-Some-count.is) c.if-count-others.true

pub loop-nth-init : goal.loop-nth-init
loop-nth-init c = λ t h m k. let p = c.args.world.under.rows.now in fit_start p t (parameters p t c.args.method) (parameters p t c.args.other)

pub returns-then-not-below : goal.returns-then-not-below
returns-then-not-below c = λ t h m k. let p = c.args.world.under.rows.now in let signed = subst (λ s. AreSignatures p t s) (sym c.signatures-signatures.ensures) h.members_are.signatures_are in
    fit_stop p t (parameters p t c.args.method) (parameters p t c.args.other) c.in-Some.count c.loop-nth.nth _ _ _ (sym (c.count.ensures p t signed m) ∙ c.in-Some.is) (sym (c.count-2.ensures p t signed k) ∙ (c.in-Some-count.is ∙ ap Some (sym c.if-count-others.false))) (omega arith)
    (c.parameter-first.ensures p t signed m) (c.parameter-second.ensures p t signed k) (c.is_below-below.ensures t h.seen.above) c.if-not-below.true (c.loop-nth.invariant t h m k)

pub loop-nth-preserved : goal.loop-nth-preserved
loop-nth-preserved c = λ t h m k. let p = c.args.world.under.rows.now in let signed = subst (λ s. AreSignatures p t s) (sym c.signatures-signatures.ensures) h.members_are.signatures_are in
    fit_next p t (parameters p t c.args.method) (parameters p t c.args.other) c.in-Some.count c.loop-nth.nth _ _ _ _ (sym (c.count.ensures p t signed m) ∙ c.in-Some.is) (sym (c.count-2.ensures p t signed k) ∙ (c.in-Some-count.is ∙ ap Some (sym c.if-count-others.false))) (omega arith) (omega arith)
    (c.parameter-first.ensures p t signed m) (c.parameter-second.ensures p t signed k) (c.is_below-below.ensures t h.seen.above) c.if-not-below.false (c.loop-nth.invariant t h m k)

pub returns : goal.returns
returns c = λ t h m k. let p = c.args.world.under.rows.now in let signed = subst (λ s. AreSignatures p t s) (sym c.signatures-signatures.ensures) h.members_are.signatures_are in
    fit_end p t (parameters p t c.args.method) (parameters p t c.args.other) c.in-Some.count c.loop-nth.nth (sym (c.count.ensures p t signed m) ∙ c.in-Some.is) (sym (c.count-2.ensures p t signed k) ∙ (c.in-Some-count.is ∙ ap Some (sym c.if-count-others.false))) (omega arith) (c.loop-nth.invariant t h m k)
