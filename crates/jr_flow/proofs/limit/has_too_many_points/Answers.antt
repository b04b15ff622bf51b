use Rattle.std.proofs.Common.{◌∙◌, refl, sym, subst, arith, get_or, length}
use Rattle.std.specs.List.{Contains}
use Rattle.std.proofs.lemmas.Bool.{false≢true}
use Rattle.std.proofs.lemmas.List.Elements.{Contains-get_or}
use Rattle.jr_flow.specs.Views.{rows_in}
use Rattle.jr_flow.specs.Coded.{IsTooLarge}
use Rattle.jr_flow.proofs.Declaring.{body_below, one_more, of_each}
use Rattle.jr_flow.proofs.limit.has_too_many_points.Goals as goal

pub loop-body-init : goal.loop-body-init
loop-body-init c = λ m view tree k lt large. absurd (omega (arith, lt))

pub loop-body-preserved : goal.loop-body-preserved
loop-body-preserved c = λ m view tree. let rows = rows_in c.args.view.now in let all = c.deref-body-items.result.now in let i = c.loop-body.body-index in let lt = c.loop-body-test.true in
    let one = body_below rows (length rows) (get_or all i 0) (subst (λ xs. Contains xs (get_or all i 0)) (c.deref-body-items.ensures.value ∙ c.in_ok-all.ensures) (Contains-get_or all i 0 (omega (arith, lt)))) in
    one_more (λ body. IsTooLarge rows m body → ⊥) all i (λ large. false≢true (sym c.if-branch.false ∙ (c.in_ok-is_too_large.ensures m view tree one.0 one.1).1 large)) (c.loop-body.invariant m view tree)

pub returns-then-branch : goal.returns-then-branch
returns-then-branch c = λ m view tree. let rows = rows_in c.args.view.now in let all = c.deref-body-items.result.now in let i = c.loop-body.body-index in let lt = c.loop-body-test.true in
    let one = body_below rows (length rows) (get_or all i 0) (subst (λ xs. Contains xs (get_or all i 0)) (c.deref-body-items.ensures.value ∙ c.in_ok-all.ensures) (Contains-get_or all i 0 (omega (arith, lt)))) in
    ((λ e. record { body = get_or all i 0; few = one.0; has = one.1; large = (c.in_ok-is_too_large.ensures m view tree one.0 one.1).0 c.if-branch.true }), λ large. refl)

pub returns : goal.returns
returns c = λ m view tree. let rows = rows_in c.args.view.now in let all = c.deref-body-items.result.now in
    ((λ e. absurd (false≢true e)), λ large. absurd (of_each (λ body. IsTooLarge rows m body → ⊥) rows all c.loop-body.body-index (c.deref-body-items.ensures.value ∙ c.in_ok-all.ensures) (omega arith) (c.loop-body.invariant m view tree) large.body large.few large.has large.large))
