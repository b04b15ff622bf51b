use Rattle.std.proofs.Common.{◌+◌, ◌<◌, ◌^◌, ℕ, sym, ◌∙◌, ap, subst, IfSome, IfNone}
use Rattle.jr_tree.specs.Rows.{end}
use Rattle.jr_kept.specs.Named.{origin_in}
use Rattle.jr_kept.specs.Handed.{IsAddedAt}
use Rattle.jr_kept.proofs.handing.Crossing.of.Goals as goal

pub returns-clause-is : goal.returns-clause-is
returns-clause-is c = λ few_call few_method few_statement. let flows = c.args.flows.now in let q = flows.rows.now in let method = c.args.method in let origin = origin_in flows.origin.now in
    let range = c.rows_of-range.result in let found = c.first_added-returned.result in record {
      parameters = c.in_ok-parameters.ensures few_method;
      arguments = c.in_ok-arguments.ensures few_call;
      statement = (c.rows_of.ensures.first ∙ c.statement_round.ensures, c.rows_of.ensures.end (subst (λ n. n + 1 < 2 ^ 32) (sym c.statement_round.ensures) few_statement) ∙ ap (end q) c.statement_round.ensures);
      inside = (c.rows_of-range.ensures.first, c.rows_of-range.ensures.end few_method);
      returned = subst (λ n. IfSome found (λ k. IsAddedAt flows.after.now.points.items n (end q method) origin k)) c.rows_of-range.ensures.first
          (subst (λ n. IfSome found (λ k. IsAddedAt flows.after.now.points.items range.first n origin k)) (c.rows_of-range.ensures.end few_method)
          (subst (λ ps. IfSome found (λ k. IsAddedAt ps range.first range.end origin k)) c.as_slice.ensures.value c.first_added-returned.ensures.some));
    }

pub returns-clause-none : goal.returns-clause-none
returns-clause-none c = λ few_method. let flows = c.args.flows.now in let q = flows.rows.now in let method = c.args.method in let origin = origin_in flows.origin.now in
    let range = c.rows_of-range.result in let found = c.first_added-returned.result in
    subst (λ n. IfNone found ((k : ℕ) → IsAddedAt flows.after.now.points.items n (end q method) origin k → ⊥)) c.rows_of-range.ensures.first
    (subst (λ n. IfNone found ((k : ℕ) → IsAddedAt flows.after.now.points.items range.first n origin k → ⊥)) (c.rows_of-range.ensures.end few_method)
    (subst (λ ps. IfNone found ((k : ℕ) → IsAddedAt ps range.first range.end origin k → ⊥)) c.as_slice.ensures.value c.first_added-returned.ensures.none))
