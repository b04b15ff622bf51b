use Rattle.std.proofs.Common.{refl, ◌∙◌, ap, length}
use Rattle.std.proofs.lemmas.Result.{IfOk-weaker}
use Rattle.jr_reach.specs.Statements.{entries}
use Rattle.jr_flow_faults.specs.Computed.{rows_in}
use Rattle.jr_extract.proofs.Throws.{all_told}
use Rattle.jr_extract.proofs.thrown.thrown_out.Goals as goal

pub returns : goal.returns
returns c = λ right. let facts = c.in_ok-facts.ensures right.local in let p = rows_in c.args.view.now in IfOk-weaker c.thrown_by.result _ _ (λ all h. all_told c.args.view.now c.args.run all.items right h)
    (c.thrown_by.ensures right (record {
      rows_are = refl;
      facts_are = c.deref-2.ensures.value ∙ facts;
      all_are = c.deref-3.ensures.value ∙ c.in_ok-all.ensures ∙ ap (λ f. entries p f (length p)) (c.deref.ensures.value ∙ facts);
    }))
