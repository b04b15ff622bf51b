use Rattle.std.proofs.Common.{◌≡◌, ◌∙◌, arith, length}
use Rattle.std.proofs.lemmas.Result.{IfOk-weaker}
use Rattle.jr_flow_faults.specs.Computed.{rows_in, table_in, constants_in}
use Rattle.jr_flow_faults.proofs.Gathering.{facts_told}
use Rattle.jr_flow_faults.proofs.facts.facts_of.Goals as goal

pub returns : goal.returns
returns c = λ local. let p = rows_in c.args.view.now in let whole : c.in-Ok.count ≡ length p = omega (arith, c.in-Ok.ensures) in IfOk-weaker c.facts_by.result _ _
    (λ made h. facts_told p (table_in c.args.view.now) (constants_in c.args.view.now) c.in-Ok.count _ _ _ made.items whole
    (c.deref.ensures.value ∙ c.in_ok-targets.ensures local whole) (c.deref-2.ensures.value ∙ c.in_ok-lasts.ensures) (c.deref-3.ensures.value ∙ c.in_ok-defaults.ensures) h)
    (c.facts_by.ensures whole)
