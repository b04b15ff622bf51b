use Rattle.std.proofs.Common.{◌≡◌, ◌∙◌, ap, ◌<◌, ◌^◌, arith, length}
use Rattle.std.proofs.lemmas.Result.{IfOk-weaker}
use Rattle.jr_flow_faults.specs.Computed.{facts_in}
use Rattle.jr_assign_faults.specs.Changed.{rows_in, table_in, operands}
use Rattle.jr_assign_faults.proofs.Known.{facts_read}
use Rattle.jr_assign_faults.proofs.facts.assign_facts_of.Goals as goal

pub returns : goal.returns
returns c = λ known. let p = rows_in c.args.view.now in let whole : c.in-Ok.count ≡ length p = omega (arith, c.in-Ok.ensures) in let few : length p < 2 ^ 32 = omega (arith, c.in-Ok.ensures) in
    IfOk-weaker c.facts_by.result _ _
    (λ made h. facts_read p (table_in c.args.view.now) c.args.flow.now (facts_in c.args.view.now) c.deref.result.now c.deref-2.result.now c.deref-3.result.now c.in-Ok.count made.items whole
    known (c.deref.ensures.value ∙ c.in_ok-members.ensures) (c.deref-2.ensures.value ∙ c.in_ok-operands.ensures few ∙ ap (λ k. operands p k) whole) h)
    (c.facts_by.ensures few)
