use Rattle.std.proofs.Common.{inr, List, subst}
use Rattle.jr_base.specs.declared.request.Request.{Request}
use Rattle.jr_top.specs.Decisions.{DecidesAll}
use Rattle.jr_top.proofs.decide.decide_input.Goals as goal

pub returns-in-Requests-clause-decision : goal.returns-in-Requests-clause-decision
returns-in-Requests-clause-decision g c =
    let S = g.S.Store in
    let heard = c.in-Requests.ensures.answer in
    inr (
      c.in-Requests.requests.items,
      heard,
      subst (λ (rs : List Request). DecidesAll rs (S.files c.args.store.now) (S.faults c.args.store.now) (S.faults c.decide_all.new.store) c.decide_all.result) c.deref.ensures.value c.decide_all.ensures.decision,
    )
