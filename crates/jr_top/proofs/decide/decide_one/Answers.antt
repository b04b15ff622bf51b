use Rattle.std.proofs.Common.{inl, inr, sym, subst}
use Rattle.jr_base.specs.declared.request.Request.{Request}
use Rattle.jr_top.specs.Decisions.{DecidesOne}
use Rattle.jr_top.specs.Engine.{IsPassedOn}
use Rattle.jr_top.proofs.Choosing.{passed_on, passed_other}
use Rattle.jr_top.proofs.decide.decide_one.Goals as goal

pub returns-in-None-clause-decision : goal.returns-in-None-clause-decision
returns-in-None-clause-decision g c =
    let S = g.S.Store in
    let told = S.files c.args.store.now in
    let left : IsPassedOn c.args.request.now told = subst (λ (r : Request). IsPassedOn r told) (sym c.in-Rename.is) c.in-None.ensures.decision in
    passed_on c.args.request.now told (S.files c.decide_rename.new.store) (S.faults c.args.store.now) (S.faults c.decide_rename.new.store) (S.faults c.decide_all.new.store) c.decide_all.result left c.decide_rename.ensures.files
    c.decide_rename.ensures.later c.decide_all.ensures.decision

pub returns-in-Some-clause-decision : goal.returns-in-Some-clause-decision
returns-in-Some-clause-decision g c =
    let S = g.S.Store in
    let told = S.files c.args.store.now in
    let before = S.faults c.args.store.now in
    let after = S.faults c.decide_rename.new.store in
    subst (λ (r : Request). DecidesOne r told before after c.in-Some.decision) (sym c.in-Rename.is) (inl c.in-Some.ensures.decision)

pub returns-in_default-clause-decision : goal.returns-in_default-clause-decision
returns-in_default-clause-decision g c = inr (passed_other c.args.request.now (g.S.Store.files c.args.store.now) c.in_default.not-Rename, c.decide_all-in_default.ensures.decision)
