use Rattle.std.proofs.Common.{◌≡◌, sym, ◌∙◌, subst, ap, slice_get, Some, []}
use Rattle.jr_flow_defs.specs.Paths.{IsReached}
use Rattle.jr_flow_defs.specs.Edges.{body_flow}
use Rattle.jr_flow_defs.specs.States.{at}
use Rattle.jr_flow.specs.Pended.{lists_of}
use Rattle.jr_flow.specs.Stated.{states_of}
use Rattle.jr_flow.proofs.Stating.{begun_states, entry_found}
use Rattle.std.proofs.lemmas.Result.{err_from_is_err_and}
use Rattle.jr_flow.proofs.states.States.enter.Goals as goal

pub returns-clause-done : goal.returns-clause-done
returns-clause-done c = λ m coded begun. let p = c.args.rows.now in let body = c.args.code.now.body in let old = c.args.self.now in let new = c.number.new.self in
    let is = c.before-2.ensures (lists_of old.pending) ∙ ap (λ b. at b 0 []) c.body.ensures in
    let h = c.in_ok-number.ensures.done m coded (begun_states p m body old begun) (subst (IsReached (body_flow p m body)) (sym is) IsReached.start) in
    entry_found p m body old new c.before-2.result c.in_ok-number.number begun h (subst (λ k. slice_get (states_of new) k ≡ Some c.before-2.result) c.if-number-ne0.false h.stands) (c.before-2.ensures (lists_of new.pending) ∙ ap (λ b. at b 0 []) c.body.ensures)

pub returns-in_err-number-clause-large : goal.returns-in_err-number-clause-large
returns-in_err-number-clause-large c = λ m coded begun. let rows = c.args.rows.now in let body = c.args.code.now.body in let old = c.args.self.now in
    let is = c.before-2.ensures (lists_of old.pending) ∙ ap (λ b. at b 0 []) c.body.ensures in
    let p = err_from_is_err_and c.from_residual.result c.from_residual.ensures.1 in rw (p.1, p.2) (c.in_err-number.ensures.large m coded (begun_states rows m body old begun) (subst (IsReached (body_flow rows m body)) (sym is) IsReached.start))
