use Rattle.std.proofs.Common.{◌≡◌, ◌∙◌, sym, ap, Some, None, slice_get}
use Rattle.jr_flow.specs.Stated.{states_of}
use Rattle.jr_flow.proofs.Stating.{exploring_next, exploring_ends}
use Rattle.std.proofs.lemmas.Result.{err_from_is_err_and}
use Rattle.jr_flow.proofs.states.States.explore.Goals as goal

pub loop-number-init : goal.loop-number-init
loop-number-init c = λ m coded e. e

pub loop-number-preserved : goal.loop-number-preserved
loop-number-preserved c = λ m coded begun. let e = c.loop-number.invariant m coded begun in let at_n = sym c.get.ensures ∙ c.in-Some.is in
    exploring_next c.args.rows.now m c.args.code.now.body c.loop-number.self c.turn.new.self c.loop-number.number c.in-Some.state e at_n
    (c.in_ok-turn.ensures.done m e.groups coded e.turned (ap (slice_get (states_of c.loop-number.self)) e.count ∙ at_n))

pub returns-in_default-clause-done : goal.returns-in_default-clause-done
returns-in_default-clause-done c = λ m coded begun. let e = c.loop-number.invariant m coded begun in let none : c.get.result ≡ None = search in
    exploring_ends c.args.rows.now m c.args.code.now.body c.loop-number.self c.begin.new.self c.loop-number.number e (sym c.get.ensures ∙ none) (c.in_ok-begin.ensures e.groups e.turned.grouped)

pub returns-in_err-turn-clause-large : goal.returns-in_err-turn-clause-large
returns-in_err-turn-clause-large c = λ m coded begun. let e = c.loop-number.invariant m coded begun in let at_n = sym c.get.ensures ∙ c.in-Some.is in
    let p = err_from_is_err_and c.from_residual-in_err-turn.result c.from_residual-in_err-turn.ensures.1 in rw (p.1, p.2) (c.in_err-turn.ensures.large m e.groups coded e.turned (ap (slice_get (states_of c.loop-number.self)) e.count ∙ at_n))
