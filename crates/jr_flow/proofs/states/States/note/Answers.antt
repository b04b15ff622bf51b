use Rattle.std.proofs.Common.{◌++◌, ◌∷◌, [], sym, subst}
use Rattle.jr_flow_defs.specs.Paths.{IsReached}
use Rattle.jr_flow_defs.specs.Edges.{body_flow}
use Rattle.jr_flow.specs.Pended.{lists_of}
use Rattle.jr_flow.specs.Places.{state_seen}
use Rattle.jr_flow.specs.Grouped.{AreGrouped}
use Rattle.jr_flow.proofs.Stating.{way_noted}
use Rattle.std.proofs.lemmas.Result.{err_from_is_err_and}
use Rattle.jr_flow.proofs.states.States.note.Goals as goal

pub returns-clause-done : goal.returns-clause-done
returns-clause-done c = λ m before groups ways k coded noted at_k reached. let p = c.args.rows.now in let body = c.args.code.now.body in
    let number = c.in_ok-to.ensures.done m coded noted.right (subst (λ q. IsReached (body_flow p m body) (state_seen (lists_of q) c.args.way.to)) (sym noted.pending) reached) in
    way_noted p m body before c.args.self.now c.number.new.self c.push.new.self groups ways k c.args.way c.in_ok-to.to noted at_k number
    (c.in_ok-push.ensures groups noted.group (subst (λ hs. AreGrouped hs (groups ++ noted.group ∷ [])) (sym number.hops) noted.grouped))

pub returns-in_err-to-clause-large : goal.returns-in_err-to-clause-large
returns-in_err-to-clause-large c = λ m before groups ways k coded noted at_k reached. let rows = c.args.rows.now in let body = c.args.code.now.body in
    let p = err_from_is_err_and c.from_residual.result c.from_residual.ensures.1 in rw (p.1, p.2) (c.in_err-to.ensures.large m coded noted.right (subst (λ q. IsReached (body_flow rows m body) (state_seen (lists_of q) c.args.way.to)) (sym noted.pending) reached))
