use Rattle.std.proofs.Common.{◌≡◌, None, Some, sym, subst, ◌∙◌, cond, arith}
use Rattle.std.specs.HashMap.{get}
use Rattle.jr_flow.specs.Keys.{waiting_key, same_waiting}
use Rattle.jr_flow.specs.Pended.{number_in}
use Rattle.jr_flow.proofs.Pended.{list_known, list_added}
use Rattle.jr_flow.proofs.pending.Pending.with.Goals as goal

pub returns-in-Some : goal.returns-in-Some
returns-in-Some c = λ h fits. list_known _ c.args.outer c.in-Some.known c.args.completion (sym c.find.ensures ∙ c.in-Some.is) h

pub returns : goal.returns
returns c = λ right fits. let absent : c.find.result ≡ None = search in
    list_added c.args.self.now (record { numbers = c.insert.new.self; lists = c.push.new.self }) c.args.outer c.in-Ok.number c.args.completion right (sym c.find.ensures ∙ absent) fits c.in_ok-push.ensures.items
    (omega (arith, c.in-Ok.ensures, c.len.ensures))
    (λ x. subst (λ k. get same_waiting c.insert.new.self (waiting_key x) ≡ cond (same_waiting k (waiting_key x)) (Some c.in-Ok.number) (number_in c.args.self.now x)) c.key_of-key.ensures (c.in_ok-insert.ensures.updates.0 (waiting_key x)))
