use Rattle.std.proofs.Common.{◌≡◌, Some, sym, subst, ◌∙◌, cond, arith, length}
use Rattle.std.specs.HashMap.{get}
use Rattle.jr_flow.specs.Keys.{state_key, same_state}
use Rattle.jr_flow.specs.Located.{number_at}
use Rattle.jr_flow.proofs.Locating.{state_added}
use Rattle.jr_flow.proofs.locations.Locations.add.Goals as goal

pub returns : goal.returns
returns c = λ right fresh. let at : c.in-Ok.number ≡ length c.args.self.now.all.items = omega (arith, c.in-Ok.ensures.1, c.len.ensures, c.args.self.now.all.ok.0) in state_added c.args.self.now (record { numbers = c.insert.new.self; all = c.push.new.self }) c.args.state c.in-Ok.number right fresh c.in_ok-push.ensures.items at
    (λ x. subst (λ k. get same_state c.insert.new.self (state_key x) ≡ cond (same_state k (state_key x)) (Some c.in-Ok.number) (number_at c.args.self.now x)) c.key_of-key.ensures (c.in_ok-insert.ensures.updates.0 (state_key x)))
