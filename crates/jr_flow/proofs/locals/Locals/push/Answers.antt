use Rattle.std.proofs.Common.{◌≡◌, refl, arith, length}
use Rattle.jr_flow.proofs.Weaving.{local_added}
use Rattle.jr_flow.proofs.locals.Locals.push.Goals as goal

pub returns : goal.returns
returns c = λ right fresh. let old = c.args.self.now in let at : c.in-Ok.number ≡ length old.rows.items = omega (arith, c.in-Ok.ensures.1, c.len.ensures, old.rows.ok.0) in
    local_added old (record { numbers = c.insert.new.self; rows = c.push.new.self; definitions = old.definitions; uses = old.uses }) c.args.local c.in-Ok.number right fresh c.in_ok-push.ensures.items at (λ d. c.in_ok-insert.ensures.updates.0 d) refl refl
