use Rattle.std.proofs.Common.{◌≡◌, refl, length, arith}
use Rattle.jr_flow.proofs.Counted.{number_pushed}
use Rattle.jr_flow.proofs.numbering.Numbering.push.Goals as goal

pub returns-clause-taken : goal.returns-clause-taken
returns-clause-taken c = λ body own other. let old = c.args.self.now in let at : c.in-Ok.number ≡ length old.points.items = omega (arith, c.in-Ok.ensures.1, c.len.ensures, c.args.self.now.points.ok.0) in
    number_pushed body old (record { points = c.push.new.self; taken = old.taken; numbers = old.numbers; count = old.count }) c.args.point c.in-Ok.number own other at c.in_ok-push.ensures.items refl refl
