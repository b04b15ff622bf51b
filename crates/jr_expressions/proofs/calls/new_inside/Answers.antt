use Rattle.std.proofs.lemmas.Result.{on_ok_weaker}
use Rattle.jr_codes.specs.Reads.{facts}
use Rattle.jr_expressions.specs.Calls.{new_inside}
use Rattle.jr_expressions.proofs.Standing.{along}
use Rattle.jr_expressions.proofs.calls.new_inside.Goals as goal

pub returns : goal.returns
returns c = on_ok_weaker c.new_in.result (along (λ o parts. new_inside (facts c.args.source.now) c.args.row o parts) c.in_ok-this_at.ensures) c.new_in.ensures
