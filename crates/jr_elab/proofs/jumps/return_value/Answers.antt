use Rattle.std.proofs.lemmas.Result.{on_ok_weaker}
use Rattle.jr_codes.specs.Reads.{facts}
use Rattle.jr_expressions.specs.Statements.{returned}
use Rattle.jr_expressions.proofs.Standing.{along}
use Rattle.jr_elab.proofs.Chosen.{value_becomes}
use Rattle.jr_elab.proofs.jumps.return_value.Goals as goal

pub returns-in_ok-converted-in-Some : goal.returns-in_ok-converted-in-Some
returns-in_ok-converted-in-Some c = on_ok_weaker c.push.result (λ pushed. along (λ o parts. returned o (facts c.args.source.now) parts) c.in-Some.is (value_becomes c.in_ok-converted-in-Some.ensures pushed)) c.push.ensures
