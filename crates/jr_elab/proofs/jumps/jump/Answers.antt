use Rattle.std.proofs.lemmas.Result.{on_ok_weaker}
use Rattle.jr_core.specs.declared.code.Code.TheVariants as v
use Rattle.jr_codes.specs.Reads.{facts}
use Rattle.jr_expressions.specs.Statements.{jump_of, jump_made}
use Rattle.jr_expressions.proofs.Standing.{along}
use Rattle.jr_elab.proofs.Stated.{jump_becomes}
use Rattle.jr_elab.proofs.jumps.jump.Goals as goal

pub returns-then-is_break : goal.returns-then-is_break
returns-then-is_break c = on_ok_weaker c.push.result (λ pushed. along (λ b parts. jump_made (jump_of b) (facts c.args.source.now) c.args.at c.args.has_label parts) c.if-is_break.true (jump_becomes v.Break c.args.has_label c.in_ok-label.ensures pushed)) c.push.ensures

pub returns-else-is_break : goal.returns-else-is_break
returns-else-is_break c = on_ok_weaker c.push-else-is_break.result (λ pushed. along (λ b parts. jump_made (jump_of b) (facts c.args.source.now) c.args.at c.args.has_label parts) c.if-is_break.false (jump_becomes v.Continue c.args.has_label c.in_ok-label.ensures pushed)) c.push-else-is_break.ensures
