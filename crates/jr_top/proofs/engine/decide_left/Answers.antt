use Rattle.std.proofs.Common.{refl, ap, length, arith}
use Rattle.jr_top.specs.Decisions.{files_differ, files_are_same}
use Rattle.jr_top.proofs.EngineAnswers.{no_steps}
use Rattle.jr_top.proofs.engine.decide_left.Goals as goal

pub returns-then-count-eq0 : goal.returns-then-count-eq0
returns-then-count-eq0 c = files_are_same {left = c.args.left.now} {plan = c.in-Ok.plan} refl c.requires c.in-Ok.ensures (no_steps c.in-Ok.plan.steps (omega (arith, c.count.ensures, c.if-count-eq0.true)))

pub returns-else-count-eq0 : goal.returns-else-count-eq0
returns-else-count-eq0 c = files_differ {left = c.args.left.now} {plan = c.in-Ok.plan} refl c.requires c.in-Ok.ensures (λ none. absurd (omega (arith, c.count.ensures, ap length none, c.if-count-eq0.false)))
