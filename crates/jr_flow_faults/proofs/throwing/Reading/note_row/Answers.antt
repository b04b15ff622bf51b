use Rattle.std.proofs.lemmas.Result.{on_ok_weaker}
use Rattle.jr_rule.specs.declared.Rule.TheVariants as rule
use Rattle.jr_faults.proofs.Told.{told_at}
use Rattle.jr_flow_faults.proofs.throwing.Reading.note_row.Goals as goal

pub returns-clause-arrived : goal.returns-clause-arrived
returns-clause-arrived c = λ reading lt before. on_ok_weaker c.rule_if.result (λ h. (c.in_ok-is_broken.ensures reading lt before).arrived) c.rule_if.ensures.others

pub returns-clause-uncaught : goal.returns-clause-uncaught
returns-clause-uncaught c = λ reading lt before. on_ok_weaker c.rule_if.result (λ h. told_at rule.UncaughtException c.args.at (c.in_ok-is_broken.ensures reading lt before).uncaught h) c.rule_if.ensures.found
