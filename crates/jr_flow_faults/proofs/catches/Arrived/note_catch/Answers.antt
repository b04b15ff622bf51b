use Rattle.std.proofs.Common.{refl}
use Rattle.std.proofs.lemmas.Result.{on_ok_weaker}
use Rattle.jr_defs.specs.Referents.{entries}
use Rattle.jr_rule.specs.declared.Rule.TheVariants as rule
use Rattle.jr_faults.proofs.Told.{told_at}
use Rattle.jr_flow_faults.proofs.Arriving.{unthrown_told}
use Rattle.jr_flow_faults.proofs.catches.Arrived.note_catch.Goals as goal

pub returns-clause-unthrown : goal.returns-clause-unthrown
returns-clause-unthrown c = λ telling type_of completes all. on_ok_weaker c.rule_if.result
    (λ h. told_at rule.UnthrownCatch c.args.at (unthrown_told c.args.under.now c.args.supers.now c.args.roots c.args.self.now telling type_of completes all c.args.at c.in_ok-is_broken.is_broken
    (c.in_ok-is_broken.ensures (entries c.args.under.now.table.now) refl telling.sized telling.supers_are telling.roots_are telling.above)) h) c.rule_if.ensures.found
