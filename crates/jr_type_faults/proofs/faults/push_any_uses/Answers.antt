use Rattle.std.proofs.Common.{◌∙◌, sym, ap}
use Rattle.jr_type_faults.specs.Faults.{uses}
use Rattle.jr_type_faults.specs.Groups.{may_break_uses}
use Rattle.jr_type_faults.proofs.Told.{only_start}
use Rattle.jr_type_faults.proofs.Passing.{uses_passed}
use Rattle.jr_type_faults.proofs.faults.push_any_uses.Goals as goal

pub returns-then-not-may_break_uses-clause-exact : goal.returns-then-not-may_break_uses-clause-exact
returns-then-not-may_break_uses-clause-exact c = λ can small. uses_passed c.args.facts.now.view c.args.at c.args.out.now.items (ap (λ q. may_break_uses q c.args.at) (sym c.rows.ensures) ∙ sym c.may_break_uses.ensures ∙ c.if-not-may_break_uses.true)

pub returns-then-not-may_break_uses-clause-only : goal.returns-then-not-may_break_uses-clause-only
returns-then-not-may_break_uses-clause-only c = only_start uses c.args.out.now.items
