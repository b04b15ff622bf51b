use Rattle.std.proofs.Common.{◌∙◌, sym, ap}
use Rattle.jr_tree.specs.declared.label.Label.TheVariants as is
use Rattle.jr_rules.specs.ObjectTests.{object_of}
use Rattle.jr_type_facts.specs.Facts.{rows_of, table_of}
use Rattle.jr_type_faults.proofs.Needing.{call_other}
use Rattle.jr_type_faults.proofs.objects.object_of_call.Goals as goal

pub returns-in-Super : goal.returns-in-Super
returns-in-Super c = λ right. c.innermost.ensures right ∙ ap (λ r. object_of (rows_of c.args.facts.now) (table_of c.args.facts.now) c.args.at (is.Call r)) (sym c.in-Super.is)

pub returns-in_default : goal.returns-in_default
returns-in_default c = λ right. call_other (rows_of c.args.facts.now) (table_of c.args.facts.now) c.args.at c.args.receiver c.in_default.not-Super
