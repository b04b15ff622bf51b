use Rattle.std.proofs.Common.{◌∙◌, sym, ap}
use Rattle.jr_rules.specs.ObjectTests.{object_of}
use Rattle.jr_type_facts.specs.Facts.{rows_of, table_of}
use Rattle.jr_type_faults.proofs.Needing.{object_other}
use Rattle.jr_type_faults.proofs.objects.object_by.Goals as goal

pub returns-in-This : goal.returns-in-This
returns-in-This c = λ right. c.object_of_this.ensures right ∙ ap (object_of (rows_of c.args.facts.now) (table_of c.args.facts.now) c.args.at) (sym c.in-This.is)

pub returns-in-SuperSelect : goal.returns-in-SuperSelect
returns-in-SuperSelect c = λ right. c.innermost.ensures right ∙ ap (object_of (rows_of c.args.facts.now) (table_of c.args.facts.now) c.args.at) (sym c.in-SuperSelect.is)

pub returns-in-Call : goal.returns-in-Call
returns-in-Call c = λ right. c.object_of_call.ensures right ∙ ap (object_of (rows_of c.args.facts.now) (table_of c.args.facts.now) c.args.at) (sym c.in-Call.is)

pub returns-in_default : goal.returns-in_default
returns-in_default c = λ right. object_other (rows_of c.args.facts.now) (table_of c.args.facts.now) c.args.at c.args.label.now c.in_default.not-This c.in_default.not-SuperSelect c.in_default.not-Call
