use Rattle.std.proofs.Common.{◌∙◌, sym, ap}
use Rattle.jr_tree.specs.declared.label.Label.TheVariants as is
use Rattle.jr_rules.specs.ObjectTests.{object_of}
use Rattle.jr_type_facts.specs.Facts.{rows_of, table_of}
use Rattle.jr_type_faults.proofs.objects.object_of_this.Goals as goal

pub returns-then-is_qualified : goal.returns-then-is_qualified
returns-then-is_qualified c = λ right. c.named_type.ensures right.sized.few ∙ ap (λ b. object_of (rows_of c.args.facts.now) (table_of c.args.facts.now) c.args.at (is.This b)) (sym c.if-is_qualified.true)

pub returns-else-is_qualified : goal.returns-else-is_qualified
returns-else-is_qualified c = λ right. c.innermost.ensures right ∙ ap (λ b. object_of (rows_of c.args.facts.now) (table_of c.args.facts.now) c.args.at (is.This b)) (sym c.if-is_qualified.false)
