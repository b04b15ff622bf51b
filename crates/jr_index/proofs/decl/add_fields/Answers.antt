use Rattle.std.proofs.Common.{ap}
use Rattle.jr_tree.specs.Mirror.Stmts as s
use Rattle.jr_index.specs.Events as e
use Rattle.jr_index.proofs.Adding.{goes_on, adds_two, rest_is}
use Rattle.jr_index.proofs.decl.add_fields.Goals as goal

pub loop-field-preserved : goal.loop-field-preserved
loop-field-preserved c = goes_on c.loop-field.invariant (ap (λ xs. e.fields_events c.loop-field.commas c.args.mods.now (s.plain_declarators xs)) (rest_is c.args.fields.now c.loop-field.field-index c.field-item.result c.loop-field-test.true c.field-item.is)) (adds_two c.pass.ensures c.add_field.ensures)
