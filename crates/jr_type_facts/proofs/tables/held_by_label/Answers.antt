use Rattle.std.proofs.Common.{◌∙◌, sym, ap}
use Rattle.jr_rules.specs.PlaceTests.{held_by}
use Rattle.jr_type_facts.specs.Views.{rows_in, table_in, types_in}
use Rattle.jr_type_facts.proofs.Tabling.{held_other}
use Rattle.jr_type_facts.proofs.tables.held_by_label.Goals as goal

pub returns-in_default : goal.returns-in_default
returns-in_default c = λ sized. c.variable_type.ensures sized ∙ held_other (rows_in c.args.view.now) (table_in c.args.view.now) (types_in c.args.view.now) c.args.over c.args.of_list c.args.label.now c.in_default.not-List c.in_default.not-NewArray

pub returns-in-List : goal.returns-in-List
returns-in-List c = λ sized. c.item_type.ensures ∙ ap (held_by (rows_in c.args.view.now) (table_in c.args.view.now) (types_in c.args.view.now) c.args.over c.args.of_list) (sym c.in-List.is)

pub returns-in-NewArray : goal.returns-in-NewArray
returns-in-NewArray c = λ sized. c.type_of.ensures ∙ ap (held_by (rows_in c.args.view.now) (table_in c.args.view.now) (types_in c.args.view.now) c.args.over c.args.of_list) (sym c.in-NewArray.is)
