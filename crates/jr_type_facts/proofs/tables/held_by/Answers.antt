use Rattle.std.proofs.Common.{◌∙◌, sym, ap}
use Rattle.std.proofs.lemmas.Bool.{ltb-true, ltb-false}
use Rattle.jr_rules.specs.PlaceTests.{held_by}
use Rattle.jr_types.proofs.Operands.{label_of}
use Rattle.jr_type_facts.specs.Views.{rows_in, table_in, types_in}
use Rattle.jr_type_facts.proofs.Tabling.{held_past}
use Rattle.jr_type_facts.proofs.tables.held_by.Goals as goal

pub returns-in-Some : goal.returns-in-Some
returns-in-Some c = λ sized. c.held_by_label.ensures sized ∙ ap (held_by (rows_in c.args.view.now) (table_in c.args.view.now) (types_in c.args.view.now) c.args.over c.args.of_list)
    (sym (label_of (rows_in c.args.view.now) c.args.over c.in-Some.row.now (ltb-true _ _ (sym c.in-Some.ensures.lookup.0)) c.in-Some.ensures.lookup.1))

pub returns-in-None : goal.returns-in-None
returns-in-None c = λ sized. held_past (rows_in c.args.view.now) (table_in c.args.view.now) (types_in c.args.view.now) c.args.over c.args.of_list (ltb-false _ _ (sym c.in-None.ensures.lookup.0))
