use Rattle.std.proofs.Common.{◌∙◌, sym, ap}
use Rattle.std.proofs.lemmas.Bool.{ltb-true, ltb-false}
use Rattle.jr_plain.proofs.Bounds.{label_past}
use Rattle.jr_types.proofs.Operands.{label_of}
use Rattle.jr_rules.specs.ObjectTests.{object_of}
use Rattle.jr_type_facts.specs.Facts.{rows_of, table_of}
use Rattle.jr_type_faults.proofs.objects.object_of.Goals as goal

pub returns-in-Some : goal.returns-in-Some
returns-in-Some c = λ right. c.object_by.ensures right ∙ ap (object_of (rows_of c.args.facts.now) (table_of c.args.facts.now) c.args.at)
    (sym (label_of (rows_of c.args.facts.now) c.args.at c.in-Some.row.now (ltb-true _ _ (sym c.in-Some.ensures.lookup.0)) c.in-Some.ensures.lookup.1))

pub returns-in-None : goal.returns-in-None
returns-in-None c = λ right. sym (ap (object_of (rows_of c.args.facts.now) (table_of c.args.facts.now) c.args.at) (label_past (rows_of c.args.facts.now) c.args.at (ltb-false _ _ (sym c.in-None.ensures.lookup.0))))
