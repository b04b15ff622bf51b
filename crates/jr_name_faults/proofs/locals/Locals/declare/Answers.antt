use Rattle.std.proofs.Common.{refl}
use Rattle.jr_name_faults.proofs.Scoped.{few_rows, row_inside, tree_rows, declared_more}
use Rattle.jr_name_faults.proofs.locals.Locals.declare.Goals as goal

pub returns : goal.returns
returns c = λ p lt h. declared_more c.args.self.now _ c.name-name.result _ h lt (c.name-name.ensures p h.placed.are lt) refl refl refl
    (c.open_local.ensures (few_rows _ h) (row_inside _ h c.args.at lt) (tree_rows _ h)) (c.open_label.ensures (few_rows _ h) (row_inside _ h c.args.at lt))
    c.parameter_entry-entry.ensures c.in_ok-add_entry.ensures
