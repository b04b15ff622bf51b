use Rattle.std.proofs.Common.{◌∙◌, ap, sym}
use Rattle.jr_tree.specs.Rows.{label}
use Rattle.jr_defs.specs.Referents.{entries}
use Rattle.jr_plain.specs.Typing.{typed_by}
use Rattle.jr_types.specs.Typed.{types_in}
use Rattle.jr_bind.proofs.Keeping.{can_read}
use Rattle.jr_bind.proofs.filling.Filling.type_of.Goals as goal

pub returns : goal.returns
returns c = λ constant can.
    c.type_of.ensures constant (can_read c.args.known.setting.rows.now constant c.args.known.setting.places.now c.args.known.supers.now _ _ _ _ _ (sym c.deref.ensures.value) (sym c.deref-3.ensures.value) can)
    ∙ ap (λ table. typed_by c.args.known.setting.rows.now (entries table) constant (types_in c.deref-2.result.now) c.args.at (label c.args.known.setting.rows.now c.args.at)) c.deref.ensures.value
    ∙ ap (λ types. typed_by c.args.known.setting.rows.now (entries c.args.self.now.table.items) constant (types_in types) c.args.at (label c.args.known.setting.rows.now c.args.at)) c.deref-2.ensures.value
