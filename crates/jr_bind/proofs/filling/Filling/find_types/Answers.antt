use Rattle.std.proofs.Common.{sym, ◌∙◌, ap, subst, arith, None, length, slice_index_or}
use Rattle.jr_defs.specs.Referents.{entries}
use Rattle.jr_plain.specs.Typing.{expression_types}
use Rattle.jr_types.specs.Typed.{CanType}
use Rattle.jr_bind.proofs.Keeping.{written_over}
use Rattle.jr_bind.proofs.filling.Filling.find_types.Goals as goal

pub returns-clause-size : goal.returns-clause-size
returns-clause-size c =
    let filling = c.args.self.now in
    let kept = c.set_types.auto.types in
    let length_is = ap length c.deref_mut.ensures.value in
    ap length (written_over c.set_types.new.types filling.types.items filling.types.len (omega (arith, kept, length_is)) (omega (arith, filling.types.ok.0))) ∙ kept ∙ length_is

pub returns-clause-types : goal.returns-clause-types
returns-clause-types c = λ constant h size n.
    let filling = c.args.self.now in
    let known = c.args.known in
    let p = known.setting.rows.now in
    let kept = c.set_types.auto.types in
    let length_is = ap length c.deref_mut.ensures.value in
    ap (λ all. slice_index_or all n None) (written_over c.set_types.new.types filling.types.items filling.types.len (omega (arith, kept, length_is)) (omega (arith, filling.types.ok.0)))
    ∙ c.set_types.ensures constant
    (subst (λ table. CanType constant p (entries table) known.setting.places.now known.supers.now c.deref-2.result.now filling.string) (sym c.deref.ensures.value)
    (subst (λ ints. CanType constant p (entries filling.table.items) known.setting.places.now known.supers.now ints filling.string) (sym c.deref-2.ensures.value) h))
    (length_is ∙ size) n
    ∙ ap (λ table. expression_types p (entries table) constant n) c.deref.ensures.value
