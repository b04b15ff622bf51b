use Rattle.std.proofs.Common.{◌∙◌, sym, ap, subst, arith, None, length, slice_index_or}
use Rattle.jr_defs.specs.Referents.{entries}
use Rattle.jr_bind.specs.Exact.{AreFormed}
use Rattle.jr_bind.specs.Filled.{int_at}
use Rattle.jr_bind.proofs.Keeping.{written_over}
use Rattle.jr_bind.proofs.filling.Filling.find_constants.Goals as goal

pub returns-clause-size : goal.returns-clause-size
returns-clause-size c =
    let filling = c.args.self.now in
    let kept = c.set_ints.ensures.size in
    let length_is = ap length c.deref_mut.ensures.value in
    ap length (written_over c.set_ints.new.ints filling.ints.items filling.ints.len (omega (arith, kept, length_is)) (omega (arith, filling.ints.ok.0))) ∙ kept ∙ length_is

pub returns-clause-found : goal.returns-clause-found
returns-clause-found c = λ sized tree. subst (λ table. AreFormed c.args.known.setting.rows.now (entries table) c.in_ok-constants.constants.value) c.deref.ensures.value (c.in_ok-constants.ensures sized tree)

pub returns-clause-ints : goal.returns-clause-ints
returns-clause-ints c = λ sized tree size k.
    let filling = c.args.self.now in
    let kept = c.set_ints.ensures.size in
    let length_is = ap length c.deref_mut.ensures.value in
    let few = sized.few in
    ap (λ all. slice_index_or all k None) (written_over c.set_ints.new.ints filling.ints.items filling.ints.len (omega (arith, kept, length_is)) (omega (arith, filling.ints.ok.0)))
    ∙ c.set_ints.ensures.each (omega (arith, few, size, length_is)) (length_is ∙ size ∙ sym (c.in_ok-constants.ensures sized tree).at_rest.known.size ∙ ap (λ found. length found.values.items) (sym c.deref-2.ensures)) k
    ∙ ap (λ found. int_at found k) c.deref-2.ensures
