use Rattle.std.proofs.Common.{◌≡◌, ◌-◌, ap, sym, ◌∙◌, length, take, drop, get_or}
use Rattle.jr_base.specs.declared.ty.Ty.TheVariants.{rolls-Array}
use Rattle.jr_base.specs.declared.ty.Ty.TheOpen.{Ty-F}
use Rattle.jr_base.specs.declared.ty.Ty.TheFolds.{fold-roll-Ty}
use Rattle.jr_base.specs.Mirror as t
use Rattle.jr_base.specs.Mirror.{plain_ty}
use Rattle.jr_machine_ops.proofs.Counting.{deeper, split_first}
use Rattle.jr_machine_ops.proofs.arrays.+push_arrays.Goals as goal

pub returns-in_ok-push_arrays-in-Array-len1-up : goal.returns-in_ok-push_arrays-in-Array-len1-up
returns-in_ok-push_arrays-in-Array-len1-up h c =
    let sizes = c.args.sizes.now in
    let item = plain_ty c.get-then-rest-gt0.result.now in
    let same : c.get.result.now ≡ c.get-then-rest-gt0.result.now = c.get.ensures ∙ sym c.get-then-rest-gt0.ensures in
    let array : plain_ty c.args.ty.now ≡ t.Array (plain_ty c.in-Array-len1-up.item) = ap plain_ty (c.in-Array-len1-up.is-0 ∙ sym (rolls-Array c.in-Array-len1-up.item)) ∙ fold-roll-Ty t.Ty t.ty_step (Ty-F.Array c.in-Array-len1-up.item) in
    let level = rw same at c.in_ok-total-in-Array-len1-up.ensures.cells in
    deeper c.args.cells.now c.push_next.new.cells c.push_arrays.new.cells (plain_ty c.args.ty.now) item c.args.count (get_or sizes 0 0) c.in_ok-total-in-Array-len1-up.total sizes (take (length sizes - 1) (drop 1 sizes))
    (array ∙ ap (λ y. t.Array (plain_ty y)) (sym c.get-then-rest-gt0.ensures)) (split_first sizes c.in-Array-len1-up.len_at_least) c.if-rest-gt0.true c.in_ok-total-in-Array-len1-up.ensures.total
    level c.in_ok-push_arrays-in-Array-len1-up.ensures
