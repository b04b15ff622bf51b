use Rattle.std.proofs.Common.{◌≤◌, length, arith}
use Rattle.jr_edits.proofs.Apart.{from_inside}
use Rattle.jr_edits.proofs.Written.{on_edit}
use Rattle.jr_edits.proofs.edits.apply_all.Goals as goal

pub slice_bounds-extend_from_slice-end : goal.slice_bounds-extend_from_slice-end
slice_bounds-extend_from_slice-end c =
    let edit = c.edit-item.result in
    let bytes = c.args.bytes.now in
    let here = (on_edit bytes c.args.edits.now c.loop-edit.edit-index edit c.loop-edit.at c.loop-edit.new.items c.loop-edit-test.true c.edit-item.is c.loop-edit.invariant).apart in
    let above : edit.span.end ≤ length bytes = from_inside edit.span.end (length bytes) _ here.2 in
    let inside : edit.span.start ≤ length bytes = omega arith in
    omega arith
