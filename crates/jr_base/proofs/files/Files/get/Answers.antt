use Rattle.std.proofs.Common.{◌<◌, ◌∙◌, sym, ap, length, arith, Some}
use Rattle.std.specs.FinMap as map
use Rattle.std.specs.Ordering.{nat_cmp}
use Rattle.std.specs.Cmp.Lexicographic.{slice_cmp}
use Rattle.jr_base.specs.Files.{plain}
use Rattle.jr_base.proofs.Entries.{find_at, find_before, bytes_read, T-from_IsTrue, plain-length, place_of}
use Rattle.jr_base.proofs.files.Files.get.Goals as goal

pub returns-in-Ok : goal.returns-in-Ok
returns-in-Ok c =
    let es = c.self.inside.entries.items in
    let at = place_of _ _ _ es _ _ c.bytes.ensures c.deref.ensures.value c.in-Ok.is c.find_slot.ensures in
    let inside : c.in-Ok.index < length es = omega (arith, at.0, plain-length es) in
    ap Some (sym (bytes_read es c.in-Ok.index c.index.result.now inside c.index.ensures))
    ∙ sym (find_at _ (plain es) c.in-Ok.index at.0 at.1 at.2)
    ∙ sym (map.get-from_sorted (slice_cmp nat_cmp) (plain es) c.args.path.now (T-from_IsTrue _ c.self.invariant))
    ∙ ap (λ m. map.get m c.args.path.now) c.self.view_is

pub returns-in-Err : goal.returns-in-Err
returns-in-Err c =
    let es = c.self.inside.entries.items in
    let before = place_of _ _ _ es _ _ c.bytes.ensures c.deref.ensures.value c.in-Err.is c.find_slot.ensures in
    let sorted = T-from_IsTrue _ c.self.invariant in
    sym (find_before _ (plain es) c.in-Err.field-0 sorted before.1 before.2 before.0)
    ∙ sym (map.get-from_sorted (slice_cmp nat_cmp) (plain es) c.args.path.now sorted)
    ∙ ap (λ m. map.get m c.args.path.now) c.self.view_is
