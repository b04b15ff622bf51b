use Rattle.std.proofs.Common.{◌<◌, ◌≤◌, ◌∙◌, sym, ap, length, set, arith}
use Rattle.std.specs.FinMap as map
use Rattle.jr_base.specs.Files.{plain}
use Rattle.jr_base.proofs.Entries.{IsMap, put_at, put_before, path_read, T-from_IsTrue, IsTrue-from_T, plain-length, place_of, plain-set, plain-insert, inserted}
use Rattle.jr_base.proofs.files.Files.insert.Goals as goal
use Rattle.jr_base.proofs.files.Files.insert.Goals.{After-drop-path-inside, In_ok-insert-in-Err}

-- the bytes at a path that is there are replaced
written : (c : After-drop-path-inside) → IsMap (plain (set c.self.inside.entries.items c.in-Ok.index (c.index_mut.result.now.0, c.args.bytes))) (map.insert c.args.self.now c.args.path c.args.bytes.items)
written c =
    let es = c.self.inside.entries.items in
    let at = place_of _ _ _ es _ _ c.bytes.ensures c.deref.ensures.value c.in-Ok.is c.find_slot.ensures in
    let inside : c.in-Ok.index < length es = omega (arith, at.0, plain-length es) in
    inserted (plain es) (plain (set es c.in-Ok.index (c.index_mut.result.now.0, c.args.bytes))) c.args.self.now c.args.path c.args.bytes.items
    (T-from_IsTrue _ c.self.invariant) c.self.view_is
    (plain-set es c.in-Ok.index (c.index_mut.result.now.0, c.args.bytes)
    ∙ ap (λ p. set (plain es) c.in-Ok.index (p, c.args.bytes.items)) (sym (path_read es c.in-Ok.index c.index_mut.result.now inside c.index_mut.ensures.value))
    ∙ sym (put_at c.args.path c.args.bytes.items (plain es) c.in-Ok.index at.0 at.1 at.2))

-- a new path is put in its place
added : (c : In_ok-insert-in-Err) → IsMap (plain c.insert.new.self.items) (map.insert c.args.self.now c.args.path c.args.bytes.items)
added c =
    let es = c.self.inside.entries.items in
    let at = place_of _ _ _ es _ _ c.bytes.ensures c.deref.ensures.value c.in-Err.is c.find_slot.ensures in
    let inside : c.in-Err.index ≤ length es = omega (arith, at.0, plain-length es) in
    inserted (plain es) (plain c.insert.new.self.items) c.args.self.now c.args.path c.args.bytes.items
    (T-from_IsTrue _ c.self.invariant) c.self.view_is
    (ap plain c.in_ok-insert-in-Err.ensures.items
    ∙ plain-insert es c.in-Err.index (c.args.path, c.args.bytes) inside
    ∙ sym (put_before c.args.path c.args.bytes.items (plain es) c.in-Err.index at.0 at.1 at.2))

pub invariant_of-self : goal.invariant_of-self
invariant_of-self c = IsTrue-from_T _ (written c).0

pub returns-in-Ok-clause-ok : goal.returns-in-Ok-clause-ok
returns-in-Ok-clause-ok c = (written c).1

pub invariant_of-self-in-Err : goal.invariant_of-self-in-Err
invariant_of-self-in-Err c = IsTrue-from_T _ (added c).0

pub returns-in_ok-insert-in-Err-clause-ok : goal.returns-in_ok-insert-in-Err-clause-ok
returns-in_ok-insert-in-Err-clause-ok c = (added c).1
