use Rattle.std.proofs.Common.{◌≡◌, ◌≤◌, List, ℕ, length}
use Rattle.std.specs.Prelude.{Some}
use Rattle.std.specs.List.{AllByRecursion}
use Rattle.jr_store.specs.Image.{Image, LeavesOnly}
use Rattle.jr_commit.specs.Entries.{plain}
use Rattle.jr_commit.specs.Undoing.{HoldsNew, IsFirstEdited}
use Rattle.jr_commit.proofs.undo.find_edited.Given as goal

abbrev pub invariant-loop-rest : goal.invariant-loop-rest
invariant-loop-rest g l =
    let Store = g.S.Store in
    let first = l.fn.store in
    record {
      told : Store.files l.store ≡ Store.files first;
      crash : (c : Image) → Store.may_leave l.store c → Store.may_leave first c;
      any_moment : LeavesOnly Store.moment Store.left_since first l.store (Store.may_leave first);
      cause : Store.faults first ≤ Store.faults l.store;
      held : (f : Image) → Store.files first ≡ Some f → AllByRecursion (HoldsNew f) (plain l.rest) → AllByRecursion (HoldsNew f) (plain l.entries);
      edited : (f : Image) → Store.files first ≡ Some f → (path : List ℕ) → IsFirstEdited f (plain l.rest) path → IsFirstEdited f (plain l.entries) path;
    }

abbrev pub decreases-loop-rest : goal.decreases-loop-rest
decreases-loop-rest g l = length l.rest
