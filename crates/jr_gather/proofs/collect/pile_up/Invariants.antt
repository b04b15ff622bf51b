use Rattle.std.proofs.Common.{◌≡◌, ◌≤◌, length}
use Rattle.std.specs.Prelude.{Some}
use Rattle.jr_store.specs.Image.{Image, LeavesOnly}
use Rattle.jr_gather.specs.Piles.{plain_pile, start, pile_of}
use Rattle.jr_gather.proofs.collect.pile_up.Given as goal

abbrev pub invariant-loop-rest : goal.invariant-loop-rest
invariant-loop-rest g l =
    let Store = g.S.Store in
    let first = l.fn.store in
    record {
      told : Store.files l.store ≡ Store.files first;
      crash : (c : Image) → Store.may_leave l.store c → Store.may_leave first c;
      any_moment : LeavesOnly Store.moment Store.left_since first l.store (Store.may_leave first);
      cause : Store.faults first ≤ Store.faults l.store;
      piled : (f : Image) → Store.files first ≡ Some f → pile_of f (plain_pile l.pile) l.rest ≡ pile_of f start l.paths;
    }

abbrev pub decreases-loop-rest : goal.decreases-loop-rest
decreases-loop-rest g l = length l.rest
