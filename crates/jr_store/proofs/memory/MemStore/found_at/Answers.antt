use Rattle.std.proofs.Common.{◌≡◌, ◌∙◌, sym, ap, take}
use Rattle.std.specs.Prelude.{Some, None, slice_get, option_map}
use Rattle.jr_store.specs.Record.{kept_call}
use Rattle.jr_store.specs.Replay.{State, state_of, after_call}
use Rattle.jr_store.proofs.Replaying.{state_next, state_past}
use Rattle.jr_store.proofs.memory.MemStore.found_at.Goals as goal
use Rattle.jr_store.proofs.memory.MemStore.found_at.Goals.{in-Some-get, in_default}

pub loop-index-preserved : goal.loop-index-preserved
loop-index-preserved c =
    let files = c.args.self.now.files in
    let kept = c.args.self.now.kept in
    let i = c.loop-index.index in
    let path = c.args.path.now in
    elim c.match-get-2.branch [
      | in-Some-get w ↦
          let call = kept_call w.in-Some-get.call in
          let is : Some call ≡ slice_get kept i = ap (option_map kept_call) (sym w.in-Some-get.is) ∙ c.get-in-loop-index.ensures in
          let s = state_of files (take i kept) in
          ap (option_map (λ b. b.now)) w.found-is
          ∙ w.found_after-found.ensures s (c.loop-index.invariant ∙ ap s.0 (sym w.bytes.ensures))
          ∙ ap (after_call call s).0 w.bytes.ensures
          ∙ sym (ap (λ (t : State). t.0 path) (state_next files kept i call is))
      | in_default w ↦
          let is : None ≡ slice_get kept i = ap (option_map kept_call) (sym w.in_default.is) ∙ c.get-in-loop-index.ensures in
          ap (option_map (λ b. b.now)) w.found-is ∙ c.loop-index.invariant ∙ sym (ap (λ (t : State). t.0 path) (state_past files kept i is))
    ]
