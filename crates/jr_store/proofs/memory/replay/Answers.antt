use Rattle.std.proofs.Common.{◌≡◌, ◌∙◌, sym, ap, subst, take}
use Rattle.std.specs.Prelude.{Some, None, slice_get, option_map}
use Rattle.jr_store.specs.Record.{kept_call}
use Rattle.jr_store.specs.Replay.{State, Replays, after_call, image_of, state_of}
use Rattle.jr_store.specs.declared.memory.Replayed.{Replayed}
use Rattle.jr_store.proofs.Replaying.{state_next, state_past}
use Rattle.jr_store.proofs.memory.replay.Goals as goal
use Rattle.jr_store.proofs.memory.replay.Goals.{in-Some+in_ok-replay_call, in_default}

pub loop-index-preserved : goal.loop-index-preserved
loop-index-preserved c =
    let files = c.args.files.now in
    let kept = c.args.kept.now in
    let i = c.loop-index.index in
    let to = λ (s : State) (r : Replayed). Replays s (image_of r.now) (image_of r.left) in
    elim c.match-get.branch [
      | in-Some+in_ok-replay_call w ↦
          let is : Some (kept_call w.in-Some.call) ≡ slice_get kept i = ap (option_map kept_call) (sym w.in-Some.is) ∙ c.get.ensures in
          subst (λ (s : State). to s c.match-get.replayed) (sym (state_next files kept i (kept_call w.in-Some.call) is))
          (subst (λ (r : Replayed). to (after_call (kept_call w.in-Some.call) (state_of files (take i kept))) r) (sym w.replayed-is) (w.in_ok-replay_call.ensures (state_of files (take i kept)) c.loop-index.invariant))
      | in_default w ↦
          let is : None ≡ slice_get kept i = ap (option_map kept_call) (sym w.in_default.is) ∙ c.get.ensures in
          subst (λ (s : State). to s c.match-get.replayed) (sym (state_past files kept i is))
          (subst (λ (r : Replayed). to (state_of files (take i kept)) r) (sym w.replayed-is) c.loop-index.invariant)
    ]
