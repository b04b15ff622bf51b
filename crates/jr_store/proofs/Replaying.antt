-- One call more of a record, on what reads give and on what a crash leaves.
use Rattle.std.proofs.Common.{◌≡◌, inl, inr, ℕ, ◌+◌, List, [], ◌∷◌, ◌++◌, take, sym, ◌∙◌, ap, subst, arith}
use Rattle.std.proofs.lemmas.List.{take_all, take_more}
use Rattle.std.proofs.lemmas.Option.{get_or_from_slice_get, slice_get_within, slice_get_cases}
use Rattle.std.specs.Prelude.{Some, None, slice_get}
use Rattle.jr_base.specs.Files.{FileMap}
use Rattle.jr_store.specs.Calls.{Call}
use Rattle.jr_store.specs.Image.{Image, ChangesOnly}
use Rattle.jr_store.specs.Replay.{State, Replays, state_of, after_action, after_call}
use Rattle.jr_store.specs.Sides.{put_side}
use Rattle.jr_store.specs.declared.record.Action.{Action}
use Rattle.jr_store.specs.declared.record.Action.TheVariants.{Wrote, Removed, Unsure, Synced}
use Rattle.jr_store.proofs.Kept.{state_push}
use Rattle.jr_store.proofs.Putting.{put_elsewhere}

-- the state after one call more, or past the last
module _ (files : FileMap) (calls : List Call) (i : ℕ) where
  pub state_next : (call : Call) → Some call ≡ slice_get calls i → state_of files (take (i + 1) calls) ≡ after_call call (state_of files (take i calls))
  state_next call is =
      state_push files (take i calls) (take (i + 1) calls) call
      (take_more calls i call (slice_get_within calls i call (sym is)) ∙ ap (λ (x : Call). take i calls ++ x ∷ []) (get_or_from_slice_get calls i call call (sym is)))

  pub state_past : None ≡ slice_get calls i → state_of files (take (i + 1) calls) ≡ state_of files (take i calls)
  state_past is = elim ((slice_get_cases calls i).1) [
    | inl here ↦ cc (is, here.2)
    | inr past ↦ ap (state_of files) (take_all (i + 1) calls (omega (arith, past.0)) ∙ sym (take_all i calls past.0))
  ]

module _ (action : Action) (path bytes : List ℕ) (s : State) (held torn now after : Image) (replays : Replays s held torn) where
  abbrev Next : Type 0
  Next = Replays (after_action action path bytes s) now after

  at : (other : Action) → action ≡ other → Replays (after_action other path bytes s) now after → Next
  at other is there = subst (λ (a : Action). Replays (after_action a path bytes s) now after) (sym is) there

  pub replay_wrote : action ≡ Wrote → now ≡ put_side path (Some bytes) held → ChangesOnly path torn after → Next
  replay_wrote is put changes = at Wrote is (record {
    now = put ∙ ap (put_side path (Some bytes)) replays.now;
    left = λ q off. changes q off.0 ∙ replays.left q off.1 ∙ sym (put_elsewhere path q (Some bytes) s.0 off.0);
  })

  pub replay_removed : action ≡ Removed → now ≡ put_side path None held → ChangesOnly path torn after → Next
  replay_removed is put changes = at Removed is (record {
    now = put ∙ ap (put_side path None) replays.now;
    left = λ q off. changes q off.0 ∙ replays.left q off.1 ∙ sym (put_elsewhere path q None s.0 off.0);
  })

  pub replay_unsure : action ≡ Unsure → now ≡ held → ChangesOnly path torn after → Next
  replay_unsure is same changes = at Unsure is (record { now = same ∙ replays.now; left = λ q off. changes q off.0 ∙ replays.left q off.1 })

  pub replay_synced : action ≡ Synced → now ≡ held → after ≡ held → Next
  replay_synced is same settled = at Synced is (record { now = same ∙ replays.now; left = λ q none. ap (λ (h : Image). h q) (settled ∙ replays.now) })
