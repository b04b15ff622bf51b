-- What the calls of a store in memory made of its files, and which paths a crash may leave in another way.
use Rattle.std.specs.Prelude.{◌≡◌, ℕ, ◌-◌, ◌≤◌, ◌⊎◌, List, [], ◌∷◌, ◌++◌, length, take, Some, None}
use Rattle.std.specs.FinMap.{get}
use Rattle.jr_base.specs.Files.{FileMap}
use Rattle.jr_store.specs.Calls.{Call, calls_until}
use Rattle.jr_store.specs.Image.{Image}
use Rattle.jr_store.specs.Sides.{put_side, IsNoneOf}
use Rattle.jr_store.specs.declared.record.Action.{Action}
use Rattle.jr_store.specs.declared.record.Action.TheVariants.{Wrote, Removed, Unsure, Synced}

-- the files, and the paths written or removed since the last sync
abbrev pub State : Type 0
State = Image × List (List ℕ)

abbrev pub image_of : FileMap → Image
image_of files q = get files q

abbrev pub after_action : Action → List ℕ → List ℕ → State → State
after_action Wrote path bytes s = (put_side path (Some bytes) s.0, path ∷ s.1)
after_action Removed path bytes s = (put_side path None s.0, path ∷ s.1)
after_action Unsure path bytes s = (s.0, path ∷ s.1)
after_action Synced path bytes s = (s.0, [])

abbrev pub after_call : Call → State → State
after_call call s = after_action call.action call.path call.bytes s

abbrev pub after_calls : List Call → State → State
after_calls [] s = s
after_calls (x ∷ xs) s = after_calls xs (after_call x s)

-- a crash may leave this image: any bytes, or no file, at a pending path, and what reads give elsewhere
abbrev pub IsLeft : State → Image → Type 0
IsLeft s c = (q : List ℕ) → IsNoneOf s.1 q → c q ≡ s.0 q

-- the files that a store was made with, after these calls
abbrev pub state_of : FileMap → List Call → State
state_of files calls = after_calls calls (image_of files, [])

-- what a crash after the first k calls may have left, for some k from t on
abbrev pub LeftIn : FileMap → List Call → ℕ → Image → Type 0
LeftIn files calls t c = (k : ℕ) × (t ≤ k) × (k ≤ length calls) × IsLeft (state_of files (take k calls)) c

-- what a crash in the call with this number may have left: what one before it may, or one after it
abbrev pub LeftInCall : FileMap → List Call → ℕ → Image → Type 0
LeftInCall files calls number c = IsLeft (state_of files (calls_until (number - 1) calls)) c ⊎ IsLeft (state_of files (calls_until number calls)) c

-- the record after a call that it kept, by an action at a path
abbrev pub KeepsOne : Action → List ℕ → List ℕ → List Call → List Call → Type 0
KeepsOne action path bytes old new = (number : ℕ) × (new ≡ old ++ record { number = number; action = action; path = path; bytes = bytes } ∷ [])

-- reads give the first image after these calls, and a crash may leave the second
pub record Replays (s : State) (held torn : Image) : Type 0 where
  pub now : held ≡ s.0
  pub left : IsLeft s torn
