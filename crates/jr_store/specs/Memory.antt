-- What the store and the streams in memory hold.
use Rattle.std.specs.Prelude.{◌≡◌, ℕ, List, []}
use Rattle.jr_base.specs.Files.{FileMap}
use Rattle.jr_store.specs.Image.{Image}
use Rattle.jr_store.specs.Replay.{State, state_of, LeftIn, LeftInCall}
use Rattle.jr_store.specs.declared.memory.MemStore.{MemStore}

abbrev pub state_now : MemStore → State
state_now m = state_of m.files m.kept

abbrev pub files_now : MemStore → Image
files_now m = (state_now m).0

-- what a crash at some moment from t on might have left, where a moment is a number of kept calls
abbrev pub LeftSince : MemStore → ℕ → Image → Type 0
LeftSince m t c = LeftIn m.files m.kept t c

-- what a crash in the call with this number might have left
abbrev pub LeftByCrashIn : MemStore → ℕ → Image → Type 0
LeftByCrashIn m number c = LeftInCall m.files m.kept number c

-- a store before its first call: it holds these files, none of them pending, and the calls with these numbers are to fail
pub record IsNew (m : MemStore) (held : FileMap) (to_fail : List ℕ) : Type 0 where
  pub files : m.files ≡ held
  pub nothing_kept : m.kept ≡ []
  pub failing : m.calls.failing.items ≡ to_fail
  pub made : m.calls.made ≡ 0
  pub faults : m.calls.faults ≡ 0
