-- The calls that a store in memory keeps a record of.
use Rattle.std.specs.Prelude.{ℕ, ◌+◌, ◌<◌, ◌≤◌, ◌⊎◌, List, length, sum_by, take_while, nat_le}
use Rattle.jr_store.specs.declared.record.Action.{Action}

-- a write, a removal or a sync, with its number among all calls, its path and the bytes that it was to write
pub record Call : Type 0 where
  pub number : ℕ
  pub action : Action
  pub path : List ℕ
  pub bytes : List ℕ

-- the bytes of memory that the paths and contents of the calls take
abbrev pub kept_bytes : List Call → ℕ
kept_bytes = sum_by (λ call. length call.path + length call.bytes)

-- a record of 16,384 calls is full, and so is one of 64 MiB for a call that takes it past them
abbrev pub IsFull : List Call → List ℕ → List ℕ → Type 0
IsFull calls path bytes = (16384 ≤ length calls) ⊎ (67108864 < kept_bytes calls + (length path + length bytes))

-- the calls up to this number
abbrev pub calls_until : ℕ → List Call → List Call
calls_until number calls = take_while (λ call. nat_le call.number number) calls
