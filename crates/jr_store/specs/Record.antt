-- How a record keeps its calls: paths and contents in one run of bytes, and for each call where its parts stand.
use Rattle.std.specs.Prelude.{◌≡◌, ℕ, ◌≤◌, List, length, map, vec_capacity}
use Rattle.std.specs.List.{slice_range, AllByRecursion}
use Rattle.jr_store.specs.Calls.{Call, kept_bytes}
use Rattle.jr_store.specs.declared.record.Entry.{Entry}
use Rattle.jr_store.specs.declared.record.KeptCall.{KeptCall}
use Rattle.jr_store.specs.declared.record.Record.TheInside.{Inside}

abbrev pub entry_call : List ℕ → Entry → Call
entry_call arena e = record {
  number = e.number;
  action = e.action;
  path = slice_range arena e.path_start e.bytes_start;
  bytes = slice_range arena e.bytes_start e.end;
}

abbrev pub calls_in : Inside → List Call
calls_in r = map (entry_call r.arena.items) r.entries.items

-- the parts of the call stand in the run of bytes
pub record IsWithin (arena : List ℕ) (e : Entry) : Type 0 where
  pub path : e.path_start ≤ e.bytes_start
  pub bytes : e.bytes_start ≤ e.end
  pub inside : e.end ≤ length arena

pub record IsRecord (r : Inside) : Type 0 where
  pub within : AllByRecursion (IsWithin r.arena.items) r.entries.items
  pub bytes : length r.arena.items ≡ kept_bytes (calls_in r)
  pub room : 67108864 ≤ vec_capacity r.arena
  pub places : 16384 ≤ vec_capacity r.entries

-- what a call that is lent out stands for
abbrev pub kept_call : KeptCall → Call
kept_call call = record { number = call.number; action = call.action; path = call.path.now; bytes = call.bytes.now }
