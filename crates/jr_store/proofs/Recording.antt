-- What a record of calls stands for, and one call more in it.
use Rattle.std.proofs.Common.{◌≡◌, ℕ, ◌+◌, ◌-◌, ◌<◌, ◌≤◌, Bool, false, cond, List, [], ◌∷◌, ◌++◌, length, get_or, take, drop, map, refl, sym, ◌∙◌, ap, subst, arith, length-append, length-drop, append_assoc}
use Rattle.std.specs.Prelude.{nat_le}
use Rattle.std.specs.List.{slice_range, prefix_len, AllByRecursion}
use Rattle.std.proofs.lemmas.List.{at_drop_more, drop-append-le, take-append-le, take_all, map-append}
use Rattle.std.proofs.lemmas.List.Sums.{sum_by-append}
use Rattle.std.proofs.Math.Seq.{drop-append_seam, take-append_seam}
use Rattle.jr_store.specs.Calls.{Call, kept_bytes}
use Rattle.jr_store.specs.Record.{entry_call, IsWithin}
use Rattle.jr_store.specs.declared.record.Action.{Action}
use Rattle.jr_store.specs.declared.record.Entry.{Entry}

-- a part of a run of bytes stays when the run grows
part_kept : (arena more : List ℕ) (start end : ℕ) → start ≤ end → end ≤ length arena → slice_range (arena ++ more) start end ≡ slice_range arena start end
part_kept arena more start end rises within =
    ap (take (end - start)) (drop-append-le start arena more (omega arith))
    ∙ take-append-le (end - start) (drop start arena) more (omega (arith, length-drop start arena))

call_kept : (arena more : List ℕ) (e : Entry) → IsWithin arena e → entry_call (arena ++ more) e ≡ entry_call arena e
call_kept arena more e within = λ i. record {
  number = e.number;
  action = e.action;
  path = part_kept arena more e.path_start e.bytes_start within.path (omega (arith, within.bytes, within.inside)) i;
  bytes = part_kept arena more e.bytes_start e.end within.bytes within.inside i;
}

calls_kept : (arena more : List ℕ) (es : List Entry) → AllByRecursion (IsWithin arena) es → map (entry_call (arena ++ more)) es ≡ map (entry_call arena) es
calls_kept arena more [] within = refl
calls_kept arena more (e ∷ es) within = λ i. call_kept arena more e within.0 i ∷ calls_kept arena more es within.1 i

all_within : (arena more : List ℕ) (es : List Entry) (e : Entry) → AllByRecursion (IsWithin arena) es → IsWithin (arena ++ more) e → AllByRecursion (IsWithin (arena ++ more)) (es ++ e ∷ [])
all_within arena more [] e within last = (last, tt)
all_within arena more (x ∷ es) e within last = (
  record { path = within.0.path; bytes = within.0.bytes; inside = omega (arith, within.0.inside, length-append arena more) },
  all_within arena more es e within.1 last,
)

-- the entry of a call whose path and bytes are put behind a run of bytes
module _ (arena path bytes : List ℕ) (number : ℕ) (action : Action) where
  abbrev pub new_entry : Entry
  new_entry = record { number = number; action = action; path_start = length arena; bytes_start = length arena + length path; end = length arena + length path + length bytes }

  abbrev pub new_call : Call
  new_call = record { number = number; action = action; path = path; bytes = bytes }

  -- the parts that are put there are read again
  path_read : slice_range (arena ++ (path ++ bytes)) (length arena) (length arena + length path) ≡ path
  path_read =
      (let e : length arena + length path - length arena ≡ length path = omega arith in λ i. take (e i) (drop-append_seam arena (path ++ bytes) i))
      ∙ take-append_seam path bytes

  bytes_read : slice_range (arena ++ (path ++ bytes)) (length arena + length path) (length arena + length path + length bytes) ≡ bytes
  bytes_read =
      (let e : length arena + length path + length bytes - (length arena + length path) ≡ length bytes = omega arith in
      λ i. take (e i) (drop (sym (length-append arena path) i) (sym (append_assoc arena path bytes) i)))
      ∙ ap (take (length bytes)) (drop-append_seam (arena ++ path) bytes)
      ∙ take_all (length bytes) bytes (omega arith)

  new_read : entry_call (arena ++ (path ++ bytes)) new_entry ≡ new_call
  new_read = λ i. record { number = number; action = action; path = path_read i; bytes = bytes_read i }

  new_within : IsWithin (arena ++ (path ++ bytes)) new_entry
  new_within = record { path = omega arith; bytes = omega arith; inside = omega (arith, length-append arena (path ++ bytes), length-append path bytes) }

  module _ (es : List Entry) (within : AllByRecursion (IsWithin arena) es) where
    calls_more : map (entry_call (arena ++ (path ++ bytes))) (es ++ new_entry ∷ []) ≡ map (entry_call arena) es ++ new_call ∷ []
    calls_more =
        map-append (entry_call (arena ++ (path ++ bytes))) es (new_entry ∷ [])
        ∙ (λ i. calls_kept arena (path ++ bytes) es within i ++ new_read i ∷ [])

    within_more : AllByRecursion (IsWithin (arena ++ (path ++ bytes))) (es ++ new_entry ∷ [])
    within_more = all_within arena (path ++ bytes) es new_entry within new_within

    bytes_more : length arena ≡ kept_bytes (map (entry_call arena) es) → length (arena ++ (path ++ bytes)) ≡ kept_bytes (map (entry_call (arena ++ (path ++ bytes))) (es ++ new_entry ∷ []))
    bytes_more is =
        length-append arena (path ++ bytes) ∙ (let sum = sum_by-append (λ (call : Call). length call.path + length call.bytes) (map (entry_call arena) es) (new_call ∷ []) in
        let e : length arena + length (path ++ bytes) ≡ kept_bytes (map (entry_call arena) es ++ new_call ∷ []) = omega (arith, is, length-append path bytes, sum) in e)
        ∙ ap kept_bytes (sym calls_more)

    -- the record with that entry more
    module _ (grown : List ℕ) (entries : List Entry) (grown_is : grown ≡ arena ++ (path ++ bytes)) (entries_is : entries ≡ es ++ new_entry ∷ []) where
      pub grown_within : AllByRecursion (IsWithin grown) entries
      grown_within = subst (λ (l : List ℕ). AllByRecursion (IsWithin l) entries) (sym grown_is) (subst (λ (l : List Entry). AllByRecursion (IsWithin (arena ++ (path ++ bytes))) l) (sym entries_is) within_more)

      pub grown_calls : map (entry_call grown) entries ≡ map (entry_call arena) es ++ new_call ∷ []
      grown_calls = (λ i. map (entry_call (grown_is i)) (entries_is i)) ∙ calls_more

      pub grown_bytes : length arena ≡ kept_bytes (map (entry_call arena) es) → length grown ≡ kept_bytes (map (entry_call grown) entries)
      grown_bytes is = ap length grown_is ∙ bytes_more is ∙ (λ i. kept_bytes (map (entry_call (sym grown_is i)) (sym entries_is i)))

-- no call passes a test from one on that fails it
pub prefix_stops : {X : Type 0} (p : X → Bool) (xs : List X) (i : ℕ) (d : X) → i < length xs → p (get_or xs i d) ≡ false → prefix_len p (drop i xs) ≡ 0
prefix_stops p xs i d inside fails =
    at_drop_more (prefix_len p) xs i d inside ∙ ap (λ b. cond b (1 + prefix_len p (drop (i + 1) xs)) 0) fails

-- a test of the numbers of calls is one of their entries
pub prefix_of_entries : (arena : List ℕ) (n : ℕ) (es : List Entry) → prefix_len (λ (call : Call). nat_le call.number n) (map (entry_call arena) es) ≡ prefix_len (λ (e : Entry). nat_le e.number n) es
prefix_of_entries arena n [] = refl
prefix_of_entries arena n (e ∷ es) = ap (λ m. cond (nat_le e.number n) (1 + m) 0) (prefix_of_entries arena n es)
