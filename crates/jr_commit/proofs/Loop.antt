-- Reading entries one after the other, as a loop does.
use Rattle.std.proofs.Common.{◌≡◌, ℕ, suc, ◌-◌, ◌+◌, ◌≤◌, ◌<◌, List, [], ◌∷◌, ◌++◌, Option, Some, None, refl, sym, ap, ◌∙◌, append_assoc, arith}
use Rattle.std.proofs.lemmas.List.{append-nil}
use Rattle.jr_commit.specs.declared.reading.ReadFault.{ReadFault}
use Rattle.jr_commit.specs.declared.reading.ReadFault.TheVariants.{Memory, Bad}
use Rattle.jr_commit.specs.declared.entry.Version.{Version}
use Rattle.jr_commit.specs.Entries.{PlainEntry}
use Rattle.jr_commit.specs.Reading.{◌>>=◌, Fails, entry_at, entries_at}

-- what was read before, and what is still read
abbrev pub with_front : List PlainEntry → Option (List PlainEntry × List ℕ) → Option (List PlainEntry × List ℕ)
with_front front read = read >>= λ x. Some (front ++ x.0, x.1)

regroup : (front : List PlainEntry) (n : PlainEntry) (read : Option (List PlainEntry × List ℕ)) → with_front front (read >>= λ x. Some (n ∷ x.0, x.1)) ≡ with_front (front ++ n ∷ []) read
regroup front n (Some x) = ap (λ (ns : List PlainEntry). Some (ns, x.1)) (simp append_assoc)
regroup front n None = refl

pub goes_on : (v : Version) (front : List PlainEntry) (count i : ℕ) (bytes : List ℕ) (n : PlainEntry) (after : List ℕ) (total : Option (List PlainEntry × List ℕ)) → i < count → entry_at v bytes ≡ Some (n, after)
    → with_front front (entries_at v (count - i) bytes) ≡ total → with_front (front ++ n ∷ []) (entries_at v (count - (i + 1)) after) ≡ total
unfolding entries_at
goes_on v front count i bytes n after total lt h so_far =
    let k : count - i ≡ suc (count - (i + 1)) = omega arith in
    let one : with_front front (entries_at v (count - i) bytes) ≡ with_front (front ++ n ∷ []) (entries_at v (count - (i + 1)) after) = rw (k, h) (regroup front n (entries_at v (count - (i + 1)) after)) in
    sym one ∙ so_far

pub ends : (v : Version) (e : ReadFault) (front : List PlainEntry) (count i : ℕ) (bytes : List ℕ) (total : Option (List PlainEntry × List ℕ)) → i < count → Fails e (entry_at v bytes)
    → with_front front (entries_at v (count - i) bytes) ≡ total → Fails e total
unfolding entries_at
ends v Memory front count i bytes total lt h so_far = tt
ends v Bad front count i bytes total lt h so_far =
    let k : count - i ≡ suc (count - (i + 1)) = omega arith in
    let one : with_front front (entries_at v (count - i) bytes) ≡ None = rw (k, h) refl in
    sym so_far ∙ one

pub is_done : (v : Version) (front : List PlainEntry) (count i : ℕ) (bytes : List ℕ) (total : Option (List PlainEntry × List ℕ)) → count ≤ i → with_front front (entries_at v (count - i) bytes) ≡ total → total ≡ Some (front, bytes)
unfolding entries_at
is_done v front count i bytes total le so_far =
    let k : count - i ≡ 0 = omega arith in
    let one : with_front front (entries_at v (count - i) bytes) ≡ Some (front, bytes) = rw k (ap (λ (ns : List PlainEntry). Some (ns, bytes)) (append-nil front)) in
    sym so_far ∙ one
