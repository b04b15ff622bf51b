-- Files whose paths rise are put one behind another.
use Rattle.std.proofs.Common.{◌≡◌, ◌∙◌, ap, sym, subst, refl, Bool, true, false, ◌&&◌, IsTrue, T, List, ℕ, [], ◌∷◌, ◌++◌, append_assoc, length, arith}
use Rattle.std.specs.Prelude.{Vec}
use Rattle.std.specs.Bool.{passes}
use Rattle.std.proofs.lemmas.List.{append-nil}
use Rattle.std.specs.FinMap as map
use Rattle.std.specs.FinMap.Entries.{below_all, by_order}
use Rattle.std.proofs.lemmas.Cmp.{nat_list_cmp_total}
use Rattle.std.specs.Cmp.Lexicographic.{slice_cmp}
use Rattle.std.specs.Ordering.{nat_cmp, is_lt, ordering_reverse}
use Rattle.std.specs.declared.cmp.Ordering.{Ordering}
use Rattle.std.specs.declared.cmp.Ordering.TheVariants.{Less, Equal, Greater}
use Rattle.std.specs.declared.alloc.Global.{Global}
use Rattle.jr_base.specs.Files.{FileMap, plain}

abbrev order : List ℕ → List ℕ → Ordering
order = slice_cmp nat_cmp

abbrev pub Entries : Type 0
Entries = List (List ℕ × List ℕ)

-- each path comes behind the one before it
abbrev pub rises_from : List ℕ → Entries → Bool
rises_from last [] = true
rises_from last (e ∷ es) = is_lt (order last e.0) && rises_from e.0 es

abbrev pub rises : Entries → Bool
rises [] = true
rises (e ∷ es) = rises_from e.0 es

both : (a b : Bool) → T a → T b → T (a && b)
both true b p q = q
both false b p q = p

first : (a b : Bool) → T (a && b) → T a
first true b p = tt
first false b p = p

second : (a b : Bool) → T (a && b) → T b
second true b p = p
second false b p = absurd p

less : (o : Ordering) → T (is_lt o) → o ≡ Less
less Less p = refl
less Equal p = absurd p
less Greater p = absurd p

is_true : (b : Bool) → T b → IsTrue b
is_true true p = refl
is_true false p = absurd p

below_less : (x y : List ℕ) (es : Entries) → order x y ≡ Less → T (below_all order y es) → T (below_all order x es)
below_less x y [] p h = tt
below_less x y (e ∷ es) p h = both _ _ (subst (λ r. T (is_lt r)) (sym (nat_list_cmp_total.trans x y e.0 p (less _ (first _ _ h)))) tt) (below_less x y es p (second _ _ h))

sorted_from : (last : List ℕ) (es : Entries) → T (rises_from last es) → T (below_all order last es && map.is_sorted order es)
sorted_from last [] h = tt
sorted_from last (e ∷ es) h =
    let rest = sorted_from e.0 es (second _ _ h) in
    let is = less _ (first _ _ h) in
    both _ _ (both _ _ (first _ _ h) (below_less last e.0 es is (first _ _ rest))) rest

all_sorted : (es : Entries) → T (rises es) → T (map.is_sorted order es)
all_sorted [] h = tt
all_sorted (e ∷ es) h = sorted_from e.0 es h

-- ---- insertion

abbrev pub inserted : FileMap → Entries → FileMap
inserted m [] = m
inserted m (e ∷ es) = inserted (map.insert m e.0 e.1) es

inserted_last : (m : FileMap) (done : List (List ℕ × Vec ℕ Global)) (path : List ℕ) (bytes : Vec ℕ Global) → inserted m (plain (done ++ (path, bytes) ∷ [])) ≡ map.insert (inserted m (plain done)) path bytes.items
inserted_last m [] path bytes = refl
inserted_last m (e ∷ done) path bytes = inserted_last (map.insert m e.0 e.1.items) done path bytes

below_last : (x k v : List ℕ) (done es : Entries) → T (below_all order x (done ++ (k, v) ∷ es)) → order x k ≡ Less
below_last x k v [] es h = less _ (first _ _ h)
below_last x k v (d ∷ done) es h = below_last x k v done es (second _ _ h)

put_last : (k v : List ℕ) (done es : Entries) → T (map.is_sorted order (done ++ (k, v) ∷ es)) → map.put order k v done ≡ done ++ (k, v) ∷ []
put_last k v [] es h = refl
put_last k v (d ∷ done) es h =
    let is : order k d.0 ≡ Greater = nat_list_cmp_total.antisymm k d.0 ∙ ap ordering_reverse (below_last d.0 k v done es (first _ _ h)) in
    ap (λ r. by_order r ((k, v) ∷ d ∷ done) ((d.0, v) ∷ done) (d ∷ map.put order k v done)) is ∙ ap (λ (l : Entries). d ∷ l) (put_last k v done es (second _ _ h))

put_all : (m : FileMap) (done es : Entries) → map.entries m ≡ done → T (map.is_sorted order (done ++ es)) → map.entries (inserted m es) ≡ done ++ es
put_all m done [] e h = e ∙ sym (append-nil done)
put_all m done ((k, v) ∷ es) e h =
    put_all (map.insert m k v) (done ++ (k, v) ∷ []) es (map.entries-insert nat_list_cmp_total m k v ∙ ap (λ (l : Entries). map.put order k v l) e ∙ put_last k v done es h)
    (subst (λ (l : Entries). T (map.is_sorted order l)) (sym (append_assoc done ((k, v) ∷ []) es)) h) ∙ append_assoc done ((k, v) ∷ []) es

none_entries : map.entries (map.empty {X = List ℕ} {R = order}) ≡ []
none_entries =
    let sorted : map.entries (map.from_sorted {R = order} []) ≡ [] = map.entries-from_sorted order [] tt in
    ap (λ (m : FileMap). map.entries m) (sym (map.empty_of_len _ (map.len-entries _ ∙ ap (λ (l : Entries). length l) sorted))) ∙ sorted

all_inserted : (es : Entries) → T (map.is_sorted order es) → map.entries (inserted map.empty es) ≡ es
all_inserted es h = put_all map.empty [] es none_entries h

-- ---- as the code holds them

pub all_rise : (last : List ℕ) (texts rest : List (List ℕ × Vec ℕ Global)) → (IsTrue (rises_from last (plain rest)) → IsTrue (rises (plain texts))) → length rest ≡ 0 → IsTrue (map.is_sorted order (plain texts))
all_rise last texts [] goes ends = is_true _ (all_sorted (plain texts) (passes _ (goes refl)))
all_rise last texts (e ∷ rest) goes ends = absurd (omega (arith, ends))

pub one_filed : (files next : FileMap) (done : List (List ℕ × Vec ℕ Global)) (path : List ℕ) (bytes : Vec ℕ Global) → files ≡ inserted map.empty (plain done) → next ≡ map.insert files path bytes.items
    → next ≡ inserted map.empty (plain (done ++ (path, bytes) ∷ []))
one_filed files next done path bytes is more = more ∙ ap (λ (m : FileMap). map.insert m path bytes.items) is ∙ sym (inserted_last map.empty done path bytes)

pub all_filed : (files : FileMap) (texts done : List (List ℕ × Vec ℕ Global)) → texts ≡ done → files ≡ inserted map.empty (plain done) → IsTrue (map.is_sorted order (plain texts)) → map.entries files ≡ plain texts
all_filed files texts done same is sorted =
    ap (λ (m : FileMap). map.entries m) (is ∙ ap (λ (all : List (List ℕ × Vec ℕ Global)). inserted map.empty (plain all)) (sym same)) ∙ all_inserted (plain texts) (passes _ sorted)
