-- What a place in a list of files says of the list as a map.
use Rattle.std.proofs.Common.{◌≡◌, ℕ, zero, suc, ◌<◌, ◌≤◌, Bool, true, false, ◌&&◌, cond, not, List, [], ◌∷◌, length, ◌++◌, ◌+◌, take, get_or, set, Some, None, Option, Result, refl, sym, ap, subst, ◌∙◌, arith, T}
use Rattle.std.specs.Prelude.{Vec, IsTrue}
use Rattle.std.specs.List.{insert, filter}
use Rattle.std.specs.Ordering.{nat_cmp, eq_by_cmp, is_eq}
use Rattle.std.specs.Cmp.{alike_right, eq_by_cmp_equiv}
use Rattle.std.specs.Str.{bytes_eq}
use Rattle.std.proofs.lemmas.Map.Text.{is_eq-slice_cmp}
use Rattle.std.specs.Cmp.Lexicographic.{slice_cmp, nat_list_cmp_total}
use Rattle.std.specs.declared.cmp.Ordering.{Ordering}
use Rattle.std.specs.declared.cmp.Ordering.TheVariants.{Less, Equal, Greater}
use Rattle.std.specs.declared.alloc.Global.{Global}
use Rattle.std.proofs.lemmas.List.{get_or-map, map-append, take_more}
use Rattle.std.proofs.Math.Seq.{take-length}
use Rattle.std.specs.FinMap as finite
use Rattle.std.specs.FinMap.Entries.{put, find, is_sorted, below_all, where_key, by_order, is_sorted-put, is_sorted-where_key, find-where_key}
use Rattle.jr_base.specs.Files.{FileMap, plain}
use Rattle.jr_base.specs.Slots.{IsSlot, IsAboveFirst, path_at}

abbrev pub R : List ℕ → List ℕ → Ordering
R = slice_cmp nat_cmp

abbrev pub Entries : Type 0
Entries = List (List ℕ × List ℕ)

above_tail : (path : List ℕ) (e : List ℕ × List ℕ) (es : Entries) (i : ℕ) → IsAboveFirst path (e ∷ es) (suc i) → IsAboveFirst path es i
above_tail path e es i above k lt = above (suc k) (omega arith)

pub find_at : (path : List ℕ) (es : Entries) (i : ℕ) → i < length es → R path (path_at es i) ≡ Equal → IsAboveFirst path es i → find R path es ≡ Some (get_or es i ([], [])).1
find_at path [] i inside equal above = absurd (omega arith)
find_at path (e ∷ es) zero inside equal above = ap (λ o. cond (is_eq o) (Some e.1) (find R path es)) equal
find_at path (e ∷ es) (suc i) inside equal above =
    ap (λ o. cond (is_eq o) (Some e.1) (find R path es)) (above 0 (omega arith)) ∙ find_at path es i (omega arith) equal (above_tail path e es i above)

pub put_at : (path bytes : List ℕ) (es : Entries) (i : ℕ) → i < length es → R path (path_at es i) ≡ Equal → IsAboveFirst path es i → put R path bytes es ≡ set es i (path_at es i, bytes)
put_at path bytes [] i inside equal above = absurd (omega arith)
put_at path bytes (e ∷ es) zero inside equal above = ap (λ o. by_order o ((path, bytes) ∷ e ∷ es) ((e.0, bytes) ∷ es) (e ∷ put R path bytes es)) equal
put_at path bytes (e ∷ es) (suc i) inside equal above =
    ap (λ o. by_order o ((path, bytes) ∷ e ∷ es) ((e.0, bytes) ∷ es) (e ∷ put R path bytes es)) (above 0 (omega arith))
    ∙ ap (λ rest. e ∷ rest) (put_at path bytes es i (omega arith) equal (above_tail path e es i above))

pub put_before : (path bytes : List ℕ) (es : Entries) (i : ℕ) → i ≤ length es → (i < length es → R path (path_at es i) ≡ Less) → IsAboveFirst path es i → put R path bytes es ≡ insert es i (path, bytes)
put_before path bytes [] zero inside less above = refl
put_before path bytes [] (suc i) inside less above = absurd (omega arith)
put_before path bytes (e ∷ es) zero inside less above = ap (λ o. by_order o ((path, bytes) ∷ e ∷ es) ((e.0, bytes) ∷ es) (e ∷ put R path bytes es)) (less (omega arith))
put_before path bytes (e ∷ es) (suc i) inside less above =
    ap (λ o. by_order o ((path, bytes) ∷ e ∷ es) ((e.0, bytes) ∷ es) (e ∷ put R path bytes es)) (above 0 (omega arith))
    ∙ ap (λ rest. e ∷ rest) (put_before path bytes es i (omega arith) (λ lt. less (omega arith)) (above_tail path e es i above))

pub first : (a b : Bool) → T (a && b) → T a
first true b p = tt
first false b p = p

pub second : (a b : Bool) → T (a && b) → T b
second true b p = p
second false b p = absurd p

pub is_less : (o : Ordering) → T (Rattle.std.specs.Ordering.is_lt o) → o ≡ Less
is_less Less p = refl
is_less Equal p = absurd p
is_less Greater p = absurd p

below_none : (path first_path : List ℕ) (es : Entries) → R path first_path ≡ Less → T (below_all R first_path es) → find R path es ≡ None
below_none path x [] less below = refl
below_none path x (e ∷ es) less below =
    ap (λ o. cond (is_eq o) (Some e.1) (find R path es)) (nat_list_cmp_total.trans path x e.0 less (is_less _ (first _ _ below)))
    ∙ below_none path x es less (second _ _ below)

pub find_before : (path : List ℕ) (es : Entries) (i : ℕ) → T (is_sorted R es) → (i < length es → R path (path_at es i) ≡ Less) → IsAboveFirst path es i → i ≤ length es → find R path es ≡ None
find_before path [] i sorted less above inside = refl
find_before path (e ∷ es) zero sorted less above inside =
    let before = less (omega arith) in
    ap (λ o. cond (is_eq o) (Some e.1) (find R path es)) before ∙ below_none path e.0 es before (first _ _ sorted)
find_before path (e ∷ es) (suc i) sorted less above inside =
    ap (λ o. cond (is_eq o) (Some e.1) (find R path es)) (above 0 (omega arith))
    ∙ find_before path es i (second _ _ sorted) (λ lt. less (omega arith)) (above_tail path e es i above) (omega arith)

pub T-from_IsTrue : (b : Bool) → IsTrue b → T b
T-from_IsTrue b e = subst T (sym e) tt

pub IsTrue-from_T : (b : Bool) → T b → IsTrue b
IsTrue-from_T true p = refl
IsTrue-from_T false p = absurd p

-- the list is in order, and is the map
abbrev pub IsMap : Entries → FileMap → Type 0
IsMap es m = T (is_sorted R es) × (finite.from_sorted {R = R} es ≡ m)

-- a list in order with the same entries is the map
pub same_as : (es : Entries) (m : FileMap) → T (is_sorted R es) → es ≡ finite.entries m → finite.from_sorted {R = R} es ≡ m
same_as es m sorted same = finite.same_entries_map _ m (finite.entries-from_sorted R es sorted ∙ same)

pub inserted : (es next : Entries) (m : FileMap) (path bytes : List ℕ) → T (is_sorted R es) → finite.from_sorted {R = R} es ≡ m → next ≡ put R path bytes es → IsMap next (finite.insert m path bytes)
inserted es next m path bytes sorted is same =
    let next_sorted : T (is_sorted R next) = subst (λ l. T (is_sorted R l)) (sym same) (is_sorted-put R nat_list_cmp_total path bytes es sorted) in
    let held : finite.entries m ≡ es = ap finite.entries (sym is) ∙ finite.entries-from_sorted R es sorted in
    (next_sorted, same_as next _ next_sorted (same ∙ ap (put R path bytes) (sym held) ∙ sym (finite.entries-insert nat_list_cmp_total m path bytes)))

turned : {A : Type 0} (b : Bool) (o : Option A) → cond (not b) o None ≡ cond b None o
turned true o = refl
turned false o = refl

plain-others : (path : List ℕ) (es : List (List ℕ × Vec ℕ Global)) → plain (filter (λ e. not (bytes_eq path e.0)) es) ≡ where_key R (λ x. not (eq_by_cmp R path x)) (plain es)
plain-others path [] = refl
plain-others path (e ∷ es) =
    let rest = plain-others path es in
    ap (λ b. plain (cond (not b) (e ∷ filter (λ e. not (bytes_eq path e.0)) es) (filter (λ e. not (bytes_eq path e.0)) es))) (sym (is_eq-slice_cmp path e.0))
    ∙ elim (eq_by_cmp R path e.0) as (λ b. plain (cond (not b) (e ∷ filter (λ e. not (bytes_eq path e.0)) es) (filter (λ e. not (bytes_eq path e.0)) es)) ≡ cond (not b) ((e.0, e.1.items) ∷ where_key R (λ x. not (eq_by_cmp R path x)) (plain es)) (where_key R (λ x. not (eq_by_cmp R path x)) (plain es))) [
      | true ↦ rest
      | false ↦ ap (λ tail. (e.0, e.1.items) ∷ tail) rest
    ]

pub removed : (es next : List (List ℕ × Vec ℕ Global)) (m : FileMap) (path : List ℕ) → T (is_sorted R (plain es)) → finite.from_sorted {R = R} (plain es) ≡ m → next ≡ filter (λ e. not (bytes_eq path e.0)) es → IsMap (plain next) (finite.remove m path)
removed es next m path sorted is same =
    let left : plain next ≡ where_key R (λ x. not (eq_by_cmp R path x)) (plain es) = ap plain same ∙ plain-others path es in
    let next_sorted : T (is_sorted R (plain next)) = subst (λ l. T (is_sorted R l)) (sym left) (is_sorted-where_key R (λ x. not (eq_by_cmp R path x)) (plain es) sorted) in (
      next_sorted,
      finite.same_map nat_list_cmp_total (finite.slice_cmp-IsAntisymmetric finite.nat_cmp-IsAntisymmetric) _ _ (λ q.
          finite.get-from_sorted R (plain next) q next_sorted
          ∙ ap (find R q) left
          ∙ find-where_key R (λ x. not (eq_by_cmp R path x)) q (λ x t. ap (λ r. not (is_eq r)) (sym (alike_right nat_list_cmp_total q x path t))) (plain es)
          ∙ turned (eq_by_cmp R path q) (find R q (plain es))
          ∙ ap (λ b. cond b None (find R q (plain es))) ((eq_by_cmp_equiv nat_list_cmp_total).symm path q)
          ∙ ap (λ o. cond (eq_by_cmp R q path) None o) (sym (finite.get-from_sorted R (plain es) q sorted) ∙ ap (λ n. finite.get n q) is)
          ∙ sym (finite.get-remove nat_list_cmp_total m path q)),
    )

-- the path and the bytes that are read at an index
pub path_read : (es : List (List ℕ × Vec ℕ Global)) (i : ℕ) (x : List ℕ × Vec ℕ Global) → i < length es → x ≡ get_or es i x → path_at (plain es) i ≡ x.0
path_read es i x inside is = ap (λ (p : List ℕ × List ℕ). p.0) (get_or-map (λ e. (e.0, e.1.items)) es i x ([], []) inside) ∙ ap (λ (e : List ℕ × Vec ℕ Global). e.0) (sym is)

pub bytes_read : (es : List (List ℕ × Vec ℕ Global)) (i : ℕ) (x : List ℕ × Vec ℕ Global) → i < length es → x ≡ get_or es i x → (get_or (plain es) i ([], [])).1 ≡ x.1.items
bytes_read es i x inside is = ap (λ (p : List ℕ × List ℕ). p.1) (get_or-map (λ e. (e.0, e.1.items)) es i x ([], []) inside) ∙ ap (λ (e : List ℕ × Vec ℕ Global). e.1.items) (sym is)

pub plain-length : (es : List (List ℕ × Vec ℕ Global)) → length (plain es) ≡ length es
plain-length [] = refl
plain-length (e ∷ es) = ap suc (plain-length es)

pub empty_list : finite.from_sorted {R = R} [] ≡ finite.empty {X = List ℕ}
empty_list = finite.empty_of_len _ (finite.len-entries _ ∙ ap length (finite.entries-from_sorted R [] tt))

pub place_of : (path path' : List ℕ) (es es' : List (List ℕ × Vec ℕ Global)) (r s : Result ℕ ℕ) → path ≡ path' → es ≡ es' → r ≡ s → IsSlot path (plain es) r → IsSlot path' (plain es') s
place_of path path' es es' r s p e q h = subst (λ x. IsSlot path' (plain es') x) q (subst (λ x. IsSlot path' (plain x) r) e (subst (λ x. IsSlot x (plain es) r) p h))

pub plain-set : (es : List (List ℕ × Vec ℕ Global)) (i : ℕ) (x : List ℕ × Vec ℕ Global) → plain (set es i x) ≡ set (plain es) i (x.0, x.1.items)
plain-set [] i x = refl
plain-set (e ∷ es) zero x = refl
plain-set (e ∷ es) (suc i) x = ap (λ rest. (e.0, e.1.items) ∷ rest) (plain-set es i x)

pub plain-insert : (es : List (List ℕ × Vec ℕ Global)) (i : ℕ) (x : List ℕ × Vec ℕ Global) → i ≤ length es → plain (insert es i x) ≡ insert (plain es) i (x.0, x.1.items)
plain-insert es zero x inside = refl
plain-insert [] (suc i) x inside = absurd (omega arith)
plain-insert (e ∷ es) (suc i) x inside = ap (λ rest. (e.0, e.1.items) ∷ rest) (plain-insert es i x (omega arith))

-- how many files there are
pub count : (es : List (List ℕ × Vec ℕ Global)) (m : FileMap) → IsTrue (is_sorted R (plain es)) → finite.from_sorted {R = R} (plain es) ≡ m → finite.len m ≡ length es
count es m sorted is = finite.len-entries m ∙ ap length (ap finite.entries (sym is) ∙ finite.entries-from_sorted R (plain es) (T-from_IsTrue _ sorted)) ∙ plain-length es

-- one more file is copied
pub plain_push : (done es : List (List ℕ × Vec ℕ Global)) (i : ℕ) (x y : List ℕ × Vec ℕ Global) → i < length es → y ≡ get_or es i y → x.0 ≡ y.0 → x.1.items ≡ y.1.items → plain done ≡ plain (take i es) → plain (done ++ x ∷ []) ≡ plain (take (i + 1) es)
plain_push done es i x y inside is path bytes so_far =
    map-append (λ e. (e.0, e.1.items)) done (x ∷ [])
    ∙ ap (λ front. front ++ (x.0, x.1.items) ∷ []) so_far
    ∙ ap (λ p. plain (take i es) ++ (p, x.1.items) ∷ []) path
    ∙ ap (λ b. plain (take i es) ++ (y.0, b) ∷ []) bytes
    ∙ sym (map-append (λ e. (e.0, e.1.items)) (take i es) (y ∷ []))
    ∙ ap (λ e. plain (take i es ++ e ∷ [])) is
    ∙ ap plain (sym (take_more es i y inside))

-- the copies of all files are the files
pub all_copied : (done es : List (List ℕ × Vec ℕ Global)) (m : FileMap) (i : ℕ) → IsTrue (is_sorted R (plain es)) → finite.from_sorted {R = R} (plain es) ≡ m → i ≡ length es → plain done ≡ plain (take i es) → IsMap (plain done) m
all_copied done es m i sorted is whole same =
    let copied : plain es ≡ plain done = sym (same ∙ ap plain (ap (λ k. take k es) whole ∙ take-length es)) in (
      subst (λ l. T (is_sorted R l)) copied (T-from_IsTrue _ sorted),
      subst (λ l. finite.from_sorted {R = R} l ≡ m) copied is,
    )
