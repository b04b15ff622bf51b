-- What the paths of a list of files in order are.
use Rattle.std.proofs.Common.{◌≡◌, ℕ, zero, suc, ◌+◌, ◌<◌, ◌≤◌, Bool, true, false, ◌&&◌, cond, List, [], ◌∷◌, ◌++◌, length, get_or, take, drop, Some, Option, IsSome, IsTrue, refl, sym, ap, subst, ◌∙◌, arith, T, ◌||◌, length-append, append_assoc, inl, inr, ◌⊎◌, Vec}
use Rattle.std.specs.List.{IsDistinct, AllByRecursion, list_any}
use Rattle.std.specs.Ordering.{nat_cmp, eq_by_cmp, is_eq, is_lt}
use Rattle.std.specs.Prelude.{bytes_eq, string_bytes, Contains}
use Rattle.std.specs.Cmp.Lexicographic.{slice_cmp, nat_list_cmp_total}
use Rattle.std.specs.declared.cmp.Ordering.{Ordering}
use Rattle.std.specs.declared.cmp.Ordering.TheVariants.{Less, Equal, Greater}
use Rattle.std.proofs.lemmas.Map.Text.{is_eq-slice_cmp}
use Rattle.std.proofs.lemmas.List.{at_drop_more, get_or-map}
use Rattle.std.proofs.Math.ListN.{length-take}
use Rattle.std.specs.declared.alloc.Global.{Global}
use Rattle.std.specs.Cmp.{tied_itself, eq_by_cmp_equiv}
use Rattle.std.specs.FinMap as finite
use Rattle.std.specs.FinMap.Entries.{find, is_sorted, below_all}
use Rattle.jr_base.specs.Files.{FileMap, plain}
use Rattle.jr_base.specs.Paths.{is_java}
use Rattle.jr_store.specs.Image.{Image, AreJava, Lists}
use Rattle.std.specs.HashSet.{contains_text}
use Rattle.jr_store.specs.declared.folder_list.Listed.{Listed}
use Rattle.jr_store.specs.Listing.{IsListing, IsListed, java_paths}
use Rattle.jr_store.specs.Replay.{image_of}

abbrev R : List ℕ → List ℕ → Ordering
R = slice_cmp nat_cmp

abbrev pub Entries : Type 0
Entries = List (List ℕ × List ℕ)

-- the path is one of these
abbrev pub IsIn : List ℕ → List (List ℕ) → Type 0
IsIn path [] = ⊥
IsIn path (other ∷ others) = (path ≡ other) ⊎ IsIn path others

contains_in : (path : List ℕ) (paths : List (List ℕ)) → IsIn path paths → Contains paths path
contains_in path [] is = absurd is
contains_in path (p ∷ paths) (inl is) = (0, omega arith, sym is)
contains_in path (p ∷ paths) (inr is) = let at = contains_in path paths is in (suc at.0, omega (arith, at.1), at.2)

all_contained : (P : List ℕ → Type 0) (paths : List (List ℕ)) → AllByRecursion P paths → (path : List ℕ) → Contains paths path → P path
all_contained P [] all path (k, within, is) = absurd (omega (arith, within))
all_contained P (p ∷ paths) all path (zero, within, is) = subst P is all.0
all_contained P (p ∷ paths) all path (suc k, within, is) = all_contained P paths all.1 path (k, omega (arith, within), is)

first : (a b : Bool) → T (a && b) → T a
first true b p = tt
first false b p = p

second : (a b : Bool) → T (a && b) → T b
second true b p = p
second false b p = absurd p

-- a fact of each path, from what holds of each file
each : (P : List ℕ → Type 0) (Q : Entries → Type 0) (here : (e : List ℕ × List ℕ) (es : Entries) → Q (e ∷ es) → is_java e.0 ≡ true → P e.0) (on : (e : List ℕ × List ℕ) (es : Entries) → Q (e ∷ es) → Q es) → (es : Entries) → Q es → AllByRecursion P (java_paths es)
each P Q here on [] q = tt
each P Q here on (e ∷ es) q =
    let rest = each P Q here on es (on e es q) in
    elim (is_java e.0) as (λ b. is_java e.0 ≡ b → AllByRecursion P (cond b (e.0 ∷ java_paths es) (java_paths es))) [
      | true ↦ λ is. (here e es q is, rest)
      | false ↦ λ is. rest
    ] refl

pub java_each : (es : Entries) → AllByRecursion (λ path. IsTrue (is_java path)) (java_paths es)
java_each es = each (λ path. IsTrue (is_java path)) (λ es. Unit {0}) (λ e es q is. is) (λ e es q. tt) es tt

equal : (r : Ordering) → T (is_eq r) → r ≡ Equal
equal Less p = absurd p
equal Equal p = refl
equal Greater p = absurd p

less_differs : (o : Ordering) → T (is_lt o) → is_eq o ≡ false
less_differs Less p = refl
less_differs Equal p = absurd p
less_differs Greater p = absurd p

above_differ : (path : List ℕ) (es : Entries) → T (below_all R path es) → AllByRecursion (λ other. bytes_eq path other ≡ false) (java_paths es)
above_differ path es below = each (λ other. bytes_eq path other ≡ false) (λ es. T (below_all R path es)) (λ e es q is. sym (is_eq-slice_cmp path e.0) ∙ less_differs (R path e.0) (first _ _ q)) (λ e es q. second _ _ q) es below

pub distinct_each : (es : Entries) → T (is_sorted R es) → IsDistinct bytes_eq (java_paths es)
unfolding IsDistinct
distinct_each [] sorted = tt
distinct_each (e ∷ es) sorted =
    let rest = distinct_each es (second _ _ sorted) in
    elim (is_java e.0) as (λ b. IsDistinct bytes_eq (cond b (e.0 ∷ java_paths es) (java_paths es))) [
      | true ↦ (above_differ e.0 es (first _ _ sorted), rest)
      | false ↦ rest
    ]

-- what is found in the rest is found in the whole
found_on : (path : List ℕ) (e : List ℕ × List ℕ) (es : Entries) → IsSome (find R path es) → IsSome (find R path (e ∷ es))
found_on path e es found = elim (eq_by_cmp R path e.0) as (λ b. IsSome (cond b (Some e.1) (find R path es))) [ true ↦ refl | false ↦ found ]

found_here : (e : List ℕ × List ℕ) (es : Entries) → IsSome (find R e.0 (e ∷ es))
found_here e es = ap (λ o. is_some_of (cond (is_eq o) (Some e.1) (find R e.0 es))) (tied_itself nat_list_cmp_total e.0)
  where
    is_some_of : Option (List ℕ) → Bool
    is_some_of = Rattle.std.specs.Prelude.is_some

pub there_each : (m : FileMap) (es : Entries) → ((path : List ℕ) → IsSome (find R path es) → IsSome (finite.get m path)) → AllByRecursion (λ path. IsSome (finite.get m path)) (java_paths es)
there_each m es inside = each (λ path. IsSome (finite.get m path)) (λ es. (path : List ℕ) → IsSome (find R path es) → IsSome (finite.get m path)) (λ e es q is. q e.0 (found_here e es)) (λ e es q path found. q path (found_on path e es found)) es inside

-- what is found stands among the paths
pub all_listed : (es : Entries) (path : List ℕ) → IsTrue (is_java path) → IsSome (find R path es) → IsIn path (java_paths es)
all_listed [] path java found = absurd (subst T (sym found) tt)
all_listed (e ∷ es) path java found =
    elim (eq_by_cmp R path e.0) as (λ b. eq_by_cmp R path e.0 ≡ b → IsSome (cond b (Some e.1) (find R path es)) → IsIn path (java_paths (e ∷ es))) [
      | true ↦ λ is _.
          let same : path ≡ e.0 = finite.slice_cmp-IsAntisymmetric finite.nat_cmp-IsAntisymmetric path e.0 (equal _ (subst T (sym is) tt)) in
          subst (λ b. IsIn path (cond b (e.0 ∷ java_paths es) (java_paths es))) (sym (subst (λ p. is_java p ≡ true) same java)) (inl same)
      | false ↦ λ is on.
          let rest = all_listed es path java on in
          elim (is_java e.0) as (λ b. IsIn path (cond b (e.0 ∷ java_paths es) (java_paths es))) [ true ↦ inr rest | false ↦ rest ]
    ] refl found

all_take : (P : List ℕ → Type 0) (n : ℕ) (paths : List (List ℕ)) → AllByRecursion P paths → AllByRecursion P (take n paths)
all_take P zero paths all = tt
all_take P (suc n) [] all = tt
all_take P (suc n) (path ∷ paths) all = (all.0, all_take P n paths all.1)

distinct_take : (n : ℕ) (paths : List (List ℕ)) → IsDistinct bytes_eq paths → IsDistinct bytes_eq (take n paths)
unfolding IsDistinct
distinct_take zero paths distinct = tt
distinct_take (suc n) [] distinct = tt
distinct_take (suc n) (path ∷ paths) distinct = (all_take (λ other. bytes_eq path other ≡ false) n paths distinct.0, distinct_take n paths distinct.1)

take_few : (n : ℕ) (paths : List (List ℕ)) → length (take n paths) < n → take n paths ≡ paths
take_few zero paths few = absurd (omega arith)
take_few (suc n) [] few = refl
take_few (suc n) (path ∷ paths) few = ap (λ rest. path ∷ rest) (take_few n paths (omega arith))

-- the first paths of a map that end in `.java`
module _ (m : FileMap) (f : Image) (told : image_of m ≡ f) (es : Entries) (most : ℕ) (paths : List (List ℕ)) (entries : es ≡ finite.entries m) (same : paths ≡ take most (java_paths es)) where
  sorted : T (is_sorted R es)
  sorted = subst (λ l. T (is_sorted R l)) (sym entries) (finite.entries_sorted m)

  got : (path : List ℕ) → finite.get m path ≡ find R path es
  got path = finite.get-entries m path ∙ ap (find R path) (sym entries)

  pub list_distinct : IsDistinct bytes_eq paths
  list_distinct = subst (IsDistinct bytes_eq) (sym same) (distinct_take most (java_paths es) (distinct_each es sorted))

  pub list_java : AreJava paths
  list_java = subst AreJava (sym same) (all_take (λ path. IsTrue (is_java path)) most (java_paths es) (java_each es))

  pub list_at_most : length paths ≤ most
  list_at_most = omega (arith, ap length same, length-take most (java_paths es))

  pub list_listed : Lists (Some f) most paths
  list_listed = subst (λ (image : Image). Lists (Some image) most paths) told (subst (λ (ps : List (List ℕ)). Lists (Some (image_of m)) most ps) (sym same) (
    all_contained (λ path. IsSome (finite.get m path)) (take most (java_paths es)) (all_take (λ path. IsSome (finite.get m path)) most (java_paths es) (there_each m es (λ path found. subst IsSome (sym (got path)) found))),
    λ few path java found. contains_in path (take most (java_paths es)) (subst (IsIn path) (sym (take_few most (java_paths es) few)) (all_listed es path java (subst IsSome (got path) found))),
  ))

plain-length : (files : List (List ℕ × Vec ℕ Global)) → length (plain files) ≡ length files
plain-length [] = refl
plain-length (e ∷ es) = ap suc (plain-length es)

-- a step of the loop
module _ (files : List (List ℕ × Vec ℕ Global)) (i : ℕ) (x : List ℕ × Vec ℕ Global) (inside : i < length files) (is : x ≡ get_or files i x) (paths : List (List ℕ)) (so_far : paths ++ java_paths (drop i (plain files)) ≡ java_paths (plain files)) where
  java_next : java_paths (drop i (plain files)) ≡ cond (is_java x.0) (x.0 ∷ java_paths (drop (i + 1) (plain files))) (java_paths (drop (i + 1) (plain files)))
  java_next =
      at_drop_more java_paths (plain files) i ([], []) (omega (arith, plain-length files))
      ∙ ap (λ (key : List ℕ). cond (is_java key) (key ∷ java_paths (drop (i + 1) (plain files))) (java_paths (drop (i + 1) (plain files))))
      (ap (λ (p : List ℕ × List ℕ). p.0) (get_or-map (λ e. (e.0, e.1.items)) files i x ([], []) inside) ∙ ap (λ (e : List ℕ × Vec ℕ Global). e.0) (sym is))

  pub step_taken : is_java x.0 ≡ true → (paths ++ x.0 ∷ []) ++ java_paths (drop (i + 1) (plain files)) ≡ java_paths (plain files)
  step_taken java =
      append_assoc paths (x.0 ∷ []) (java_paths (drop (i + 1) (plain files)))
      ∙ ap (λ l. paths ++ l) (sym (java_next ∙ ap (λ (b : Bool). cond b (x.0 ∷ java_paths (drop (i + 1) (plain files))) (java_paths (drop (i + 1) (plain files)))) java))
      ∙ so_far

  pub step_left : is_java x.0 ≡ false → paths ++ java_paths (drop (i + 1) (plain files)) ≡ java_paths (plain files)
  step_left other =
      ap (λ l. paths ++ l) (sym (java_next ∙ ap (λ (b : Bool). cond b (x.0 ∷ java_paths (drop (i + 1) (plain files))) (java_paths (drop (i + 1) (plain files)))) other))
      ∙ so_far

take_at_front : (n : ℕ) (paths rest : List (List ℕ)) → length paths ≡ n → take n (paths ++ rest) ≡ paths
take_at_front zero [] rest full = refl
take_at_front zero (path ∷ paths) rest full = absurd (omega arith)
take_at_front (suc n) [] rest full = absurd (omega arith)
take_at_front (suc n) (path ∷ paths) rest full = ap (λ l. path ∷ l) (take_at_front n paths rest (omega arith))

pub take_front : (n : ℕ) (paths rest whole : List (List ℕ)) → paths ++ rest ≡ whole → length paths ≡ n → paths ≡ take n whole
take_front n paths rest whole is full = subst (λ w. paths ≡ take n w) is (sym (take_at_front n paths rest full))

neither : (a b : Bool) → (a || b) ≡ false → (a ≡ false) × (b ≡ false)
neither true b e = absurd (subst T e tt)
neither false b e = (refl, e)

bytes_eq-sym : (xs ys : List ℕ) → bytes_eq xs ys ≡ bytes_eq ys xs
bytes_eq-sym xs ys = sym (is_eq-slice_cmp xs ys) ∙ (eq_by_cmp_equiv nat_list_cmp_total).symm xs ys ∙ is_eq-slice_cmp ys xs

-- one more path that is new, where there is room
pub listing_more : (most : ℕ) (paths : List (List ℕ)) (name : List ℕ) → IsListing most paths → length paths < most → is_java name ≡ true → list_any (bytes_eq name) paths ≡ false → IsListing most (paths ++ name ∷ [])
unfolding IsDistinct
listing_more most paths name listing room java new = record {
  java = all_more paths listing.java java;
  distinct = distinct_more paths listing.distinct new;
  at_most = omega (arith, length-append paths (name ∷ []));
}
  where
    all_more : (ps : List (List ℕ)) → AllByRecursion (λ path. IsTrue (is_java path)) ps → is_java name ≡ true → AllByRecursion (λ path. IsTrue (is_java path)) (ps ++ name ∷ [])
    all_more [] all java = (java, tt)
    all_more (p ∷ ps) all java = (all.0, all_more ps all.1 java)

    -- what stood before differs from the new one
    differ_more : (path : List ℕ) (ps : List (List ℕ)) → AllByRecursion (λ other. bytes_eq path other ≡ false) ps → bytes_eq path name ≡ false → AllByRecursion (λ other. bytes_eq path other ≡ false) (ps ++ name ∷ [])
    differ_more path [] all last = (last, tt)
    differ_more path (p ∷ ps) all last = (all.0, differ_more path ps all.1 last)

    distinct_more : (ps : List (List ℕ)) → IsDistinct bytes_eq ps → list_any (bytes_eq name) ps ≡ false → IsDistinct bytes_eq (ps ++ name ∷ [])
    distinct_more [] distinct new = (tt, tt)
    distinct_more (p ∷ ps) distinct new =
        let parts = neither (bytes_eq name p) (list_any (bytes_eq name) ps) new in
        (differ_more p ps distinct.0 (bytes_eq-sym p name ∙ parts.0), distinct_more ps distinct.1 parts.1)

pub listing_none : (most : ℕ) (paths : List (List ℕ)) → paths ≡ [] → IsListing most paths
unfolding IsDistinct
listing_none most paths is = subst (IsListing most) (sym is) (record { java = tt; distinct = tt; at_most = omega arith })

pub listed_none : (most : ℕ) (all : Listed) → all.paths.items ≡ [] → all.names.keys ≡ [] → IsListed most all
listed_none most all paths names = record {
  listing = listing_none most all.paths.items paths;
  names = λ name. ap (list_any (λ k. bytes_eq name (string_bytes k))) names ∙ sym (ap (list_any (bytes_eq name)) paths);
}

or_false : (b : Bool) → (b || false) ≡ cond b true false
or_false true = refl
or_false false = refl

later : (a b c : Bool) → (a || cond b true c) ≡ cond b true (a || c)
later true true c = refl
later true false c = refl
later false b c = refl

any_more : (name : List ℕ) (paths : List (List ℕ)) (path : List ℕ) → list_any (bytes_eq name) (paths ++ path ∷ []) ≡ cond (bytes_eq path name) true (list_any (bytes_eq name) paths)
any_more name [] path = or_false (bytes_eq name path) ∙ ap (λ b. cond b true false) (bytes_eq-sym name path)
any_more name (p ∷ paths) path =
    ap (λ b. bytes_eq name p || b) (any_more name paths path)
    ∙ later (bytes_eq name p) (bytes_eq path name) (list_any (bytes_eq name) paths)

-- one more path that is new, where there is room, beside the same text
pub listed_more : (most : ℕ) (all more : Listed) (path : List ℕ) → IsListed most all → length all.paths.items < most → is_java path ≡ true → contains_text all.names path ≡ false
    → more.paths.items ≡ all.paths.items ++ path ∷ [] → ((name : List ℕ) → contains_text more.names name ≡ cond (bytes_eq path name) true (contains_text all.names name)) → IsListed most more
listed_more most all more path listed room java new pushed named = record {
  listing = subst (IsListing most) (sym pushed) (listing_more most all.paths.items path listed.listing room java (sym (listed.names path) ∙ new));
  names = λ name.
      named name
      ∙ ap (cond (bytes_eq path name) true) (listed.names name)
      ∙ sym (any_more name all.paths.items path)
      ∙ sym (ap (list_any (bytes_eq name)) pushed);
}
