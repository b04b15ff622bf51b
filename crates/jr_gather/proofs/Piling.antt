-- What the files that piled up say of the image.
use Rattle.std.proofs.Common.{◌≡◌, ℕ, zero, suc, ◌+◌, ◌-◌, ◌<◌, ◌≤◌, nat_lt, Bool, true, false, cond, ◌||◌, List, [], ◌∷◌, ◌++◌, length, take, Some, None, Option, option_map, IsSome, IsTrue, refl, sym, ap, subst, ◌∙◌, arith, ⊎_elim, length-take}
use Rattle.std.specs.Prelude.{Contains, bytes_eq, is_some, if◌then◌else◌}
use Rattle.std.specs.FinMap.{get, insert, empty, get-insert, get-empty}
use Rattle.std.proofs.lemmas.Bool.{false≢true, ltb-true, ltb-false, lt-ltb}
use Rattle.std.proofs.lemmas.Slice.Eq.{bytes_eq-Decides}
use Rattle.std.proofs.lemmas.Cmp.{nat_list_cmp_total}
use Rattle.std.specs.Ordering.{nat_cmp}
use Rattle.std.specs.Cmp.Lexicographic.{slice_cmp}
use Rattle.std.proofs.lemmas.Map.Text.{is_eq-slice_cmp}
use Rattle.std.proofs.lemmas.List.Elements.{Contains-append_left, Contains-append_right, Contains-append_cases}
use Rattle.jr_base.specs.Files.{FileMap}
use Rattle.jr_base.specs.Paths.{is_java}
use Rattle.jr_base.specs.declared.limits.TheConstants.Limits as limits
use Rattle.jr_store.specs.Image.{Image, AreJava, Lists, Reads}
use Rattle.jr_gather.specs.Piles.{PlainPile, start, next, with_side, pile_of, outcome_of}
use Rattle.jr_base.specs.declared.limits.Size.{Size}
use Rattle.jr_base.specs.declared.limits.Size.TheVariants as size
use Rattle.std.specs.List.{IsDistinct, list_any}
use Rattle.std.proofs.lemmas.Map.Made.{length-le_from_is_member}
use Rattle.std.proofs.lemmas.Map.Views.{Contains-from_any, list_any-from_Contains}
use Rattle.std.specs.Cmp.Lexicographic.{nat_list_eq_equiv}
use Rattle.jr_gather.specs.Gathering.{HoldsFiles, AreFiles, IsTooLarge, many_files, long_path, large_file, much_in_all, IsFirstTooLarge, IsGathered, rank, size_of, sizes}

-- what is read of a file, up to one byte past the limit, piles up as the file does
take_few : {A : Type 0} (n : ℕ) (xs : List A) → length xs ≤ n → take n xs ≡ xs
take_few zero [] few = refl
take_few zero (x ∷ xs) few = absurd (omega arith)
take_few (suc n) [] few = refl
take_few (suc n) (x ∷ xs) few = ap (λ rest. x ∷ rest) (take_few n xs (omega arith))

pub read_piles : (pile : PlainPile) (path whole : List ℕ) → next pile path (take 1048577 whole) ≡ next pile path whole
read_piles pile path whole = decided (nat_lt limits.FILE (length whole)) refl
  where
    decided : (b : Bool) → nat_lt limits.FILE (length whole) ≡ b → next pile path (take 1048577 whole) ≡ next pile path whole
    decided true is =
        let few : nat_lt limits.FILE (length (take 1048577 whole)) ≡ true = lt-ltb limits.FILE (length (take 1048577 whole)) (omega (arith, ltb-true limits.FILE (length whole) is, length-take 1048577 whole)) in
        rw few (rw is refl)
    decided false is = ap (next pile path) (take_few 1048577 whole (omega (arith, ltb-false limits.FILE (length whole) is)))

-- what the pile says once the files at these paths are on it
pub record Piles (f : Image) (done : List (List ℕ)) (pile : PlainPile) : Type 0 where
  pub large : pile.is_large ≡ true → (path : List ℕ) × (bytes : List ℕ) × Contains done path × (f path ≡ Some bytes) × (limits.FILE < length bytes)
  pub small : pile.is_large ≡ false → (path bytes : List ℕ) → Contains done path → f path ≡ Some bytes → length bytes ≤ limits.FILE
  pub past : pile.is_large ≡ false → pile.is_past ≡ true → limits.TOTAL < sizes f done
  pub left : pile.is_large ≡ false → pile.is_past ≡ false → pile.left + sizes f done ≡ limits.TOTAL
  pub inside : pile.is_large ≡ false → pile.is_past ≡ false → (q : List ℕ) → Contains done q → get pile.files q ≡ f q
  pub outside : (q : List ℕ) → IsSome (get pile.files q) → Contains done q

sizes_more : (f : Image) (done : List (List ℕ)) (path : List ℕ) → sizes f (done ++ path ∷ []) ≡ sizes f done + size_of (f path)
sizes_more f [] path = omega arith
sizes_more f (p ∷ done) path = omega (arith, sizes_more f done path)

size_is : (f : Image) (path bytes : List ℕ) → f path ≡ Some bytes → size_of (f path) ≡ length bytes
size_is f path bytes is = ap size_of is

just_there : (path q : List ℕ) → Contains (path ∷ []) q → q ≡ path
just_there path q (zero, below, is) = sym is
just_there path q (suc k, below, is) = absurd (omega arith)

is_there : (path : List ℕ) → Contains (path ∷ []) path
is_there path = (0, omega arith, refl)

got : (files : FileMap) (path bytes q : List ℕ) → get (insert files path bytes) q ≡ cond (bytes_eq q path) (Some bytes) (get files q)
got files path bytes q = get-insert nat_list_cmp_total files path bytes q ∙ ap (λ b. cond b (Some bytes) (get files q)) (is_eq-slice_cmp q path)

module _ (f : Image) (done : List (List ℕ)) (pile : PlainPile) (path : List ℕ) (piles : Piles f done pile) where
  abbrev more : List (List ℕ)
  more = done ++ path ∷ []

  old_there : (q : List ℕ) → Contains done q → Contains more q
  old_there q there = Contains-append_left done (path ∷ []) q there

  new_there : Contains more path
  new_there = Contains-append_right done (path ∷ []) path (is_there path)

  still_small : pile.is_large ≡ false → ((bytes : List ℕ) → f path ≡ Some bytes → length bytes ≤ limits.FILE) → (at bytes : List ℕ) → Contains more at → f at ≡ Some bytes → length bytes ≤ limits.FILE
  still_small small here at bytes there is = ⊎_elim (λ old. piles.small small at bytes old is) (λ last. here bytes (ap f (sym (just_there path at last)) ∙ is)) (Contains-append_cases done (path ∷ []) at there)

  with_large : pile.is_large ≡ true → (at : List ℕ) × (bytes : List ℕ) × Contains more at × (f at ≡ Some bytes) × (limits.FILE < length bytes)
  with_large large = let it = piles.large large in (it.0, it.1, old_there it.0 it.2, it.3, it.4)

  some_is : (o : Option (List ℕ)) (bytes : List ℕ) → o ≡ Some bytes → IsSome o
  some_is o bytes is = subst IsSome (sym is) refl

  same_here : (q : List ℕ) → q ≡ path → get pile.files path ≡ f path → get pile.files q ≡ f q
  same_here q is same = ap (get pile.files) is ∙ same ∙ ap f (sym is)

  not_there : (bytes : List ℕ) → None ≡ Some bytes → ⊥
  not_there bytes e = cc

  absent : f path ≡ None → Piles f more pile
  absent none = record {
    large = with_large;
    small = λ small. still_small small (λ bytes there. absurd (not_there bytes (sym none ∙ there)));
    past = λ small past. omega (arith, piles.past small past, sizes_more f done path);
    left = λ small here. omega (arith, piles.left small here, sizes_more f done path, ap size_of none);
    inside = λ small here q there. ⊎_elim (piles.inside small here q) (λ last. same_here q (just_there path q last) (none_here small here (get pile.files path) refl)) (Contains-append_cases done (path ∷ []) q there);
    outside = λ q there. old_there q (piles.outside q there);
  }
    where
      none_here : pile.is_large ≡ false → pile.is_past ≡ false → (o : Option (List ℕ)) → get pile.files path ≡ o → get pile.files path ≡ f path
      none_here small here None is = is ∙ sym none
      none_here small here (Some bytes) is = piles.inside small here path (piles.outside path (some_is (get pile.files path) bytes is))

  module _ (bytes : List ℕ) (is : f path ≡ Some bytes) where
    sized : sizes f more ≡ sizes f done + length bytes
    sized = sizes_more f done path ∙ ap (λ (n : ℕ). sizes f done + n) (size_is f path bytes is)

    too_large : limits.FILE < length bytes → Piles f more (record { files = pile.files; left = pile.left; is_large = true; is_past = pile.is_past })
    too_large size = record {
      large = λ large. (path, bytes, new_there, is, size);
      small = λ small. absurd (false≢true (sym small));
      past = λ small past. absurd (false≢true (sym small));
      left = λ small here. absurd (false≢true (sym small));
      inside = λ small here q there. absurd (false≢true (sym small));
      outside = λ q there. old_there q (piles.outside q there);
    }

    same_bytes : (other : List ℕ) → Some bytes ≡ Some other → bytes ≡ other
    same_bytes other e = cc

    here_small : length bytes ≤ limits.FILE → (other : List ℕ) → f path ≡ Some other → length other ≤ limits.FILE
    here_small few other there = subst (λ (b : List ℕ). length b ≤ limits.FILE) (same_bytes other (sym is ∙ there)) few

    too_many : length bytes ≤ limits.FILE → pile.left < length bytes → Piles f more (record { files = pile.files; left = pile.left; is_large = pile.is_large; is_past = true })
    too_many few size = record {
      large = with_large;
      small = λ small. still_small small (here_small few);
      past = λ small past. by_past small pile.is_past refl;
      left = λ small here. absurd (false≢true (sym here));
      inside = λ small here q there. absurd (false≢true (sym here));
      outside = λ q there. old_there q (piles.outside q there);
    }
      where
        by_past : pile.is_large ≡ false → (b : Bool) → pile.is_past ≡ b → limits.TOTAL < sizes f more
        by_past small true past = omega (arith, piles.past small past, sized)
        by_past small false here = omega (arith, piles.left small here, sized, size)

    abbrev files_more : FileMap
    files_more = insert pile.files path bytes

    got_here : (q : List ℕ) → q ≡ path → get files_more q ≡ f q
    got_here q same = got pile.files path bytes q ∙ ap (λ b. cond b (Some bytes) (get pile.files q)) ((bytes_eq-Decides q path).1 same) ∙ sym is ∙ ap f (sym same)

    got_old : (q : List ℕ) → get pile.files q ≡ f q → get files_more q ≡ f q
    got_old q old = decided (bytes_eq q path) refl
      where
        decided : (b : Bool) → bytes_eq q path ≡ b → get files_more q ≡ f q
        decided true same = got_here q ((bytes_eq-Decides q path).0 same)
        decided false other = got pile.files path bytes q ∙ ap (λ b. cond b (Some bytes) (get pile.files q)) other ∙ old

    got_there : (q : List ℕ) → IsSome (get files_more q) → Contains more q
    got_there q there = decided (bytes_eq q path) refl
      where
        decided : (b : Bool) → bytes_eq q path ≡ b → Contains more q
        decided true same = subst (Contains more) (sym ((bytes_eq-Decides q path).0 same)) new_there
        decided false other = old_there q (piles.outside q (subst IsSome (got pile.files path bytes q ∙ ap (λ b. cond b (Some bytes) (get pile.files q)) other) there))

    one_more : length bytes ≤ limits.FILE → length bytes ≤ pile.left → Piles f more (record { files = files_more; left = pile.left - length bytes; is_large = pile.is_large; is_past = pile.is_past })
    one_more few size = record {
      large = with_large;
      small = λ small. still_small small (here_small few);
      past = λ small past. omega (arith, piles.past small past, sized);
      left = λ small here. omega (arith, piles.left small here, sized, size);
      inside = λ small here q there. ⊎_elim (λ old. got_old q (piles.inside small here q old)) (λ last. got_here q (just_there path q last)) (Contains-append_cases done (path ∷ []) q there);
      outside = got_there;
    }

    by_size : (large past : Bool) → nat_lt limits.FILE (length bytes) ≡ large → nat_lt pile.left (length bytes) ≡ past → Piles f more (next pile path bytes)
    by_size true past large_is past_is =
        subst (λ (b : Bool). Piles f more (if b then record { files = pile.files; left = pile.left; is_large = true; is_past = pile.is_past } else (if nat_lt pile.left (length bytes) then record { files = pile.files; left = pile.left; is_large = pile.is_large; is_past = true } else record { files = files_more; left = pile.left - length bytes; is_large = pile.is_large; is_past = pile.is_past })))
        (sym large_is) (too_large (ltb-true limits.FILE (length bytes) large_is))
    by_size false true large_is past_is =
        subst (λ (b : Bool). Piles f more (if b then record { files = pile.files; left = pile.left; is_large = true; is_past = pile.is_past } else (if nat_lt pile.left (length bytes) then record { files = pile.files; left = pile.left; is_large = pile.is_large; is_past = true } else record { files = files_more; left = pile.left - length bytes; is_large = pile.is_large; is_past = pile.is_past })))
        (sym large_is) (subst (λ (b : Bool). Piles f more (if b then record { files = pile.files; left = pile.left; is_large = pile.is_large; is_past = true } else record { files = files_more; left = pile.left - length bytes; is_large = pile.is_large; is_past = pile.is_past }))
        (sym past_is) (too_many (ltb-false limits.FILE (length bytes) large_is) (ltb-true pile.left (length bytes) past_is)))
    by_size false false large_is past_is =
        subst (λ (b : Bool). Piles f more (if b then record { files = pile.files; left = pile.left; is_large = true; is_past = pile.is_past } else (if nat_lt pile.left (length bytes) then record { files = pile.files; left = pile.left; is_large = pile.is_large; is_past = true } else record { files = files_more; left = pile.left - length bytes; is_large = pile.is_large; is_past = pile.is_past })))
        (sym large_is) (subst (λ (b : Bool). Piles f more (if b then record { files = pile.files; left = pile.left; is_large = pile.is_large; is_past = true } else record { files = files_more; left = pile.left - length bytes; is_large = pile.is_large; is_past = pile.is_past }))
        (sym past_is) (one_more (ltb-false limits.FILE (length bytes) large_is) (ltb-false pile.left (length bytes) past_is)))

  stepped : (o : Option (List ℕ)) → f path ≡ o → Piles f more (with_side pile path o)
  stepped None is = absent is
  stepped (Some bytes) is = by_size bytes is (nat_lt limits.FILE (length bytes)) (nat_lt pile.left (length bytes)) refl refl

append_one : (done rest : List (List ℕ)) (path : List ℕ) → (done ++ path ∷ []) ++ rest ≡ done ++ path ∷ rest
append_one [] rest path = refl
append_one (p ∷ done) rest path = ap (λ (ps : List (List ℕ)). p ∷ ps) (append_one done rest path)

append_none : (done : List (List ℕ)) → done ++ [] ≡ done
append_none [] = refl
append_none (p ∷ done) = ap (λ (ps : List (List ℕ)). p ∷ ps) (append_none done)

all_piled : (f : Image) (done rest : List (List ℕ)) (pile : PlainPile) → Piles f done pile → Piles f (done ++ rest) (pile_of f pile rest)
all_piled f done [] pile piles = subst (λ (ps : List (List ℕ)). Piles f ps pile) (sym (append_none done)) piles
all_piled f done (path ∷ rest) pile piles =
    subst (λ (ps : List (List ℕ)). Piles f ps (pile_of f pile (path ∷ rest))) (append_one done rest path)
    (all_piled f (done ++ path ∷ []) rest (with_side pile path (f path)) (stepped f done pile path piles (f path) refl))

nothing_piled : (f : Image) → Piles f [] start
nothing_piled f = record {
  large = λ large. absurd (false≢true large);
  small = λ small path bytes there is. absurd (no_there path there);
  past = λ small past. absurd (false≢true past);
  left = λ small here. omega arith;
  inside = λ small here q there. absurd (no_there q there);
  outside = λ q there. absurd (none_got (get empty q) (get-empty (slice_cmp nat_cmp) q) there);
}
  where
    no_there : (q : List ℕ) → Contains [] q → ⊥
    no_there q (k, below, is) = omega arith

    none_got : (o : Option (List ℕ)) → o ≡ None → IsSome o → ⊥
    none_got o is there = false≢true (sym (ap is_some is) ∙ there)

pub piled : (f : Image) (paths : List (List ℕ)) → Piles f paths (pile_of f start paths)
piled f paths = all_piled f [] paths start (nothing_piled f)

-- the pile with what was read of a file
pub added : (f : Image) (told : Option Image) (pile after : PlainPile) (path found : List ℕ) → told ≡ Some f → Reads told path 1048577 (Some found) → after ≡ next pile path found → after ≡ with_side pile path (f path)
added f told pile after path found is read after_is = by_side (f path) refl
  where
    same_some : (x y : List ℕ) → Some x ≡ Some y → x ≡ y
    same_some x y e = cc

    some_none : (x : List ℕ) → Some x ≡ None → ⊥
    some_none x e = cc

    reads : Reads (Some f) path 1048577 (Some found)
    reads = subst (λ (t : Option Image). Reads t path 1048577 (Some found)) is read

    by_side : (o : Option (List ℕ)) → f path ≡ o → after ≡ with_side pile path o
    by_side None none = absurd (some_none found (reads ∙ ap (option_map (take 1048577)) none))
    by_side (Some whole) there = after_is ∙ ap (next pile path) (same_some found (take 1048577 whole) (reads ∙ ap (option_map (take 1048577)) there)) ∙ read_piles pile path whole

pub not_added : (f : Image) (told : Option Image) (pile : PlainPile) (path : List ℕ) → told ≡ Some f → Reads told path 1048577 None → pile ≡ with_side pile path (f path)
not_added f told pile path is read = by_side (f path) refl
  where
    none_some : (x : List ℕ) → None ≡ Some x → ⊥
    none_some x e = cc

    reads : Reads (Some f) path 1048577 None
    reads = subst (λ (t : Option Image). Reads t path 1048577 None) is read

    by_side : (o : Option (List ℕ)) → f path ≡ o → pile ≡ with_side pile path o
    by_side None none = refl
    by_side (Some whole) there = absurd (none_some (take 1048577 whole) (reads ∙ ap (option_map (take 1048577)) there))

-- ---- what is gathered

java_at : (paths : List (List ℕ)) → AreJava paths → (path : List ℕ) → Contains paths path → IsTrue (is_java path)
java_at [] java path (k, below, is) = absurd (omega arith)
java_at (p ∷ paths) java path (zero, below, is) = subst (λ (q : List ℕ). IsTrue (is_java q)) is java.0
java_at (p ∷ paths) java path (suc k, below, is) = java_at paths java.1 path (k, omega arith, is)

abbrev is_long : List ℕ → Bool
is_long path = nat_lt limits.PATH (length path)

any_long : (paths : List (List ℕ)) → list_any is_long paths ≡ true → (path : List ℕ) × Contains paths path × (limits.PATH < length path)
any_long [] some = absurd (false≢true some)
any_long (path ∷ paths) some = by_long (is_long path) refl some (any_long paths)
  where
    by_long : (b : Bool) → is_long path ≡ b → (b || list_any is_long paths) ≡ true → (list_any is_long paths ≡ true → (at : List ℕ) × Contains paths at × (limits.PATH < length at)) → (at : List ℕ) × Contains (path ∷ paths) at × (limits.PATH < length at)
    by_long true long more rest = (path, (0, omega arith, refl), ltb-true limits.PATH (length path) long)
    by_long false short more rest = let it = rest more in (it.0, (suc it.1.0, omega (arith, it.1.1), it.1.2), it.2)

all_short : (paths : List (List ℕ)) → list_any is_long paths ≡ false → (path : List ℕ) → Contains paths path → length path ≤ limits.PATH
all_short [] none path there = absurd (no_path path there)
  where
    no_path : (q : List ℕ) → Contains [] q → ⊥
    no_path q (k, below, is) = omega arith
all_short (p ∷ paths) none path there = by_long (is_long p) refl none there (λ rest. all_short paths rest path)
  where
    by_long : (b : Bool) → is_long p ≡ b → (b || list_any is_long paths) ≡ false → Contains (p ∷ paths) path → (list_any is_long paths ≡ false → Contains paths path → length path ≤ limits.PATH) → length path ≤ limits.PATH
    by_long true long none it rest = absurd (false≢true (sym none))
    by_long false short none (zero, below, is) rest = subst (λ (q : List ℕ). length q ≤ limits.PATH) is (ltb-false limits.PATH (length p) short)
    by_long false short none (suc k, below, is) rest = rest none (k, omega arith, is)

module _ (f : Image) (paths : List (List ℕ)) (distinct : IsDistinct bytes_eq paths) (java : AreJava paths) (lists : Lists (Some f) 4097 paths) where
  are : AreFiles f paths
  are = record { distinct = distinct; java = java; there = lists.0 }

  pub too_many_files : limits.FILES < length paths → IsFirstTooLarge f size.Files
  too_many_files many = record { passes = many_files paths are many; first = λ other it. omega arith }

  -- each file is among the paths, where these are not too many
  all_there : length paths ≤ limits.FILES → (path : List ℕ) → IsTrue (is_java path) → IsSome (f path) → Contains paths path
  all_there few path is_java_path there = lists.1 (omega arith) path is_java_path there

  no_more_files : length paths ≤ limits.FILES → (others : List (List ℕ)) → AreFiles f others → length others ≤ length paths
  no_more_files few others them = length-le_from_is_member nat_list_eq_equiv others paths them.distinct
      (λ q among. let there = Contains-from_any (λ a b same. (bytes_eq-Decides a b).0 same) q others among in
      list_any-from_Contains nat_list_eq_equiv q paths (all_there few q (java_at others them.java q there) (them.there q there)))

  -- a size that passes its limit comes no earlier than a place, where those before it tell so
  above : (least : ℕ) → least ≤ 3 → ((others : List (List ℕ)) → AreFiles f others → limits.FILES < length others → least ≤ 0)
      → ((path : List ℕ) → IsTrue (is_java path) → IsSome (f path) → limits.PATH < length path → least ≤ 1)
      → ((path bytes : List ℕ) → IsTrue (is_java path) → f path ≡ Some bytes → limits.FILE < length bytes → least ≤ 2)
      → (other : Size) → IsTooLarge f other → least ≤ rank other
  above least three files path file size.Files (many_files others them many) = files others them many
  above least three files path file size.Path (long_path at is_java_at there long) = path at is_java_at there long
  above least three files path file size.File (large_file at bytes is_java_at is large) = file at bytes is_java_at is large
  above least three files path file size.Total it = three
  above least three files path file size.Tokens it = three
  above least three files path file size.Nesting it = three
  above least three files path file size.Flow it = three
  above least three files path file size.Input it = three
  above least three files path file size.Requests it = three

  few_files : length paths ≤ limits.FILES → {n : ℕ} (others : List (List ℕ)) → AreFiles f others → limits.FILES < length others → n ≤ 0
  few_files few others them many = absurd (omega (arith, no_more_files few others them, many))

  pub too_long_path : length paths ≤ limits.FILES → list_any is_long paths ≡ true → IsFirstTooLarge f size.Path
  too_long_path few some = let it = any_long paths some in record {
    passes = long_path it.0 (java_at paths java it.0 it.1) (lists.0 it.0 it.1) it.2;
    first = above 1 (omega arith) (few_files few) (λ path is_java_path there long. omega arith) (λ path bytes is_java_path is large. omega arith);
  }

  holds : length paths ≤ limits.FILES → (pile : PlainPile) → Piles f paths pile → pile.is_large ≡ false → pile.is_past ≡ false → HoldsFiles f pile.files
  holds few pile piles small here = record {
    java = λ at there. java_at paths java at (piles.outside at there);
    each = λ at is_java_at. by_side at is_java_at (f at) refl;
  }
    where
      no_truth : (o : Option (List ℕ)) → IsSome o → None ≡ o → ⊥
      no_truth None there e = false≢true there
      no_truth (Some x) there e = cc

      by_side : (at : List ℕ) → IsTrue (is_java at) → (o : Option (List ℕ)) → f at ≡ o → f at ≡ get pile.files at
      by_side at java_at_it None none = by_get (get pile.files at) refl
        where
          by_get : (o : Option (List ℕ)) → get pile.files at ≡ o → f at ≡ get pile.files at
          by_get None is = none ∙ sym is
          by_get (Some x) is = sym (piles.inside small here at (piles.outside at (subst IsSome (sym is) refl)))
      by_side at java_at_it (Some bytes) there = sym (piles.inside small here at (lists.1 (omega arith) at java_at_it (subst IsSome (sym there) refl)))

  short_paths : length paths ≤ limits.FILES → list_any is_long paths ≡ false → {n : ℕ} (path : List ℕ) → IsTrue (is_java path) → IsSome (f path) → limits.PATH < length path → n ≤ 1
  short_paths few none path is_java_path there long = absurd (omega (arith, all_short paths none path (all_there few path is_java_path there), long))

  large_of : length paths ≤ limits.FILES → list_any is_long paths ≡ false → (path : List ℕ) × (bytes : List ℕ) × Contains paths path × (f path ≡ Some bytes) × (limits.FILE < length bytes) → IsFirstTooLarge f size.File
  large_of few none it = record {
    passes = large_file it.0 it.1 (java_at paths java it.0 it.2) it.3 it.4;
    first = above 2 (omega arith) (few_files few) (short_paths few none) (λ path bytes is_java_path is large. omega arith);
  }

  much_of : length paths ≤ limits.FILES → list_any is_long paths ≡ false → (pile : PlainPile) → Piles f paths pile → pile.is_large ≡ false → pile.is_past ≡ true → IsFirstTooLarge f size.Total
  much_of few none pile piles small past = record {
    passes = much_in_all paths are (piles.past small past);
    first = above 3 (omega arith) (few_files few) (short_paths few none)
        (λ path bytes is_java_path is large. absurd (omega (arith, piles.small small path bytes (all_there few path is_java_path (subst IsSome (sym is) refl)) is, large)));
  }

  by_large : length paths ≤ limits.FILES → list_any is_long paths ≡ false → (pile : PlainPile) → Piles f paths pile → (large past : Bool) → pile.is_large ≡ large → pile.is_past ≡ past → IsGathered f (outcome_of pile)
  by_large few none pile piles true past large_is past_is = rw large_is (large_of few none (piles.large large_is))
  by_large few none pile piles false true large_is past_is = rw large_is (rw past_is (much_of few none pile piles large_is past_is))
  by_large few none pile piles false false large_is past_is = rw large_is (rw past_is (holds few pile piles large_is past_is))

  pub gathered_so : length paths ≤ limits.FILES → list_any is_long paths ≡ false → IsGathered f (outcome_of (pile_of f start paths))
  gathered_so few none = by_large few none (pile_of f start paths) (piled f paths) (pile_of f start paths).is_large (pile_of f start paths).is_past refl refl
