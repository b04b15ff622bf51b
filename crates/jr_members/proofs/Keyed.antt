-- Lists under keys, and more of them.
use Rattle.std.proofs.Common.{◌≡◌, ◌⊎◌, refl, sym, ◌∙◌, ap, ap₂, subst, inl, inr, ⊎_elim, arith, ℕ, zero, suc, ◌<◌, Bool, true, false, cond, ◌&&◌, ◌||◌, List, [], ◌∷◌, ◌++◌, append_assoc, append-nil, map, length, length-append, Option, Some, None, is_some, nat_eq, Decides}
use Rattle.std.proofs.lemmas.Bool.{false≢true, false_from_ne_true, cond_both, or_left, or_right, or_cases, and_from, and_parts}
use Rattle.std.proofs.lemmas.Bool.Decides.{Decides-eqb}
use Rattle.std.proofs.Math.Seq.{get_or-append_seam}
use Rattle.std.proofs.Math.ListN.{get_or-append}
use Rattle.jr_tree.specs.Rows.{Rows}
use Rattle.jr_defs.specs.Referents.{Table}
use Rattle.jr_plain.specs.Search.{has, Lists}
use Rattle.jr_places.specs.declared.chains.Entry.{Entry}
use Rattle.jr_places.specs.Chains.{entry_at, is_under, last_under, rows_under}
use Rattle.jr_supers.specs.declared.above.Link.{Link}
use Rattle.jr_supers.specs.Above.{is_some_item}
use Rattle.jr_supers.proofs.Keys.{item_in, item_of}
use Rattle.jr_members.specs.declared.declared.MemberKind.{MemberKind}
use Rattle.jr_members.specs.Keys.{entry_for}
use Rattle.jr_members.specs.Held.{IsHeldAs}
use Rattle.jr_members.specs.Each.{StandOnce, ListsEach}
use Rattle.jr_members.specs.Named.{under, has_list, entries_for, IsTold, AreLists, IsDone}
use Rattle.jr_members.specs.Gathered.{KeepsLists}
use Rattle.jr_members.proofs.Each.{not_both, front_has, rest_has}

-- ---- a list is there where it has items

some_last : (b : Bool) (n row : ℕ) (before : Option ℕ) (more : List ℕ) → is_some before ≡ is_some_item more → is_some (cond b (Some n) before) ≡ is_some_item (cond b (row ∷ more) more)
some_last true n row before more e = refl
some_last false n row before more e = e

pub rows_last : (all : List Entry) (c x n : ℕ) → is_some (last_under all c x n) ≡ is_some_item (rows_under all c x n)
rows_last all c x zero = refl
rows_last all c x (suc n) = some_last (is_under all c x n) n (entry_at all n).row (last_under all c x n) (rows_under all c x n) (rows_last all c x n)

pub listed_some : (lists : List Entry) (c x d : ℕ) → has (under lists c x) d ≡ true → has_list lists c x ≡ true
listed_some lists c x d h = rows_last lists c x (length lists) ∙ item_in (under lists c x) d h

some_listed : (lists : List Entry) (c x : ℕ) → has_list lists c x ≡ true → (d : ℕ) × (has (under lists c x) d ≡ true)
some_listed lists c x h = item_of (under lists c x) (sym (rows_last lists c x (length lists)) ∙ h)

pub none_listed : (lists : List Entry) (c x d : ℕ) → has_list lists c x ≡ false → has (under lists c x) d ≡ true → ⊥
none_listed lists c x d none h = false≢true (sym none ∙ listed_some lists c x d h)

-- ---- one entry more

rows_same : (all more : List Entry) (c x n : ℕ) → ((k : ℕ) → k < n → entry_at all k ≡ entry_at more k) → rows_under all c x n ≡ rows_under more c x n
rows_same all more c x zero same = refl
rows_same all more c x (suc n) same = ap₂ (λ e rows. cond (nat_eq e.first c && nat_eq e.second x) (e.row ∷ rows) rows) (same n (omega arith)) (rows_same all more c x n (λ k lt. same k (omega arith)))

abbrev pub is_key : Entry → ℕ → ℕ → Bool
is_key e c x = nat_eq e.first c && nat_eq e.second x

pub under_pushed : (all : List Entry) (e : Entry) (c x : ℕ) → under (all ++ e ∷ []) c x ≡ cond (is_key e c x) (e.row ∷ under all c x) (under all c x)
under_pushed all e c x = ap (λ n. rows_under (all ++ e ∷ []) c x n) one_more
    ∙ ap₂ (λ e rows. cond (nat_eq e.first c && nat_eq e.second x) (e.row ∷ rows) rows) (get_or-append_seam all e [] (record { first = 0; second = 0; row = 0 }))
    (rows_same (all ++ e ∷ []) all c x (length all) (λ k lt. get_or-append all (e ∷ []) (record { first = 0; second = 0; row = 0 }) k lt))
  where
    one_more : length (all ++ e ∷ []) ≡ suc (length all)
    one_more = let s = length-append all (e ∷ []) in omega arith

-- what is under a key: what was there, or what the new entries have under it
abbrev pub IsAdded : List Entry → ℕ → ℕ → (ℕ → Type 0) → ℕ → ℕ → ℕ → Type 0
IsAdded lists c x P e y d = (has (under lists e y) d ≡ true) ⊎ ((c ≡ e) × (x ≡ y) × P d)

pub one_added : (lists : List Entry) (c x r e y d : ℕ) → Decides (has (under (lists ++ entry_for c x r ∷ []) e y) d) (IsAdded lists c x (λ z. r ≡ z) e y d)
one_added lists c x r e y d = by (nat_eq c e && nat_eq x y) refl
  where
    is : has (under (lists ++ entry_for c x r ∷ []) e y) d ≡ has (cond (nat_eq c e && nat_eq x y) (r ∷ under lists e y) (under lists e y)) d
    is = ap (λ xs. has xs d) (under_pushed lists (entry_for c x r) e y)

    by : (b : Bool) → (nat_eq c e && nat_eq x y) ≡ b → Decides (has (under (lists ++ entry_for c x r ∷ []) e y) d) (IsAdded lists c x (λ z. r ≡ z) e y d)
    by true key = let both = and_parts (nat_eq c e) (nat_eq x y) key in let now = is ∙ ap (λ b. has (cond b (r ∷ under lists e y) (under lists e y)) d) key in (
      λ h. ⊎_elim (λ k. inr ((Decides-eqb c e).0 both.0, (Decides-eqb x y).0 both.1, (Decides-eqb r d).0 k)) (λ k. inl k) (or_cases (nat_eq r d) (has (under lists e y) d) (sym now ∙ h)),
      ⊎_elim (λ h. now ∙ or_right (nat_eq r d) (has (under lists e y) d) h) (λ h. now ∙ or_left (nat_eq r d) (has (under lists e y) d) ((Decides-eqb r d).1 h.2)),
    )
    by false key = let now = is ∙ ap (λ b. has (cond b (r ∷ under lists e y) (under lists e y)) d) key in (
      λ h. inl (sym now ∙ h),
      ⊎_elim (λ h. now ∙ h) (λ h. absurd (false≢true (sym key ∙ and_from (nat_eq c e) (nat_eq x y) ((Decides-eqb c e).1 h.0) ((Decides-eqb x y).1 h.1)))),
    )

pub all_added : (all : List ℕ) (lists : List Entry) (c x e y d : ℕ) → Decides (has (under (lists ++ entries_for c x all) e y) d) (IsAdded lists c x (λ z. has all z ≡ true) e y d)
all_added [] lists c x e y d = let same = append-nil lists in (λ h. inl (subst (λ l. has (under l e y) d ≡ true) same h), ⊎_elim (λ h. subst (λ l. has (under l e y) d ≡ true) (sym same) h) (λ h. absurd (false≢true h.2)))
all_added (r ∷ all) lists c x e y d = let rest = all_added all (lists ++ entry_for c x r ∷ []) c x e y d in let one = one_added lists c x r e y d in
    let same = append_assoc lists (entry_for c x r ∷ []) (entries_for c x all) in (
      λ h. ⊎_elim (λ k. ⊎_elim (λ h. inl h) (λ h. inr (h.0, h.1, or_left (nat_eq r d) (has all d) ((Decides-eqb r d).1 h.2))) (one.0 k)) (λ h. inr (h.0, h.1, or_right (nat_eq r d) (has all d) h.2))
          (rest.0 (subst (λ l. has (under l e y) d ≡ true) (sym same) h)),
      λ k. subst (λ l. has (under l e y) d ≡ true) same (rest.1 (⊎_elim (λ h. inl (one.1 (inl h)))
          (λ h. ⊎_elim (λ a. inl (one.1 (inr (h.0, h.1, (Decides-eqb r d).0 a)))) (λ a. inr (h.0, h.1, a)) (or_cases (nat_eq r d) (has all d) h.2)) k)),
    )

-- ---- each once

one_once : (lists : List Entry) (c x r e y : ℕ) → StandOnce (under lists e y) → has (under lists c x) r ≡ false → StandOnce (under (lists ++ entry_for c x r ∷ []) e y)
one_once lists c x r e y h apart = subst StandOnce (sym (under_pushed lists (entry_for c x r) e y)) (cond_both (nat_eq c e && nat_eq x y) (r ∷ under lists e y) (under lists e y) StandOnce
    (λ key. let both = and_parts (nat_eq c e) (nat_eq x y) key in (subst (λ e. has (under lists e y) r ≡ false) ((Decides-eqb c e).0 both.0) (subst (λ y. has (under lists c y) r ≡ false) ((Decides-eqb x y).0 both.1) apart), h))
    (λ key. h))

all_once : (all : List ℕ) (lists : List Entry) (c x : ℕ) → StandOnce all → ((d : ℕ) → has all d ≡ true → has (under lists c x) d ≡ false) → ((e y : ℕ) → StandOnce (under lists e y)) → (e y : ℕ) → StandOnce (under (lists ++ entries_for c x all) e y)
all_once [] lists c x stand apart h e y = subst (λ l. StandOnce (under l e y)) (sym (append-nil lists)) (h e y)
all_once (r ∷ all) lists c x stand apart h e y = subst (λ l. StandOnce (under l e y)) (append_assoc lists (entry_for c x r ∷ []) (entries_for c x all))
    (all_once all (lists ++ entry_for c x r ∷ []) c x stand.1 further (λ e y. one_once lists c x r e y (h e y) (apart r (front_has r all))) e y)
  where
    further : (d : ℕ) → has all d ≡ true → has (under (lists ++ entry_for c x r ∷ []) c x) d ≡ false
    further d k = false_from_ne_true _ (λ a. ⊎_elim (λ b. not_both (apart d (rest_has r d all k)) b) (λ b. not_both stand.0 (subst (λ d. has all d ≡ true) (sym b.2) k)) ((one_added lists c x r c x d).0 a))

-- ---- one list more

module _ (p : Rows) (t : Table) (links : List (Option Link)) (kind : MemberKind) where
  -- what is told stays told
  pub told_more : (lists : List Entry) (c x : ℕ) (all : List ℕ) (e y : ℕ) → IsTold p t kind lists e y → IsTold p t kind (lists ++ entries_for c x all) e y
  told_more lists c x all e y h d k = (all_added all lists c x e y d).1 (inl (h d k))

  pub done_more : (lists : List Entry) (c x : ℕ) (all : List ℕ) (e : ℕ) → IsDone p t links kind lists e → IsDone p t links kind (lists ++ entries_for c x all) e
  done_more lists c x all e h = record {
    own = λ y d k. (all_added all lists c x e y d).1 (inl (h.own y d k));
    held = λ y d k. ⊎_elim (λ a. inl ((all_added all lists c x e y d).1 (inl a))) (λ a. inr a) (h.held y d k);
  }

  module _ (lists : List Entry) (c x : ℕ) (all : List ℕ) (listed : ListsEach all (IsHeldAs p t kind c x)) where
    pub new_told : IsTold p t kind (lists ++ entries_for c x all) c x
    new_told d h = (all_added all lists c x c x d).1 (inr (refl, refl, (listed.lists d).1 h))

    pub more_lists : has_list lists c x ≡ false → AreLists p t kind lists → AreLists p t kind (lists ++ entries_for c x all)
    more_lists none h = record {
      sound = λ e y d k. ⊎_elim (λ a. h.sound e y d a) (λ a. subst (λ e. IsHeldAs p t kind e y d) a.0 (subst (λ y. IsHeldAs p t kind c y d) a.1 ((listed.lists d).0 a.2))) ((all_added all lists c x e y d).0 k);
      whole = λ e y some. let i = some_listed (lists ++ entries_for c x all) e y some in
          ⊎_elim (λ a. told_more lists c x all e y (h.whole e y (listed_some lists e y i.0 a)))
          (λ a. subst (λ e. IsTold p t kind (lists ++ entries_for c x all) e y) a.0 (subst (λ y. IsTold p t kind (lists ++ entries_for c x all) c y) a.1 new_told)) ((all_added all lists c x e y i.0).0 i.1);
      once = all_once all lists c x listed.once (λ d k. false_from_ne_true _ (λ a. none_listed lists c x d none a)) h.once;
    }

    pub keeps_more : has_list lists c x ≡ false → AreLists p t kind lists → KeepsLists p t links kind lists (lists ++ entries_for c x all)
    keeps_more none h = record { all = more_lists none h; told = λ e y k. told_more lists c x all e y k; done = λ e k. done_more lists c x all e k }

  -- ---- what is kept

  pub keeps_itself : (lists : List Entry) → AreLists p t kind lists → KeepsLists p t links kind lists lists
  keeps_itself lists h = record { all = h; told = λ c x k. k; done = λ c k. k }

  pub keeps_then : (lists more most : List Entry) → KeepsLists p t links kind lists more → KeepsLists p t links kind more most → KeepsLists p t links kind lists most
  keeps_then lists more most h k = record { all = k.all; told = λ c x a. k.told c x (h.told c x a); done = λ c a. k.done c (h.done c a) }
