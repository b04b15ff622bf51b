-- Rows under keys, of which those that follow each other are different, with one more.
use Rattle.std.proofs.Common.{◌≡◌, ◌⊎◌, refl, sym, ◌∙◌, ap, subst, inl, inr, ⊎_elim, ℕ, ◌<◌, Bool, true, false, not, cond, ◌&&◌, ◌||◌, List, [], ◌∷◌, ◌++◌, length, Option, Some, None, is_some, nat_eq, Decides}
use Rattle.std.specs.Prelude.{slice_get, unwrap_or}
use Rattle.std.proofs.lemmas.Option.{unwrap_or-slice_get}
use Rattle.std.proofs.lemmas.Bool.{false≢true, or_left, or_right, or_cases, and_from, and_parts, not_from_false, false_from_ne_true}
use Rattle.std.proofs.lemmas.Bool.Decides.{Decides-eqb}
use Rattle.jr_plain.specs.Search.{has, Lists}
use Rattle.jr_plain.proofs.Tests.{like}
use Rattle.jr_places.specs.declared.chains.Entry.{Entry}
use Rattle.jr_places.specs.Chains.{entry_at, last_under, last_like, rows_from}
use Rattle.jr_places.proofs.Tables.{walked_start, walked_more}
use Rattle.jr_supers.specs.Above.{is_some_item}
use Rattle.jr_supers.proofs.Keys.{item_in}
use Rattle.jr_members.specs.Keys.{entry_for}
use Rattle.jr_members.specs.Named.{under}
use Rattle.jr_members.proofs.Each.{has_front, front_has, rest_has}
use Rattle.jr_members.proofs.Keyed.{under_pushed}
use Rattle.jr_name_faults.specs.Twins.{is_front, has_other, with_twin, Differ, AreTwins}

-- ---- one row more

front_in : (l : List ℕ) (r : ℕ) → is_front l r ≡ true → has l r ≡ true
front_in [] r h = absurd (false≢true h)
front_in (x ∷ more) r h = or_left (nat_eq x r) (has more r) h

abbrev Adds : (ℕ → ℕ → ℕ → Type 0) → ℕ → ℕ → ℕ → ℕ → ℕ → ℕ → Type 0
Adds P c x r e y d = P e y d ⊎ ((c ≡ e) × ((x ≡ y) × (r ≡ d)))

module _ {all : List Entry} {P : ℕ → ℕ → ℕ → Type 0} (h : AreTwins all P) (c x r : ℕ) where
  kept : is_front (under all c x) r ≡ true → AreTwins all (Adds P c x r)
  kept front = record {
    lists = λ e y d. like (h.lists e y d) (λ k. inl k)
        (⊎_elim (λ k. k) (λ k. subst (λ d. P e y d) k.1.1 (subst (λ y. P e y r) k.1.0 (subst (λ e. P e x r) k.0 ((h.lists c x r).0 (front_in (under all c x) r front))))));
    apart = h.apart;
  }

  pushed_list : (e y : ℕ) (b : Bool) → (nat_eq c e && nat_eq x y) ≡ b → Lists (cond b (r ∷ under all e y) (under all e y)) (Adds P c x r e y)
  pushed_list e y true key d = let both = and_parts (nat_eq c e) (nat_eq x y) key in (
    λ k. ⊎_elim (λ same. inr ((Decides-eqb c e).0 both.0, ((Decides-eqb x y).0 both.1, same))) (λ more. inl ((h.lists e y d).0 more)) (has_front r d (under all e y) k),
    ⊎_elim (λ k. rest_has r d (under all e y) ((h.lists e y d).1 k)) (λ k. subst (λ d. has (r ∷ under all e y) d ≡ true) k.1.1 (front_has r (under all e y))),
  )
  pushed_list e y false key d = (
    λ k. inl ((h.lists e y d).0 k),
    ⊎_elim (λ k. (h.lists e y d).1 k) (λ k. absurd (false≢true (sym key ∙ and_from (nat_eq c e) (nat_eq x y) ((Decides-eqb c e).1 k.0) ((Decides-eqb x y).1 k.1.0)))),
  )

  pushed_apart : is_front (under all c x) r ≡ false → (e y : ℕ) (b : Bool) → (nat_eq c e && nat_eq x y) ≡ b → Differ (cond b (r ∷ under all e y) (under all e y))
  pushed_apart front e y true key = let both = and_parts (nat_eq c e) (nat_eq x y) key in
      (subst (λ y. is_front (under all e y) r ≡ false) ((Decides-eqb x y).0 both.1) (subst (λ e. is_front (under all e x) r ≡ false) ((Decides-eqb c e).0 both.0) front), h.apart e y)
  pushed_apart front e y false key = h.apart e y

  pushed : is_front (under all c x) r ≡ false → AreTwins (all ++ entry_for c x r ∷ []) (Adds P c x r)
  pushed front = record {
    lists = λ e y. subst (λ l. Lists l (Adds P c x r e y)) (sym (under_pushed all (entry_for c x r) e y)) (pushed_list e y (nat_eq c e && nat_eq x y) refl);
    apart = λ e y. subst Differ (sym (under_pushed all (entry_for c x r) e y)) (pushed_apart front e y (nat_eq c e && nat_eq x y) refl);
  }

  pub twins_more : AreTwins (with_twin all c x r) (Adds P c x r)
  twins_more = by (is_front (under all c x) r) refl
    where
      by : (b : Bool) → is_front (under all c x) r ≡ b → AreTwins (cond b all (all ++ entry_for c x r ∷ [])) (Adds P c x r)
      by true e = kept e
      by false e = pushed e

pub twins_like : {all : List Entry} {P Q : ℕ → ℕ → ℕ → Type 0} → AreTwins all P → ((c x d : ℕ) → P c x d → Q c x d) → ((c x d : ℕ) → Q c x d → P c x d) → AreTwins all Q
twins_like h out into = record { lists = λ c x d. like (h.lists c x d) (out c x d) (into c x d); apart = h.apart }

-- ---- another row

other_in : (l : List ℕ) (Q : ℕ → Type 0) (r : ℕ) → Differ l → Lists l Q → Decides (has_other l r) ((d : ℕ) × (Q d × (d ≡ r → ⊥)))
other_in [] Q r differ lists = (λ h. absurd (false≢true h), λ h. absurd (false≢true ((lists h.0).1 h.1.0)))
other_in (y ∷ more) Q r differ lists = (λ h. ⊎_elim first behind (or_cases (not (nat_eq y r)) (is_some_item more) h), into)
  where
    first : not (nat_eq y r) ≡ true → (d : ℕ) × (Q d × (d ≡ r → ⊥))
    first apart = (y, ((lists y).0 (front_has y more), λ same. false≢true (sym (ap not ((Decides-eqb y r).1 same)) ∙ apart)))

    next : (l : List ℕ) → more ≡ l → is_some_item l ≡ true → (b : Bool) → nat_eq y r ≡ b → (d : ℕ) × (Q d × (d ≡ r → ⊥))
    next l e some false apart = first (ap not apart)
    next [] e some true same = absurd (false≢true some)
    next (z ∷ rest) e some true same = (
      z,
      (
        (lists z).0 (rest_has y z more (subst (λ l. has l z ≡ true) (sym e) (front_has z rest))),
        λ is. false≢true (sym (subst (λ l. is_front l y ≡ false) e differ.0) ∙ (Decides-eqb z y).1 (is ∙ sym ((Decides-eqb y r).0 same))),
      ),
    )

    behind : is_some_item more ≡ true → (d : ℕ) × (Q d × (d ≡ r → ⊥))
    behind some = next more refl some (nat_eq y r) refl

    into : (d : ℕ) × (Q d × (d ≡ r → ⊥)) → (not (nat_eq y r) || is_some_item more) ≡ true
    into k = ⊎_elim (λ same. or_left (not (nat_eq y r)) (is_some_item more) (not_from_false (nat_eq y r) (false_from_ne_true (nat_eq y r) (λ e. k.1.1 (sym same ∙ (Decides-eqb y r).0 e)))))
        (λ there. or_right (not (nat_eq y r)) (is_some_item more) (item_in more k.0 there)) (has_front y k.0 more ((lists k.0).1 k.1.0))

pub other_tells : {all : List Entry} {P : ℕ → ℕ → ℕ → Type 0} → AreTwins all P → (c x r : ℕ) → Decides (has_other (under all c x) r) ((d : ℕ) × (P c x d × (d ≡ r → ⊥)))
other_tells {all} {P} h c x r = other_in (under all c x) (P c x) r (h.apart c x) (h.lists c x)

-- ---- the code

abbrev no_entry : Entry
no_entry = record { first = 0; second = 0; row = 0 }

-- past the entries stands 0
pub entry_none : (all : List Entry) (n : ℕ) → None ≡ slice_get all n → 0 ≡ (entry_at all n).row
entry_none all n e = ap (λ o. (unwrap_or o no_entry).row) e ∙ ap (λ x. x.row) (unwrap_or-slice_get all n no_entry)

some_from : (all : List Entry) (c x : ℕ) (at : Option ℕ) → is_some at ≡ is_some_item (rows_from all c x at)
some_from all c x None = refl
some_from all c x (Some n) = refl

module _ (all : List Entry) (c x : ℕ) where
  pub none_under : None ≡ last_under all c x (length all) → under all c x ≡ []
  none_under e = sym ((walked_start all c x None [] e refl).rest)

  pub last_inside : (n : ℕ) → Some n ≡ last_under all c x (length all) → n < length all
  last_inside n e = (walked_start all c x (Some n) [] e refl).here.0

  some_under : (n : ℕ) → Some n ≡ last_under all c x (length all) → under all c x ≡ (entry_at all n).row ∷ rows_from all c x (last_like all n)
  some_under n e = sym ((walked_more n (entry_at all n).row (last_like all n) ((entry_at all n).row ∷ []) (walked_start all c x (Some n) [] e refl) refl refl refl refl).rest)

  pub front_told : (n r : ℕ) → Some n ≡ last_under all c x (length all) → nat_eq (entry_at all n).row r ≡ is_front (under all c x) r
  front_told n r e = ap (λ l. is_front l r) (sym (some_under n e))

  pub other_told : (n r : ℕ) → Some n ≡ last_under all c x (length all) → (not (nat_eq (entry_at all n).row r) || is_some (last_like all n)) ≡ has_other (under all c x) r
  other_told n r e = ap (λ b. not (nat_eq (entry_at all n).row r) || b) (some_from all c x (last_like all n)) ∙ ap (λ l. has_other l r) (sym (some_under n e))
