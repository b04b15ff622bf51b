-- What lists made of lists have.
use Rattle.std.proofs.Common.{◌≡◌, ◌⊎◌, refl, sym, ap, subst, inl, inr, ⊎_elim, ℕ, ◌<◌, Bool, true, false, if◌then◌else◌, List, [], ◌∷◌, ◌++◌, filter, Option, Some, None, nat_eq, Decides}
use Rattle.std.specs.List.{flat_map}
use Rattle.std.specs.Option.{option_map_or}
use Rattle.std.proofs.lemmas.Bool.{false≢true, or_cases, or_left, or_right}
use Rattle.std.proofs.lemmas.Bool.Decides.{Decides-at, Decides-eqb}
use Rattle.std.proofs.lemmas.Option.{none-some, same_Some}
use Rattle.jr_plain.specs.Search.{gathered, among, has, Lists, Finds}
use Rattle.jr_plain.specs.Same.{same_candidate}
use Rattle.jr_plain.specs.Lists.{Has, or_else, at_level}
use Rattle.jr_plain.proofs.Tests.{never, either, like}
use Rattle.jr_plain.proofs.Searches.{some_item, among_filter, among_append, gathered_tells, any_flat}
use Rattle.jr_plain.proofs.Same.{candidate_tells}

module _ {A : Type 0} (same : A → A → Bool) (tells : (a b : A) → Decides (same a b) (a ≡ b)) where
  first_item : (x : A) (more : List A) → among same (x ∷ more) x ≡ true
  first_item x more = or_left (same x x) (among same more x) ((tells x x).1 refl)

  -- the first list, or the second where none is of the first
  pub or_else_has : {P Q : A → Type 0} (first second : List A) → Has same first P → Has same second Q → Has same (or_else first second) (λ k. P k ⊎ (((j : A) → P j → ⊥) × Q k))
  or_else_has [] second holds others k = like (others k) (λ q. inr (λ j h. false≢true ((holds j).1 h), q)) (⊎_elim (λ h. absurd (false≢true ((holds k).1 h))) (λ h. h.1))
  or_else_has (x ∷ more) second holds others k = like (holds k) (λ h. inl h) (⊎_elim (λ h. h) (λ h. absurd (h.0 x ((holds x).0 (first_item x more)))))

  pub filter_has : {P Q : A → Type 0} (test : A → Bool) → ((a : A) → Decides (test a) (Q a)) → (items : List A) → Has same items P → Has same (filter test items) (λ k. P k × Q k)
  filter_has test tests items holds k = like (among_filter same tells test items k) (λ h. ((holds k).0 h.0, (tests k).0 h.1)) (λ h. ((holds k).1 h.0, (tests k).1 h.1))

  pub append_has : {P Q : A → Type 0} (first second : List A) → Has same first P → Has same second Q → Has same (first ++ second) (λ k. P k ⊎ Q k)
  append_has first second holds others k = like (among_append same tells first second k) (⊎_elim (λ h. inl ((holds k).0 h)) (λ h. inr ((others k).0 h)))
      (⊎_elim (λ h. inl ((holds k).1 h)) (λ h. inr ((others k).1 h)))

  pub one_has : (a : A) → Has same (a ∷ []) (λ k. a ≡ k)
  one_has a k = like (either (tells a k) never) (⊎_elim (λ e. e) (λ h. absurd h)) (λ e. inl e)

  -- what an option that is found has
  pub found_has : {B : Type 0} (P : B → Type 0) (Q : B → A → Type 0) (of : B → List A) → ((b : B) → Has same (of b) (Q b)) → (found : Option B) → Finds found P
      → Has same (option_map_or of found []) (λ k. (b : B) × P b × Q b k)
  found_has P Q of each None finds k = like never (λ h. absurd h) (λ h. none-some h.0 ((finds h.0).1 h.1))
  found_has P Q of each (Some b) finds k = like (each b k) (λ h. (b, (finds b).0 refl, h)) (λ h. subst (λ c. Q c k) (sym (same_Some b h.0 ((finds h.0).1 h.1))) h.2)

  -- what the one list has, where a test lets it through
  pub if_has : {P : Type 0} {Q : A → Type 0} (b : Bool) → Decides b P → (items : List A) → Has same items Q → Has same (if b then items else []) (λ k. P × Q k)
  if_has true d items holds k = like (holds k) (λ h. (d.0 refl, h)) (λ h. h.1)
  if_has false d items holds k = like never (λ h. absurd h) (λ h. false≢true (d.1 h.0))

  -- the items that each number below n has
  pub gathered_has : (Q : ℕ → A → Type 0) (of : ℕ → List A) → ((k : ℕ) → Has same (of k) (Q k)) → (n : ℕ) → ((k : ℕ) (x : A) → Q k x → k < n) → Has same (gathered n of) (λ x. (k : ℕ) × Q k x)
  gathered_has Q of each n bound x = like (gathered_tells same tells of n x) (λ h. (h.0, (each h.0 x).0 h.2)) (λ h. (h.0, bound h.0 x h.1, (each h.0 x).1 h.1))

-- an item of the list of some item
module _ {A B : Type 0} (same : A → A → Bool) (tells : (a b : A) → Decides (same a b) (a ≡ b)) (same_b : B → B → Bool) (tells_b : (a b : B) → Decides (same_b a b) (a ≡ b)) (of : B → List A) where
  pub flat_has : (P : B → Type 0) (Q : B → A → Type 0) → ((b : B) → Has same (of b) (Q b)) → (items : List B) → Has same_b items P
      → Has same (flat_map of items) (λ k. (b : B) × P b × Q b k)
  flat_has P Q each items holds k = like (Decides-at _ _ (any_flat same of items k) (some_item same_b tells_b (λ b. among same (of b) k) items))
      (λ h. (h.0, (holds h.0).0 h.1, (each h.0 k).0 h.2)) (λ h. (h.0, (holds h.0).1 h.1, (each h.0 k).1 h.2))

-- declarations through one level
pub at_level_has : {P : ℕ → Type 0} (level : Option ℕ) (items : List ℕ) → Lists items P → Has same_candidate (at_level level items) (λ k. P k.0 × (k.1 ≡ level))
at_level_has level items holds k = like (by items) (λ h. ((holds k.0).0 h.0, h.1)) (λ h. ((holds k.0).1 h.0, h.1))
  where
    by : (items : List ℕ) → Decides (among same_candidate (at_level level items) k) ((has items k.0 ≡ true) × (k.1 ≡ level))
    by [] = (λ h. absurd (false≢true h), λ h. absurd (false≢true h.0))
    by (d ∷ more) = like (either (candidate_tells (d, level) k) (by more))
        (⊎_elim (λ e. (or_left (nat_eq d k.0) (has more k.0) ((Decides-eqb d k.0).1 (ap (λ x. x.0) e)), sym (ap (λ x. x.1) e))) (λ h. (or_right (nat_eq d k.0) (has more k.0) h.0, h.1)))
        (λ h. ⊎_elim (λ e. inl (λ i. ((Decides-eqb d k.0).0 e i, sym h.1 i))) (λ r. inr (r, h.1)) (or_cases (nat_eq d k.0) (has more k.0) h.0))
