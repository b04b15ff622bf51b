-- Lists of the points and steps of a graph, and bounds above them.
use Rattle.std.proofs.Common.{◌≡◌, ◌⊎◌, inl, inr, ⊎_elim, refl, sym, ◌∙◌, ap, subst, arith, ℕ, ◌+◌, ◌<◌, ◌≤◌, Bool, true, false, if◌then◌else◌, List, [], ◌∷◌, ◌++◌, length, map, append-nil, Option, Some, None, option_map, slice_get}
use Rattle.std.specs.List.{Contains}
use Rattle.std.proofs.lemmas.Bool.{false≢true, cases_lt}
use Rattle.std.proofs.lemmas.Option.{none-some, same_Some, slice_get_within, slice_get_past, slice_get-map}
use Rattle.std.proofs.lemmas.List.Elements.{Contains-append_left, Contains-append_cases, Contains-push, Contains-push_cases}
use Rattle.jr_places.specs.declared.stamps.Stamps.{Stamps}
use Rattle.jr_places.specs.Stamps.{is_now, is_stamped, IsStamping, IsEmptied, AddsStamp}
use Rattle.jr_flow_defs.specs.declared.point.Point.{Point}
use Rattle.jr_flow.specs.declared.point.Step.{Step}
use Rattle.jr_flow.specs.declared.links.Links.{Links}
use Rattle.jr_flow.specs.Linked.{items_in, first_of, AreLinked}
use Rattle.jr_flow.specs.Woven.{IsBound, HasBefore, HasList, is_use, NotesUses}
use Rattle.jr_flow.proofs.Linking.{get_of, among}

-- ---- elements of maps

pub of_map : {A B : Type 0} (f : A → B) (all : List A) (y : B) → Contains (map f all) y → (i : ℕ) × (x : A) × (slice_get all i ≡ Some x) × (f x ≡ y)
of_map f all y c = let at = get_of (map f all) y c in by at.0 (slice_get all at.0) refl (sym (slice_get-map f all at.0) ∙ at.1)
  where
    by : (i : ℕ) (o : Option _) → slice_get all i ≡ o → option_map f o ≡ Some y → (i : ℕ) × (x : _) × (slice_get all i ≡ Some x) × (f x ≡ y)
    by i None e is = absurd (none-some y is)
    by i (Some x) e is = (i, x, e, same_Some (f x) y is)

pub in_map : {A B : Type 0} (f : A → B) (all : List A) (i : ℕ) (x : A) → slice_get all i ≡ Some x → Contains (map f all) (f x)
in_map f all i x e = among (map f all) i (f x) (slice_get-map f all i ∙ ap (option_map f) e)

-- ---- bounds

pub bound_more : (steps : List Step) (old mid new n : ℕ) (one : Step) → slice_get steps n ≡ Some one → old ≤ mid → one.from < mid → mid ≤ new → one.to < new
    → ((k : ℕ) (s : Step) → k < n → slice_get steps k ≡ Some s → (s.from < old) × (s.to < old)) → (k : ℕ) (s : Step) → k < n + 1 → slice_get steps k ≡ Some s → (s.from < new) × (s.to < new)
bound_more steps old mid new n one at_n le from le_2 to h k s lt e = ⊎_elim
    (λ early. let b = h k s early e in let b0 = b.0 in let b1 = b.1 in (omega (arith, b0, le, le_2), omega (arith, b1, le, le_2)))
    (λ past. let at : k ≡ n = omega (arith, past, lt) in let same = same_Some one s (sym at_n ∙ ap (slice_get steps) (sym at) ∙ e) in
    subst (λ x. (x.from < new) × (x.to < new)) same (omega (arith, from, le_2), to))
    (cases_lt k n)

-- ---- a set with a list

pub none_put : (bound : ℕ) (all : List (ℕ × ℕ)) (links : Links) (key : ℕ) (set : Stamps) → IsEmptied set bound → HasBefore bound all links key (first_of links key) set
none_put bound all links key set empty = record { counted = empty.counted; only = λ x e. absurd (false≢true (sym (empty.none x) ∙ e)); has = λ i x from to e lt. absurd (omega (arith, from, to)) }

module _ (bound : ℕ) (all : List (ℕ × ℕ)) (links : Links) (key nth : ℕ) (old : Stamps) (linked : AreLinked all links) (h : HasBefore bound all links key nth old) where
  pub one_put : (new : Stamps) (x : ℕ) (is_new : Bool) → first_of links key ≤ nth → nth < first_of links (key + 1) → slice_get (items_in links) nth ≡ Some x → AddsStamp old new bound x is_new → HasBefore bound all links key (nth + 1) new
  one_put new x is_new from to at_nth adds = record {
    counted = adds.counted;
    only = λ y e. ⊎_elim (λ early. h.only y early) (λ at. subst (λ z. Contains all (key, z)) at (linked.only key x (record { nth = nth; from = from; to = to; stands = at_nth }))) (adds.out y e);
    has = λ i y least most e lt. ⊎_elim
        (λ before. adds.kept y (h.has i y least before e lt))
        (λ past. let at : i ≡ nth = omega (arith, past, most) in let same : x ≡ y = same_Some x y (sym at_nth ∙ ap (slice_get (items_in links)) (sym at) ∙ e) in
        subst (λ z. is_stamped new z ≡ true) same (now is_new (subst (λ z. z < bound) (sym same) lt) adds))
        (cases_lt i nth);
  }
    where
      now : (b : Bool) → x < bound → AddsStamp old new bound x b → is_stamped new x ≡ true
      now true lt a = (a.new_one refl).1
      now false lt a = a.kept x (a.was lt refl)

  pub nothing_put : slice_get (items_in links) nth ≡ None → HasBefore bound all links key (nth + 1) old
  nothing_put none = record {
    counted = h.counted;
    only = h.only;
    has = λ i y least most e lt. ⊎_elim
        (λ before. h.has i y least before e lt)
        (λ past. let at : i ≡ nth = omega (arith, past, most) in absurd (none-some y (sym none ∙ ap (slice_get (items_in links)) (sym at) ∙ e)))
        (cases_lt i nth);
  }

  pub list_put : first_of links (key + 1) ≤ nth → HasList bound all key old
  list_put past = record { counted = h.counted; only = h.only; every = λ y c lt. let item = linked.every key y c in let to = item.to in h.has item.nth y item.from (omega (arith, to, past)) item.stands lt }

-- ---- uses that are noted

pub none_noted : (points : List Point) (local definition : ℕ) (all : List ℕ) (pairs : List (ℕ × ℕ)) → NotesUses points local definition all 0 pairs pairs
none_noted points local definition all pairs = record { kept = λ x c. c; only = λ i j c. inl c; every = λ k j lt. absurd (omega (arith, lt)) }

abbrev if_use : Bool → ℕ → ℕ → List (ℕ × ℕ)
if_use b definition x = if b then (definition, x) ∷ [] else []

pub one_noted : (points : List Point) (local definition : ℕ) (all : List ℕ) (n x : ℕ) (old mid new : List (ℕ × ℕ)) → slice_get all n ≡ Some x → NotesUses points local definition all n old mid
    → new ≡ mid ++ if_use (is_use local (slice_get points x)) definition x → NotesUses points local definition all (n + 1) old new
one_noted points local definition all n x old mid new at_n h is = by (is_use local (slice_get points x)) refl is
  where
    by : (b : Bool) → is_use local (slice_get points x) ≡ b → new ≡ mid ++ if_use b definition x → NotesUses points local definition all (n + 1) old new
    by true test same = record {
      kept = λ y c. subst (λ xs. Contains xs y) (sym same) (Contains-append_left mid ((definition, x) ∷ []) y (h.kept y c));
      only = λ i j c. ⊎_elim
          (λ early. h.only i j early)
          (λ last. inr (ap (λ z. z.0) last, subst (Contains all) (ap (λ z. z.1) last) (among all n x at_n), subst (λ z. is_use local (slice_get points z) ≡ true) (ap (λ z. z.1) last) test))
          (Contains-push_cases mid (definition, x) (i, j) (subst (λ xs. Contains xs (i, j)) same c));
      every = λ k j lt e used. subst (λ xs. Contains xs (definition, j)) (sym same) (⊎_elim
          (λ before. Contains-append_left mid ((definition, x) ∷ []) (definition, j) (h.every k j before e used))
          (λ past. let at : k ≡ n = omega (arith, past, lt) in let same_x : x ≡ j = same_Some x j (sym at_n ∙ ap (slice_get all) (sym at) ∙ e) in
          subst (λ z. Contains (mid ++ (definition, x) ∷ []) (definition, z)) same_x (Contains-push mid (definition, x)))
          (cases_lt k n));
    }
    by false test same = let is_mid : new ≡ mid = same ∙ append-nil mid in record {
      kept = λ y c. subst (λ xs. Contains xs y) (sym is_mid) (h.kept y c);
      only = λ i j c. h.only i j (subst (λ xs. Contains xs (i, j)) is_mid c);
      every = λ k j lt e used. subst (λ xs. Contains xs (definition, j)) (sym is_mid) (⊎_elim
          (λ before. h.every k j before e used)
          (λ past. let at : k ≡ n = omega (arith, past, lt) in let same_x : x ≡ j = same_Some x j (sym at_n ∙ ap (slice_get all) (sym at) ∙ e) in
          absurd (false≢true (sym test ∙ ap (λ z. is_use local (slice_get points z)) same_x ∙ used)))
          (cases_lt k n));
    }
