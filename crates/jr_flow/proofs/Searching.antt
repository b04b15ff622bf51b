-- The search over lists of numbers.
use Rattle.std.proofs.Common.{◌≡◌, ◌⊎◌, inl, inr, ⊎_elim, refl, sym, ◌∙◌, ap, subst, arith, ℕ, ◌+◌, ◌<◌, ◌≤◌, Bool, true, false, List, [], ◌∷◌, ◌++◌, length, Option, Some, None, slice_get}
use Rattle.std.specs.List.{Contains}
use Rattle.std.proofs.lemmas.Bool.{false≢true, cases_lt}
use Rattle.std.proofs.lemmas.Option.{none-some, same_Some, slice_get_within, slice_get_past}
use Rattle.std.proofs.lemmas.List.Elements.{Contains-append_left, Contains-push, Contains-push_cases}
use Rattle.jr_places.specs.Stamps.{is_now, is_stamped, IsStamping, IsEmptied, AddsStamp}
use Rattle.jr_flow.specs.declared.links.Links.{Links}
use Rattle.jr_flow.specs.declared.search.Search.{Search}
use Rattle.jr_flow.specs.Linked.{items_in, first_of, HasItem, AreLinked}
use Rattle.jr_flow.specs.Spread.{IsCome, found_in, IsMet, IsNew, KeepsFound, Enters, EntersBefore, EntersAll, IsSearched, HasCome}
use Rattle.jr_flow.proofs.Gets.{front_get, got}
use Rattle.jr_flow.proofs.Linking.{get_of, among}

pub new_search : (bound : ℕ) (search : Search) → IsEmptied search.met bound → found_in search ≡ [] → IsNew bound search
new_search bound search empty none = record {
  is = record { counted = empty.counted; met = λ x c. absurd (no x c); only = λ x e. absurd (false≢true (sym (empty.none x) ∙ e)) };
  none = no;
}
  where
    no : (x : ℕ) → Contains (found_in search) x → ⊥
    no x c = let size = ap length none in omega (arith, c.1, size)

pub found_still : (old new : Search) (x : ℕ) → KeepsFound old new → Contains (found_in old) x → Contains (found_in new) x
found_still old new x kept c = let at = get_of (found_in old) x c in among (found_in new) at.0 x (kept at.0 x at.1)

-- ---- one number

-- it is not let in
pub kept_out : (bound : ℕ) (enters : ℕ → Bool) (search : Search) (x : ℕ) → IsMet bound search → enters x ≡ false → Enters bound enters search search x
kept_out bound enters search x is out = record { is = is; kept = λ i y e. e; only = λ y c. inl c; has = λ e lt. absurd (false≢true (sym out ∙ e)) }

module _ (bound : ℕ) (enters : ℕ → Bool) (old new : Search) (x : ℕ) (is : IsMet bound old) where
  -- it was found before, or is past the bound
  pub known_before : AddsStamp old.met new.met bound x false → found_in new ≡ found_in old → Enters bound enters old new x
  known_before adds same = record {
    is = record {
      counted = adds.counted;
      met = λ y c. adds.kept y (is.met y (subst (λ xs. Contains xs y) same c));
      only = λ y e. subst (λ xs. Contains xs y) (sym same) (before y e);
    };
    kept = λ i y e. ap (λ xs. slice_get xs i) same ∙ e;
    only = λ y c. inl (subst (λ xs. Contains xs y) same c);
    has = λ e lt. subst (λ xs. Contains xs x) (sym same) (is.only x (adds.was lt refl));
  }
    where
      stamped : (y : ℕ) → is_stamped new.met y ≡ true → is_stamped old.met y ≡ true
      stamped y e = ⊎_elim (λ a. a) (λ at. ⊎_elim (λ lt. subst (λ z. is_stamped old.met z ≡ true) at (adds.was lt refl)) (λ past. let size = adds.counted.size in absurd (false≢true (sym (ap (is_now new.met.round) (slice_get_past new.met.stamps.items y (omega (arith, size, past, at)))) ∙ e))) (cases_lt x bound)) (adds.out y e)

      before : (y : ℕ) → is_stamped new.met y ≡ true → Contains (found_in old) y
      before y e = is.only y (stamped y e)

  pub one_found : AddsStamp old.met new.met bound x true → enters x ≡ true → found_in new ≡ found_in old ++ x ∷ [] → Enters bound enters old new x
  one_found adds let_in pushed = record {
    is = record {
      counted = adds.counted;
      met = λ y c. ⊎_elim (λ early. adds.kept y (is.met y early)) (λ last. subst (λ z. is_stamped new.met z ≡ true) last (adds.new_one refl).1) (Contains-push_cases (found_in old) x y (subst (λ xs. Contains xs y) pushed c));
      only = λ y e. subst (λ xs. Contains xs y) (sym pushed) (⊎_elim (λ early. Contains-append_left (found_in old) (x ∷ []) y (is.only y early)) (λ at. subst (Contains (found_in old ++ x ∷ [])) at (Contains-push (found_in old) x)) (adds.out y e));
    };
    kept = λ i y e. ap (λ xs. slice_get xs i) pushed ∙ front_get (found_in old) (x ∷ []) i (slice_get_within (found_in old) i y e) ∙ e;
    only = λ y c. ⊎_elim (λ early. inl early) (λ last. inr (last, subst (λ z. enters z ≡ true) last let_in)) (Contains-push_cases (found_in old) x y (subst (λ xs. Contains xs y) pushed c));
    has = λ e lt. subst (λ xs. Contains xs x) (sym pushed) (Contains-push (found_in old) x);
  }

-- ---- a list

pub none_entered : (bound : ℕ) (enters : ℕ → Bool) (search : Search) (all : List (ℕ × ℕ)) (links : Links) (key : ℕ) → IsMet bound search → EntersBefore bound enters search search all links key (first_of links key)
none_entered bound enters search all links key is = record { is = is; kept = λ i x e. e; only = λ y c. inl c; has = λ i y from to e let_in lt. absurd (omega (arith, from, to)) }

module _ (bound : ℕ) (enters : ℕ → Bool) (old mid : Search) (all : List (ℕ × ℕ)) (links : Links) (key nth : ℕ) (linked : AreLinked all links) (h : EntersBefore bound enters old mid all links key nth) where
  -- the item of the number stands in the list
  pub next_entered : (new : Search) (x : ℕ) → first_of links key ≤ nth → nth < first_of links (key + 1) → slice_get (items_in links) nth ≡ Some x → Enters bound enters mid new x → EntersBefore bound enters old new all links key (nth + 1)
  next_entered new x from to at_nth one = record {
    is = one.is;
    kept = λ i y e. one.kept i y (h.kept i y e);
    only = λ y c. ⊎_elim (λ early. h.only y early) (λ last. inr (subst (λ z. Contains all (key, z)) last.0 (linked.only key x (record { nth = nth; from = from; to = to; stands = at_nth })), last.1)) (one.only y c);
    has = λ i y least most e let_in lt. ⊎_elim
        (λ before. found_still mid new y one.kept (h.has i y least before e let_in lt))
        (λ past. let at : i ≡ nth = omega (arith, past, most) in let same : x ≡ y = same_Some x y (sym at_nth ∙ ap (slice_get (items_in links)) (sym at) ∙ e) in
        subst (Contains (found_in new)) same (one.has (subst (λ z. enters z ≡ true) (sym same) let_in) (subst (λ z. z < bound) (sym same) lt)))
        (cases_lt i nth);
  }

  -- none stands there
  pub none_there : slice_get (items_in links) nth ≡ None → EntersBefore bound enters old mid all links key (nth + 1)
  none_there none = record {
    is = h.is;
    kept = h.kept;
    only = h.only;
    has = λ i y least most e let_in lt. ⊎_elim
        (λ before. h.has i y least before e let_in lt)
        (λ past. let at : i ≡ nth = omega (arith, past, most) in absurd (none-some y (sym none ∙ ap (slice_get (items_in links)) (sym at) ∙ e)))
        (cases_lt i nth);
  }

  pub list_entered : first_of links (key + 1) ≤ nth → EntersAll bound enters old mid all key
  list_entered past = record {
    is = h.is;
    kept = h.kept;
    only = h.only;
    every = λ y c let_in lt. let item = linked.every key y c in let to = item.to in h.has item.nth y item.from (omega (arith, to, past)) item.stands let_in lt;
  }

-- ---- all lists

pub begun_search : (bound : ℕ) (enters : ℕ → Bool) (starts : List (ℕ × ℕ)) (key : ℕ) (links : List (ℕ × ℕ)) (old new : Search) → IsNew bound old → EntersAll bound enters old new starts key → IsSearched bound enters starts key links new 0
begun_search bound enters starts key links old new none all = record {
  is = all.is;
  only = λ x c. ⊎_elim (λ early. absurd (none.none x early)) (λ s. IsCome.begin s.0 s.1) (all.only x c);
  begun = all.every;
  closed = λ i k x lt. absurd (omega (arith, lt));
}

module _ (bound : ℕ) (enters : ℕ → Bool) (starts : List (ℕ × ℕ)) (key : ℕ) (links : List (ℕ × ℕ)) (old : Search) (n : ℕ) (h : IsSearched bound enters starts key links old n) where
  pub one_searched : (new : Search) (k : ℕ) → slice_get (found_in old) n ≡ Some k → EntersAll bound enters old new links k → IsSearched bound enters starts key links new (n + 1)
  one_searched new k at_n all = record {
    is = all.is;
    only = λ x c. ⊎_elim (λ early. h.only x early) (λ s. IsCome.on (h.only k (among (found_in old) n k at_n)) s.0 s.1) (all.only x c);
    begun = λ x c let_in lt. found_still old new x all.kept (h.begun x c let_in lt);
    closed = λ i j x lt at_i c let_in less. ⊎_elim
        (λ before. let one = got (found_in old) i (omega (arith, before, slice_get_within (found_in old) n k at_n)) in let same : one.0 ≡ j = same_Some one.0 j (sym (all.kept i one.0 one.1) ∙ at_i) in
        found_still old new x all.kept (h.closed i j x before (one.1 ∙ ap Some same) c let_in less))
        (λ past. let at : i ≡ n = omega (arith, past, lt) in let same : k ≡ j = same_Some k j (sym (all.kept n k at_n) ∙ ap (slice_get (found_in new)) (sym at) ∙ at_i) in
        all.every x (subst (λ z. Contains links (z, x)) (sym same) c) let_in less)
        (cases_lt i n);
  }

  pub search_ends : slice_get (found_in old) n ≡ None → HasCome bound enters starts key links old
  search_ends none = record {
    is = h.is;
    only = h.only;
    begun = h.begun;
    closed = λ k x c. let at = get_of (found_in old) k c in h.closed at.0 k x (before at.0 k at.1) at.1;
  }
    where
      before : (i k : ℕ) → slice_get (found_in old) i ≡ Some k → i < n
      before i k e = ⊎_elim (λ lt. lt) (λ past. let one = got (found_in old) n (omega (arith, past, slice_get_within (found_in old) i k e)) in absurd (none-some one.0 (sym none ∙ one.1))) (cases_lt i n)
