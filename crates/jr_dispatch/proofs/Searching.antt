-- A search over the methods of one name, a turn at a time.
use Rattle.std.proofs.Common.{◌≡◌, refl, sym, ◌∙◌, ap, ap₂, subst, ⊎_elim, arith, ℕ, zero, suc, ◌+◌, ◌-◌, ◌<◌, ◌≤◌, Bool, true, false, cond, not, ◌||◌, List, [], ◌∷◌, ◌++◌, drop, get_or, length, append-nil, append_assoc, add-one, Option, Some, None, nat_eq, slice_get, Decides}
use Rattle.std.proofs.lemmas.Bool.{false≢true}
use Rattle.std.proofs.lemmas.Bool.Decides.{Decides-eqb}
use Rattle.std.proofs.lemmas.Option.{none-some, same_Some}
use Rattle.jr_tree.specs.declared.label.Role.TheVariants as role
use Rattle.jr_tree.specs.Rows.{Rows, name, role_at}
use Rattle.jr_defs.specs.Referents.{Table}
use Rattle.jr_defs.specs.Enclosing.{DeclaredIn, IsMemberRole}
use Rattle.jr_plain.specs.Search.{has, Lists, Reaches}
use Rattle.jr_plain.specs.Headed.{IsHeaded}
use Rattle.jr_plain.proofs.Tests.{both, like}
use Rattle.jr_plain.proofs.Searches.{among_filter, among_append}
use Rattle.jr_plain.proofs.Same.{role_tells}
use Rattle.jr_plain.proofs.Bounds.{member_below}
use Rattle.jr_plain.proofs.Enclosed.{declaring_finds}
use Rattle.jr_plain.proofs.Modified.{some_tells}
use Rattle.jr_plain.specs.Enclosing.{declaring_type}
use Rattle.jr_places.specs.Names.{name_row}
use Rattle.jr_places.proofs.Packing.{name_tells}
use Rattle.jr_members.specs.declared.declared.MemberKind.TheVariants as kind
use Rattle.jr_members.specs.Keys.{falling, is_named}
use Rattle.jr_members.proofs.Declaring.{falling_lists}
use Rattle.jr_dispatch.specs.Overridden.{overrides_directly, OverridesDirectly, next_of, others_of, Divides, IsDividing, is_led_to, IsSearching}
use Rattle.jr_dispatch.specs.Dispatching.{AreMethodRows}
use Rattle.jr_dispatch.proofs.Leading.{head_in, rest_in, led_tells}
use Rattle.jr_dispatch.proofs.Overriding.{directly_tells, reaches_like}

-- ---- lists

pub drop_some : (xs : List ℕ) (i x : ℕ) → slice_get xs i ≡ Some x → (drop i xs ≡ x ∷ drop (i + 1) xs) × (i < length xs)
drop_some xs i x e = let h = by xs i e in (h.0 ∙ ap (λ n. x ∷ drop n xs) (sym (add-one i)), h.1)
  where
    by : (xs : List ℕ) (i : ℕ) → slice_get xs i ≡ Some x → (drop i xs ≡ x ∷ drop (suc i) xs) × (i < length xs)
    by [] i e = absurd (none-some x e)
    by (y ∷ ys) zero e = (ap (λ z. z ∷ ys) (same_Some y x e), omega arith)
    by (y ∷ ys) (suc i) e = let h = by ys i e in (h.0, omega (arith, h.1))

pub drop_none : (xs : List ℕ) (i : ℕ) → slice_get xs i ≡ None → drop i xs ≡ []
drop_none [] zero e = refl
drop_none [] (suc i) e = refl
drop_none (y ∷ ys) zero e = absurd (none-some y (sym e))
drop_none (y ∷ ys) (suc i) e = drop_none ys i e

drop_front : (xs ys : List ℕ) (i : ℕ) → i ≤ length xs → drop i (xs ++ ys) ≡ drop i xs ++ ys
drop_front xs ys zero le = refl
drop_front [] ys (suc i) le = absurd (omega arith)
drop_front (x ∷ xs) ys (suc i) le = drop_front xs ys i (omega arith)

pub at_in : (xs : List ℕ) (i d : ℕ) → i < length xs → has xs (get_or xs i d) ≡ true
at_in [] i d lt = absurd (omega arith)
at_in (x ∷ xs) zero d lt = head_in x xs
at_in (x ∷ xs) (suc i) d lt = rest_in x (get_or xs i d) xs (at_in xs i d (omega arith))

-- ---- a list is divided

module _ (test : ℕ → ℕ → Bool) (x : ℕ) where
  before : (b : Bool) (y : ℕ) (xs : List ℕ) → cond b (y ∷ []) [] ++ xs ≡ cond b (y ∷ xs) xs
  before true y xs = refl
  before false y xs = refl

  behind : (b : Bool) (y : ℕ) (xs : List ℕ) → cond b [] (y ∷ []) ++ xs ≡ cond (not b) (y ∷ xs) xs
  behind true y xs = refl
  behind false y xs = refl

  pub dividing_start : (left met rest : List ℕ) → IsDividing test x left met met rest rest left
  dividing_start left met rest = record { first = refl; second = refl }

  pub dividing_next : (y : ℕ) (is : Bool) (left met0 met more rest0 rest others rows todo : List ℕ) → rows ≡ y ∷ todo → is ≡ test x y → more ≡ met ++ cond is (y ∷ []) [] → others ≡ rest ++ cond is [] (y ∷ [])
      → IsDividing test x left met0 met rest0 rest rows → IsDividing test x left met0 more rest0 others todo
  dividing_next y is left met0 met more rest0 rest others rows todo e d m o h = record {
    first = ap (λ xs. xs ++ next_of test x todo) m ∙ append_assoc met (cond is (y ∷ []) []) (next_of test x todo)
        ∙ ap (λ xs. met ++ xs) (before is y (next_of test x todo) ∙ ap (λ b. cond b (y ∷ next_of test x todo) (next_of test x todo)) d) ∙ ap (λ xs. met ++ next_of test x xs) (sym e) ∙ h.first;
    second = ap (λ xs. xs ++ others_of test x todo) o ∙ append_assoc rest (cond is [] (y ∷ [])) (others_of test x todo)
        ∙ ap (λ xs. rest ++ xs) (behind is y (others_of test x todo) ∙ ap (λ b. cond (not b) (y ∷ others_of test x todo) (others_of test x todo)) d) ∙ ap (λ xs. rest ++ others_of test x xs) (sym e) ∙ h.second;
  }

  pub dividing_end : (left met more rest others todo : List ℕ) → todo ≡ [] → IsDividing test x left met more rest others todo → Divides test x left met more rest others
  dividing_end left met more rest others todo none h = record {
    first = sym (append-nil more) ∙ ap (λ xs. more ++ next_of test x xs) (sym none) ∙ h.first;
    second = sym (append-nil others) ∙ ap (λ xs. others ++ others_of test x xs) (sym none) ∙ h.second;
  }

-- ---- the search

module _ (test : ℕ → ℕ → Bool) (m k : ℕ) (like : List ℕ) where
  abbrev whole : Bool
  whole = is_led_to test k (length like) (next_of test m like) (others_of test m like)

  pub search_start : (met left : List ℕ) → met ≡ next_of test m like → left ≡ others_of test m like → IsSearching test m k like (drop 0 met) left (length like - 0)
  search_start met left a b = let size : length like - 0 ≡ length like = omega arith in record { same = ap (λ n. is_led_to test k n met left) size ∙ ap₂ (λ xs ys. is_led_to test k (length like) xs ys) a b }

  no_more : (turns : ℕ) (left : List ℕ) → is_led_to test k turns [] left ≡ false
  no_more zero left = refl
  no_more (suc n) left = refl

  pub search_none : (met left : List ℕ) (turns : ℕ) → met ≡ [] → IsSearching test m k like met left turns → whole ≡ false
  search_none met left turns none h = sym h.same ∙ ap (λ xs. is_led_to test k turns xs left) none ∙ no_more turns left

  pub search_end : (met left : List ℕ) (turn : ℕ) → length like ≤ turn → IsSearching test m k like met left (length like - turn) → whole ≡ false
  search_end met left turn le h = let size : length like - turn ≡ 0 = omega arith in sym h.same ∙ ap (λ n. is_led_to test k n met left) size

  pub search_hit : (x turn : ℕ) (met left more : List ℕ) → turn < length like → met ≡ x ∷ more → x ≡ k → IsSearching test m k like met left (length like - turn) → whole ≡ true
  search_hit x turn met left more lt e same h = let size : length like - turn ≡ suc (length like - (turn + 1)) = omega arith in
      sym h.same ∙ ap₂ (λ n xs. is_led_to test k n xs left) size e ∙ ap (λ b. b || is_led_to test k (length like - (turn + 1)) (more ++ next_of test x left) (others_of test x left)) ((Decides-eqb x k).1 same)

  apart_eq : (x : ℕ) → (x ≡ k → ⊥) → nat_eq x k ≡ false
  apart_eq x apart = by (nat_eq x k) refl
    where
      by : (b : Bool) → nat_eq x k ≡ b → b ≡ false
      by true e = absurd (apart ((Decides-eqb x k).0 e))
      by false e = refl

  pub search_next : (x turn : ℕ) (all left more rest : List ℕ) → turn < length like → slice_get all turn ≡ Some x → (x ≡ k → ⊥) → Divides test x left all more [] rest
      → IsSearching test m k like (drop turn all) left (length like - turn) → IsSearching test m k like (drop (turn + 1) more) rest (length like - (turn + 1))
  search_next x turn all left more rest lt at apart d h = let size : length like - turn ≡ suc (length like - (turn + 1)) = omega arith in let cut = drop_some all turn x at in record {
    same = ap₂ (λ xs ys. is_led_to test k (length like - (turn + 1)) xs ys) (ap (λ xs. drop (turn + 1) xs) d.first ∙ drop_front all (next_of test x left) (turn + 1) (omega (arith, cut.1))) d.second
        ∙ ap (λ b. b || is_led_to test k (length like - (turn + 1)) (drop (turn + 1) all ++ next_of test x left) (others_of test x left)) (sym (apart_eq x apart))
        ∙ ap₂ (λ n xs. is_led_to test k n xs left) (sym size) (sym cut.0) ∙ h.same;
  }

  pub search_stop : (all items left : List ℕ) (turn : ℕ) (found : Option ℕ) → items ≡ all → found ≡ slice_get items turn → ((x : ℕ) → found ≡ Some x → ⊥) → IsSearching test m k like (drop turn all) left (length like - turn) → whole ≡ false
  search_stop all items left turn found same is none h = search_none (drop turn all) left (length like - turn) (drop_none all turn (by (slice_get all turn) (is ∙ ap (λ xs. slice_get xs turn) same))) h
    where
      by : (o : Option ℕ) → found ≡ o → o ≡ None
      by None e = refl
      by (Some x) e = absurd (none x e)

  pub search_hits : (all items left : List ℕ) (turn x : ℕ) → turn < length like → items ≡ all → slice_get items turn ≡ Some x → x ≡ k → IsSearching test m k like (drop turn all) left (length like - turn) → whole ≡ true
  search_hits all items left turn x lt same at e h = search_hit x turn (drop turn all) left (drop (turn + 1) all) lt (drop_some all turn x (ap (λ xs. slice_get xs turn) (sym same) ∙ at)).0 e h

  pub search_ends : (all left : List ℕ) (turn : ℕ) → length like ≤ turn → IsSearching test m k like (drop turn all) left (length like - turn) → whole ≡ false
  search_ends all left turn le h = search_end (drop turn all) left turn le h

-- ---- methods of one name

module _ (p : Rows) where
  pub named_listed : (x : ℕ) → Lists (falling (length p) (is_named p kind.Method x)) (λ d. (role_at p d ≡ role.Method) × (((c : ℕ) × DeclaredIn p c d) × (name_row p d ≡ x)))
  named_listed x = falling_lists (is_named p kind.Method x) (λ d. (role_at p d ≡ role.Method) × (((c : ℕ) × DeclaredIn p c d) × (name_row p d ≡ x))) (length p)
      (λ d. both (role_tells (role_at p d) role.Method) (both (some_tells (λ c. DeclaredIn p c d) (declaring_type p d) (declaring_finds p d)) (Decides-eqb (name_row p d) x)))
      (λ d k. member_below p d k.1.0.1.member)

  pub divided_rows : (test : ℕ → ℕ → Bool) (x : ℕ) (left met more rest : List ℕ) → Divides test x left met more [] rest → AreMethodRows p left → AreMethodRows p met → AreMethodRows p rest × AreMethodRows p more
  divided_rows test x left met more rest d of_left of_met = (
    (λ k at. of_left k ((among_filter nat_eq Decides-eqb (λ y. not (test x y)) left k).0 (subst (λ xs. has xs k ≡ true) d.second at)).0),
    (λ k at. ⊎_elim (of_met k) (λ a. of_left k ((among_filter nat_eq Decides-eqb (λ y. test x y) left k).0 a).0) ((among_append nat_eq Decides-eqb met (next_of test x left) k).0 (subst (λ xs. has xs k ≡ true) d.first at))),
  )

  pub no_rows : AreMethodRows p []
  no_rows k at = absurd (false≢true at)

  pub row_below : (d : ℕ) → role_at p d ≡ role.Method → d < length p
  row_below d e = member_below p d (subst IsMemberRole (sym e) tt)

  pub search_begin : (test : ℕ → ℕ → Bool) (m k : ℕ) (like given met0 met left : List ℕ) → given ≡ like → met0 ≡ [] → AreMethodRows p like → Divides test m given met0 met [] left
      → IsSearching test m k like met left (length like - 0) × (AreMethodRows p left × AreMethodRows p met)
  search_begin test m k like given met0 met left same none rows d = let parts = divided_rows test m given met0 met left d (subst (λ xs. AreMethodRows p xs) (sym same) rows) (subst (λ xs. AreMethodRows p xs) (sym none) no_rows) in
      (search_start test m k like met left (d.first ∙ ap₂ (λ xs ys. xs ++ next_of test m ys) none same) (d.second ∙ ap (λ ys. others_of test m ys) same), parts)

  got_in : (xs : List ℕ) (i x : ℕ) → slice_get xs i ≡ Some x → has xs x ≡ true
  got_in [] i x e = absurd (none-some x e)
  got_in (y ∷ ys) zero x e = subst (λ z. has (y ∷ ys) z ≡ true) (same_Some y x e) (head_in y ys)
  got_in (y ∷ ys) (suc i) x e = rest_in y x ys (got_in ys i x e)

  pub search_more : (test : ℕ → ℕ → Bool) (m k : ℕ) (like all given left items more rest : List ℕ) (turn x : ℕ) → turn < length like → items ≡ all → slice_get items turn ≡ Some x → (x ≡ k → ⊥) → given ≡ left
      → IsSearching test m k like (drop turn all) left (length like - turn) × (AreMethodRows p left × AreMethodRows p all) → (role_at p x ≡ role.Method → Divides test x given all more [] rest)
      → IsSearching test m k like (drop (turn + 1) more) rest (length like - (turn + 1)) × (AreMethodRows p rest × AreMethodRows p more)
  search_more test m k like all given left items more rest turn x lt same at apart is inv d = let here = ap (λ xs. slice_get xs turn) (sym same) ∙ at in
      let now : Divides test x left all more [] rest = subst (λ xs. Divides test x xs all more [] rest) is (d (inv.1.1 x (got_in all turn x here))) in
      (search_next test m k like x turn all left more rest lt here apart now inv.0, divided_rows test x left all more rest now inv.1.0 inv.1.1)

  module _ (t : Table) (headed : IsHeaded p) (m k : ℕ) (like_rows : List ℕ) (is : like_rows ≡ falling (length p) (is_named p kind.Method (name_row p m))) where
    pub named_methods : AreMethodRows p like_rows
    named_methods d at = ((named_listed (name_row p m) d).0 (subst (λ xs. has xs d ≡ true) is at)).0

    step : (x y : ℕ) → name p x ≡ name p m → overrides_directly p t x y ≡ true → (name p y ≡ name p m) × (has like_rows y ≡ true)
    step x y known e = let d = (directly_tells p t headed x y).0 e in let named = sym d.above.signatures.signature.named ∙ known in (
      named,
      subst (λ xs. has xs y ≡ true) (sym is) ((named_listed (name_row p m) y).1
          (d.above.signatures.second, ((d.above.upper, d.above.declares), (Decides-eqb (name_row p y) (name_row p m)).0 ((name_tells p y m).1 named)))),
    )

    pub search_tells : (b : Bool) → whole (overrides_directly p t) m k like_rows ≡ b → Decides b (Reaches (OverridesDirectly p t) m k)
    search_tells b e = subst (λ c. Decides c (Reaches (OverridesDirectly p t) m k)) e
        (like (led_tells (overrides_directly p t) m k like_rows (λ x. name p x ≡ name p m) step refl)
        (reaches_like (λ x y h. (directly_tells p t headed x y).0 h)) (reaches_like (λ x y h. (directly_tells p t headed x y).1 h)))
