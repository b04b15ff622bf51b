-- A best one of a list is most specific where any is (JLS 15.12.2.5).
use Rattle.std.proofs.Common.{◌≡◌, ◌⊎◌, refl, sym, ◌∙◌, ap, ap₂, subst, inl, inr, ⊎_elim, ℕ, suc, Bool, true, false, cond, List, [], ◌∷◌, filter, nat_eq, Decides}
use Rattle.std.specs.List.{list_all}
use Rattle.std.proofs.lemmas.Bool.{false≢true, false_from_ne_true}
use Rattle.std.proofs.lemmas.Bool.Decides.{Decides-eqb}
use Rattle.std.proofs.lemmas.Option.{same_Some}
use Rattle.jr_tree.specs.Rows.{Rows}
use Rattle.jr_defs.specs.declared.referent.Element.{Element}
use Rattle.jr_defs.specs.declared.referent.Element.TheVariants as element
use Rattle.jr_defs.specs.declared.referent.RowType.{RowType}
use Rattle.jr_defs.specs.Referents.{Table}
use Rattle.jr_defs.specs.Declarations.{IsObject}
use Rattle.jr_defs.specs.Types.{array, plain, class_type, Parameters}
use Rattle.jr_defs.specs.Supertypes.{SuperAt, Super, Above, Wider, Widens, IsReferenceType, Subtype}
use Rattle.jr_defs.specs.Overloads.{AllSubtypes, MoreSpecific}
use Rattle.jr_plain.specs.Headed.{IsHeaded}
use Rattle.jr_plain.specs.Search.{has}
use Rattle.jr_plain.specs.Overloads.{is_more_specific}
use Rattle.jr_plain.proofs.Searches.{every_item}
use Rattle.jr_plain.proofs.Typed.{parameters_find}
use Rattle.jr_plain.proofs.Overloaded.{more_specific_tells}
use Rattle.jr_supers.proofs.Subtyped.{one_test}
use Rattle.jr_members.specs.Held.{ObjectIsBare}
use Rattle.jr_members.proofs.Each.{has_front, front_has, rest_has}
use Rattle.jr_lookup.specs.Choices.{better, best}

-- ---- subtypes of subtypes

widens_then : {a b c : Element} → Widens a b → Widens b c → Widens a c
widens_then (Widens.step w) k = Widens.steps w k
widens_then (Widens.steps w m) k = Widens.steps w (widens_then m k)

-- element types that widen, and those that are widened to
IsSource : Element → Type 0
IsSource (element.Class c) = ⊥
IsSource element.Null = ⊥
IsSource _ = Unit {0}

wider_apart : {a b : Element} → Wider a b → IsSource a × IsSource b
unfolding IsSource
wider_apart Wider.byte = (tt, tt)
wider_apart Wider.short = (tt, tt)
wider_apart Wider.char = (tt, tt)
wider_apart Wider.int = (tt, tt)

widens_apart : {a b : Element} → Widens a b → IsSource a × IsSource b
widens_apart (Widens.step w) = wider_apart w
widens_apart (Widens.steps w m) = ((wider_apart w).0, (widens_apart m).1)

no_class_source : (c : ℕ) → IsSource (element.Class c) → ⊥
unfolding IsSource
no_class_source c h = h

no_null_source : IsSource element.Null → ⊥
unfolding IsSource
no_null_source h = h

no_reference : {a : Element} → IsSource a → IsReferenceType (plain a) → ⊥
no_reference s IsReferenceType.class = no_class_source _ s

module _ (p : Rows) (t : Table) (bare : ObjectIsBare p) where
  bare_at : (o n s : ℕ) → IsObject p o → SuperAt p t o n s → ⊥
  bare_at o n s object (SuperAt.class names e) = bare o n object (inl names)
  bare_at o n s object (SuperAt.implied h e) = h.below object
  bare_at o n s object (SuperAt.interface names e) = bare o n object (inr names)

  bare_super : (o s : ℕ) → IsObject p o → Super p t o s → ⊥
  bare_super o s object up = bare_at o up.place s object up.at

  -- only Object stands above Object
  over_object : {o s : ℕ} → IsObject p o → Above p t o s → IsObject p s
  over_object {o = o} {s = s} object (Above.direct up) = absurd (bare_super o s object up)
  over_object {o = o} object (Above.further {r = r} up more) = absurd (bare_super o r object up)
  over_object object (Above.object i k) = k

  above_then : {c r s : ℕ} → Above p t c r → Above p t r s → Above p t c s
  above_then (Above.direct up) k = Above.further up k
  above_then (Above.further up more) k = Above.further up (above_then more k)
  above_then (Above.object i o) k = Above.object i (over_object o k)

  reference_up : {a b : RowType} → Subtype p t a b → IsReferenceType a → IsReferenceType b
  reference_up Subtype.same r = r
  reference_up (Subtype.primitive w) r = absurd (no_reference (widens_apart w).0 r)
  reference_up (Subtype.null h) r = h
  reference_up (Subtype.class h) r = IsReferenceType.class
  reference_up (Subtype.array_object o) r = IsReferenceType.class
  reference_up (Subtype.array_array r s h) k = IsReferenceType.array_type

  from_primitive : {a b : Element} {c : RowType} → Widens a b → Subtype p t (plain b) c → Subtype p t (plain a) c
  from_primitive w Subtype.same = Subtype.primitive w
  from_primitive w (Subtype.primitive v) = Subtype.primitive (widens_then w v)
  from_primitive w (Subtype.null r) = absurd (no_null_source (widens_apart w).1)
  from_primitive w (Subtype.class h) = absurd (no_class_source _ (widens_apart w).1)

  from_class : {c s : ℕ} {b : RowType} → Above p t c s → Subtype p t (class_type s) b → Subtype p t (class_type c) b
  from_class h Subtype.same = Subtype.class h
  from_class h (Subtype.primitive w) = absurd (no_class_source _ (widens_apart w).0)
  from_class h (Subtype.class k) = Subtype.class (above_then h k)

  from_object : {e : Element} {dims s : ℕ} {b : RowType} → IsObject p s → Subtype p t (class_type s) b → Subtype p t (array e (suc dims)) b
  from_object o Subtype.same = Subtype.array_object o
  from_object o (Subtype.primitive w) = absurd (no_class_source _ (widens_apart w).0)
  from_object o (Subtype.class k) = Subtype.array_object (over_object o k)

  subtype_then : {a b c : RowType} → Subtype p t a b → Subtype p t b c → Subtype p t a c
  subtype_then Subtype.same k = k
  subtype_then (Subtype.primitive w) k = from_primitive w k
  subtype_then (Subtype.null r) k = Subtype.null (reference_up k r)
  subtype_then (Subtype.class h) k = from_class h k
  subtype_then (Subtype.array_object o) k = from_object o k
  subtype_then (Subtype.array_array r s h) Subtype.same = Subtype.array_array r s h
  subtype_then (Subtype.array_array r s h) (Subtype.array_object o) = Subtype.array_object o
  subtype_then (Subtype.array_array r s h) (Subtype.array_array u v k) = Subtype.array_array r v (subtype_then h k)

  all_then : {first second third : List RowType} → AllSubtypes p t first second → AllSubtypes p t second third → AllSubtypes p t first third
  all_then AllSubtypes.none k = k
  all_then (AllSubtypes.more s h) (AllSubtypes.more u k) = AllSubtypes.more (subtype_then s u) (all_then h k)

  module _ (headed : IsHeaded p) where
    one_list : (m : ℕ) (xs ys : List RowType) → Parameters p t m xs → Parameters p t m ys → xs ≡ ys
    one_list m xs ys h k = same_Some xs ys (sym ((parameters_find p t m headed.tree xs).1 h) ∙ (parameters_find p t m headed.tree ys).1 k)

    specific_then : (m k l : ℕ) → MoreSpecific p t m k → MoreSpecific p t k l → MoreSpecific p t m l
    specific_then m k l h g = record {
      first = h.first;
      second = g.second;
      are = h.are;
      others = g.others;
      fit = all_then h.fit (subst (λ xs. AllSubtypes p t xs g.second) (one_list k g.first h.second g.are h.others) g.fit);
    }

    pub more_then : (m k l : ℕ) → is_more_specific p t m k ≡ true → is_more_specific p t k l ≡ true → is_more_specific p t m l ≡ true
    more_then m k l h g = (more_specific_tells p t headed m l).1 (specific_then m k l ((more_specific_tells p t headed m k).0 h) ((more_specific_tells p t headed k l).0 g))

-- ---- filters

filter_none : (test : ℕ → Bool) (xs : List ℕ) → ((x : ℕ) → has xs x ≡ true → test x ≡ false) → filter test xs ≡ []
filter_none test [] none = refl
filter_none test (x ∷ xs) none = ap (λ b. cond b (x ∷ filter test xs) (filter test xs)) (none x (front_has x xs)) ∙ filter_none test xs (λ y at. none y (rest_has x y xs at))

filter_same : (f g : ℕ → Bool) (xs : List ℕ) → ((x : ℕ) → has xs x ≡ true → f x ≡ g x) → filter f xs ≡ filter g xs
filter_same f g [] same = refl
filter_same f g (x ∷ xs) same = ap₂ (λ b more. cond b (x ∷ more) more) (same x (front_has x xs)) (filter_same f g xs (λ y at. same y (rest_has x y xs at)))

-- ---- the best one

all_tells : (test : ℕ → Bool) (xs : List ℕ) → Decides (list_all test xs) ((x : ℕ) → has xs x ≡ true → test x ≡ true)
all_tells = every_item nat_eq Decides-eqb

module _ (test : ℕ → ℕ → Bool) (chains : (m k l : ℕ) → test m k ≡ true → test k l ≡ true → test m l ≡ true) where
  best_stays : (b : ℕ) (xs : List ℕ) → ((x : ℕ) → has xs x ≡ true → test b x ≡ true) → best test b xs ≡ b
  best_stays b [] all = refl
  best_stays b (x ∷ xs) all = ap (λ c. best test (cond c b x) xs) (all x (front_has x xs)) ∙ best_stays b xs (λ y at. all y (rest_has x y xs at))

  better_is : (b m : ℕ) → test m m ≡ true → test (better test b m) m ≡ true
  better_is b m own = by (test b m) refl
    where
      by : (c : Bool) → test b m ≡ c → test (cond c b m) m ≡ true
      by true e = e
      by false e = own

  -- the best is as specific as one that is most specific
  best_reaches : (b m : ℕ) (xs : List ℕ) → has xs m ≡ true → ((x : ℕ) → has xs x ≡ true → test m x ≡ true) → test (best test b xs) m ≡ true
  best_reaches b m [] at all = absurd (false≢true at)
  best_reaches b m (x ∷ xs) at all = ⊎_elim here (λ more. best_reaches (better test b x) m xs more (λ y k. all y (rest_has x y xs k))) (has_front x m xs at)
    where
      here : x ≡ m → test (best test (better test b x) xs) m ≡ true
      here e = let own = all m at in let is : test (better test b x) m ≡ true = subst (λ y. test (better test b y) m ≡ true) (sym e) (better_is b m own) in
          ap (λ y. test y m) (best_stays (better test b x) xs (λ y k. chains (better test b x) m y is (all y (rest_has x y xs k)))) ∙ is

  better_in : (b x : ℕ) → (better test b x ≡ b) ⊎ (better test b x ≡ x)
  better_in b x = by (test b x)
    where
      by : (c : Bool) → (cond c b x ≡ b) ⊎ (cond c b x ≡ x)
      by true = inl refl
      by false = inr refl

  best_in : (b : ℕ) (xs : List ℕ) → (best test b xs ≡ b) ⊎ (has xs (best test b xs) ≡ true)
  best_in b [] = inl refl
  best_in b (x ∷ xs) = ⊎_elim
      (λ e. ⊎_elim (λ is. inl (e ∙ is)) (λ is. inr (subst (λ y. has (x ∷ xs) y ≡ true) (sym (e ∙ is)) (front_has x xs))) (better_in b x))
      (λ at. inr (rest_has x (best test (better test b x) xs) xs at)) (best_in (better test b x) xs)

  best_there : (b : ℕ) (xs : List ℕ) → has xs b ≡ true → has xs (best test b xs) ≡ true
  best_there b xs at = ⊎_elim (λ e. subst (λ y. has xs y ≡ true) (sym e) at) (λ h. h) (best_in b xs)

  -- the most specific ones
  abbrev pub mosts : List ℕ → List ℕ
  mosts xs = filter (λ m. list_all (λ k. test m k) xs) xs

  -- where the best is not most specific, none is
  pub none_most : (b : ℕ) (xs : List ℕ) → list_all (test (best test b xs)) xs ≡ false → [] ≡ mosts xs
  none_most b xs worse = sym (filter_none (λ m. list_all (λ k. test m k) xs) xs (λ m at. false_from_ne_true (list_all (λ k. test m k) xs) (λ h.
      let all = (all_tells (λ k. test m k) xs).0 h in
      false≢true (sym worse ∙ (all_tells (test (best test b xs)) xs).1 (λ x k. chains (best test b xs) m x (best_reaches b m xs at all) (all x k))))))

  -- else those are that are as specific as the best
  pub mosts_by_best : (b : ℕ) (xs : List ℕ) → has xs b ≡ true → list_all (test (best test b xs)) xs ≡ true → filter (λ m. test m (best test b xs)) xs ≡ mosts xs
  mosts_by_best b xs there is = filter_same (λ m. test m (best test b xs)) (λ m. list_all (λ k. test m k) xs) xs
      (λ m at. one_test (test m (best test b xs)) (list_all (λ k. test m k) xs) (list_all (λ k. test m k) xs ≡ true)
      (λ h. (all_tells (λ k. test m k) xs).1 (λ x k. chains m (best test b xs) x h ((all_tells (test (best test b xs)) xs).0 is x k)), λ h. (all_tells (λ k. test m k) xs).0 h (best test b xs) (best_there b xs there))
      (λ h. h, λ h. h))
