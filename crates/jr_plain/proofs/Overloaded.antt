-- The choice of a method or constructor that is computed is that of the definition.
use Rattle.std.proofs.Common.{◌≡◌, ◌⊎◌, refl, sym, ◌∙◌, ap, ap₂, subst, inl, inr, ⊎_elim, arith, ℕ, zero, suc, ◌+◌, ◌≤◌, ◌<◌, Bool, true, false, cond, not, ◌&&◌, ◌||◌, List, [], ◌∷◌, length, filter, Option, Some, None, nat_eq, nat_lt, Decides}
use Rattle.std.specs.List.{list_any, list_all}
use Rattle.std.specs.Option.{option_map_or}
use Rattle.std.proofs.lemmas.Bool.{false≢true, cases_lt, eq-eqb, ne_eqb}
use Rattle.std.proofs.lemmas.Bool.Decides.{Decides-eqb, Decides-ltb}
use Rattle.std.proofs.lemmas.Option.{none-some, same_Some}
use Rattle.jr_tree.specs.Rows.{Rows, parent, end}
use Rattle.jr_tree.specs.Tree.{IsTree}
use Rattle.jr_defs.specs.declared.referent.RowType.{RowType}
use Rattle.jr_defs.specs.Referents.{Table}
use Rattle.jr_defs.specs.Declarations.{IsType}
use Rattle.jr_defs.specs.Modifiers.{IsAbstract}
use Rattle.jr_defs.specs.Types.{HasType, Parameters}
use Rattle.jr_defs.specs.Supertypes.{IsReferenceType, Subtype, SuperAt, Super}
use Rattle.jr_defs.specs.Members.{MemberOf}
use Rattle.jr_defs.specs.Typing.{TypeOf}
use Rattle.jr_defs.specs.Overloads.{ArgumentTypes, AllSubtypes, IsApplicable, Applicable, MoreSpecific, IsMostSpecific, ResultFits, FirstThrough, Earlier, AllAbstract, Returns, IsFirst, IsPreferred, IsLeftOf, Choice, ImportedChoice}
use Rattle.jr_plain.specs.Headed.{IsHeaded}
use Rattle.jr_plain.specs.Search.{has, Lists, Finds}
use Rattle.jr_plain.specs.Lists.{or_else}
use Rattle.jr_plain.specs.Modifiers.{is_abstract}
use Rattle.jr_plain.specs.Types.{type_of_declared, before, parameters}
use Rattle.jr_plain.specs.Supertypes.{supers}
use Rattle.jr_plain.specs.Members.{is_member}
use Rattle.jr_plain.specs.Overloads as plain
use Rattle.jr_plain.specs.Overloads.{Types}
use Rattle.jr_plain.proofs.Tests.{itself, never, both, either, opposite, decide, like}
use Rattle.jr_plain.proofs.Searches.{some_of, every_of, finds_first}
use Rattle.jr_plain.proofs.OfTypes.{closed_types, sound_types}
use Rattle.jr_plain.proofs.Listed.{or_else_has, filter_has}
use Rattle.jr_plain.proofs.Same.{type_tells}
use Rattle.jr_plain.proofs.Bounds.{class_below, parent_past}
use Rattle.jr_plain.proofs.Modified.{found_tells, abstract_tells}
use Rattle.jr_plain.proofs.Typed.{before_out, has_type_finds, parameters_find}
use Rattle.jr_plain.proofs.Supertyped.{superclass_name_below, superinterface_name_below, super_at_tells, supers_list, super_source, reference_type_tells, subtype_tells}
use Rattle.jr_plain.proofs.Membership.{member_tells}
use Rattle.jr_plain.proofs.Accessed.{accessible_tells}

-- ---- arguments

module _ (p : Rows) (t : Table) (K : ℕ → Type 0) (type_of : Types) (typed : (n : ℕ) → Finds (type_of n) (λ a. TypeOf p t K n a)) (n : ℕ) where
  takes : (k : ℕ) (a : RowType) (more : List RowType) (behind : Option (List RowType)) → parent p k ≡ n → TypeOf p t K k a → behind ≡ Some more
      → plain.with_argument p type_of n k behind ≡ Some (a ∷ more)
  takes k a more behind up h e = ap (λ b. cond b (before (type_of k) behind) (Some [])) (eq-eqb (parent p k) n up) ∙ ap₂ before ((typed k a).1 h) e

  ends : (k : ℕ) (behind : Option (List RowType)) → (parent p k ≡ n → ⊥) → plain.with_argument p type_of n k behind ≡ Some []
  ends k behind apart = ap (λ b. cond b (before (type_of k) behind) (Some [])) (ne_eqb (parent p k) n apart)

  step_out : (k : ℕ) (behind : Option (List RowType)) → ((more : List RowType) → behind ≡ Some more → ArgumentTypes p t K n (end p k) more)
      → (all : List RowType) → plain.with_argument p type_of n k behind ≡ Some all → ArgumentTypes p t K n k all
  step_out k behind rest all e = by (nat_eq (parent p k) n) (Decides-eqb (parent p k) n) e
    where
      by : (b : Bool) → Decides b (parent p k ≡ n) → cond b (before (type_of k) behind) (Some []) ≡ Some all → ArgumentTypes p t K n k all
      by true d e = let h = before_out (type_of k) behind all e in subst (λ xs. ArgumentTypes p t K n k xs) h.4 (ArgumentTypes.argument (d.0 refl) ((typed k h.0).0 h.2) (rest h.1 h.3))
      by false d e = subst (λ xs. ArgumentTypes p t K n k xs) (same_Some [] all e) (ArgumentTypes.done (λ h. false≢true (d.1 h)))

  arguments_out : (rounds k : ℕ) (all : List RowType) → plain.argument_types p type_of n rounds k ≡ Some all → ArgumentTypes p t K n k all
  arguments_out zero k all e = step_out k None (λ more h. absurd (none-some more h)) all e
  arguments_out (suc rounds) k all e = step_out k (plain.argument_types p type_of n rounds (end p k)) (λ more h. arguments_out rounds (end p k) more h) all e

  past_end : (k : ℕ) → n < k → length p ≤ k → parent p k ≡ n → ⊥
  past_end k lt le up = let e = parent_past p k le in omega arith

  module _ (nested : (m : ℕ) → m < end p m) where
    arguments_into : (rounds k : ℕ) (all : List RowType) → n < k → length p ≤ k + rounds → ArgumentTypes p t K n k all → plain.argument_types p type_of n rounds k ≡ Some all
    arguments_into zero k _ lt le (ArgumentTypes.argument up h rest) = absurd (past_end k lt (omega arith) up)
    arguments_into zero k _ lt le (ArgumentTypes.done apart) = ends k None apart
    arguments_into (suc rounds) k _ lt le (ArgumentTypes.argument {a = a} {more = more} up h rest) =
        let gt = nested k in takes k a more (plain.argument_types p type_of n rounds (end p k)) up h (arguments_into rounds (end p k) more (omega arith) (omega arith) rest)
    arguments_into (suc rounds) k _ lt le (ArgumentTypes.done apart) = ends k (plain.argument_types p type_of n rounds (end p k)) apart

  pub arguments_find : IsTree p → (k : ℕ) → n < k → Finds (plain.argument_types p type_of n (length p) k) (λ all. ArgumentTypes p t K n k all)
  arguments_find tree k lt all = (arguments_out (length p) k all, λ h. arguments_into tree.nested (length p) k all lt (omega arith) h)

-- ---- what is applicable

module _ (p : Rows) (t : Table) (headed : IsHeaded p) where
  short_first : {b : RowType} {bs : List RowType} → AllSubtypes p t [] (b ∷ bs) → ⊥
  short_first h = elim h [ ]

  short_second : {a : RowType} {more : List RowType} → AllSubtypes p t (a ∷ more) [] → ⊥
  short_second h = elim h [ ]

  more_into : {a b : RowType} {more bs : List RowType} → AllSubtypes p t (a ∷ more) (b ∷ bs) → Subtype p t a b × AllSubtypes p t more bs
  more_into (AllSubtypes.more s h) = (s, h)

  pub subtypes_tell : (first second : List RowType) → Decides (plain.are_subtypes p t first second) (AllSubtypes p t first second)
  subtypes_tell [] [] = (λ h. AllSubtypes.none, λ h. refl)
  subtypes_tell [] (b ∷ bs) = like never (λ h. absurd h) short_first
  subtypes_tell (a ∷ more) [] = like never (λ h. absurd h) short_second
  subtypes_tell (a ∷ more) (b ∷ bs) = like (both (subtype_tells p t headed a b) (subtypes_tell more bs)) (λ h. AllSubtypes.more h.0 h.1) more_into

  pub applicable_tells : (o : ℕ) (receiver : Option RowType) (arguments : List RowType) (m : ℕ)
      → Decides (plain.is_applicable p t o receiver arguments m) (IsApplicable p t o receiver arguments m)
  applicable_tells o receiver arguments m = like
      (both (accessible_tells p t headed m o receiver) (found_tells (λ all. Parameters p t m all) (λ all. plain.are_subtypes p t arguments all) (λ all. AllSubtypes p t arguments all)
      (subtypes_tell arguments) (parameters p t m) (parameters_find p t m headed.tree)))
      (λ h. record { accessible = h.0; parameters = h.1.0; are = h.1.1; fit = h.1.2 }) (λ h. (h.accessible, (h.parameters, h.are, h.fit)))

  pub more_specific_tells : (m k : ℕ) → Decides (plain.is_more_specific p t m k) (MoreSpecific p t m k)
  more_specific_tells m k = like
      (found_tells (λ first. Parameters p t m first) (λ first. option_map_or (λ second. plain.are_subtypes p t first second) (parameters p t k) false)
      (λ first. (second : List RowType) × Parameters p t k second × AllSubtypes p t first second)
      (λ first. found_tells (λ second. Parameters p t k second) (λ second. plain.are_subtypes p t first second) (λ second. AllSubtypes p t first second) (subtypes_tell first) (parameters p t k)
      (parameters_find p t k headed.tree)) (parameters p t m) (parameters_find p t m headed.tree))
      (λ h. record { first = h.0; second = h.2.0; are = h.1; others = h.2.1; fit = h.2.2 }) (λ h. (h.first, h.are, (h.second, h.others, h.fit)))

  abbrev ResultTypeFits : RowType → RowType → Type 0
  ResultTypeFits a b = (a ≡ b) ⊎ ((IsReferenceType a × IsReferenceType b) × Subtype p t a b)

  result_type_tells : (a b : RowType) → Decides (plain.is_result_type_fit p t a b) (ResultTypeFits a b)
  result_type_tells a b = either (type_tells a b) (both (both (reference_type_tells a) (reference_type_tells b)) (subtype_tells p t headed a b))

  pub result_tells : (m k : ℕ) → Decides (plain.is_result_fit p t m k) (ResultFits p t m k)
  result_tells m k = like
      (found_tells (λ a. HasType p t m a) (λ a. option_map_or (λ b. plain.is_result_type_fit p t a b) (type_of_declared p t k) false) (λ a. (b : RowType) × HasType p t k b × ResultTypeFits a b)
      (λ a. found_tells (λ b. HasType p t k b) (λ b. plain.is_result_type_fit p t a b) (λ b. ResultTypeFits a b) (result_type_tells a) (type_of_declared p t k) (has_type_finds p t k))
      (type_of_declared p t m) (has_type_finds p t m)) out into
    where
      out : (a : RowType) × HasType p t m a × ((b : RowType) × HasType p t k b × ResultTypeFits a b) → ResultFits p t m k
      out h = ⊎_elim (λ e. ResultFits.same h.1 (subst (λ x. HasType p t k x) (sym e) h.2.1)) (λ r. ResultFits.reference h.1 h.2.1 r.0.0 r.0.1 r.1) h.2.2

      into : ResultFits p t m k → (a : RowType) × HasType p t m a × ((b : RowType) × HasType p t k b × ResultTypeFits a b)
      into (ResultFits.same {a = a} x y) = (a, x, (a, y, inl refl))
      into (ResultFits.reference {a = a} {b = b} x y r s h) = (a, x, (b, y, inr ((r, s), h)))

  -- ---- the order of inheritance

  pub super_place_below : (c n s : ℕ) → SuperAt p t c n s → n < length p
  super_place_below c n s (SuperAt.class k e) = superclass_name_below p c n k
  super_place_below c n s (SuperAt.implied i o) = class_below p c i.class
  super_place_below c n s (SuperAt.interface k e) = superinterface_name_below p c n k

  -- a supertype of c at this place has the member
  abbrev HasAt : ℕ → ℕ → ℕ → Type 0
  HasAt c d n = (s : ℕ) × Super p t c s × (SuperAt p t c n s × MemberOf p t s d)

  has_at_tells : (c d n : ℕ) → Decides (list_any (λ s. plain.is_through_at p t c d n s) (supers p t c)) (HasAt c d n)
  has_at_tells c d n = some_of (λ s. plain.is_through_at p t c d n s) (λ s. SuperAt p t c n s × MemberOf p t s d) (λ s. both (super_at_tells p t headed c n s) (member_tells p t headed s d)) (supers p t c)
      (supers_list p t headed c)

  abbrev FirstPlace : ℕ → ℕ → ℕ → Type 0
  FirstPlace c d n = HasAt c d n × ((j : ℕ) → HasAt c d j → n ≤ j)

  first_place_finds : (c d : ℕ) → Finds (plain.first_place p t c d) (λ n. FirstPlace c d n)
  first_place_finds c d n = let h = finds_first (λ n. list_any (λ s. plain.is_through_at p t c d n s) (supers p t c)) (λ n. HasAt c d n) (has_at_tells c d) (length p) n in
      (λ e. let k = h.0 e in (k.1, k.2), λ k. h.1 (super_place_below c n k.0.0 k.0.2.0, k.0, k.1))

  first_through : (c d n s : ℕ) → FirstPlace c d n → SuperAt p t c n s → MemberOf p t s d → FirstThrough p t c n s d
  first_through c d n s h at member = record { at = at; member = member; first = λ m r lt a b. let le = h.1 m (r, record { place = m; at = a }, (a, b)) in absurd (omega arith) }

  place_of : (c d n s : ℕ) → FirstThrough p t c n s d → FirstPlace c d n
  place_of c d n s h = ((s, record { place = n; at = h.at }, (h.at, h.member)), λ j k. ⊎_elim (λ lt. absurd (h.first j k.0 lt k.2.0 k.2.1)) (λ le. le) (cases_lt j n))

  module _ (d e : ℕ) where
    abbrev WithinBy : List ℕ → ℕ → ℕ → Type 0
    WithinBy set c n = (s : ℕ) × Super p t c s × (((SuperAt p t c n s × MemberOf p t s d) × MemberOf p t s e) × (has set s ≡ true))

    abbrev EarlierBy : List ℕ → ℕ → Type 0
    EarlierBy set c = (m : ℕ) × FirstPlace c d m × ((n : ℕ) × FirstPlace c e n × ((m < n) ⊎ ((m ≡ n) × WithinBy set c n)))

    within_tells : (set : List ℕ) (c m n : ℕ) → Decides (plain.is_earlier_within p t d e set c m n) ((m ≡ n) × WithinBy set c n)
    within_tells set c m n = both (Decides-eqb m n)
        (some_of (λ s. (plain.is_through_at p t c d n s && is_member p t s e) && has set s) (λ s. ((SuperAt p t c n s × MemberOf p t s d) × MemberOf p t s e) × (has set s ≡ true))
        (λ s. both (both (both (super_at_tells p t headed c n s) (member_tells p t headed s d)) (member_tells p t headed s e)) (itself (has set s))) (supers p t c) (supers_list p t headed c))

    earlier_by_tells : (set : List ℕ) (c : ℕ) → Decides (plain.is_earlier_by p t d e set c) (EarlierBy set c)
    earlier_by_tells set c = found_tells (λ m. FirstPlace c d m) (λ m. option_map_or (λ n. nat_lt m n || plain.is_earlier_within p t d e set c m n) (plain.first_place p t c e) false)
        (λ m. (n : ℕ) × FirstPlace c e n × ((m < n) ⊎ ((m ≡ n) × WithinBy set c n)))
        (λ m. found_tells (λ n. FirstPlace c e n) (λ n. nat_lt m n || plain.is_earlier_within p t d e set c m n) (λ n. (m < n) ⊎ ((m ≡ n) × WithinBy set c n))
        (λ n. either (Decides-ltb m n) (within_tells set c m n)) (plain.first_place p t c e) (first_place_finds c e))
        (plain.first_place p t c d) (first_place_finds c d)

    earlier_out : (c : ℕ) → plain.is_earlier p t c d e ≡ true → Earlier p t c d e
    earlier_out = sound_types p (plain.is_earlier_by p t d e) (λ c. Earlier p t c d e) step
      where
        from : (set : List ℕ) → ((k : ℕ) → has set k ≡ true → Earlier p t k d e) → (c : ℕ) → EarlierBy set c → Earlier p t c d e
        from set holds c h = let m = h.0 in let n = h.2.0 in let first = h.1 in let second = h.2.1 in ⊎_elim
            (λ lt. Earlier.by_place (first_through c d m first.0.0 first first.0.2.0 first.0.2.1) (first_through c e n second.0.0 second second.0.2.0 second.0.2.1) lt)
            (λ k. Earlier.within (first_through c d n k.1.0 (subst (λ x. FirstPlace c d x) k.0 first) k.1.2.0.0.0 k.1.2.0.0.1) (first_through c e n k.1.0 second k.1.2.0.0.0 k.1.2.0.1)
            (holds k.1.0 k.1.2.1)) h.2.2

        step : (set : List ℕ) → ((k : ℕ) → has set k ≡ true → Earlier p t k d e) → (c : ℕ) → IsType p c → plain.is_earlier_by p t d e set c ≡ true → Earlier p t c d e
        step set holds c type h = from set holds c ((earlier_by_tells set c).0 h)

    closed_earlier : (c s n : ℕ) → SuperAt p t c n s → EarlierBy (plain.earlier p t d e) c → plain.is_earlier p t c d e ≡ true
    closed_earlier c s n at h =
        closed_types p (plain.is_earlier_by p t d e) c (super_source p t headed c s (record { place = n; at = at })) ((earlier_by_tells (plain.earlier p t d e) c).1 h)

  earlier_into : (c d e : ℕ) → Earlier p t c d e → plain.is_earlier p t c d e ≡ true
  earlier_into c d e (Earlier.by_place {m = m} {n = n} {r = r} {s = s} f g lt) =
      closed_earlier d e c r m f.at (m, place_of c d m r f, (n, place_of c e n s g, inl lt))
  earlier_into c d e (Earlier.within {n = n} {s = s} f g h) = closed_earlier d e c s n f.at
      (n, place_of c d n s f, (n, place_of c e n s g, inr (refl, (s, record { place = n; at = f.at }, (((f.at, f.member), g.member), earlier_into s d e h)))))

  pub earlier_tells : (c d e : ℕ) → Decides (plain.is_earlier p t c d e) (Earlier p t c d e)
  earlier_tells c d e = (earlier_out d e c, earlier_into c d e)

  -- ---- choices

  pub applicable_list : (o : ℕ) (receiver : Option RowType) (arguments : List RowType) (S : ℕ → Type 0) (methods : List ℕ) → Lists methods S
      → Lists (plain.applicable p t o receiver arguments methods) (Applicable p t o receiver arguments S)
  applicable_list o receiver arguments S methods holds m = like
      (filter_has nat_eq Decides-eqb (plain.is_applicable p t o receiver arguments) (applicable_tells o receiver arguments) methods holds m)
      (λ h. record { candidate = h.0; applicable = h.1 }) (λ h. (h.candidate, h.applicable))

  pub most_specific_list : (A : ℕ → Type 0) (methods : List ℕ) → Lists methods A → Lists (plain.most_specific p t methods) (IsMostSpecific p t A)
  most_specific_list A methods holds m = like
      (filter_has nat_eq Decides-eqb (λ m. list_all (λ k. plain.is_more_specific p t m k) methods)
      (λ m. every_of (λ k. plain.is_more_specific p t m k) (λ k. MoreSpecific p t m k) (more_specific_tells m) methods holds) methods holds m)
      (λ h. record { applicable = h.0; most = h.1 }) (λ h. (h.applicable, h.most))

  returning_list : (M : ℕ → Type 0) (methods : List ℕ) → Lists methods M → Lists (plain.returning p t methods) (Returns p t M)
  returning_list M methods holds m = like
      (filter_has nat_eq Decides-eqb (λ m. list_all (λ k. plain.is_result_fit p t m k) methods)
      (λ m. every_of (λ k. plain.is_result_fit p t m k) (λ k. ResultFits p t m k) (result_tells m) methods holds) methods holds m)
      (λ h. record { candidate = h.0; fits = h.1 }) (λ h. (h.candidate, h.fits))

  firsts_list : (c : ℕ) (S : ℕ → Type 0) (methods : List ℕ) → Lists methods S → Lists (plain.firsts p t c methods) (IsFirst p t c S)
  firsts_list c S methods holds m = like
      (filter_has nat_eq Decides-eqb (λ m. list_all (λ k. nat_eq m k || plain.is_earlier p t c m k) methods)
      (λ m. every_of (λ k. nat_eq m k || plain.is_earlier p t c m k) (λ k. (m ≡ k) ⊎ Earlier p t c m k) (λ k. either (Decides-eqb m k) (earlier_tells c m k)) methods holds)
      methods holds m)
      (λ h. record { candidate = h.0; first = h.1 }) (λ h. (h.candidate, h.first))

  module _ (c : ℕ) (M : ℕ → Type 0) where
    -- what returns as all others do, or each where nothing does
    abbrev Returning : ℕ → Type 0
    Returning k = Returns p t M k ⊎ (((j : ℕ) → Returns p t M j → ⊥) × M k)

    abbrev Concrete : ℕ → Type 0
    Concrete k = M k × (IsAbstract p k → ⊥)

    preferred_out : (m : ℕ) → Concrete m ⊎ (((j : ℕ) → Concrete j → ⊥) × IsFirst p t c Returning m) → IsPreferred p t c M m
    preferred_out m (inl h) = IsPreferred.concrete h.0 h.1
    preferred_out m (inr h) = by h.1.candidate
      where
        all_abstract : AllAbstract p M
        all_abstract k in_set = ⊎_elim (λ a. a) (λ concrete. absurd (h.0 k (in_set, concrete))) (decide (abstract_tells p k))

        by : Returning m → IsPreferred p t c M m
        by (inl r) = IsPreferred.returning all_abstract (record { candidate = r; first = λ k x. h.1.first k (inl x) })
        by (inr x) = IsPreferred.first all_abstract x.0 (record { candidate = x.1; first = λ k y. h.1.first k (inr (x.0, y)) })

    preferred_into : (m : ℕ) → IsPreferred p t c M m → Concrete m ⊎ (((j : ℕ) → Concrete j → ⊥) × IsFirst p t c Returning m)
    preferred_into m (IsPreferred.concrete h a) = inl (h, a)
    preferred_into m (IsPreferred.returning all f) = inr (λ j h. h.1 (all j h.0), record { candidate = inl f.candidate; first = λ k h. f.first k (⊎_elim (λ r. r) (λ x. absurd (x.0 m f.candidate)) h) })
    preferred_into m (IsPreferred.first all none f) = inr (λ j h. h.1 (all j h.0), record { candidate = inr (none, f.candidate); first = λ k h. f.first k (⊎_elim (λ r. absurd (none k r)) (λ x. x.1) h) })

    pub preferred_list : (methods : List ℕ) → Lists methods M → Lists (plain.preferred p t c methods) (IsPreferred p t c M)
    preferred_list methods holds m = like
        (or_else_has nat_eq Decides-eqb (filter (λ m. not (is_abstract p m)) methods) (plain.first_returning p t c methods)
        (filter_has nat_eq Decides-eqb (λ m. not (is_abstract p m)) (λ m. opposite (abstract_tells p m)) methods holds)
        (firsts_list c Returning (or_else (plain.returning p t methods) methods)
        (or_else_has nat_eq Decides-eqb (plain.returning p t methods) methods (returning_list M methods holds) holds)) m)
        (preferred_out m) (preferred_into m)

  pub left_list : (c : ℕ) (A : ℕ → Type 0) (methods : List ℕ) → Lists methods A → Lists (plain.left_of p t c methods) (IsLeftOf p t c A)
  left_list c A methods holds m = like
      (or_else_has nat_eq Decides-eqb (plain.preferred p t c (plain.most_specific p t methods)) methods
      (preferred_list c (IsMostSpecific p t A) (plain.most_specific p t methods) (most_specific_list A methods holds)) holds m)
      (⊎_elim (λ h. IsLeftOf.chosen h) (λ h. IsLeftOf.undecided h.0 h.1)) into
    where
      into : IsLeftOf p t c A m → IsPreferred p t c (IsMostSpecific p t A) m ⊎ (((k : ℕ) → IsPreferred p t c (IsMostSpecific p t A) k → ⊥) × A m)
      into (IsLeftOf.chosen h) = inl h
      into (IsLeftOf.undecided none h) = inr (none, h)

  pub choice_list : (c o : ℕ) (receiver : Option RowType) (arguments : List RowType) (S : ℕ → Type 0) (methods : List ℕ) → Lists methods S
      → Lists (plain.choice p t c o receiver arguments methods) (Choice p t c o receiver arguments S)
  choice_list c o receiver arguments S methods holds = left_list c (Applicable p t o receiver arguments S) (plain.applicable p t o receiver arguments methods)
      (applicable_list o receiver arguments S methods holds)

  pub imported_choice_list : (o : ℕ) (arguments : List RowType) (S : ℕ → Type 0) (methods : List ℕ) → Lists methods S
      → Lists (plain.imported_choice p t o arguments methods) (ImportedChoice p t o arguments S)
  imported_choice_list o arguments S methods holds m = like
      (or_else_has nat_eq Decides-eqb (plain.most_specific p t (plain.applicable p t o None arguments methods)) (plain.applicable p t o None arguments methods) (most_specific_list (Applicable p t o None arguments S) (plain.applicable p t o None arguments methods) are) are m)
      (⊎_elim (λ h. ImportedChoice.chosen h) (λ h. ImportedChoice.undecided h.0 h.1)) into
    where
      are : Lists (plain.applicable p t o None arguments methods) (Applicable p t o None arguments S)
      are = applicable_list o None arguments S methods holds

      into : ImportedChoice p t o arguments S m → IsMostSpecific p t (Applicable p t o None arguments S) m
          ⊎ (((k : ℕ) → IsMostSpecific p t (Applicable p t o None arguments S) k → ⊥) × Applicable p t o None arguments S m)
      into (ImportedChoice.chosen h) = inl h
      into (ImportedChoice.undecided none h) = inr (none, h)
