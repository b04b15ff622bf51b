-- Links between methods, a step at a time, and the family that they lead to (JLS 8.4.8.1).
use Rattle.std.proofs.Common.{◌≡◌, ◌⊎◌, refl, sym, ◌∙◌, ap, subst, inl, inr, ⊎_elim, ℕ, Bool, true, false, cond, ◌&&◌, List, [], ◌∷◌, ◌++◌, filter, flat_map, length, append-nil, append_assoc, Some, None, nat_eq, slice_get, Decides}
use Rattle.std.proofs.lemmas.Bool.{false≢true, or_left, or_right, or_cases}
use Rattle.std.proofs.lemmas.Bool.Decides.{Decides-eqb}
use Rattle.std.proofs.lemmas.List.Sorted.{list_any-IsPermutation}
use Rattle.std.proofs.lemmas.Option.{none-some, same_Some}
use Rattle.jr_tree.specs.declared.label.Role.TheVariants as role
use Rattle.jr_tree.specs.Rows.{Rows, label, role_at}
use Rattle.jr_defs.specs.Referents.{Table}
use Rattle.jr_defs.specs.Declarations.{IsType}
use Rattle.jr_defs.specs.Enclosing.{DeclaredIn}
use Rattle.jr_defs.specs.Supertypes.{Above, AtOrAbove}
use Rattle.jr_defs.specs.Members.{MemberOf, SameMethods}
use Rattle.jr_defs.specs.Overriding.{Overrides}
use Rattle.jr_plain.specs.Search.{has, Lists}
use Rattle.jr_plain.specs.Headed.{IsHeaded}
use Rattle.jr_plain.specs.Enclosing.{declaring_type}
use Rattle.jr_plain.proofs.Tests.{like}
use Rattle.jr_plain.proofs.Searches.{among_filter, flat_of}
use Rattle.jr_plain.proofs.Enclosed.{declaring_finds}
use Rattle.jr_plain.proofs.OfTypes.{interface_type}
use Rattle.jr_plain.proofs.Supertyped.{super_source}
use Rattle.jr_plain.proofs.Typed.{signature_tells}
use Rattle.jr_places.specs.declared.chains.Entry.{Entry}
use Rattle.jr_places.specs.Names.{name_row}
use Rattle.jr_places.proofs.Packing.{name_tells}
use Rattle.jr_supers.specs.Supers.{ListsOnce, SortsOnce}
use Rattle.jr_supers.proofs.Listing.{once_has, once_is, once_increases}
use Rattle.jr_members.specs.declared.declared.MemberKind.TheVariants as kind
use Rattle.jr_members.specs.Each.{ListsEach}
use Rattle.jr_members.specs.Held.{IsMemberAs}
use Rattle.jr_members.specs.Keys.{falling, is_named}
use Rattle.jr_members.proofs.Heritage.{one_type}
use Rattle.jr_members.proofs.Keyed.{under_pushed}
use Rattle.jr_dispatch.specs.Dispatching.{AreMethodRows}
use Rattle.jr_dispatch.specs.Families.{IsLinked, LeadsTo, InFamily, IsFamilyOf, linked_at, leads, IsLinkIn, link_entry, with_link, with_link_if, AddsLinks, IsLinkBetween, is_like, declared_like, with_if, IsLikeAbove, IsAddingOverridden, AddsOverridden, IsAddingOverriddenOf, AddsOverriddenLike, IsJoining, JoinsFirst, IsMemberLike, AddsMembers, IsAddingMembers, AreLinksOf, LinksAreBelow}
use Rattle.jr_dispatch.proofs.Leading.{head_in, in_cons}
use Rattle.jr_dispatch.proofs.Inheriting.{like_listed}
use Rattle.jr_dispatch.proofs.Overriding.{signature_then, overrides_above}
use Rattle.jr_dispatch.proofs.Searching.{named_listed, row_below}

-- ---- entries

pushed : (all : List Entry) (x y a b : ℕ) → Decides (leads (all ++ link_entry x y ∷ []) a b) (IsLinkIn all a b ⊎ ((x ≡ a) × (y ≡ b)))
pushed all x y a b = subst (λ xs. Decides (has xs b) (IsLinkIn all a b ⊎ ((x ≡ a) × (y ≡ b)))) (sym (under_pushed all (link_entry x y) a 0)) (by (nat_eq x a) refl)
  where
    by : (c : Bool) → nat_eq x a ≡ c → Decides (has (cond (c && true) (y ∷ linked_at all a) (linked_at all a)) b) (IsLinkIn all a b ⊎ ((x ≡ a) × (y ≡ b)))
    by true e = (
      λ h. ⊎_elim (λ k. inr ((Decides-eqb x a).0 e, (Decides-eqb y b).0 k)) (λ k. inl k) (or_cases (nat_eq y b) (has (linked_at all a) b) h),
      ⊎_elim (λ k. or_right (nat_eq y b) (has (linked_at all a) b) k) (λ k. or_left (nat_eq y b) (has (linked_at all a) b) ((Decides-eqb y b).1 k.1)),
    )
    by false e = (λ h. inl h, ⊎_elim (λ k. k) (λ k. absurd (false≢true (sym e ∙ (Decides-eqb x a).1 k.0))))

linked_tells : (all : List Entry) (x y a b : ℕ) → Decides (leads (with_link all x y) a b) (IsLinkIn all a b ⊎ (((x ≡ a) × (y ≡ b)) ⊎ ((y ≡ a) × (x ≡ b))))
linked_tells all x y a b = like (pushed (all ++ link_entry x y ∷ []) y x a b)
    (⊎_elim (λ h. ⊎_elim (λ k. inl k) (λ k. inr (inl k)) ((pushed all x y a b).0 h)) (λ k. inr (inr k)))
    (⊎_elim (λ h. inl ((pushed all x y a b).1 (inl h))) (⊎_elim (λ k. inl ((pushed all x y a b).1 (inr k))) (λ k. inr k)))

link_kept : (all : List Entry) (x y a b : ℕ) → IsLinkIn all a b → IsLinkIn (with_link all x y) a b
link_kept all x y a b h = (linked_tells all x y a b).1 (inl h)

link_made : (all : List Entry) (x y : ℕ) → IsLinkBetween (with_link all x y) x y
link_made all x y = record {
  there = (linked_tells all x y x y).1 (inr (inl (refl, refl)));
  back = (linked_tells all x y y x).1 (inr (inr (refl, refl)));
}

between_kept : (old new : List Entry) (x y : ℕ) → ((a b : ℕ) → IsLinkIn old a b → IsLinkIn new a b) → IsLinkBetween old x y → IsLinkBetween new x y
between_kept old new x y kept h = record { there = kept x y h.there; back = kept y x h.back }

-- ---- ways

leads_wider : {E F : ℕ → ℕ → Type 0} {a b : ℕ} → ((x y : ℕ) → E x y → F x y) → LeadsTo E a b → LeadsTo F a b
leads_wider f LeadsTo.itself = LeadsTo.itself
leads_wider f (LeadsTo.further {j = j} {k = k} more e) = LeadsTo.further (leads_wider f more) (f j k e)

leads_then : {E : ℕ → ℕ → Type 0} {a b c : ℕ} → LeadsTo E a b → LeadsTo E b c → LeadsTo E a c
leads_then h LeadsTo.itself = h
leads_then h (LeadsTo.further more e) = LeadsTo.further (leads_then h more) e

leads_once : {E : ℕ → ℕ → Type 0} {a b : ℕ} → E a b → LeadsTo E a b
leads_once e = LeadsTo.further LeadsTo.itself e

-- ---- lists

pub filter_more : (f : ℕ → Bool) (all left more done new : List ℕ) (x : ℕ) (is : Bool) → left ≡ x ∷ more → is ≡ f x → new ≡ with_if is done x → done ++ filter f left ≡ filter f all → new ++ filter f more ≡ filter f all
filter_more f all left more done new x is e test made h = ap (λ xs. xs ++ filter f more) (made ∙ ap (λ b. with_if b done x) test) ∙ by (f x) ∙ ap (λ xs. done ++ filter f xs) (sym e) ∙ h
  where
    by : (b : Bool) → with_if b done x ++ filter f more ≡ done ++ cond b (x ∷ filter f more) (filter f more)
    by true = append_assoc done (x ∷ []) (filter f more)
    by false = refl

pub filter_done : (f : ℕ → Bool) (all left done : List ℕ) → left ≡ [] → done ++ filter f left ≡ filter f all → done ≡ filter f all
filter_done f all left done none h = sym (append-nil done) ∙ ap (λ xs. done ++ filter f xs) (sym none) ∙ h

pub sorted_lists : (P : ℕ → Type 0) (all passed out : List ℕ) → Lists all P → passed ≡ all → SortsOnce passed out → ListsOnce out P
sorted_lists P all passed out lists same s = subst (λ xs. ListsOnce xs P) (sym s.is) (record {
  rises = once_increases s.sorted s.rising;
  has = λ m. (
    (λ at. (lists m).0 (ap (λ xs. has xs m) (sym same) ∙ list_any-IsPermutation (λ k. nat_eq k m) passed s.sorted s.moved ∙ once_is s.sorted m at)),
    (λ h. once_has s.sorted m (sym (list_any-IsPermutation (λ k. nat_eq k m) passed s.sorted s.moved) ∙ ap (λ xs. has xs m) same ∙ (lists m).1 h)),
  );
})

module _ (p : Rows) (t : Table) where
  -- ---- linked methods

  same_back : (a b : ℕ) → SameMethods p t a b → SameMethods p t b a
  same_back a b h = record {
    first = h.second;
    second = h.first;
    signature = record { named = sym h.signature.named; types = h.signature.types; first = h.signature.second; second = h.signature.first };
  }

  linked_back : (a b : ℕ) → IsLinked p t a b → IsLinked p t b a
  linked_back a b (IsLinked.overriding h) = IsLinked.overridden h
  linked_back a b (IsLinked.overridden h) = IsLinked.overriding h
  linked_back a b (IsLinked.together h k same) = IsLinked.together k h (same_back a b same)

  linked_same : (a b : ℕ) → IsLinked p t a b → SameMethods p t a b
  linked_same a b (IsLinked.overriding h) = (overrides_above p t a b h).signatures
  linked_same a b (IsLinked.overridden h) = same_back b a (overrides_above p t b a h).signatures
  linked_same a b (IsLinked.together h k same) = same

  grow_none : (links : List Entry) → AddsLinks p t links links
  grow_none links = record { kept = λ a b h. h; sound = λ a b h. inl h }

  grow_then : (one two three : List Entry) → AddsLinks p t one two → AddsLinks p t two three → AddsLinks p t one three
  grow_then one two three h k = record {
    kept = λ a b e. k.kept a b (h.kept a b e);
    sound = λ a b e. ⊎_elim (λ d. h.sound a b d) (λ d. inr d) (k.sound a b e);
  }

  grow_link : (links : List Entry) (x y : ℕ) → IsLinked p t x y → AddsLinks p t links (with_link links x y)
  grow_link links x y h = record {
    kept = link_kept links x y;
    sound = λ a b e. ⊎_elim (λ d. inl d) (λ d. inr (by a b d)) ((linked_tells links x y a b).0 e);
  }
    where
      by : (a b : ℕ) → ((x ≡ a) × (y ≡ b)) ⊎ ((y ≡ a) × (x ≡ b)) → IsLinked p t a b
      by a b (inl e) = subst (λ z. IsLinked p t z b) e.0 (subst (λ z. IsLinked p t x z) e.1 h)
      by a b (inr e) = linked_back b a (subst (λ z. IsLinked p t z a) e.1 (subst (λ z. IsLinked p t x z) e.0 h))

  -- ---- what a method overrides

  pub those_start : (m : ℕ) (all given : List ℕ) (links : List Entry) → given ≡ all → IsAddingOverridden p t m all links links given
  those_start m all given links same = record { adds = grow_none links; told = λ k at h. inr (subst (λ xs. has xs k ≡ true) (sym same) at) }

  pub those_next : (m : ℕ) (all rows rest : List ℕ) (old mid new : List Entry) (x : ℕ) (is : Bool) → rows ≡ x ∷ rest → Decides is (Overrides p t m x) → new ≡ with_link_if is mid m x → IsAddingOverridden p t m all old mid rows
      → IsAddingOverridden p t m all old new rest
  those_next m all rows rest old mid new x is e d made h = subst (λ links. IsAddingOverridden p t m all old links rest) (sym made) (by is d)
    where
      by : (b : Bool) → Decides b (Overrides p t m x) → IsAddingOverridden p t m all old (with_link_if b mid m x) rest
      by true c = let over = c.0 refl in record {
        adds = grow_then old mid (with_link mid m x) h.adds (grow_link mid m x (IsLinked.overriding over));
        told = λ k at o. ⊎_elim (λ i. inl (between_kept mid (with_link mid m x) m k (link_kept mid m x) i))
            (λ i. ⊎_elim (λ same. inl (subst (λ z. IsLinkBetween (with_link mid m x) m z) same (link_made mid m x))) (λ r. inr r) (in_cons x k rest (subst (λ xs. has xs k ≡ true) e i))) (h.told k at o);
      }
      by false c = record {
        adds = h.adds;
        told = λ k at o. ⊎_elim (λ i. inl i) (λ i. ⊎_elim (λ same. absurd (false≢true (c.1 (subst (λ z. Overrides p t m z) (sym same) o)))) (λ r. inr r) (in_cons x k rest (subst (λ xs. has xs k ≡ true) e i))) (h.told k at o);
      }

  pub above_listed : IsHeaded p → (c m : ℕ) (overs given all : List ℕ) → role_at p m ≡ role.Method → given ≡ overs → Lists overs (AtOrAbove p t c) → all ≡ flat_map (declared_like p t m) given → Lists all (IsLikeAbove p t c m)
  above_listed headed c m overs given all method same lists is = subst (λ xs. Lists xs (IsLikeAbove p t c m)) (sym (is ∙ ap (λ xs. flat_map (declared_like p t m) xs) same))
      (λ k. like (flat_of nat_eq (declared_like p t m) overs lists k)
      (λ h. let own = (like_listed p t headed h.0 m method k).0 h.2 in record { over = h.0; above = h.1; declared = own.0; same = own.1 })
      (λ h. (h.over, h.above, (like_listed p t headed h.over m method k).1 (h.declared, h.same))))

  pub above_rows : (c m : ℕ) (all given : List ℕ) → given ≡ all → Lists all (IsLikeAbove p t c m) → AreMethodRows p given
  above_rows c m all given same lists k at = ((lists k).0 (subst (λ xs. has xs k ≡ true) same at)).same.first

  pub overridden_told : (c m : ℕ) (all given : List ℕ) (old new : List Entry) → DeclaredIn p c m → given ≡ all → Lists all (IsLikeAbove p t c m) → IsAddingOverridden p t m given old new [] → AddsOverridden p t m old new
  overridden_told c m all given old new declared same lists h = record { adds = h.adds; told = told }
    where
      told : (k : ℕ) → Overrides p t m k → IsLinkBetween new m k
      told k over = let a = overrides_above p t m k over in
          let at : has all k ≡ true = (lists k).1 (record {
            over = a.upper;
            above = inr (subst (λ z. Above p t z a.upper) (one_type p a.type c m a.declared declared) a.above);
            declared = a.declares;
            same = same_back m k a.signatures;
          }) in
          ⊎_elim (λ b. b) (λ none. absurd (false≢true none)) (h.told k (subst (λ xs. has xs k ≡ true) (sym same) at) over)

  pub overridden_none : (m : ℕ) (links : List Entry) → declaring_type p m ≡ None → AddsOverridden p t m links links
  overridden_none m links none = record { adds = grow_none links; told = λ k over. let a = overrides_above p t m k over in absurd (none-some a.type (sym none ∙ (declaring_finds p m a.type).1 a.declared)) }

  -- ---- what the methods of a signature override

  pub all_start : (all given : List ℕ) (links : List Entry) → given ≡ all → IsAddingOverriddenOf p t all links links given
  all_start all given links same = record { adds = grow_none links; told = λ m k at h. inr (subst (λ xs. has xs m ≡ true) (sym same) at) }

  pub all_next : (all rows rest : List ℕ) (old mid new : List Entry) (x : ℕ) → rows ≡ x ∷ rest → AddsOverridden p t x mid new → IsAddingOverriddenOf p t all old mid rows → IsAddingOverriddenOf p t all old new rest
  all_next all rows rest old mid new x e step h = record {
    adds = grow_then old mid new h.adds step.adds;
    told = λ m k at over. ⊎_elim (λ i. inl (between_kept mid new m k step.adds.kept i))
        (λ i. ⊎_elim (λ same. inl (subst (λ z. IsLinkBetween new z k) same (step.told k (subst (λ z. Overrides p t z k) (sym same) over)))) (λ r. inr r) (in_cons x m rest (subst (λ xs. has xs m ≡ true) e i)))
        (h.told m k at over);
  }

  pub all_end : (all rest : List ℕ) (old new : List Entry) → rest ≡ [] → IsAddingOverriddenOf p t all old new rest → IsAddingOverriddenOf p t all old new []
  all_end all rest old new none h = subst (λ xs. IsAddingOverriddenOf p t all old new xs) none h

  pub those_end : (m : ℕ) (all rest : List ℕ) (old new : List Entry) → rest ≡ [] → IsAddingOverridden p t m all old new rest → IsAddingOverridden p t m all old new []
  those_end m all rest old new none h = subst (λ xs. IsAddingOverridden p t m all old new xs) none h

  module _ (headed : IsHeaded p) where
    same_then : (a b c : ℕ) → SameMethods p t a b → SameMethods p t b c → SameMethods p t a c
    same_then a b c h k = record { first = h.first; second = k.second; signature = signature_then p t a b c headed.tree h.signature k.signature }

    pub like_rows : (m : ℕ) (named given like_them passed : List ℕ) → AreMethodRows p named → given ≡ named → like_them ≡ filter (is_like p t m) given → passed ≡ like_them → AreMethodRows p passed
    like_rows m named given like_them passed rows same is also k at =
        rows k (subst (λ xs. has xs k ≡ true) same ((among_filter nat_eq Decides-eqb (is_like p t m) given k).0 (subst (λ xs. has xs k ≡ true) (also ∙ is) at)).0)

    pub signature_told : (m : ℕ) (named given like_them passed : List ℕ) (old new : List Entry) → named ≡ falling (length p) (is_named p kind.Method (name_row p m)) → given ≡ named → like_them ≡ filter (is_like p t m) given → passed ≡ like_them
        → IsAddingOverriddenOf p t passed old new [] → AddsOverriddenLike p t m old new
    signature_told m named given like_them passed old new found same is also h = record { adds = h.adds; told = told }
      where
        named_in : (a k : ℕ) → SameMethods p t a m → Overrides p t a k → has given a ≡ true
        named_in a k alike over = let up = overrides_above p t a k over in subst (λ xs. has xs a ≡ true) (sym (same ∙ found))
            ((named_listed p (name_row p m) a).1 (alike.first, ((up.type, up.declared), (Decides-eqb (name_row p a) (name_row p m)).0 ((name_tells p a m).1 alike.signature.named))))

        told : (a k : ℕ) → SameMethods p t a m → Overrides p t a k → IsLinkBetween new a k
        told a k alike over = ⊎_elim (λ b. b) (λ none. absurd (false≢true none))
            (h.told a k (subst (λ xs. has xs a ≡ true) (sym (also ∙ is)) ((among_filter nat_eq Decides-eqb (is_like p t m) given a).1 (named_in a k alike over, (signature_tells p t a m headed.tree).1 alike.signature))) over)

    -- ---- members of one signature

    pub members_rows : (c x : ℕ) (named given : List ℕ) → given ≡ named → ListsEach named (IsMemberAs p t kind.Method c x) → AreMethodRows p given
    members_rows c x named given same each k at = ((each.lists k).0 (subst (λ xs. has xs k ≡ true) same at)).of.role_is

    pub members_listed : (c m x : ℕ) (named given all : List ℕ) → role_at p m ≡ role.Method → x ≡ name_row p m → given ≡ named → ListsEach named (IsMemberAs p t kind.Method c x) → all ≡ filter (is_like p t m) given → Lists all (IsMemberLike p t c m)
    members_listed c m x named given all method row same each is k = like (subst (λ xs. Decides (has xs k) ((has given k ≡ true) × (is_like p t m k ≡ true))) (sym is) (among_filter nat_eq Decides-eqb (is_like p t m) given k)) out into
      where
        out : (has given k ≡ true) × (is_like p t m k ≡ true) → IsMemberLike p t c m k
        out h = let d = (each.lists k).0 (subst (λ xs. has xs k ≡ true) same h.0) in record { member = d.member; same = record { first = d.of.role_is; second = method; signature = (signature_tells p t k m headed.tree).0 h.1 } }

        into : IsMemberLike p t c m k → (has given k ≡ true) × (is_like p t m k ≡ true)
        into h = (
          subst (λ xs. has xs k ≡ true) (sym same) ((each.lists k).1 (record {
            of = record { role_is = h.same.first; named = (Decides-eqb (name_row p k) (name_row p m)).0 ((name_tells p k m).1 h.same.signature.named) ∙ sym row };
            member = h.member;
          })),
          (signature_tells p t k m headed.tree).1 h.same.signature,
        )

    member_link : (c m a b : ℕ) → IsMemberLike p t c m a → IsMemberLike p t c m b → IsLinked p t a b
    member_link c m a b h k = IsLinked.together h.member k.member (same_then a m b h.same (same_back b m k.same))

    pub members_told : (c m : ℕ) (all given : List ℕ) (old new : List Entry) → given ≡ all → Lists all (IsMemberLike p t c m) → JoinsFirst given old new → AddsMembers p t c m old new
    members_told c m all given old new same lists joined = by given (subst (λ xs. Lists xs (IsMemberLike p t c m)) (sym same) lists) joined
      where
        by : (xs : List ℕ) → Lists xs (IsMemberLike p t c m) → JoinsFirst xs old new → AddsMembers p t c m old new
        by [] all_of e = record { adds = subst (λ links. AddsLinks p t old links) (sym e) (grow_none old); told = λ a b h k. absurd (false≢true ((all_of a).1 h)) }
        by (x ∷ xs) all_of j = let first = (all_of x).0 (head_in x xs) in record {
          adds = record {
            kept = j.kept;
            sound = λ a b e. ⊎_elim (λ d. inl d)
                (λ d. inr (⊎_elim (λ u. subst (λ z. IsLinked p t z b) (sym u.0) (member_link c m x b first ((all_of b).0 u.1))) (λ u. subst (λ z. IsLinked p t a z) (sym u.0) (member_link c m a x ((all_of a).0 u.1) first)) d)) (j.sound a b e);
          };
          told = λ a b h k. leads_then (leads_once (between a ((all_of a).1 h)).back) (leads_once (between b ((all_of b).1 k)).there);
        }
          where
            between : (z : ℕ) → has (x ∷ xs) z ≡ true → IsLinkBetween new x z
            between z at = ⊎_elim (λ i. i) (λ none. absurd (false≢true none)) (j.told z at)

    pub adding_start : (m : ℕ) (all given : List ℕ) (links : List Entry) → given ≡ all → IsAddingMembers p t m all links links given
    adding_start m all given links same = record { adds = grow_none links; told = λ c a b at h k. inr (subst (λ xs. has xs c ≡ true) (sym same) at) }

    pub adding_next : (m : ℕ) (all rows rest : List ℕ) (old mid new : List Entry) (x : ℕ) → rows ≡ x ∷ rest → AddsMembers p t x m mid new → IsAddingMembers p t m all old mid rows → IsAddingMembers p t m all old new rest
    adding_next m all rows rest old mid new x e step h = record {
      adds = grow_then old mid new h.adds step.adds;
      told = λ c a b at i k. ⊎_elim (λ way. inl (leads_wider step.adds.kept way))
          (λ r. ⊎_elim (λ same. inl (step.told a b (subst (λ z. IsMemberLike p t z m a) (sym same) i) (subst (λ z. IsMemberLike p t z m b) (sym same) k))) (λ r. inr r) (in_cons x c rest (subst (λ xs. has xs c ≡ true) e r)))
          (h.told c a b at i k);
    }

    pub adding_end : (m : ℕ) (all rest : List ℕ) (old new : List Entry) → rest ≡ [] → IsAddingMembers p t m all old new rest → IsAddingMembers p t m all old new []
    adding_end m all rest old new none h = subst (λ xs. IsAddingMembers p t m all old new xs) none h

    -- ---- all links

    member_type : (c d : ℕ) → MemberOf p t c d → IsType p c
    member_type c d (MemberOf.declared h) = h.inside.type
    member_type c d (MemberOf.inherited {s = s} up more a b left) = super_source p t headed c s up
    member_type c d (MemberOf.of_object i h left) = interface_type (label p c) i

    pub links_told : (m : ℕ) (order : List ℕ) (none one two : List Entry) (q : Rows) → q ≡ p → ((c : ℕ) → IsType p c → has order c ≡ true) → none ≡ [] → AddsOverriddenLike q t m none one → IsAddingMembers p t m order one two [] → AreLinksOf p t m two
    links_told m order none one two q same_rows types empty start second = record {
      sound = λ a b e. ⊎_elim (λ d. ⊎_elim (λ i. absurd (false≢true (subst (λ links. IsLinkIn links a b) empty i))) (λ i. i) (first.adds.sound a b d)) (λ d. d) (second.adds.sound a b e);
      whole = whole;
    }
      where
        first : AddsOverriddenLike p t m none one
        first = subst (λ z. AddsOverriddenLike z t m none one) same_rows start

        whole : (a b : ℕ) → SameMethods p t a m → IsLinked p t a b → LeadsTo (IsLinkIn two) a b
        whole a b same (IsLinked.overriding h) = leads_once (second.adds.kept a b (first.told a b same h).there)
        whole a b same (IsLinked.overridden h) = leads_once (second.adds.kept a b (first.told b a (same_then b a m (overrides_above p t b a h).signatures same) h).back)
        whole a b same (IsLinked.together {c = c} h k alike) = ⊎_elim (λ way. way) (λ r. absurd (false≢true r))
            (second.told c a b (types c (member_type c a h)) (record { member = h; same = same }) (record { member = k; same = same_then b a m (same_back a b alike) same }))

    pub links_below : (m : ℕ) (links : List Entry) → AreLinksOf p t m links → LinksAreBelow links (length p)
    links_below m links h a b e = row_below p b (linked_same a b (h.sound a b e)).second

    -- ---- the family

    module _ (m : ℕ) (links : List Entry) (h : AreLinksOf p t m links) where
      like_first : (j k : ℕ) → IsLinked p t j k → (j ≡ m) ⊎ SameMethods p t j m → SameMethods p t j m
      like_first j k e (inl same) = subst (λ z. SameMethods p t j z) same (same_then j k j (linked_same j k e) (same_back j k (linked_same j k e)))
      like_first j k e (inr s) = s

      in_same : (k : ℕ) → InFamily p t m k → (k ≡ m) ⊎ SameMethods p t k m
      in_same k LeadsTo.itself = inl refl
      in_same k (LeadsTo.further {j = j} more e) = inr (same_then k j m (same_back j k (linked_same j k e)) (like_first j k e (in_same j more)))

      in_leads : (k : ℕ) → InFamily p t m k → LeadsTo (IsLinkIn links) m k
      in_leads k LeadsTo.itself = LeadsTo.itself
      in_leads k (LeadsTo.further {j = j} more e) = leads_then (in_leads j more) (h.whole j k (like_first j k e (in_same j more)) e)

      pub family_told : (all passed out : List ℕ) → Lists all (LeadsTo (IsLinkIn links) m) → passed ≡ all → SortsOnce passed out → IsFamilyOf p t m out
      family_told all passed out lists same s = sorted_lists (InFamily p t m) all passed out (λ k. like (lists k) (leads_wider h.sound) (in_leads k)) same s

-- ---- one linked to a list

pub joining_start : (x : ℕ) (all given : List ℕ) (links : List Entry) → given ≡ all → IsJoining x all links links given
joining_start x all given links same = record { kept = λ a b h. h; sound = λ a b h. inl h; told = λ k at. inr (subst (λ xs. has xs k ≡ true) (sym same) at) }

pub joining_next : (x : ℕ) (all rows rest : List ℕ) (old mid new : List Entry) (y : ℕ) → rows ≡ y ∷ rest → has all y ≡ true → new ≡ with_link mid x y → IsJoining x all old mid rows → IsJoining x all old new rest
joining_next x all rows rest old mid new y e at made h = subst (λ links. IsJoining x all old links rest) (sym made) (record {
  kept = λ a b i. link_kept mid x y a b (h.kept a b i);
  sound = λ a b i. ⊎_elim (λ d. h.sound a b d) (λ d. inr (⊎_elim (λ u. inl (sym u.0, subst (λ z. has all z ≡ true) u.1 at)) (λ u. inr (sym u.1, subst (λ z. has all z ≡ true) u.0 at)) d)) ((linked_tells mid x y a b).0 i);
  told = λ k i. ⊎_elim (λ d. inl (between_kept mid (with_link mid x y) x k (link_kept mid x y) d))
      (λ d. ⊎_elim (λ same. inl (subst (λ z. IsLinkBetween (with_link mid x y) x z) same (link_made mid x y))) (λ r. inr r) (in_cons y k rest (subst (λ xs. has xs k ≡ true) e d))) (h.told k i);
})

pub joining_end : (x : ℕ) (all rest : List ℕ) (old new : List Entry) → rest ≡ [] → IsJoining x all old new rest → IsJoining x all old new []
joining_end x all rest old new none h = subst (λ xs. IsJoining x all old new xs) none h

pub first_joined : (all : List ℕ) (old new : List Entry) (first : ℕ) → slice_get all 0 ≡ Some first → IsJoining first all old new [] → JoinsFirst all old new
first_joined [] old new first e h = absurd (none-some first e)
first_joined (x ∷ xs) old new first e h = subst (λ z. IsJoining z (x ∷ xs) old new []) (sym (same_Some x first e)) h

pub none_joined : (all : List ℕ) (links : List Entry) → slice_get all 0 ≡ None → JoinsFirst all links links
none_joined [] links e = refl
none_joined (x ∷ xs) links e = absurd (none-some x (sym e))
