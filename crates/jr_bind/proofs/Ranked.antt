-- Where each type ranks above all for which it waits, all types are settled; and the imports in which a name is looked for.
use Rattle.std.proofs.Common.{◌≡◌, ◌⊎◌, refl, sym, ◌∙◌, ap, subst, inl, inr, ⊎_elim, arith, ℕ, zero, suc, ◌+◌, ◌<◌, ◌≤◌, Bool, true, false, not, ◌==◌, if◌then◌else◌, List, [], ◌∷◌, ◌++◌, length, nat_eq, slice_index_or, Option, Some, None}
use Rattle.std.proofs.lemmas.Bool.{false≢true, cases_Bool, cases_eq, and_from, eq-eqb}
use Rattle.std.proofs.lemmas.Bool.Decides.{Decides-eqb, Decides-ltb}
use Rattle.std.proofs.lemmas.Option.{none-some, same_Some}
use Rattle.jr_tree.specs.declared.label.ImportKind.{ImportKind}
use Rattle.jr_tree.specs.declared.label.ImportKind.TheVariants as importing
use Rattle.jr_tree.specs.Local.{IsLocal}
use Rattle.jr_tree.specs.Rows.{Rows, name}
use Rattle.jr_defs.specs.declared.referent.Referent.{Referent}
use Rattle.jr_defs.specs.declared.referent.Referent.TheVariants.{Declared}
use Rattle.jr_defs.specs.declared.referent.Space.TheVariants as space
use Rattle.jr_defs.specs.Referents.{Table}
use Rattle.jr_defs.specs.Declarations.{IsOf, Declares, IsType}
use Rattle.jr_defs.specs.Headers.{NamesHeader, IsLookedForIn, MayBring, NameMeets, IsSettled, depth_of}
use Rattle.jr_defs.specs.Imports.{ImportOf}
use Rattle.jr_defs.specs.Scope.{Depth, HasScope, rank, on_demand, of_package, of_unit, imported, within}
use Rattle.jr_defs.specs.Supertypes.{IsSuperclassLabel, IsSuperinterfaceLabel}
use Rattle.jr_plain.specs.Imports.{is_import_of}
use Rattle.jr_plain.specs.Packages.{unit_of}
use Rattle.jr_plain.specs.Search.{has}
use Rattle.jr_plain.specs.Types.{referred_type}
use Rattle.jr_plain.proofs.Bounds.{bounded, type_below, unit_below}
use Rattle.jr_plain.proofs.Declared.{type_tells}
use Rattle.jr_plain.proofs.Imported.{import_of_tells, import_below}
use Rattle.jr_plain.proofs.OneUnit.{unit_finds}
use Rattle.jr_places.specs.Names.{name_row}
use Rattle.jr_places.proofs.Packing.{name_tells}
use Rattle.jr_members.specs.declared.declared.MemberKind.TheVariants as kind
use Rattle.jr_members.specs.Held.{IsMemberAs}
use Rattle.jr_members.specs.Keys.{falling}
use Rattle.jr_members.proofs.Each.{front_has, rest_has, has_front}
use Rattle.jr_plain.proofs.Searches.{among_append}
use Rattle.jr_lookup.specs.Levels.{HasMemberAs, AreMembersAround}
use Rattle.jr_lookup.specs.Outward.{IsInnermostSuch}
use Rattle.jr_lookup.specs.Scopes.{is_single_of, is_static_of}
use Rattle.jr_lookup.specs.Types.{AreTypesByName}
use Rattle.jr_bind.specs.Ranked.{rank_in, is_below, AreBelow, HasAllLookedFor, IsRankedAt, AllSettled, HasNamedImports, HasImports}

-- ---- ranks

module _ (p : Rows) (ranks : List ℕ) where
  referred : (s : ℕ) (level : Option ℕ) → IsType p s → referred_type p (Declared s level) ≡ Some s
  referred s level is = ap (λ b. if b then Some s else None) ((type_tells p s).1 is)

  pub refers_below : (bound s : ℕ) (level : Option ℕ) (a : Referent) → a ≡ Declared s level → IsType p s → is_below ranks bound (referred_type p a) ≡ true → rank_in ranks s < bound
  refers_below bound s level a e is below = (Decides-ltb (rank_in ranks s) bound).0 (subst (λ o. is_below ranks bound o ≡ true) (ap (referred_type p) e ∙ referred s level is) below)

has_index : (xs : List ℕ) (i : ℕ) → has xs i ≡ true → (k : ℕ) × (k < length xs) × (slice_index_or xs k 0 ≡ i)
has_index [] i h = absurd (false≢true h)
has_index (x ∷ xs) i h = ⊎_elim (λ e. (0, omega arith, e)) (λ m. let more = has_index xs i m in let lt = more.1 in (suc more.0, omega arith, more.2)) (has_front x i xs h)

module _ (p : Rows) (t : Table) (ranks : List ℕ) where
  pub each_below : (bound : ℕ) (all : List ℕ) → ((k : ℕ) → k < length all → AreBelow p t ranks bound (slice_index_or all k 0 + 1)) → (i : ℕ) → has all i ≡ true → AreBelow p t ranks bound (i + 1)
  each_below bound all each i h = let at = has_index all i h in subst (λ n. AreBelow p t ranks bound (n + 1)) at.2 (each at.0 at.1)

  module _ (ranked : (n : ℕ) → n < length p → IsRankedAt p t ranks n) where
    header_row : (c n : ℕ) → NamesHeader p c n → n < length p
    header_row c n (inl h) = bounded IsSuperclassLabel (λ e. e) p n h.names
    header_row c n (inr h) = bounded IsSuperinterfaceLabel (λ e. e) p n h.names

    meets_lower : (c n s : ℕ) → NamesHeader p c n → NameMeets p t t n s → (rank_in ranks s < rank_in ranks c) × IsType p s
    meets_lower c n s header (NameMeets.own {m = k} {level = level} inside e is) = (((ranked n (header_row c n header)).header c header).own k s level inside e is, is)
    meets_lower c n s header (NameMeets.import {m = m} {i = i} {k = k} {level = level} first looked inside e is) =
        (((ranked n (header_row c n header)).header c header).imports m i first looked k s level inside e is, is)

    settled_below : (bound c : ℕ) → IsType p c → rank_in ranks c < bound → IsSettled p t t c
    settled_below zero c is lt = absurd (omega arith)
    settled_below (suc bound) c is lt = IsSettled.settled
        (λ e d. let lower = (ranked c (type_below p c is)).inner e is d in settled_below bound e d.inside.type (omega arith))
        (λ s m. let lower = meets_lower c m.row s m.header m.meets in let less = lower.0 in settled_below bound s lower.1 (omega arith))

    pub all_settled : AllSettled p t
    all_settled c is = settled_below (rank_in ranks c + 1) c is (omega arith)

-- ---- imports

module _ (p : Rows) (t : Table) (m i : ℕ) (looked : IsLookedForIn p t m i) where
  depth_low : (form : ImportKind) → rank (depth_of form) < 3
  depth_low importing.Single = omega arith
  depth_low importing.StaticSingle = omega arith
  depth_low importing.OnDemand = omega arith

  none_round : (c : ℕ) → IsInnermostSuch p (HasMemberAs p t kind.Type (name_row p m)) m c → ⊥
  none_round c h =
      let member : IsMemberAs p t kind.Type c (name_row p m) h.such.some = h.such.is in
      let declares : Declares p space.Type (name p m) h.such.some = record {
        of_kind = subst (λ r. IsOf space.Type r) (sym member.of.role_is) tt;
        named = (name_tells p h.such.some m).0 ((Decides-eqb (name_row p h.such.some) (name_row p m)).1 member.of.named);
      } in
      let low = looked.unshadowed h.such.some (within c) (record { scope = HasScope.member h.round member.member; declares = declares }) in
      let least = depth_low looked.form in absurd (omega arith)

  -- a type round the place hides what imports bring
  around_hides : (found : List ℕ) (level : Option ℕ) → AreMembersAround p t kind.Type m (name_row p m) found level → (length found ≡ 0 → ⊥) → ⊥
  around_hides found level around some = some (ap length (around.none none_round).0)

  -- and one that is found by name what those on demand bring
  depth_is : (r : Depth) → rank r ≤ 0 → r ≡ on_demand
  depth_is on_demand le = refl
  depth_is of_package le = absurd (omega arith)
  depth_is of_unit le = absurd (omega arith)
  depth_is imported le = absurd (omega arith)
  depth_is (within s) le = absurd (omega arith)

  named_hides : (found : List ℕ) (level : Option ℕ) → AreTypesByName p t (name p m) m found level → rank (depth_of looked.form) ≡ 0 → (length found ≡ 0 → ⊥) → ⊥
  named_hides [] level named low some = some refl
  named_hides (d ∷ rest) level named low some = let found = named.sound d (front_has d rest) in
      found.by_name (depth_is found.depth (subst (λ n. rank found.depth ≤ n) low (looked.unshadowed d found.depth found.visible.in_scope)))

  module _ (local : IsLocal p) (unit : ℕ) (holds : unit_of p m ≡ Some unit) (is_hidden is_named : Bool) (all : List ℕ) (imports : HasImports p unit (name_row p m) is_hidden is_named all)
      (not_hidden : is_hidden ≡ true → ⊥) (not_named : rank (depth_of looked.form) ≡ 0 → is_named ≡ true → ⊥) where
    one_unit : looked.unit ≡ unit
    one_unit = same_Some looked.unit unit (sym ((unit_finds p local m looked.unit).1 looked.around) ∙ holds)

    import_at : (form : ImportKind) → ImportOf p looked.unit form i → (i < length p) × (is_import_of p unit form i ≡ true)
    import_at form h = (import_below p looked.unit form i h, subst (λ u. is_import_of p u form i ≡ true) one_unit ((import_of_tells p looked.unit form i).1 h))

    is_false : (b : Bool) → (b ≡ true → ⊥) → b ≡ false
    is_false b no' = ⊎_elim (λ e. absurd (no' e)) (λ e. e) (cases_Bool b)

    by_form : (form : ImportKind) → looked.form ≡ form → ImportOf p looked.unit form i → MayBring p i (name p m) form → has all i ≡ true
    by_form importing.OnDemand e h may = let at = import_at importing.OnDemand h in imports.demanded (is_false is_named (not_named (ap (λ f. rank (depth_of f)) e))) i at.0 at.1
    by_form importing.Single e h (MayBring.single named) = let at = import_at importing.Single h in
        imports.named.single (is_false is_hidden not_hidden) i at.0 (and_from _ _ at.1 ((name_tells p (i + 1) m).1 named))
    by_form importing.StaticSingle e h (MayBring.static named) = let at = import_at importing.StaticSingle h in
        imports.named.static (is_false is_hidden not_hidden) i at.0 (and_from _ _ at.1 ((name_tells p i m).1 named))

    found : has all i ≡ true
    found = by_form looked.form refl looked.import looked.may

-- lists of imports, one behind another
in_falling : (test : ℕ → Bool) (n d : ℕ) → d < n → test d ≡ true → has (falling n test) d ≡ true
in_falling test zero d lt is = absurd (omega arith)
in_falling test (suc n) d lt is = by (test n) refl (λ less. in_falling test n d less is)
  where
    by : (b : Bool) → test n ≡ b → (d < n → has (falling n test) d ≡ true) → has (if b then n ∷ falling n test else falling n test) d ≡ true
    by true e more = ⊎_elim (λ same. subst (λ k. has (n ∷ falling n test) k ≡ true) (sym same) (front_has n (falling n test))) (λ apart. rest_has n d (falling n test) (more (omega arith))) (cases_eq d n)
    by false e more = ⊎_elim (λ same. absurd (false≢true (sym e ∙ subst (λ k. test k ≡ true) same is))) (λ apart. more (omega arith)) (cases_eq d n)

in_either : (xs ys : List ℕ) (i : ℕ) → (has xs i ≡ true) ⊎ (has ys i ≡ true) → has (xs ++ ys) i ≡ true
in_either xs ys i = (among_append nat_eq Decides-eqb xs ys i).1

pub named_imports : (p : Rows) (unit name : ℕ) (is_hidden : Bool) (singles statics all : List ℕ) → singles ≡ falling (length p) (is_single_of p unit name) → statics ≡ falling (length p) (is_static_of p unit name)
    → all ≡ singles ++ statics → HasNamedImports p unit name is_hidden all
named_imports p unit name is_hidden singles statics all s t e = record {
  single = λ shown i lt is. subst (λ xs. has xs i ≡ true) (sym e) (in_either singles statics i (inl (subst (λ xs. has xs i ≡ true) (sym s) (in_falling (is_single_of p unit name) (length p) i lt is))));
  static = λ shown i lt is. subst (λ xs. has xs i ≡ true) (sym e) (in_either singles statics i (inr (subst (λ xs. has xs i ≡ true) (sym t) (in_falling (is_static_of p unit name) (length p) i lt is))));
}

pub no_named_imports : (p : Rows) (unit name : ℕ) (is_hidden : Bool) (all : List ℕ) → is_hidden ≡ true → HasNamedImports p unit name is_hidden all
no_named_imports p unit name is_hidden all hidden = record { single = λ shown. absurd (false≢true (sym shown ∙ hidden)); static = λ shown. absurd (false≢true (sym shown ∙ hidden)) }

pub no_more_imports : (p : Rows) (unit name : ℕ) (is_hidden is_named : Bool) (all : List ℕ) → HasNamedImports p unit name is_hidden all → is_named ≡ true → HasImports p unit name is_hidden is_named all
no_more_imports p unit name is_hidden is_named all h named = record { named = h; demanded = λ free. absurd (false≢true (sym free ∙ named)) }

pub all_imports : (p : Rows) (unit name : ℕ) (is_hidden is_named : Bool) (named demanded all : List ℕ) → HasNamedImports p unit name is_hidden named → demanded ≡ falling (length p) (is_import_of p unit importing.OnDemand)
    → all ≡ named ++ demanded → HasImports p unit name is_hidden is_named all
all_imports p unit name is_hidden is_named named demanded all h d e = record {
  named = record {
    single = λ shown i lt is. subst (λ xs. has xs i ≡ true) (sym e) (in_either named demanded i (inl (h.single shown i lt is)));
    static = λ shown i lt is. subst (λ xs. has xs i ≡ true) (sym e) (in_either named demanded i (inl (h.static shown i lt is)));
  };
  demanded = λ free i lt is. subst (λ xs. has xs i ≡ true) (sym e) (in_either named demanded i (inr (subst (λ xs. has xs i ≡ true) (sym d) (in_falling (is_import_of p unit importing.OnDemand) (length p) i lt is))));
}

pub looked_for : (p : Rows) (t : Table) (m : ℕ) → IsLocal p → (unit : ℕ) → unit_of p m ≡ Some unit → (is_hidden is_named : Bool) (all around named : List ℕ) (level other : Option ℕ)
    → AreMembersAround p t kind.Type m (name_row p m) around level → AreTypesByName p t (name p m) m named other → (is_hidden ≡ true → length around ≡ 0 → ⊥) → (is_named ≡ true → length named ≡ 0 → ⊥)
    → HasImports p unit (name_row p m) is_hidden is_named all → HasAllLookedFor p t m all
looked_for p t m local unit holds is_hidden is_named all around named level other members by_name hides names imports i looked = found p t m i looked local unit holds is_hidden is_named all imports
    (λ e. around_hides p t m i looked around level members (hides e)) (λ low e. named_hides p t m i looked named other by_name low (names e))

-- a row in a unit is a row of the program
pub in_unit : (p : Rows) (m unit : ℕ) → IsLocal p → unit_of p m ≡ Some unit → m < length p
in_unit p m unit local e = let at = (unit_finds p local m unit).0 e in let lt = at.before in let last = local.tree.last unit (unit_below p unit at.unit) in omega arith

-- a list that is not empty
pub not_empty : (is_empty : Bool) (len size : ℕ) → is_empty ≡ (len == 0) → len ≡ size → not is_empty ≡ true → size ≡ 0 → ⊥
not_empty is_empty len size e same some none = false≢true (sym (ap not (e ∙ eq-eqb len 0 (same ∙ none))) ∙ some)

-- no import is looked in where no unit holds the place
pub none_looked_for : (p : Rows) (t : Table) (m : ℕ) → IsLocal p → unit_of p m ≡ None → (all : List ℕ) → HasAllLookedFor p t m all
none_looked_for p t m local none all i looked = absurd (none-some looked.unit (sym none ∙ (unit_finds p local m looked.unit).1 looked.around))
