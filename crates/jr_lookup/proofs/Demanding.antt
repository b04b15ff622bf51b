-- What packages and imports on demand bring to a place by a name.
use Rattle.std.proofs.Common.{◌≡◌, ◌⊎◌, refl, sym, ◌∙◌, ap, subst, inl, inr, ⊎_elim, arith, ℕ, ◌+◌, Bool, true, false, not, cond, List, [], ◌∷◌, ◌++◌, filter, length, Option, Some, None, nat_eq, Decides}
use Rattle.std.proofs.lemmas.Bool.{false≢true, false_from_ne_true}
use Rattle.std.proofs.lemmas.Bool.Decides.{Decides-eqb}
use Rattle.std.proofs.lemmas.Option.{none-some, same_Some}
use Rattle.jr_base.specs.declared.text.Text.{Text}
use Rattle.jr_tree.specs.declared.label.ImportKind.TheVariants as importing
use Rattle.jr_tree.specs.Rows.{Rows}
use Rattle.jr_tree.specs.Local.{IsLocal}
use Rattle.jr_defs.specs.declared.referent.Referent.{Referent}
use Rattle.jr_defs.specs.declared.referent.Referent.TheVariants.{Package, Declared}
use Rattle.jr_defs.specs.Referents.{Table}
use Rattle.jr_defs.specs.Enclosing.{IsTopLevel}
use Rattle.jr_defs.specs.Packages.{package_of, InUnit, InPackage, SamePackage, spelled}
use Rattle.jr_defs.specs.Imports.{java_lang, ImportOf, CanImport, OnDemandOf, SingleImport, ImportsHold}
use Rattle.jr_defs.specs.Scope.{TypeOfUnit}
use Rattle.jr_plain.specs.Search.{has, Lists, Finds}
use Rattle.jr_plain.specs.Imports.{is_import_of, can_import}
use Rattle.jr_plain.specs.Packages.{unit_of}
use Rattle.jr_plain.specs.Types.{referred_type}
use Rattle.jr_plain.proofs.Tests.{itself, both, implies, like}
use Rattle.jr_plain.proofs.Searches.{among_filter}
use Rattle.jr_plain.proofs.Bounds.{type_below}
use Rattle.jr_plain.proofs.Enclosed.{top_level_tells}
use Rattle.jr_plain.proofs.Imported.{import_of_tells, import_below, can_import_tells}
use Rattle.jr_defs.proofs.Units.{one_unit}
use Rattle.jr_plain.proofs.OneUnit.{unit_finds}
use Rattle.jr_plain.proofs.Packaged.{same_package_tells}
use Rattle.jr_places.specs.declared.places.Places.{Places}
use Rattle.jr_places.specs.Names.{name_row}
use Rattle.jr_places.specs.Packages.{ArePackages, same_some, IsSpelled}
use Rattle.jr_places.specs.Places.{package_number}
use Rattle.jr_places.proofs.Packing.{same_is, in_spelled}
use Rattle.jr_supers.specs.Tabled.{first_child}
use Rattle.jr_members.specs.declared.declared.MemberKind.TheVariants as kind
use Rattle.jr_members.specs.Keys.{falling, is_declared_as}
use Rattle.jr_members.specs.Held.{IsDeclaredAs}
use Rattle.jr_members.specs.Sources.{ArePlaced}
use Rattle.jr_members.proofs.Each.{front_has}
use Rattle.jr_members.proofs.Declaring.{falling_lists, own_listed}
use Rattle.jr_lookup.specs.Scopes.{is_top_of}
use Rattle.jr_lookup.specs.Imports.{IsBrought}
use Rattle.jr_lookup.specs.Sights as tell
use Rattle.jr_lookup.specs.Sights.{IsImport, SeesImports, AreImportRows, AddsSuch, IsBroughtBy}
use Rattle.jr_lookup.proofs.Importing.{referred_finds}
use Rattle.jr_lookup.proofs.Sighting.{lists_by, lists_none, adds_filter, adds_lists, adds_none, added_lists, import_child}

turned : (a b : Option ℕ) → same_some a b ≡ same_some b a
turned None None = refl
turned None (Some b) = refl
turned (Some a) None = refl
turned (Some a) (Some b) = by (nat_eq a b) (nat_eq b a) (Decides-eqb a b) (Decides-eqb b a)
  where
    by : (u v : Bool) → Decides u (a ≡ b) → Decides v (b ≡ a) → u ≡ v
    by true true d e = refl
    by true false d e = sym (e.1 (sym (d.0 refl)))
    by false true d e = d.1 (sym (e.0 refl))
    by false false d e = refl

module _ (p : Rows) (places : Places) (placed : ArePlaced p places) where
  packages : ArePackages p places.packages
  packages = placed.are.packages_are placed.local placed.packages

  -- ---- types of packages

  abbrev IsTop : ℕ → ℕ → ℕ → Type 0
  IsTop number x d = IsTopLevel p d × ((same_some (package_number places d) (Some number) ≡ true) × (name_row p d ≡ x))

  tops_list : (number x : ℕ) → Lists (falling (length p) (is_top_of p places number x)) (IsTop number x)
  tops_list number x = falling_lists (is_top_of p places number x) (IsTop number x) (length p)
      (λ d. both (top_level_tells p d) (both (itself (same_some (package_number places d) (Some number))) (Decides-eqb (name_row p d) x))) (λ d h. type_below p d h.0.type)

  same_number : (number : ℕ) (o : Option ℕ) (d : ℕ) → o ≡ Some number → same_some o (package_number places d) ≡ same_some (package_number places d) (Some number)
  same_number number o d e = ap (λ o. same_some o (package_number places d)) e ∙ turned (Some number) (package_number places d)

  same_tells : (o d : ℕ) → Decides (same_some (package_number places o) (package_number places d)) (SamePackage p o d)
  same_tells o d = subst (λ b. Decides b (SamePackage p o d)) (sym (same_is p placed.local places.packages packages o d)) (same_package_tells p o d)

  -- those of the package that a name spells
  pub spelled_some : (n x number : ℕ) (found : Option ℕ) → Finds found (IsSpelled p places.packages n) → found ≡ Some number → (all : List ℕ) → all ≡ falling (length p) (is_top_of p places number x)
      → Lists all (tell.IsTopNamed p (spelled p n) x)
  spelled_some n x number found f e all is = lists_by all (falling (length p) (is_top_of p places number x)) is (tops_list number x)
      (λ d h. record { of = record { top = h.0; inside = (in_spelled p placed.local places.packages packages n d found f).0 (same_number number found d e ∙ h.1.0) }; named = h.1.1 })
      (λ d k. (k.of.top, (sym (same_number number found d e) ∙ (in_spelled p placed.local places.packages packages n d found f).1 k.of.inside, k.named)))

  pub spelled_nowhere : (n x : ℕ) (found : Option ℕ) → Finds found (IsSpelled p places.packages n) → found ≡ None → (all : List ℕ) → all ≡ [] → Lists all (tell.IsTopNamed p (spelled p n) x)
  spelled_nowhere n x found f e all is = lists_none all is (λ d k. false≢true (ap (λ o. same_some o (package_number places d)) (sym e) ∙ (in_spelled p placed.local places.packages packages n d found f).1 k.of.inside))

  -- those of the package of a place
  pub beside_some : (o x number : ℕ) (found : Option ℕ) → found ≡ package_number places o → found ≡ Some number → (all : List ℕ) → all ≡ falling (length p) (is_top_of p places number x) → Lists all (tell.IsBeside p o x)
  beside_some o x number found f e all is = lists_by all (falling (length p) (is_top_of p places number x)) is (tops_list number x)
      (λ d h. record { top = h.0; same = (same_tells o d).0 (same_number number (package_number places o) d (sym f ∙ e) ∙ h.1.0); named = h.1.1 })
      (λ d k. (k.top, (sym (same_number number (package_number places o) d (sym f ∙ e)) ∙ (same_tells o d).1 k.same, k.named)))

  pub beside_none : (o x : ℕ) (found : Option ℕ) → found ≡ package_number places o → found ≡ None → (d : ℕ) → tell.IsBeside p o x d → ⊥
  beside_none o x found f e d k = false≢true (ap (λ o. same_some o (package_number places d)) (sym e ∙ f) ∙ (same_tells o d).1 k.same)

  -- those of java.lang
  lang_path : (path : List Text) → InPackage p java_lang 1 → InPackage p path 1 → path ≡ java_lang
  lang_path path lang h = sym h.has_path ∙ ap (package_of p) (one_unit p placed.local 1 h.unit lang.unit h.holds lang.holds) ∙ lang.has_path

  lang_beside : InPackage p java_lang 1 → (x d : ℕ) → tell.IsTopNamed p java_lang x d → tell.IsBeside p 1 x d
  lang_beside lang x d k = record { top = k.of.top; same = record { path = java_lang; first = lang; second = k.of.inside }; named = k.named }

  beside_lang : InPackage p java_lang 1 → (x d : ℕ) → tell.IsBeside p 1 x d → tell.IsTopNamed p java_lang x d
  beside_lang lang x d k = let second = k.same.second in record {
    of = record { top = k.top; inside = record { unit = second.unit; holds = second.holds; has_path = second.has_path ∙ lang_path k.same.path lang k.same.first } };
    named = k.named;
  }

  pub adds_lang : InPackage p java_lang 1 → (u x number : ℕ) (found : Option ℕ) → found ≡ package_number places 1 → found ≡ Some number → (old new : List ℕ)
      → new ≡ old ++ filter (can_import p u) (falling (length p) (is_top_of p places number x)) → AddsSuch (tell.IsLang p u x) old new
  adds_lang lang u x number found f e old new is = adds_filter (can_import p u) old new (falling (length p) (is_top_of p places number x)) is (beside_some 1 x number found f e (falling (length p) (is_top_of p places number x)) refl)
      (λ d. can_import_tells p u d) (λ d m k. record { of = beside_lang lang x d m; reached = k }) (λ d l. (lang_beside lang x d l.of, l.reached))

  pub adds_no_lang : InPackage p java_lang 1 → (u x : ℕ) (found : Option ℕ) → found ≡ package_number places 1 → found ≡ None → (old new : List ℕ) → new ≡ old → AddsSuch (tell.IsLang p u x) old new
  adds_no_lang lang u x found f e old new is = adds_none old new is (λ d l. beside_none 1 x found f e d (lang_beside lang x d l.of))

  -- ---- types of the package beside what imports bring

  unit_tells : (o d : ℕ) → IsTopLevel p d → Decides (same_some (unit_of p d) (unit_of p o)) (TypeOfUnit p o d)
  unit_tells o d top = by (unit_of p d) (unit_of p o) (unit_finds p placed.local d) (unit_finds p placed.local o)
    where
      by : (a b : Option ℕ) → Finds a (λ u. InUnit p u d) → Finds b (λ u. InUnit p u o) → Decides (same_some a b) (TypeOfUnit p o d)
      by None b f g = (λ h. absurd (false≢true h), λ k. absurd (none-some k.unit ((f k.unit).1 k.second)))
      by (Some a) None f g = (λ h. absurd (false≢true h), λ k. absurd (none-some k.unit ((g k.unit).1 k.first)))
      by (Some a) (Some b) f g = like (Decides-eqb a b)
          (λ e. record { top = top; unit = a; first = (g a).0 (ap Some (sym e)); second = (f a).0 refl })
          (λ k. same_Some a k.unit ((f k.unit).1 k.second) ∙ sym (same_Some b k.unit ((g k.unit).1 k.first)))

  kept_tells : (o : ℕ) (b : Bool) (d : ℕ) → IsTopLevel p d → Decides (tell.is_kept_beside p o b d) (b ≡ true → TypeOfUnit p o d)
  kept_tells o b d top = implies (itself b) (unit_tells o d top)

  pub kept_lists : (o x : ℕ) (b : Bool) (types found : List ℕ) → Lists types (tell.IsBeside p o x) → found ≡ filter (tell.is_kept_beside p o b) types → Lists found (tell.IsKeptBeside p o x b)
  kept_lists o x b types found h is d = subst (λ xs. Decides (has xs d) (tell.IsKeptBeside p o x b d)) (sym is) (like (among_filter nat_eq Decides-eqb (tell.is_kept_beside p o b) types d)
      (λ k. let beside = (h d).0 k.0 in record { beside = beside; kept = (kept_tells o b d beside.top).0 k.1 })
      (λ k. ((h d).1 k.beside, (kept_tells o b d k.beside.top).1 k.kept)))

-- ---- types that a name has

module _ (p : Rows) (x : ℕ) where
  pub declared_some : (a : Referent) (found : Option ℕ) (c : ℕ) → found ≡ referred_type p a → found ≡ Some c → (all : List ℕ) → all ≡ falling (length p) (is_declared_as p kind.Type c x)
      → Lists all (tell.IsDeclaredNamed p a x)
  declared_some a found c f e all is = let names = (referred_finds p a c).0 (sym f ∙ e) in lists_by all (falling (length p) (is_declared_as p kind.Type c x)) is (own_listed p kind.Type c x)
      (λ d m. record { class = c; level = names.0; refers = names.1; type = names.2; declares = m })
      (λ d m. let same = same_Some m.class c (sym ((referred_finds p a m.class).1 (m.level, m.refers, m.type)) ∙ sym f ∙ e) in subst (λ c. IsDeclaredAs p kind.Type c x d) same m.declares)

  pub declared_none : (a : Referent) (found : Option ℕ) → found ≡ referred_type p a → found ≡ None → (all : List ℕ) → all ≡ [] → Lists all (tell.IsDeclaredNamed p a x)
  declared_none a found f e all is = lists_none all is (λ d m. none-some m.class (sym e ∙ f ∙ (referred_finds p a m.class).1 (m.level, m.refers, m.type)))

  no_package : (a : Referent) (c : ℕ) (level : Option ℕ) → a ≡ Package → a ≡ Declared c level → ⊥
  no_package a c level e f = cc

  pub types_of_package : (a : Referent) (n : ℕ) → a ≡ Package → (all : List ℕ) → Lists all (tell.IsTopNamed p (spelled p n) x) → Lists all (tell.IsTypeIn p a n x)
  types_of_package a n e all h = lists_by all all refl h (λ d k. inl (e, k)) (λ d. ⊎_elim (λ k. k.1) (λ m. absurd (no_package a m.class m.level e m.refers)))

  pub types_of_type : (a : Referent) (n : ℕ) → (a ≡ Package → ⊥) → (all : List ℕ) → Lists all (tell.IsDeclaredNamed p a x) → Lists all (tell.IsTypeIn p a n x)
  types_of_type a n out all h = lists_by all all refl h (λ d m. inr m) (λ d. ⊎_elim (λ k. absurd (out k.0)) (λ m. m))

module _ (p : Rows) (local : IsLocal p) (t : Table) where
  child_is : (i : ℕ) → IsImport p i → first_child p i ≡ Some (i + 1)
  child_is i import = ap (λ b. cond b (Some (i + 1)) None) (import_child p local i import)

  pub child_found : (i target : ℕ) (found : Option ℕ) → IsImport p i → found ≡ first_child p i → found ≡ Some target → target ≡ i + 1
  child_found i target found import f e = same_Some target (i + 1) (sym e ∙ f ∙ child_is i import)

  pub no_child : (i : ℕ) (found : Option ℕ) → IsImport p i → found ≡ first_child p i → found ≡ None → ⊥
  no_child i found import f e = none-some (i + 1) (sym e ∙ f ∙ child_is i import)

  pub demanded_lists : (seen : Table) → SeesImports p seen t → (x i target : ℕ) → IsImport p i → target ≡ i + 1 → (all : List ℕ) → Lists all (tell.IsTypeIn p (seen target) target x) → Lists all (tell.IsDemandedAs p t x i)
  demanded_lists seen sees x i target import e all h = subst (λ a. Lists all (tell.IsTypeIn p a (i + 1) x)) (sees.same i import) (subst (λ n. Lists all (tell.IsTypeIn p (seen n) n x)) e h)

  module _ (u x : ℕ) where
    pub adds_demanded : (i : ℕ) (old new types : List ℕ) → new ≡ old ++ filter (can_import p u) types → Lists types (tell.IsDemandedAs p t x i) → AddsSuch (tell.IsDemanded p t u x i) old new
    adds_demanded i old new types is h = adds_filter (can_import p u) old new types is h (λ d. can_import_tells p u d) (λ d m k. record { has_type = m; reached = k }) (λ d k. (k.has_type, k.reached))

    demand_rows : Lists (falling (length p) (is_import_of p u importing.OnDemand)) (λ i. ImportOf p u importing.OnDemand i)
    demand_rows = falling_lists (is_import_of p u importing.OnDemand) (λ i. ImportOf p u importing.OnDemand i) (length p) (λ i. import_of_tells p u importing.OnDemand i) (λ i h. import_below p u importing.OnDemand i h)

    pub demand_imports : (imports : List ℕ) → imports ≡ falling (length p) (is_import_of p u importing.OnDemand) → AreImportRows p imports
    demand_imports imports is = record { each = λ i h. record { form = importing.OnDemand; import = ((demand_rows i).0 (subst (λ xs. has xs i ≡ true) is h)).import } }

    pub demand_lists : (imports old new : List ℕ) → imports ≡ falling (length p) (is_import_of p u importing.OnDemand) → Lists old (IsBroughtBy (tell.IsDemanded p t u x) imports) → AddsSuch (tell.IsLang p u x) old new
        → Lists new (tell.IsOnDemand p t u x)
    demand_lists imports old new is h a = added_lists old new a h out into
      where
        by_type : (i d : ℕ) → ImportOf p u importing.OnDemand i → CanImport p u d → tell.IsTypeIn p (t (i + 1)) (i + 1) x d → tell.IsOnDemand p t u x d
        by_type i d import reached (inl k) = record { brings = record { brings = OnDemandOf.of_package import k.0 k.1.of; reached = reached }; named = k.1.named }
        by_type i d import reached (inr m) = record {
          brings = record { brings = OnDemandOf.of_type import (record { level = m.level; refers = m.refers; type = m.type }) m.declares.declared m.declares.of.role_is; reached = reached };
          named = m.declares.of.named;
        }

        out : (d : ℕ) → IsBroughtBy (tell.IsDemanded p t u x) imports d ⊎ tell.IsLang p u x d → tell.IsOnDemand p t u x d
        out d (inl b) = by_type b.import d ((demand_rows b.import).0 (subst (λ xs. has xs b.import ≡ true) is b.among)) b.brings.reached b.brings.has_type
        out d (inr l) = record { brings = record { brings = OnDemandOf.lang l.of.of; reached = l.reached }; named = l.of.named }

        among : (i : ℕ) → ImportOf p u importing.OnDemand i → has imports i ≡ true
        among i import = subst (λ xs. has xs i ≡ true) (sym is) ((demand_rows i).1 import)

        by : {d : ℕ} → OnDemandOf p t u d → CanImport p u d → name_row p d ≡ x → IsBroughtBy (tell.IsDemanded p t u x) imports d ⊎ tell.IsLang p u x d
        by (OnDemandOf.of_package {i = i} import e k) reached named = inl (record { import = i; among = among i import; brings = record { has_type = inl (e, record { of = k; named = named }); reached = reached } })
        by (OnDemandOf.of_type {i = i} {c = c} import names m type) reached named = inl (record {
          import = i;
          among = among i import;
          brings = record {
            has_type = inr (record { class = c; level = names.level; refers = names.refers; type = names.type; declares = record { of = record { role_is = type; named = named }; declared = m } });
            reached = reached;
          };
        })
        by (OnDemandOf.lang k) reached named = inr (record { of = record { of = k; named = named }; reached = reached })

        into : (d : ℕ) → tell.IsOnDemand p t u x d → IsBroughtBy (tell.IsDemanded p t u x) imports d ⊎ tell.IsLang p u x d
        into d k = by k.brings.brings k.brings.reached k.named

  -- ---- types that no type round the place has

  module _ (o x : ℕ) where
    pub adds_singles : (u : ℕ) (unit : Option ℕ) → Finds unit (λ u. ImportsHold p u o) → unit ≡ Some u → (old new types : List ℕ) → new ≡ old ++ types → Lists types (IsBrought p t u x) → AddsSuch (tell.IsSingleAt p t o x) old new
    adds_singles u unit f e old new types is h = adds_lists old new types is h (λ d b. record { imported = record { unit = u; holds = (f u).0 e; brings = b.brings }; named = b.named })
        (λ d s. let same = same_Some s.imported.unit u (sym ((f s.imported.unit).1 s.imported.holds) ∙ e) in record { brings = subst (λ u. SingleImport p t u d) same s.imported.brings; named = s.named })

    pub adds_no_singles : (unit : Option ℕ) → Finds unit (λ u. ImportsHold p u o) → unit ≡ None → (old new : List ℕ) → new ≡ old → AddsSuch (tell.IsSingleAt p t o x) old new
    adds_no_singles unit f e old new is = adds_none old new is (λ d s. none-some s.imported.unit (sym e ∙ (f s.imported.unit).1 s.imported.holds))

    pub imported_lists : (old new : List ℕ) → Lists old (tell.IsStaticAt p t kind.Type o x) → AddsSuch (tell.IsSingleAt p t o x) old new → Lists new (tell.IsImportedType p t o x)
    imported_lists old new h a = added_lists old new a h (λ d k. k) (λ d k. k)

    some_told : (all : List ℕ) (d : ℕ) → has all d ≡ true → not (nat_eq (length all) 0) ≡ true
    some_told [] d h = absurd (false≢true h)
    some_told (y ∷ ys) d h = ap not (false_from_ne_true (nat_eq (length (y ∷ ys)) 0) (λ e. let size = (Decides-eqb (length (y ∷ ys)) 0).0 e in absurd (omega arith)))

    told_some : (all : List ℕ) → not (nat_eq (length all) 0) ≡ true → (d : ℕ) × (has all d ≡ true)
    told_some [] h = absurd (false≢true h)
    told_some (y ∷ ys) h = (y, front_has y ys)

    pub outside_lists : (old new : List ℕ) → Lists old (tell.IsImportedType p t o x) → AddsSuch (tell.IsKeptBeside p o x (not (nat_eq (length old) 0))) old new → Lists new (tell.IsOutside p t o x)
    outside_lists old new h a = added_lists old new a h
        (λ d. ⊎_elim (λ k. inl k) (λ k. inr (k.beside, λ e i. k.kept (some_told old e ((h e).1 i)))))
        (λ d. ⊎_elim (λ k. inl k) (λ k. inr (record { beside = k.0; kept = λ b. let s = told_some old b in k.1 s.0 ((h s.0).0 s.1) })))
