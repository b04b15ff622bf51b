-- What rows bring to their units by simple names, one row at a time, and what a static import brings.
use Rattle.std.proofs.Common.{◌≡◌, ◌⊎◌, refl, sym, ◌∙◌, ap, ap₂, subst, inl, inr, ⊎_elim, arith, ℕ, ◌+◌, ◌<◌, ◌≤◌, Bool, true, false, ◌||◌, List, [], ◌∷◌, ◌++◌, drop, length, Option, Some, None, nat_eq, Decides}
use Rattle.std.specs.List.{list_any}
use Rattle.std.specs.Prelude.{slice_index_or}
use Rattle.std.proofs.lemmas.Bool.{false≢true, cases_eq, and_from, and_parts}
use Rattle.std.proofs.lemmas.Bool.Decides.{Decides-eqb}
use Rattle.std.proofs.lemmas.List.{drop_more, drop_all}
use Rattle.std.proofs.lemmas.Option.{none-some, same_Some}
use Rattle.jr_tree.specs.declared.label.ImportKind.{ImportKind}
use Rattle.jr_tree.specs.declared.label.ImportKind.TheVariants as importing
use Rattle.jr_tree.specs.declared.label.Role.{Role}
use Rattle.jr_tree.specs.declared.label.Role.TheVariants as role
use Rattle.jr_tree.specs.Labels.{role_of}
use Rattle.jr_tree.specs.Local.{IsLocal}
use Rattle.jr_tree.specs.Rows.{Rows, label, name, parent, role_at}
use Rattle.jr_defs.specs.Declarations.{IsType}
use Rattle.jr_defs.specs.Enclosing.{IsMemberRole}
use Rattle.jr_defs.specs.Imports.{ImportOf, ImportNames, ImportedBy}
use Rattle.jr_defs.specs.Members.{MemberOf}
use Rattle.jr_defs.specs.Referents.{Table}
use Rattle.jr_defs.specs.Rules.{BringsType, DeclaresTop}
use Rattle.jr_plain.specs.Search.{has, Lists, Finds}
use Rattle.jr_plain.specs.Enclosing.{is_top_level}
use Rattle.jr_plain.specs.Imports.{is_import_label}
use Rattle.jr_plain.specs.Types.{named_type}
use Rattle.jr_plain.proofs.Tests.{both, either, like}
use Rattle.jr_plain.proofs.Searches.{some_of}
use Rattle.jr_plain.proofs.Bounds.{type_below}
use Rattle.jr_plain.proofs.Declared.{type_tells}
use Rattle.jr_plain.proofs.Enclosed.{top_level_tells}
use Rattle.jr_plain.proofs.Headed.{headed_from_local}
use Rattle.jr_plain.proofs.Imported.{import_of_tells, import_below}
use Rattle.jr_places.specs.declared.chains.Entry.{Entry}
use Rattle.jr_places.specs.Names.{name_row}
use Rattle.jr_supers.proofs.Subtyped.{one_test}
use Rattle.jr_members.specs.declared.declared.MemberKind.{MemberKind}
use Rattle.jr_members.specs.declared.declared.MemberKind.TheVariants as kind
use Rattle.jr_members.specs.declared.members.World.{World}
use Rattle.jr_members.specs.Each.{AreBelow}
use Rattle.jr_members.specs.Held.{role_of_kind}
use Rattle.jr_members.proofs.Each.{has_push, has_front, front_has, rest_has, first_in, rest_in, none_in}
use Rattle.jr_lookup.specs.Sights.{AddsSuch, IsNamedBy}
use Rattle.jr_lookup.proofs.Sighting.{adds_by, named_import}
use Rattle.jr_name_rules.specs.ImportTests.{has_static_import_fault}
use Rattle.jr_name_rules.proofs.Imports.{StaticClash, StaticImportFault, static_import_fault_tells}
use Rattle.jr_name_faults.specs.declared.statics.Statics as code
use Rattle.jr_name_faults.specs.Imports.{rows_of, table_of, IsTabledWorld}
use Rattle.jr_name_faults.specs.Statics.{IsSource, IsBrought, IsBringing, with_rows, IsAdding, AreStaticsTo, AreStatics, is_clash}
use Rattle.jr_name_faults.specs.Twins.{with_twin, AreTwins}
use Rattle.jr_name_faults.proofs.Importing.{no_twins}
use Rattle.jr_name_faults.proofs.Scoped.{names_same, rows_same}
use Rattle.jr_name_faults.proofs.Twinned.{twins_more, twins_like, other_tells}

-- ---- a row more for each of some types

rows_more : (p : Rows) (row : ℕ → ℕ) (u : ℕ) (types : List ℕ) (all : List Entry) {P : ℕ → ℕ → ℕ → Type 0} → AreTwins all P
    → AreTwins (with_rows p row u types all) (λ c x r. P c x r ⊎ ((d : ℕ) × (has types d ≡ true) × (u ≡ c) × (name_row p d ≡ x) × (row d ≡ r)))
rows_more p row u [] all h = twins_like h (λ c x r k. inl k) (λ c x r. ⊎_elim (λ k. k) (λ k. absurd (false≢true k.1)))
rows_more p row u (d ∷ more) all h = twins_like (rows_more p row u more (with_twin all u (name_row p d) (row d)) (twins_more h u (name_row p d) (row d)))
    (λ c x r. ⊎_elim (⊎_elim (λ k. inl k) (λ k. inr (d, front_has d more, k.0, k.1.0, k.1.1))) (λ k. inr (k.0, rest_has d k.0 more k.1, k.2, k.3, k.4)))
    (λ c x r. ⊎_elim (λ k. inl (inl k)) (λ k. ⊎_elim (λ same. inl (inr (k.2, (ap (name_row p) same ∙ k.3, ap row same ∙ k.4)))) (λ there. inr (k.0, there, k.2, k.3, k.4)) (has_front d k.0 more k.1)))

pub adding_start : (p : Rows) (row : ℕ → ℕ) (u : ℕ) (types : List ℕ) (all : List Entry) → AreBelow (length p) types → IsAdding p row u (with_rows p row u types all) types all
adding_start p row u types all below = record { below = below; is = refl }

pub adding_item : {p : Rows} {row : ℕ → ℕ} {u : ℕ} {target all : List Entry} {rest : List ℕ} (d : ℕ) (more : List ℕ) → rest ≡ d ∷ more → IsAdding p row u target rest all → d < length p
adding_item d more is h = h.below.each d (first_in d more _ is)

pub adding_next : {p : Rows} {row : ℕ → ℕ} {u : ℕ} {target all : List Entry} {rest : List ℕ} (d x r : ℕ) (more : List ℕ) (now : List Entry) → rest ≡ d ∷ more → IsAdding p row u target rest all
    → x ≡ name_row p d → r ≡ row d → now ≡ with_twin all u x r → IsAdding p row u target more now
adding_next {p} {row} {u} {target} {all} {rest} d x r more now is h named stands adds = record {
  below = record { each = λ k i. h.below.each k (rest_in d k more rest is i) };
  is = ap (with_rows p row u more) (adds ∙ ap₂ (λ x r. with_twin all u x r) named stands) ∙ ap (λ l. with_rows p row u l all) (sym is) ∙ h.is;
}

pub adding_end : {p : Rows} {row : ℕ → ℕ} {u : ℕ} {target all : List Entry} {rest : List ℕ} → rest ≡ [] → IsAdding p row u target rest all → all ≡ target
adding_end {p} {row} {u} {target} {all} none h = ap (λ l. with_rows p row u l all) (sym none) ∙ h.is

-- ---- labels

pub import_is : (p : Rows) (form : ImportKind) (i : ℕ) → is_import_label form (label p i) ≡ true → ImportOf p (parent p i) form i
import_is p form i is = (import_of_tells p (parent p i) form i).0 (and_from (is_import_label form (label p i)) (nat_eq (parent p i) (parent p i)) is ((Decides-eqb (parent p i) (parent p i)).1 refl))

import_label : (p : Rows) (u : ℕ) (form : ImportKind) (i : ℕ) → ImportOf p u form i → is_import_label form (label p i) ≡ true
import_label p u form i h = (and_parts (is_import_label form (label p i)) (nat_eq (parent p i) u) ((import_of_tells p u form i).1 h)).0

type_no_import : (p : Rows) (u : ℕ) (form : ImportKind) (i : ℕ) → IsType p i → ImportOf p u form i → ⊥
type_no_import p u form i type h = let none : role_at p i ≡ role.Nothing = ap role_of h.import in cc

single_no_static : (p : Rows) (u v i : ℕ) → ImportOf p u importing.Single i → ImportOf p v importing.StaticSingle i → ⊥
single_no_static p u v i h k = let one = h.import in let other = k.import in cc

-- ---- what one row brings

module _ (p : Rows) (t : Table) where
  source_unit : (u j d : ℕ) → IsSource p t u j d → parent p j ≡ u
  source_unit u j d (inl (BringsType.single h)) = h.is_import.inside
  source_unit u j d (inl (BringsType.static h type)) = h.is_import.inside
  source_unit u j d (inr h) = ap (parent p) h.1 ∙ h.0.inside

  source_below : (u j d : ℕ) → IsSource p t u j d → j < length p
  source_below u j d (inl (BringsType.single h)) = import_below p u importing.Single j h.is_import
  source_below u j d (inl (BringsType.static h type)) = import_below p u importing.StaticSingle j h.is_import
  source_below u j d (inr h) = subst (λ k. k < length p) (sym h.1) (type_below p d h.0.top.type)

  source_type : (u j d : ℕ) → IsSource p t u j d → IsType p d
  source_type u j d (inl (BringsType.single h)) = h.names.type
  source_type u j d (inl (BringsType.static h type)) = type
  source_type u j d (inr h) = h.0.top.type

  pub sources_below : (u j : ℕ) (types : List ℕ) → Lists types (IsSource p t u j) → AreBelow (length p) types
  sources_below u j types h = record { each = λ d k. type_below p d (source_type u j d ((h d).0 k)) }

  module _ (i : ℕ) (other : is_import_label importing.StaticSingle (label p i) ≡ false) where
    not_static : (u : ℕ) → ImportOf p u importing.StaticSingle i → ⊥
    not_static u h = false≢true (sym other ∙ import_label p u importing.StaticSingle i h)

    pub finds_top : true ≡ is_top_level p i → Finds (Some i) (IsSource p t (parent p i) i)
    finds_top top d = (λ e. let same = same_Some i d e in inr (subst (λ k. DeclaresTop p (parent p i) k) same own, same), λ k. ap Some (by k))
      where
        own : DeclaresTop p (parent p i) i
        own = record { top = (top_level_tells p i).0 (sym top); inside = refl }

        by : IsSource p t (parent p i) i d → i ≡ d
        by (inl (BringsType.single h)) = absurd (type_no_import p (parent p i) importing.Single i own.top.type h.is_import)
        by (inl (BringsType.static h type)) = absurd (not_static (parent p i) h.is_import)
        by (inr h) = h.1

    pub finds_single : IsLocal p → (found : Option ℕ) → found ≡ named_type p t i → true ≡ is_import_label importing.Single (label p i) → Finds found (IsSource p t (parent p i) i)
    finds_single local found is single d = (λ e. inl (BringsType.single (record { is_import = own; names = (names d).0 (sym is ∙ e) })), by)
      where
        own : ImportOf p (parent p i) importing.Single i
        own = import_is p importing.Single i (sym single)

        names : Finds (named_type p t i) (λ c. ImportNames p t i c)
        names = named_import p local t t (record { same = λ k h. refl }) i (record { form = importing.Single; import = own.import })

        by : IsSource p t (parent p i) i d → found ≡ Some d
        by (inl (BringsType.single h)) = is ∙ (names d).1 h.names
        by (inl (BringsType.static h type)) = absurd (not_static (parent p i) h.is_import)
        by (inr h) = absurd (type_no_import p (parent p i) importing.Single i (subst (λ k. IsType p k) (sym h.1) h.0.top.type) own)

    pub finds_none : is_top_level p i ≡ false → is_import_label importing.Single (label p i) ≡ false → Finds None (IsSource p t (parent p i) i)
    finds_none top single d = (λ e. absurd (none-some d e), λ k. absurd (never k))
      where
        never : IsSource p t (parent p i) i d → ⊥
        never (inl (BringsType.single h)) = false≢true (sym single ∙ import_label p (parent p i) importing.Single i h.is_import)
        never (inl (BringsType.static h type)) = not_static (parent p i) h.is_import
        never (inr h) = false≢true (sym top ∙ ap (is_top_level p) h.1 ∙ (top_level_tells p d).1 h.0.top)

pub adds_found : {P : ℕ → Type 0} (old new : List ℕ) (found : Option ℕ) (d : ℕ) → Finds found P → found ≡ Some d → new ≡ old ++ d ∷ [] → AddsSuch P old new
adds_found {P} old new found d finds e is = record {
  each = λ k. subst (λ l. Decides (has l k) ((has old k ≡ true) ⊎ P k)) (sym is) (like (has_push old d k)
      (⊎_elim (λ h. inl h) (λ same. inr (subst P same ((finds d).0 e)))) (⊎_elim (λ h. inl h) (λ h. inr (same_Some d k (sym e ∙ (finds k).1 h)))));
}

pub adds_no : {P : ℕ → Type 0} (old : List ℕ) (found : Option ℕ) → Finds found P → found ≡ None → AddsSuch P old old
adds_no old found finds e = record { each = λ k. (λ h. inl h, ⊎_elim (λ h. h) (λ h. absurd (none-some k (sym e ∙ (finds k).1 h)))) }

pub added_listed : {P : ℕ → Type 0} (none all some : List ℕ) → none ≡ [] → some ≡ all → AddsSuch P none all → Lists some P
added_listed {P} none all some e same h d = subst (λ l. Decides (has l d) (P d)) (sym same) (like (h.each d) (⊎_elim (λ k. absurd (none_in d none e k)) (λ k. k)) (λ k. inr k))

-- ---- what a static import brings

module _ (p : Rows) (t : Table) (i : ℕ) where
  -- of its own unit and name
  pub adds_own : {kind : MemberKind} {old new : List ℕ} (u x : ℕ) → u ≡ parent p i → x ≡ name_row p i → AddsSuch (IsNamedBy p t kind u x i) old new → AddsSuch (IsNamedBy p t kind (parent p i) (name_row p i) i) old new
  adds_own {kind} {old} {new} u x over named h = subst (λ y. AddsSuch (IsNamedBy p t kind (parent p i) y i) old new) named (subst (λ v. AddsSuch (IsNamedBy p t kind v x i) old new) over h)

  module _ (own : ImportOf p (parent p i) importing.StaticSingle i) where
    imported_out : (kind : MemberKind) (d : ℕ) → IsNamedBy p t kind (parent p i) (name_row p i) i d → ImportedBy p t (parent p i) i d
    imported_out kind d h = let r = h.reached in record {
      is_import = own;
      of_type = h.of_type;
      names = h.names;
      member = r.member.member;
      static = r.static;
      named = names_same p d i r.member.of.named;
      reached = r.reached;
    }

    imported_into : (kind : MemberKind) (d : ℕ) → role_at p d ≡ role_of_kind kind → ImportedBy p t (parent p i) i d → IsNamedBy p t kind (parent p i) (name_row p i) i d
    imported_into kind d is h = record {
      of_type = h.of_type;
      names = h.names;
      reached = record { member = record { of = record { role_is = is; named = rows_same p d i h.named }; member = h.member }; static = h.static; reached = h.reached };
    }

    -- a type is brought so
    pub adds_types : {old new : List ℕ} → AddsSuch (IsNamedBy p t kind.Type (parent p i) (name_row p i) i) old new → AddsSuch (IsSource p t (parent p i) i) old new
    adds_types {old} {new} h = adds_by old new h (λ d k. inl (BringsType.static (imported_out kind.Type d k) k.reached.member.of.role_is)) into
      where
        into : (d : ℕ) → IsSource p t (parent p i) i d → IsNamedBy p t kind.Type (parent p i) (name_row p i) i d
        into d (inl (BringsType.single h)) = absurd (single_no_static p (parent p i) (parent p i) i h.is_import own)
        into d (inl (BringsType.static h type)) = imported_into kind.Type d type h
        into d (inr h) = absurd (type_no_import p (parent p i) importing.StaticSingle i (subst (λ k. IsType p k) (sym h.1) h.0.top.type) own)

    member_role : (c d : ℕ) → MemberOf p t c d → IsMemberRole (role_at p d)
    member_role c d (MemberOf.declared h) = h.member
    member_role c d (MemberOf.inherited {s = s} above held passes inherits left) = member_role s d held
    member_role c d (MemberOf.of_object interface method left) = method.declared.member

    abbrev Named : MemberKind → ℕ → Type 0
    Named kind d = IsNamedBy p t kind (parent p i) (name_row p i) i d

    by_kind : (d : ℕ) → ImportedBy p t (parent p i) i d → Named kind.Field d ⊎ (Named kind.Type d ⊎ Named kind.Method d)
    by_kind d h = by (role_at p d) refl (member_role h.of_type d h.member)
      where
        by : (r : Role) → role_at p d ≡ r → IsMemberRole r → Named kind.Field d ⊎ (Named kind.Type d ⊎ Named kind.Method d)
        by role.Field e k = inl (imported_into kind.Field d e h)
        by role.Type e k = inr (inl (imported_into kind.Type d e h))
        by role.Method e k = inr (inr (imported_into kind.Method d e h))
        by _ e k = absurd k

    -- fields, types and methods have been added to no list
    pub imported_list : (none fields types all : List ℕ) → none ≡ [] → AddsSuch (Named kind.Field) none fields → AddsSuch (Named kind.Type) fields types → AddsSuch (Named kind.Method) types all → Lists all (ImportedBy p t (parent p i) i)
    imported_list none fields types all e f g h d = (
      λ k. ⊎_elim (λ k. ⊎_elim (λ k. ⊎_elim (λ k. absurd (none_in d none e k)) (λ r. imported_out kind.Field d r) ((f.each d).0 k)) (λ r. imported_out kind.Type d r) ((g.each d).0 k)) (λ r. imported_out kind.Method d r) ((h.each d).0 k),
      λ b. ⊎_elim (λ r. (h.each d).1 (inl ((g.each d).1 (inl ((f.each d).1 (inr r))))))
          (λ s. ⊎_elim (λ r. (h.each d).1 (inl ((g.each d).1 (inr r)))) (λ r. (h.each d).1 (inr r)) s) (by_kind d b),
    )

-- ---- the tables as they grow

pub statics_start : (world : World) (statics : code.Statics) → statics.world.now ≡ world → IsTabledWorld world → statics.types.rows ≡ [] → statics.sources.rows ≡ [] → AreStaticsTo world 0 statics
statics_start world statics is tabled types sources = record {
  world_is = is;
  tabled = tabled;
  types_are = subst (λ l. AreTwins l (IsBrought (rows_of world) (table_of world) 0)) (sym types) (no_twins (IsBrought (rows_of world) (table_of world) 0) (λ c x d h. let lt = h.before in absurd (omega arith)));
  sources_are = subst (λ l. AreTwins l (IsBringing (rows_of world) (table_of world) 0)) (sym sources) (no_twins (IsBringing (rows_of world) (table_of world) 0) (λ c x d h. let lt = h.before in absurd (omega arith)));
}

module _ (p : Rows) (t : Table) (n unit : ℕ) (types : List ℕ) (over : unit ≡ parent p n) (listed : Lists types (IsSource p t (parent p n) n)) where
  abbrev IsNew : (ℕ → ℕ) → ℕ → ℕ → ℕ → Type 0
  IsNew row c x r = (d : ℕ) × (has types d ≡ true) × (unit ≡ c) × (name_row p d ≡ x) × (row d ≡ r)

  new_source : (c d : ℕ) → has types d ≡ true → unit ≡ c → IsSource p t c n d
  new_source c d there is = subst (λ c. IsSource p t c n d) (sym over ∙ is) ((listed d).0 there)

  source_new : (c d : ℕ) → IsSource p t c n d → has types d ≡ true
  source_new c d h = (listed d).1 (subst (λ c. IsSource p t c n d) (sym (source_unit p t c n d h)) h)

  types_out : (c x d : ℕ) → IsBrought p t n c x d ⊎ IsNew (λ d. d) c x d → IsBrought p t (n + 1) c x d
  types_out c x d (inl h) = record { source = h.source; before = let lt = h.before in omega arith; brings = h.brings; named = h.named }
  types_out c x d (inr k) = record { source = n; before = omega arith; brings = subst (λ d. IsSource p t c n d) k.4 (new_source c k.0 k.1 k.2); named = ap (name_row p) (sym k.4) ∙ k.3 }

  types_into : (c x d : ℕ) → IsBrought p t (n + 1) c x d → IsBrought p t n c x d ⊎ IsNew (λ d. d) c x d
  types_into c x d h = ⊎_elim (λ same. let own : IsSource p t c n d = subst (λ j. IsSource p t c j d) same h.brings in inr (d, source_new c d own, over ∙ source_unit p t c n d own, h.named, refl))
      (λ apart. inl (record { source = h.source; before = let lt = h.before in omega arith; brings = h.brings; named = h.named })) (cases_eq h.source n)

  sources_out : (c x j : ℕ) → IsBringing p t n c x j ⊎ IsNew (λ d. n) c x j → IsBringing p t (n + 1) c x j
  sources_out c x j (inl h) = record { class = h.class; before = let lt = h.before in omega arith; brings = h.brings; named = h.named }
  sources_out c x j (inr k) = record { class = k.0; before = let same = k.4 in omega arith; brings = subst (λ j. IsSource p t c j k.0) k.4 (new_source c k.0 k.1 k.2); named = k.3 }

  sources_into : (c x j : ℕ) → IsBringing p t (n + 1) c x j → IsBringing p t n c x j ⊎ IsNew (λ d. n) c x j
  sources_into c x j h = ⊎_elim (λ same. let own : IsSource p t c n h.class = subst (λ j. IsSource p t c j h.class) same h.brings in inr (h.class, source_new c h.class own, over ∙ source_unit p t c n h.class own, h.named, sym same))
      (λ apart. inl (record { class = h.class; before = let lt = h.before in omega arith; brings = h.brings; named = h.named })) (cases_eq j n)

pub statics_more : {world : World} {n : ℕ} (old new : code.Statics) (unit : ℕ) (types : List ℕ) → AreStaticsTo world n old → unit ≡ parent (rows_of world) n → Lists types (IsSource (rows_of world) (table_of world) (parent (rows_of world) n) n)
    → new.world.now ≡ old.world.now → new.types.rows ≡ with_rows (rows_of world) (λ d. d) unit types old.types.rows → new.sources.rows ≡ with_rows (rows_of world) (λ d. n) unit types old.sources.rows → AreStaticsTo world (n + 1) new
statics_more {world} {n} old new unit types h over listed same brought bringing = let p = rows_of world in let t = table_of world in record {
  world_is = same ∙ h.world_is;
  tabled = h.tabled;
  types_are = subst (λ l. AreTwins l (IsBrought p t (n + 1))) (sym brought) (twins_like (rows_more p (λ d. d) unit types old.types.rows h.types_are) (types_out p t n unit types over listed) (types_into p t n unit types over listed));
  sources_are = subst (λ l. AreTwins l (IsBringing p t (n + 1))) (sym bringing) (twins_like (rows_more p (λ d. n) unit types old.sources.rows h.sources_are) (sources_out p t n unit types over listed) (sources_into p t n unit types over listed));
}

pub statics_end : {world : World} {n : ℕ} (statics : code.Statics) → n ≡ length (rows_of world) → AreStaticsTo world n statics → AreStatics world statics
statics_end {world} statics e h = subst (λ n. AreStaticsTo world n statics) e h

-- ---- one of some members

module _ (p : Rows) (statics : code.Statics) (c x i : ℕ) (all : List ℕ) (k d : ℕ) where
  pub clash_now : k < length all → true ≡ is_clash p statics c x i (slice_index_or all k d) → list_any (is_clash p statics c x i) (drop k all) ≡ list_any (is_clash p statics c x i) all → true ≡ list_any (is_clash p statics c x i) all
  clash_now lt now h = ap (λ b. b || list_any (is_clash p statics c x i) (drop (k + 1) all)) now ∙ sym (ap (list_any (is_clash p statics c x i)) (drop_more all k d lt)) ∙ h

  pub clash_next : k < length all → false ≡ is_clash p statics c x i (slice_index_or all k d) → list_any (is_clash p statics c x i) (drop k all) ≡ list_any (is_clash p statics c x i) all
      → list_any (is_clash p statics c x i) (drop (k + 1) all) ≡ list_any (is_clash p statics c x i) all
  clash_next lt now h = ap (λ b. b || list_any (is_clash p statics c x i) (drop (k + 1) all)) now ∙ sym (ap (list_any (is_clash p statics c x i)) (drop_more all k d lt)) ∙ h

pub clash_end : (p : Rows) (statics : code.Statics) (c x i : ℕ) (all : List ℕ) (k : ℕ) → length all ≤ k → list_any (is_clash p statics c x i) (drop k all) ≡ list_any (is_clash p statics c x i) all → false ≡ list_any (is_clash p statics c x i) all
clash_end p statics c x i all k past h = ap (list_any (is_clash p statics c x i)) (sym (drop_all k all past)) ∙ h

none_tells : {P : ℕ → Type 0} (xs : List ℕ) (empty : Bool) → Lists xs P → empty ≡ nat_eq (length xs) 0 → Decides empty (((d : ℕ) × P d) → ⊥)
none_tells [] empty lists e = (λ k q. none_in q.0 [] refl ((lists q.0).1 q.1), λ f. e)
none_tells (x ∷ xs) empty lists e = (λ k. let same = (Decides-eqb (length (x ∷ xs)) 0).0 (sym e ∙ k) in absurd (omega arith), λ f. absurd (f (x, (lists x).0 (front_has x xs))))

-- ---- the rule

-- a type that stands beside another one of the name, where another row than i brings one
record IsBeside (p : Rows) (t : Table) (i d : ℕ) : Type 0 where
  type : IsType p d
  other : ℕ
  brought : IsBrought p t (length p) (parent p i) (name_row p i) other
  apart : other ≡ d → ⊥
  source : ℕ
  bringing : IsBringing p t (length p) (parent p i) (name_row p i) source
  further : source ≡ i → ⊥

module _ (p : Rows) (t : Table) (i : ℕ) (own : ImportOf p (parent p i) importing.StaticSingle i) where
  own_type : (e : ℕ) → IsSource p t (parent p i) i e → IsType p e × ImportedBy p t (parent p i) i e
  own_type e (inl (BringsType.single h)) = absurd (single_no_static p (parent p i) (parent p i) i h.is_import own)
  own_type e (inl (BringsType.static h type)) = (type, h)
  own_type e (inr h) = absurd (type_no_import p (parent p i) importing.StaticSingle i (subst (λ k. IsType p k) (sym h.1) h.0.top.type) own)

  other_source : (j e : ℕ) → IsSource p t (parent p i) j e → (j ≡ i → ⊥) → ((j : ℕ) × ((i ≡ j → ⊥) × BringsType p t (parent p i) j e)) ⊎ DeclaresTop p (parent p i) e
  other_source j e (inl h) apart = inl (j, ((λ same. apart (sym same)), h))
  other_source j e (inr h) apart = inr h.0

  clash_out : ((d : ℕ) × ImportedBy p t (parent p i) i d × IsBeside p t i d) → StaticClash p t i
  clash_out k = ⊎_elim same_source (λ apart. (own, (k.0, ((b.type, k.1), (b.other, ((k.1.named ∙ sym (names_same p b.other i b.brought.named), λ q. b.apart (sym q)), other_source b.brought.source b.other b.brought.brings apart))))))
      (cases_eq b.brought.source i)
    where
      b : IsBeside p t i k.0
      b = k.2

      named : name p b.bringing.class ≡ name p i
      named = names_same p b.bringing.class i b.bringing.named

      next : ((j : ℕ) × ((i ≡ j → ⊥) × BringsType p t (parent p i) j b.bringing.class)) ⊎ DeclaresTop p (parent p i) b.bringing.class
      next = other_source b.source b.bringing.class b.bringing.brings b.further

      same_source : b.brought.source ≡ i → StaticClash p t i
      same_source same = let o = own_type b.other (subst (λ j. IsSource p t (parent p i) j b.other) same b.brought.brings) in
          ⊎_elim (λ one. (own, (b.other, (o, (b.bringing.class, ((o.1.named ∙ sym named, λ q. b.apart (q ∙ one)), next))))))
          (λ two. (own, (k.0, ((b.type, k.1), (b.bringing.class, ((k.1.named ∙ sym named, λ q. two (sym q)), next)))))) (cases_eq b.bringing.class k.0)

  clash_into : StaticClash p t i → (d : ℕ) × ImportedBy p t (parent p i) i d × IsBeside p t i d
  clash_into k = (k.1.0, k.1.1.0.1, ⊎_elim by_import by_type k.1.1.1.1.1)
    where
      d : ℕ
      d = k.1.0

      e : ℕ
      e = k.1.1.1.0

      named : name_row p e ≡ name_row p i
      named = rows_same p e i (sym k.1.1.1.1.0.0 ∙ k.1.1.0.1.named)

      beside : (j : ℕ) → IsSource p t (parent p i) j e → (j ≡ i → ⊥) → IsBeside p t i d
      beside j brings further = record {
        type = k.1.1.0.0;
        other = e;
        brought = record { source = j; before = source_below p t (parent p i) j e brings; brings = brings; named = named };
        apart = λ q. k.1.1.1.1.0.1 (sym q);
        source = j;
        bringing = record { class = e; before = source_below p t (parent p i) j e brings; brings = brings; named = named };
        further = further;
      }

      by_import : ((j : ℕ) × ((i ≡ j → ⊥) × BringsType p t (parent p i) j e)) → IsBeside p t i d
      by_import h = beside h.0 (inl h.1.1) (λ q. h.1.0 (sym q))

      by_type : DeclaresTop p (parent p i) e → IsBeside p t i d
      by_type h = beside e (inr (h, refl)) (λ q. type_no_import p (parent p i) importing.StaticSingle i (subst (λ k. IsType p k) q h.top.type) own)

  pub fault_tells : (local : IsLocal p) (statics : code.Statics) → AreTwins statics.types.rows (IsBrought p t (length p)) → AreTwins statics.sources.rows (IsBringing p t (length p)) → (members : List ℕ) (empty clash : Bool)
      → Lists members (ImportedBy p t (parent p i) i) → empty ≡ nat_eq (length members) 0 → clash ≡ list_any (is_clash p statics (parent p i) (name_row p i) i) members → (empty || clash) ≡ has_static_import_fault p t i
  fault_tells local statics types sources members empty clash listed none any = one_test (empty || clash) (has_static_import_fault p t i) (StaticImportFault p t i)
      (either (like (none_tells members empty listed none) (λ h. (own, h)) (λ h. h.1)) (subst (λ b. Decides b (StaticClash p t i)) (sym any) (like any_tells clash_out clash_into)))
      (static_import_fault_tells p t (headed_from_local p local) i)
    where
      one_tells : (d : ℕ) → Decides (is_clash p statics (parent p i) (name_row p i) i d) (IsBeside p t i d)
      one_tells d = like (both (type_tells p d) (both (other_tells types (parent p i) (name_row p i) d) (other_tells sources (parent p i) (name_row p i) i)))
          (λ h. record { type = h.0; other = h.1.0.0; brought = h.1.0.1.0; apart = h.1.0.1.1; source = h.1.1.0; bringing = h.1.1.1.0; further = h.1.1.1.1 })
          (λ b. (b.type, ((b.other, (b.brought, b.apart)), (b.source, (b.bringing, b.further)))))

      any_tells : Decides (list_any (is_clash p statics (parent p i) (name_row p i) i) members) ((d : ℕ) × ImportedBy p t (parent p i) i d × IsBeside p t i d)
      any_tells = some_of (is_clash p statics (parent p i) (name_row p i) i) (IsBeside p t i) one_tells members listed

pub no_fault : (p : Rows) (t : Table) (i : ℕ) → IsLocal p → is_import_label importing.StaticSingle (label p i) ≡ false → false ≡ has_static_import_fault p t i
no_fault p t i local other = one_test false (has_static_import_fault p t i) (StaticImportFault p t i) ((λ e. absurd (false≢true e)), (λ k. absurd (⊎_elim (λ h. never h.0) (λ h. never h.0) k)))
    (static_import_fault_tells p t (headed_from_local p local) i)
  where
    never : ImportOf p (parent p i) importing.StaticSingle i → ⊥
    never h = false≢true (sym other ∙ import_label p (parent p i) importing.StaticSingle i h)
