-- A program corresponds to itself, under tables that agree.
use Rattle.std.proofs.Common.{◌≡◌, ◌⊎◌, ℕ, suc, zero, ◌+◌, ◌<◌, ◌≤◌, refl, sym, ◌∙◌, ap, subst, inl, inr, arith, List, [], ◌∷◌, length}
use Rattle.std.proofs.lemmas.List.{get_or_past}
use Rattle.std.specs.Prelude.{Option, Some, None}
use Rattle.jr_base.specs.declared.text.Text.{Text}
use Rattle.jr_tree.specs.declared.label.Label.{Label}
use Rattle.jr_tree.specs.declared.label.Label.TheVariants as is
use Rattle.jr_tree.specs.declared.label.ImportKind.{ImportKind}
use Rattle.jr_tree.specs.declared.label.ImportKind.TheVariants as importing
use Rattle.jr_tree.specs.declared.label.NameKind.{NameKind}
use Rattle.jr_tree.specs.declared.label.NameKind.TheVariants as kind
use Rattle.jr_tree.specs.declared.label.Role.TheVariants as role
use Rattle.jr_tree.specs.declared.label.Sought.{Sought}
use Rattle.jr_tree.specs.declared.label.Sought.TheVariants as sought
use Rattle.jr_tree.specs.Labels.{sought_by}
use Rattle.jr_tree.specs.Rows.{Rows, label, name, parent, end, role_at, sought_at}
use Rattle.jr_defs.specs.declared.referent.Element.{Element}
use Rattle.jr_defs.specs.declared.referent.Element.TheVariants as element
use Rattle.jr_defs.specs.declared.referent.RowType.{RowType}
use Rattle.jr_defs.specs.declared.referent.Referent.{Referent}
use Rattle.jr_defs.specs.declared.referent.Referent.TheVariants.{Unbound, Ambiguous, ArrayLength, Package, Declared}
use Rattle.jr_defs.specs.declared.referent.Space.TheVariants as space
use Rattle.jr_defs.specs.Referents.{Table, IsAnswer, one, none, several}
use Rattle.jr_defs.specs.Declarations.{Declares, IsType, IsClass, IsClassLabel, IsInterface, IsOf}
use Rattle.jr_defs.specs.Enclosing.{InBody, InTopLevel}
use Rattle.jr_defs.specs.Types.{NamesType, TypeAt, HasType, ParameterTypes, Parameters, array}
use Rattle.jr_defs.specs.Supertypes.{Super, SuperAt, Superclass, NamesSuperclass, NamesSuperinterface}
use Rattle.jr_defs.specs.Members.{MemberOf}
use Rattle.jr_defs.specs.Imports.{ImportOf, ImportNames, SingleImport, ImportedBy, StaticImport, OnDemandOf, OnDemandImport}
use Rattle.jr_defs.specs.Scope.{Imported, HasScope}
use Rattle.jr_defs.specs.Headers.{NamesHeader}
use Rattle.jr_defs.specs.Lookup.{VisibleThrough, SimpleCandidate, TypeBefore, QualifiedCandidate, Candidate, Otherwise, LookFor, Look, PackageBefore}
use Rattle.jr_defs.specs.Laws.{SameHeaders}
use Rattle.jr_defs.specs.Formed.{SeeksType, IsNameLabel, SeeksKind, NamesTypeFirst, IsFormed}
use Rattle.jr_defs.specs.Correspondence.{IsDeclared, Alike, Carries, Sees, Places, ImportsGo, Asks, IsRead, IsScoped, IsCall, Corresponds, moved, moved_level, moved_element, moved_type, moved_types, moved_receiver}
use Rattle.jr_defs.proofs.CarryMembers.{type_declared, member_over}
use Rattle.jr_defs.proofs.CarryLookup.{class_type_label}
use Rattle.jr_defs.proofs.Carry.{look_carries}

abbrev pub same : ℕ → ℕ
same n = n

pub level_same : (l : Option ℕ) → moved_level same l ≡ l
level_same None = refl
level_same (Some c) = refl

pub moved_same : (a : Referent) → moved same a ≡ a
moved_same Unbound = refl
moved_same Ambiguous = refl
moved_same ArrayLength = refl
moved_same Package = refl
moved_same (Declared d l) = ap (λ l. Declared d l) (level_same l)

element_same : (e : Element) → moved_element same e ≡ e
element_same element.Boolean = refl
element_same element.Byte = refl
element_same element.Short = refl
element_same element.Char = refl
element_same element.Int = refl
element_same element.Long = refl
element_same element.Null = refl
element_same element.Void = refl
element_same (element.Class c) = refl

pub type_same : (a : RowType) → moved_type same a ≡ a
type_same a = ap (λ e. array e a.dims) (element_same a.element)

pub types_same : (all : List RowType) → moved_types same all ≡ all
types_same [] = refl
types_same (a ∷ all) = let x = type_same a in let y = types_same all in cc

pub receiver_same : (r : Option RowType) → moved_receiver same r ≡ r
receiver_same None = refl
receiver_same (Some a) = ap (λ a. Some a) (type_same a)

-- ---- declarations

pub alike : (p : Rows) → Alike p p same same
alike p = record {
  label_same = λ n k. refl;
  name_same = λ n k. refl;
  back = λ n k. refl;
  declared = λ c d h. h;
  constructor = λ c k h. h;
  one_list = λ d e h. h;
  access_same = λ d k. refl;
  same_package = λ m n i j h. h;
  of_path = λ path d h. h;
  prelude = λ x c h. h;
}

pub turned_headers : (p : Rows) (t u : Table) → SameHeaders p t u → SameHeaders p u t
turned_headers p t u h = record { at = λ c n k. sym (h.at c n k); types = λ c n s l k e. h.types c n s l k (h.at c n k ∙ e) }

super_at_same : (p : Rows) (t u : Table) → SameHeaders p t u → (c n s : ℕ) → SuperAt p t c n s → SuperAt p u c n s
super_at_same p t u h c n s (SuperAt.class k e) = SuperAt.class k (sym (h.at c n (inl k)) ∙ e)
super_at_same p t u h c _ s (SuperAt.implied k e) = SuperAt.implied k e
super_at_same p t u h c n s (SuperAt.interface k e) = SuperAt.interface k (sym (h.at c n (inr k)) ∙ e)

super_type : (p : Rows) (t u : Table) → SameHeaders p t u → (c n s : ℕ) → SuperAt p t c n s → IsType p s
super_type p t u h c n s (SuperAt.class {level = l} k e) = h.types c n s l (inl k) e
super_type p t u h c _ s (SuperAt.implied k e) = e.type
super_type p t u h c n s (SuperAt.interface {level = l} k e) = h.types c n s l (inr k) e

superclass_same : (p : Rows) (t u : Table) → SameHeaders p t u → (c s : ℕ) → Superclass p t c s → Superclass p u c s
superclass_same p t u h c s (Superclass.named {n = n} k e) = Superclass.named k (sym (h.at c n (inl k)) ∙ e)
superclass_same p t u h c s (Superclass.implied k e) = Superclass.implied k e

pub carries : (p : Rows) (t u : Table) → SameHeaders p t u → Carries p t p u same same (IsType p) (IsType p)
carries p t u h = record {
  alike = alike p;
  known = λ c k. k;
  goes = λ c k. k;
  super_at = λ c n s k w. super_at_same p t u h c n s w;
  super_known = λ c n s k w. super_type p t u h c n s w;
  place_back = λ c n s k w. refl;
  place_order = λ c m n r s k a b le. le;
  superclass = λ c s k w. superclass_same p t u h c s w;
}

pub super_wide : (p : Rows) (t : Table) → IsFormed p → (c r : ℕ) → Super p t c r → IsType p c
super_wide p t formed c r h = by_place h.place h.at
  where
    by_place : (n : ℕ) → SuperAt p t c n r → IsType p c
    by_place n (SuperAt.class k e) = formed.header c n (inl k)
    by_place _ (SuperAt.implied k e) = class_type_label (label p c) k.class
    by_place n (SuperAt.interface k e) = formed.header c n (inr k)

-- ---- places

-- what imports bring to the place is the same
abbrev pub SameImports : Rows → Table → Table → ℕ → Type 0
SameImports p t u o = ImportsGo p t p u same o o

pub places : (p : Rows) (t u : Table) (C : ℕ → Type 0) (o : ℕ) → ((c : ℕ) → InBody p c o → C c) → Places p t p u same C o o
places p t u C o known = record {
  local = λ d w. w;
  parameter = λ d w. w;
  labeled = λ d w. w;
  body = λ c w. w;
  body_known = known;
  order = λ m n i j le. le;
  unit = λ d w. w;
  other = λ d w. w;
  same_top = λ d k w. w;
  same_package = λ d k w. w;
  super_call = λ e. e;
  instance = λ c w. w;
  own_body = λ c w. w;
}

-- the tables agree on the names of imports
pub record SameImportNames (p : Rows) (t u : Table) : Type 0 where
  pub at : (i : ℕ) (form : ImportKind) → label p i ≡ is.Import form → t (i + 1) ≡ u (i + 1)

pub import_names : (p : Rows) (t u : Table) → SameImportNames p t u → (i c : ℕ) (form : ImportKind) → label p i ≡ is.Import form → ImportNames p t i c → ImportNames p u i c
import_names p t u h i c form k w = record { level = w.level; refers = sym (h.at i form k) ∙ w.refers; type = w.type }

pub same_imports : (p : Rows) (t u : Table) → SameHeaders p t u → SameImportNames p t u → (o : ℕ) → SameImports p t u o
same_imports p t u h names o = record { single = singles; static = statics; demanded = demandeds }
  where
    singles : (d : ℕ) → Imported p (SingleImport p t) o d → Imported p (SingleImport p u) o d
    singles d w = record {
      unit = w.unit;
      holds = w.holds;
      brings = record {
        import = w.brings.import;
        is_import = w.brings.is_import;
        foreign = w.brings.foreign;
        names = import_names p t u names w.brings.import d importing.Single w.brings.is_import.import w.brings.names;
      };
    }

    statics : (d : ℕ) → (role_at p d ≡ role.Method → ⊥) → Imported p (StaticImport p t) o d → Imported p (StaticImport p u) o d
    statics d k w = let b = w.brings.imports in record {
      unit = w.unit;
      holds = w.holds;
      brings = record {
        import = w.brings.import;
        imports = record {
          is_import = b.is_import;
          of_type = b.of_type;
          static = b.static;
          named = b.named;
          reached = b.reached;
          names = import_names p t u names w.brings.import b.of_type importing.StaticSingle b.is_import.import b.names;
          member = member_over p t p u same same (IsType p) (IsType p) (carries p t u h) (carries p u t (turned_headers p t u h)) b.of_type d b.names.type (λ m. absurd (k m)) b.member;
        };
      };
    }

    demanded_of : (v d : ℕ) → OnDemandOf p t v d → OnDemandOf p u v d
    demanded_of v d (OnDemandOf.of_package {i = i} k e w) = OnDemandOf.of_package k (sym (names.at i importing.OnDemand k.import) ∙ e) w
    demanded_of v d (OnDemandOf.of_type {i = i} {c = c} k n m ty) = OnDemandOf.of_type k (import_names p t u names i c importing.OnDemand k.import n) m ty
    demanded_of v d (OnDemandOf.lang w) = OnDemandOf.lang w

    demandeds : (d : ℕ) → Imported p (OnDemandImport p t) o d → Imported p (OnDemandImport p u) o d
    demandeds d w = record { unit = w.unit; holds = w.holds; brings = record { brings = demanded_of w.unit d w.brings.brings; reached = w.brings.reached } }

-- ---- searches for types

no_read : (s : Sought) → SeeksType s → IsRead s → ⊥
no_read (sought.Simple kind.Type) h r = r
no_read (sought.Simple kind.PackageOrType) h r = r
no_read (sought.Qualified kind.Type) h r = r
no_read (sought.Qualified kind.PackageOrType) h r = r
no_read _ h r = h

no_call : (s : Sought) → SeeksType s → IsCall s → ⊥
no_call (sought.Simple kind.Type) h r = r
no_call (sought.Simple kind.PackageOrType) h r = r
no_call (sought.Qualified kind.Type) h r = r
no_call (sought.Qualified kind.PackageOrType) h r = r
no_call _ h r = h

-- the tables agree on the first child
abbrev pub SameFirst : Rows → Table → Table → ℕ → Type 0
SameFirst p t u o = parent p (o + 1) ≡ o → t (o + 1) ≡ u (o + 1)

pub named_same : (p : Rows) (t u : Table) (o : ℕ) → SameFirst p t u o → (c : ℕ) → NamesType p t o c → NamesType p u o c
named_same p t u o h c w = record { first = w.first; level = w.level; refers = sym (h w.first) ∙ w.refers; type = w.type }

pub packaged_same : (p : Rows) (t u : Table) (o : ℕ) → SameFirst p t u o → (path : List Text) → PackageBefore p t o path → PackageBefore p u o path
packaged_same p t u o h path w = record { first = w.first; refers = sym (h w.first) ∙ w.refers; spells = w.spells }

-- with the types whose supertypes are known, at a name of a type
pub type_search_in : (p : Rows) (t u : Table) (K L : ℕ → Type 0) (C : ℕ → Type 0) (o : ℕ) → SeeksType (sought_at p o) → Carries p t p u same same C C
    → ((c : ℕ) → InBody p c o → C c) → (IsScoped (sought_at p o) → SameImports p t u o) → SameFirst p t u o → ((c : ℕ) → NamesType p t o c → C c)
    → Corresponds p t K p u L same same C C o o (sought_at p o)
type_search_in p t u K L C o seeks over known imports first named = record {
  carries = over;
  places = places p t u C o known;
  imports = imports;
  asks = record {
    receiver = λ r. absurd (no_read (sought_at p o) seeks r);
    receiver_known = λ r. absurd (no_read (sought_at p o) seeks r);
    receiver_back = λ r. absurd (no_read (sought_at p o) seeks r);
    array = λ r. absurd (no_read (sought_at p o) seeks r);
    named = named_same p t u o first;
    named_known = named;
    packaged = packaged_same p t u o first;
    arguments = λ r. absurd (no_call (sought_at p o) seeks r);
    arguments_back = λ r. absurd (no_call (sought_at p o) seeks r);
    imported = λ r. absurd (no_call (sought_at p o) seeks r);
  };
  sees = λ r. absurd (no_call (sought_at p o) seeks r);
  wide = λ r. absurd (no_call (sought_at p o) seeks r);
}

pub type_search : (p : Rows) (t u : Table) (K L : ℕ → Type 0) (o : ℕ) → SeeksType (sought_at p o) → SameHeaders p t u → SameImports p t u o → SameFirst p t u o
    → Corresponds p t K p u L same same (IsType p) (IsType p) o o (sought_at p o)
type_search p t u K L o seeks h imports first =
    type_search_in p t u K L (IsType p) o seeks (carries p t u h) (λ c w. w.of_type.type) (λ s. imports) first (λ c w. w.type)
