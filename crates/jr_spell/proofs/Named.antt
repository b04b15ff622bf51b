-- What is found behind a type, in a package and alone is what the definitions find there.
use Rattle.std.proofs.Common.{◌≡◌, refl, sym, ◌∙◌, ap, subst, ℕ, ◌<◌, ◌||◌, List, [], ◌∷◌, length, Option, Some, None, Result, IfOk, append-nil}
use Rattle.std.proofs.lemmas.Bool.{false≢true}
use Rattle.std.proofs.lemmas.Bool.Decides.{Decides-eqb}
use Rattle.std.proofs.lemmas.Option.{none-some, same_Some}
use Rattle.std.proofs.lemmas.Slice.Eq.{bytes_eq-Decides}
use Rattle.jr_base.specs.declared.text.Text.{Text}
use Rattle.jr_tree.specs.declared.label.Role.{Role}
use Rattle.jr_tree.specs.declared.label.Role.TheVariants as role
use Rattle.jr_tree.specs.declared.label.NameKind.{NameKind}
use Rattle.jr_tree.specs.declared.label.NameKind.TheVariants as kind
use Rattle.jr_tree.specs.Rows.{Rows, name, role_at}
use Rattle.jr_defs.specs.declared.referent.Space.TheVariants as space
use Rattle.jr_defs.specs.declared.referent.Referent.{Referent}
use Rattle.jr_defs.specs.Referents.{Table, IsAnswer}
use Rattle.jr_defs.specs.Declarations as def
use Rattle.jr_defs.specs.Packages.{spelled, TypeOfPackage}
use Rattle.jr_plain.specs.Headed.{IsHeaded}
use Rattle.jr_plain.specs.Search.{has, Lists}
use Rattle.jr_plain.specs.Lists.{at_level}
use Rattle.jr_plain.specs.Referents.{answer_of}
use Rattle.jr_plain.proofs.Headed.{headed_from_local}
use Rattle.jr_plain.proofs.Tests.{never, like}
use Rattle.jr_plain.proofs.Listed.{at_level_has}
use Rattle.jr_plain.proofs.Answered.{answer_is}
use Rattle.jr_places.specs.Names.{name_row}
use Rattle.jr_members.specs.declared.declared.MemberKind.TheVariants as member
use Rattle.jr_members.specs.Each.{ListsEach}
use Rattle.jr_members.specs.Held.{IsMemberAs}
use Rattle.jr_lookup.specs.Outward.{IsNumberOf}
use Rattle.jr_lookup.specs.Sights.{IsTopNamed}
use Rattle.jr_lookup.proofs.Looking.{number_of}
use Rattle.jr_lookup.proofs.Referring.{as_named, named_as}
use Rattle.jr_spelling_rules.specs.Naming.{Before, at_start, in_package, in_type, look_up}
use Rattle.jr_spelling_rules.specs.Behind.{FieldBehind, TypeBehind, NamedBehind}
use Rattle.jr_spell.specs.declared.resolving.Before.{Before as Code}
use Rattle.jr_spell.specs.declared.resolving.Before.TheVariants as code
use Rattle.jr_spell.specs.declared.speller.Speller.{Speller}
use Rattle.jr_spell.specs.declared.paths.Paths.{Paths}
use Rattle.jr_spell.specs.Packaging.{IsNumber, NoneBegins, IsPath}
use Rattle.jr_spell.specs.Spellers.{rows_of, IsWholeSpeller}
use Rattle.jr_spell.specs.Standing.{StandsFor}

pub headed : (s : Speller) → IsWholeSpeller s → IsHeaded (rows_of s)
headed s whole = headed_from_local (rows_of s) whole.sight_is.world.seen.placed.local

pub number_is : (p : Rows) (n : ℕ) → IsNumber p n → IsNumberOf p n (name p n)
number_is p n number = subst (λ k. IsNumberOf p k (name p n)) number.first (number_of p n)

module _ (p : Rows) (t : Table) (n : ℕ) (number : IsNumber p n) where
  abbrev x : Text
  x = name p n

  named : (d : ℕ) → name_row p d ≡ n → name p d ≡ x
  named d e = (bytes_eq-Decides (name p d) x).0 (sym (number_is p n number d) ∙ (Decides-eqb (name_row p d) n).1 e)

  numbered : (d : ℕ) → name p d ≡ x → name_row p d ≡ n
  numbered d e = (Decides-eqb (name_row p d) n).0 (number_is p n number d ∙ (bytes_eq-Decides (name p d) x).1 e)

  type_role : (r : Role) → def.IsOf space.Type r → r ≡ role.Type
  type_role role.Type h = refl
  type_role _ h = absurd h

  declares_type : (d : ℕ) → role_at p d ≡ role.Type → name p d ≡ x → def.Declares p space.Type x d
  declares_type d type e = record { of_kind = subst (def.IsOf space.Type) (sym type) tt; named = e }

  pub fields_behind : (c : ℕ) (all : List ℕ) → ListsEach all (IsMemberAs p t member.Field c n) → Lists all (FieldBehind p t x (in_type c))
  fields_behind c all each d = like (each.lists d) (λ m. FieldBehind.member (as_named p t x 0 n (number_is p n number) c d m)) by
    where
      by : FieldBehind p t x (in_type c) d → IsMemberAs p t member.Field c n d
      by (FieldBehind.member m) = named_as p t x 0 n (number_is p n number) c d m

  pub types_behind : (c : ℕ) (all : List ℕ) → ListsEach all (IsMemberAs p t member.Type c n) → Lists all (TypeBehind p t x (in_type c))
  types_behind c all each d = like (each.lists d) (λ m. TypeBehind.member (record { member = m.member; declares = declares_type d m.of.role_is (named d m.of.named) })) by
    where
      by : TypeBehind p t x (in_type c) d → IsMemberAs p t member.Type c n d
      by (TypeBehind.member m) = record { of = record { role_is = type_role (role_at p d) m.declares.of_kind; named = numbered d m.declares.named }; member = m.member }

  pub tops_behind : (r : ℕ) (path : List Text) (all : List ℕ) → spelled p r ≡ path → Lists all (IsTopNamed p (spelled p r) n) → Lists all (TypeBehind p t x (in_package path))
  tops_behind r path all e lists d = like (lists d) (λ h. TypeBehind.top (subst (λ path. TypeOfPackage p path d) e h.of) (declares_type d h.of.top.type (named d h.named))) by
    where
      by : TypeBehind p t x (in_package path) d → IsTopNamed p (spelled p r) n d
      by (TypeBehind.top h k) = record { of = subst (λ path. TypeOfPackage p path d) (sym e) h; named = numbered d k.named }

  pub no_tops : (path : List Text) (all : List ℕ) → all ≡ [] → NoneBegins p path → Lists all (TypeBehind p t x (in_package path))
  no_tops path all none unknown = subst (λ all. Lists all (TypeBehind p t x (in_package path))) (sym none) (λ d. like never (λ h. absurd h) by)
    where
      by : {d : ℕ} → TypeBehind p t x (in_package path) d → ⊥
      by (TypeBehind.top h k) = unknown h.inside.unit [] h.inside.holds.unit (h.inside.has_path ∙ sym (append-nil path))

-- ---- by the kind of the name

module _ (p : Rows) (t : Table) (x : Text) where
  pub by_kind : (b : Before) (all : List ℕ) (k j : NameKind) → j ≡ k → Lists all (NamedBehind p t x b k) → Lists all (NamedBehind p t x b j)
  by_kind b all k j e lists = subst (λ k. Lists all (NamedBehind p t x b k)) (sym e) lists

  pub as_variables : (b : Before) (all : List ℕ) → Lists all (FieldBehind p t x b) → Lists all (NamedBehind p t x b kind.Variable)
  as_variables b all lists d = like (lists d) (λ h. NamedBehind.variable h) (λ h. elim h [ NamedBehind.variable v ↦ v ])

  pub as_types : (b : Before) (all : List ℕ) → Lists all (TypeBehind p t x b) → Lists all (NamedBehind p t x b kind.Type)
  as_types b all lists d = like (lists d) (λ h. NamedBehind.type h) (λ h. elim h [ NamedBehind.type v ↦ v ])

  pub as_package_or_types : (b : Before) (all : List ℕ) → Lists all (TypeBehind p t x b) → Lists all (NamedBehind p t x b kind.PackageOrType)
  as_package_or_types b all lists d = like (lists d) (λ h. NamedBehind.package_or_type h) (λ h. elim h [ NamedBehind.package_or_type v ↦ v ])

  pub as_none : (b : Before) (all : List ℕ) → all ≡ [] → Lists all (NamedBehind p t x b kind.Package)
  as_none b all none = subst (λ all. Lists all (NamedBehind p t x b kind.Package)) (sym none) (λ d. like never (λ h. absurd h) (λ h. elim h [ ]))

  -- no variable is a member of a package
  pub as_no_variables : (path : List Text) (all : List ℕ) (k : NameKind) → all ≡ [] → (k ≡ kind.Type → ⊥) → (k ≡ kind.PackageOrType → ⊥) → (k ≡ kind.Ambiguous → ⊥) → Lists all (NamedBehind p t x (in_package path) k)
  as_no_variables path all k none a b c = subst (λ all. Lists all (NamedBehind p t x (in_package path) k)) (sym none) (λ d. like never (λ h. absurd h) by)
    where
      no_field : {d : ℕ} → FieldBehind p t x (in_package path) d → ⊥
      no_field h = elim h [ ]

      on : {d : ℕ} (j : NameKind) → j ≡ k → NamedBehind p t x (in_package path) j d → ⊥
      on kind.Variable e (NamedBehind.variable h) = no_field h
      on kind.Type e (NamedBehind.type h) = a (sym e)
      on kind.PackageOrType e (NamedBehind.package_or_type h) = b (sym e)
      on kind.Ambiguous e (NamedBehind.first_field h) = no_field h
      on kind.Ambiguous e (NamedBehind.then_type n h) = c (sym e)
      on kind.Package e h = elim h [ ]

      by : {d : ℕ} → NamedBehind p t x (in_package path) k d → ⊥
      by h = on k refl h

  pub as_ambiguous_in : (path : List Text) (all : List ℕ) → Lists all (TypeBehind p t x (in_package path)) → Lists all (NamedBehind p t x (in_package path) kind.Ambiguous)
  as_ambiguous_in path all lists d = like (lists d) (λ h. NamedBehind.then_type (λ e f. no_field f) h) by
    where
      no_field : {e : ℕ} → FieldBehind p t x (in_package path) e → ⊥
      no_field h = elim h [ ]

      by : NamedBehind p t x (in_package path) kind.Ambiguous d → TypeBehind p t x (in_package path) d
      by (NamedBehind.first_field f) = absurd (no_field f)
      by (NamedBehind.then_type n h) = h

  -- a first item
  item_of : (F : ℕ → Type 0) (all : List ℕ) → Lists all F → (length all ≡ 0 → ⊥) → (e : ℕ) × F e
  item_of F [] lists some = absurd (some refl)
  item_of F (e ∷ rest) lists some = (e, (lists e).0 (ap (λ b. b || has rest e) ((Decides-eqb e e).1 refl)))

  pub first_ambiguous : (b : Before) (all : List ℕ) → Lists all (FieldBehind p t x b) → (length all ≡ 0 → ⊥) → Lists all (NamedBehind p t x b kind.Ambiguous)
  first_ambiguous b all lists some d = like (lists d) (λ h. NamedBehind.first_field h) by
    where
      by : NamedBehind p t x b kind.Ambiguous d → FieldBehind p t x b d
      by (NamedBehind.first_field f) = f
      by (NamedBehind.then_type n h) = let it = item_of (FieldBehind p t x b) all lists some in absurd (n it.0 it.1)

  pub then_ambiguous : (b : Before) (fields all : List ℕ) → Lists fields (FieldBehind p t x b) → fields ≡ [] → Lists all (TypeBehind p t x b) → Lists all (NamedBehind p t x b kind.Ambiguous)
  then_ambiguous b fields all none empty lists d = like (lists d) (λ h. NamedBehind.then_type (λ e f. no_field e f) h) by
    where
      no_field : (e : ℕ) → FieldBehind p t x b e → ⊥
      no_field e f = false≢true ((subst (λ xs. Lists xs (FieldBehind p t x b)) empty none e).1 f)

      by : NamedBehind p t x b kind.Ambiguous d → TypeBehind p t x b d
      by (NamedBehind.first_field f) = absurd (no_field d f)
      by (NamedBehind.then_type n h) = h

-- ---- the answer

pub answer_listed : (P : ℕ → Type 0) (rows : List ℕ) (other a : Referent) → Lists rows P → a ≡ answer_of (at_level None rows) other → IsAnswer (λ d l. P d × (l ≡ None)) (λ r. r ≡ other) a
answer_listed P rows other a lists e = subst (IsAnswer (λ d l. P d × (l ≡ None)) (λ r. r ≡ other)) (sym e)
    (answer_is (λ d l. P d × (l ≡ None)) (λ r. r ≡ other) (at_level None rows) (λ d l. at_level_has None rows lists (d, l)) other (λ never. refl))

-- what is found behind one is found behind the same
pub carried : {E : Type 0} (p : Rows) (t : Table) (o : ℕ) (k : NameKind) (x : Text) (r : Result Referent E) (b e : Before) → b ≡ e → IfOk r (λ a. a ≡ look_up p t o e k x) → IfOk r (λ a. a ≡ look_up p t o b k x)
carried p t o k x r b e same h = subst (λ q. IfOk r (λ a. a ≡ look_up p t o q k x)) (sym same) h

-- ---- what stands before it

pub stands_nothing : {s : Speller} {a : Code} {b : Before} → StandsFor s a b → a ≡ code.Nothing → b ≡ at_start
stands_nothing StandsFor.nothing e = refl
stands_nothing (StandsFor.of_package h) e = cc
stands_nothing StandsFor.of_type e = cc

pub stands_type : {s : Speller} {a : Code} {b : Before} (c : ℕ) → StandsFor s a b → a ≡ code.OfType c → b ≡ in_type c
stands_type c StandsFor.nothing e = cc
stands_type c (StandsFor.of_package h) e = cc
stands_type c StandsFor.of_type e = cc

same_package : {a b : Option ℕ} → code.Package a ≡ code.Package b → a ≡ b
same_package e = cc

pub stands_package : {s : Speller} {a : Code} {b : Before} (at : Option ℕ) → StandsFor s a b → a ≡ code.Package at → (path : List Text) × (b ≡ in_package path) × IsPath (rows_of s) s.paths.now at path
stands_package at StandsFor.nothing e = absurd cc
stands_package {s} at (StandsFor.of_package {at = other} {path = path} h) e = (path, refl, subst (λ o. IsPath (rows_of s) s.paths.now o path) (same_package e) h)
stands_package at StandsFor.of_type e = absurd cc

pub path_row : {p : Rows} {paths : Paths} {at : Option ℕ} {path : List Text} (r : ℕ) → IsPath p paths at path → at ≡ Some r → (r < length p) × (spelled p r ≡ path)
path_row {p} r (IsPath.known {r = q} reach lt is) h = let same = same_Some q r h in (subst (λ k. k < length p) same lt, ap (spelled p) (sym same) ∙ is)
path_row r (IsPath.unknown none) h = absurd (none-some r h)

pub path_none : {p : Rows} {paths : Paths} {at : Option ℕ} {path : List Text} → IsPath p paths at path → at ≡ None → NoneBegins p path
path_none (IsPath.known {r = q} reach lt is) h = absurd (none-some q (sym h))
path_none (IsPath.unknown none) h = none
