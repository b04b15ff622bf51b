-- The tests of what is declared twice tell what they are to tell.
use Rattle.std.proofs.Common.{◌≡◌, ◌⊎◌, refl, sym, ◌∙◌, ap, inl, inr, ⊎_elim, arith, ℕ, zero, suc, ◌<◌, ◌≤◌, Bool, ◌&&◌, List, [], ◌∷◌, ◌++◌, length, Option, Some, None, nat_lt, Decides}
use Rattle.std.proofs.lemmas.Bool.{false≢true, cases_lt, cases_eq}
use Rattle.std.proofs.lemmas.Bool.Decides.{Decides-ltb}
use Rattle.std.proofs.lemmas.Option.{none-some, same_Some}
use Rattle.std.proofs.lemmas.Slice.Eq.{bytes_eq-Decides}
use Rattle.jr_base.specs.declared.text.Text.{Text}
use Rattle.jr_tree.specs.declared.label.Label.TheVariants as is
use Rattle.jr_tree.specs.declared.label.Role.{Role}
use Rattle.jr_tree.specs.declared.label.Role.TheVariants as role
use Rattle.jr_tree.specs.Labels.{role_of}
use Rattle.jr_tree.specs.Rows.{Rows, label, name, parent, role_at}
use Rattle.jr_tree.specs.Tree.{IsTree}
use Rattle.jr_defs.specs.declared.referent.RowType.{RowType}
use Rattle.jr_defs.specs.Referents.{Table}
use Rattle.jr_defs.specs.Declarations.{IsType}
use Rattle.jr_defs.specs.Enclosing.{holder, BodyOf, DeclaredIn, ConstructorOf, IsTopLevel}
use Rattle.jr_defs.specs.Packages.{InUnit, SamePackage, package_of}
use Rattle.jr_defs.specs.Types.{SameSignature}
use Rattle.jr_defs.specs.Scope.{InLocalScope, InParameterScope, InLabelScope, InOneList}
use Rattle.jr_defs.specs.Rules.{Twice, SameParameters, IsSubpackage, Encloses}
use Rattle.jr_plain.specs.Enclosing.{is_declared_in, declaring_type, is_constructor_of, constructed_class}
use Rattle.jr_plain.specs.Types.{parameters, are_same_types}
use Rattle.jr_plain.proofs.Tests.{never, both, either, opposite, like}
use Rattle.jr_plain.proofs.Searches.{some}
use Rattle.jr_plain.proofs.Same.{role_tells, path_tells, types_tell}
use Rattle.jr_plain.proofs.Bounds.{parent_past, bounded, type_below, constructor_below, body_below, unit_below}
use Rattle.jr_plain.proofs.Declared.{type_tells}
use Rattle.jr_plain.proofs.Enclosed.{unit_label_tells, declared_in_tells, declaring_finds, declared_below, constructor_tells, constructed_finds, top_level_tells}
use Rattle.jr_plain.proofs.Modified.{found_tells}
use Rattle.jr_plain.proofs.Packaged.{in_unit_tells, same_package_tells}
use Rattle.jr_plain.proofs.Typed.{parameters_find, signature_tells}
use Rattle.jr_plain.proofs.Scoped.{local_scope_tells, parameter_scope_tells, label_scope_tells, one_list_tells}
use Rattle.jr_name_rules.specs.Found.{found, is_same_name}
use Rattle.jr_name_rules.specs.DeclarationTests as plain
use Rattle.jr_name_rules.proofs.Found.{same_name_tells}

-- ---- members

abbrev BeforeInBody : Rows → Role → ℕ → ℕ → Type 0
BeforeInBody p kind d e = ((role_at p d ≡ kind) × (d < e)) × ((c : ℕ) × DeclaredIn p c d × DeclaredIn p c e)

before_in_body_tells : (p : Rows) (kind : Role) (d e : ℕ) → Decides (plain.is_before_in_body p kind d e) (BeforeInBody p kind d e)
before_in_body_tells p kind d e = both (both (role_tells (role_at p d) kind) (Decides-ltb d e))
    (found_tells (λ c. DeclaredIn p c d) (λ c. is_declared_in p c e) (λ c. DeclaredIn p c e) (λ c. declared_in_tells p c e) (declaring_type p d) (declaring_finds p d))

module _ (p : Rows) (kind : Role) (test : ℕ → ℕ → Bool) (Q : ℕ → ℕ → Type 0) (tells : (d e : ℕ) → Decides (test d e) (Q d e)) where
  pub second_tells : (e : ℕ) → Decides (plain.is_second p kind test e) ((d : ℕ) × Twice p kind d e × Q d e)
  second_tells e = like
      (both (role_tells (role_at p e) kind)
      (some (λ d. plain.is_before_in_body p kind d e && test d e) (λ d. BeforeInBody p kind d e × Q d e) (λ d. both (before_in_body_tells p kind d e) (tells d e)) (length p)
      (λ d h. declared_below p h.0.1.0 d h.0.1.1)))
      (λ h. (h.1.0, record { of_type = h.1.1.0.1.0; first = h.1.1.0.1.1; second = h.1.1.0.1.2; kinds = (h.1.1.0.0.0, h.0); before = h.1.1.0.0.1 }, h.1.1.1))
      (λ h. (h.1.kinds.1, (h.0, (((h.1.kinds.0, h.1.before), (h.1.of_type, h.1.first, h.1.second)), h.2))))

pub second_type_tells : (p : Rows) (e : ℕ) → Decides (plain.is_second_type p e) ((d : ℕ) × Twice p role.Type d e × (name p d ≡ name p e))
second_type_tells p e = second_tells p role.Type (is_same_name p) (λ d e. name p d ≡ name p e) (same_name_tells p) e

pub second_field_tells : (p : Rows) (e : ℕ) → Decides (plain.is_second_field p e) ((d : ℕ) × Twice p role.Field d e × (name p d ≡ name p e))
second_field_tells p e = second_tells p role.Field (is_same_name p) (λ d e. name p d ≡ name p e) (same_name_tells p) e

pub second_method_tells : (p : Rows) (t : Table) → IsTree p → (e : ℕ) → Decides (plain.is_second_method p t e) ((d : ℕ) × Twice p role.Method d e × SameSignature p t d e)
second_method_tells p t tree e = second_tells p role.Method _ (SameSignature p t) (λ d e. signature_tells p t d e tree) e

-- two lists of types that are found are the same
same_found : (a b : Option (List RowType)) → Decides (are_same_types a b) ((types : List RowType) × (a ≡ Some types) × (b ≡ Some types))
same_found (Some a) (Some b) = like (types_tell a b) (λ e. (a, refl, ap Some (sym e))) (λ h. same_Some a h.0 h.1 ∙ sym (same_Some b h.0 h.2))
same_found (Some a) None = like never (λ h. absurd h) (λ h. none-some h.0 h.2)
same_found None _ = like never (λ h. absurd h) (λ h. none-some h.0 h.1)

same_parameters_tells : (p : Rows) (t : Table) → IsTree p → (m k : ℕ) → Decides (are_same_types (parameters p t m) (parameters p t k)) (SameParameters p t m k)
same_parameters_tells p t tree m k = like (same_found (parameters p t m) (parameters p t k))
    (λ h. record { types = h.0; first = (parameters_find p t m tree h.0).0 h.1; second = (parameters_find p t k tree h.0).0 h.2 })
    (λ h. (h.types, (parameters_find p t m tree h.types).1 h.first, (parameters_find p t k tree h.types).1 h.second))

abbrev pub SecondConstructor : Rows → Table → ℕ → Type 0
SecondConstructor p t e = (d : ℕ) × ((((c : ℕ) × ConstructorOf p c d × ConstructorOf p c e) × (d < e)) × SameParameters p t d e)

pub second_constructor_tells : (p : Rows) (t : Table) → IsTree p → (e : ℕ) → Decides (plain.is_second_constructor p t e) (SecondConstructor p t e)
second_constructor_tells p t tree e = like
    (both (role_tells (role_at p e) role.Constructor)
    (some (λ d. found (constructed_class p d) (λ c. is_constructor_of p c e) && nat_lt d e && are_same_types (parameters p t d) (parameters p t e))
    (λ d. (((c : ℕ) × ConstructorOf p c d × ConstructorOf p c e) × (d < e)) × SameParameters p t d e)
    (λ d. both (both (found_tells (λ c. ConstructorOf p c d) (λ c. is_constructor_of p c e) (λ c. ConstructorOf p c e) (λ c. constructor_tells p c e) (constructed_class p d) (constructed_finds p d))
    (Decides-ltb d e)) (same_parameters_tells p t tree d e))
    (length p) (λ d h. constructor_below p d h.0.0.1.constructor)))
    (λ h. h.1) (λ h. (h.1.0.0.2.constructor, h))

-- ---- names of types

abbrev pub SecondTopType : Rows → ℕ → Type 0
SecondTopType p e = IsTopLevel p e × ((d : ℕ) × ((IsTopLevel p d × (d < e)) × ((name p d ≡ name p e) × SamePackage p d e)))

second_top_tells : (p : Rows) (e : ℕ) → Decides (plain.is_second_top_type p e) (SecondTopType p e)
second_top_tells p e = both (top_level_tells p e)
    (some _ (λ d. (IsTopLevel p d × (d < e)) × ((name p d ≡ name p e) × SamePackage p d e))
    (λ d. both (both (top_level_tells p d) (Decides-ltb d e)) (both (same_name_tells p d e) (same_package_tells p d e))) (length p) (λ d h. type_below p d h.0.0.type))

pub unnamed_tells : (path : List Text) → Decides (plain.is_unnamed path) (path ≡ [])
unnamed_tells [] = (λ h. refl, λ e. refl)
unnamed_tells (part ∷ more) = (λ h. absurd (false≢true h), λ e. absurd (cc))

abbrev HasSubpackage : Rows → ℕ → Text → Type 0
HasSubpackage p u x = (package_of p u ≡ [] → ⊥) × ((v : ℕ) × ((label p v ≡ is.Unit) × (package_of p v ≡ package_of p u ++ x ∷ [])))

has_subpackage_tells : (p : Rows) (u : ℕ) (x : Text) → Decides (plain.has_subpackage p u x) (HasSubpackage p u x)
has_subpackage_tells p u x = both (opposite (unnamed_tells (package_of p u)))
    (some _ (λ v. (label p v ≡ is.Unit) × (package_of p v ≡ package_of p u ++ x ∷ []))
    (λ v. both (unit_label_tells (label p v)) (path_tells (package_of p v) (package_of p u ++ x ∷ []))) (length p) (λ v h. unit_below p v h.0))

named_as_package_tells : (p : Rows) (d : ℕ) → Decides (plain.is_named_as_package p d) (IsTopLevel p d × IsSubpackage p d)
named_as_package_tells p d = like
    (both (top_level_tells p d)
    (some _ (λ u. InUnit p u d × HasSubpackage p u (name p d)) (λ u. both (in_unit_tells p u d) (has_subpackage_tells p u (name p d))) (length p) (λ u h. unit_below p u h.0.unit)))
    (λ h. (
      h.0,
      record {
        path = package_of p h.1.0;
        inside = record { unit = h.1.0; holds = h.1.1.0; has_path = refl };
        named = h.1.1.1.0;
        unit = h.1.1.1.1.0;
        is_unit = h.1.1.1.1.1.0;
        stands = h.1.1.1.1.1.1;
      },
    ))
    (λ h. let k = h.1 in (
      h.0,
      (
        k.inside.unit,
        (
          k.inside.holds,
          (
            λ e. k.named (sym k.inside.has_path ∙ e),
            (k.unit, (k.is_unit, k.stands ∙ ap (λ path. path ++ name p d ∷ []) (sym k.inside.has_path))),
          ),
        ),
      ),
    ))

-- ---- types round a type

parent_most : (p : Rows) → IsTree p → (n : ℕ) → parent p n ≤ n
parent_most p tree n = ⊎_elim
    (λ lt. ⊎_elim (λ z. let e : parent p n ≡ 0 = ap (parent p) z ∙ tree.root in omega arith) (λ apart. let up = tree.up n lt (omega arith) in omega arith) (cases_eq n 0))
    (λ le. let e = parent_past p n le in omega arith) (cases_lt n (length p))

holder_most : (p : Rows) → IsTree p → (r : Role) (d : ℕ) → holder r p d ≤ d
holder_most p tree role.Field d = let a = parent_most p tree d in let b = parent_most p tree (parent p d) in omega arith
holder_most p tree _ d = parent_most p tree d

not_root : (p : Rows) → IsTree p → (c b : ℕ) → BodyOf p c b → b ≡ 0 → ⊥
not_root p tree c b h z =
    let same : c ≡ b = sym h.inside ∙ ap (parent p) z ∙ tree.root ∙ sym z in let at : role_at p c ≡ role.Nothing = ap role_of (ap (label p) same ∙ h.body) in let type = h.type in cc

-- a type stands before what its body declares
pub declared_after : (p : Rows) → IsTree p → (c d : ℕ) → DeclaredIn p c d → c < d
declared_after p tree c d h =
    let b = holder (role_at p d) p d in let apart = not_root p tree c b h.inside in let lt = body_below p c b h.inside in
    let up = tree.up b lt (⊎_elim (λ z. absurd (apart z)) (λ n. omega arith) (cases_eq b 0)) in let at = h.inside.inside in let most = holder_most p tree (role_at p d) d in omega arith

module _ (p : Rows) (x : Text) where
  -- one of so many types round d has the name
  abbrev InsideWithin : ℕ → ℕ → Type 0
  InsideWithin zero d = ⊥
  InsideWithin (suc rounds) d = (c : ℕ) × DeclaredIn p c d × ((name p c ≡ x) ⊎ InsideWithin rounds c)

  inside_tells : (rounds d : ℕ) → Decides (plain.is_inside p x rounds d) (InsideWithin rounds d)
  inside_tells zero d = never
  inside_tells (suc rounds) d = found_tells (λ c. DeclaredIn p c d) _ (λ c. (name p c ≡ x) ⊎ InsideWithin rounds c)
      (λ c. either (bytes_eq-Decides (name p c) x) (inside_tells rounds c)) (declaring_type p d) (declaring_finds p d)

  inside_out : (rounds d : ℕ) → InsideWithin rounds d → (e : ℕ) × Encloses p e d × (name p e ≡ x)
  inside_out zero d h = absurd h
  inside_out (suc rounds) d h = ⊎_elim (λ e. (h.0, Encloses.next h.1, e)) (λ k. let i = inside_out rounds h.0 k in (i.0, Encloses.further h.1 i.1, i.2)) h.2

  inside_into : IsTree p → (rounds e d : ℕ) → d < rounds → name p e ≡ x → Encloses p e d → InsideWithin rounds d
  inside_into tree zero e d lt named h = absurd (omega arith)
  inside_into tree (suc rounds) e d lt named (Encloses.next k) = (e, k, inl named)
  inside_into tree (suc rounds) e d lt named (Encloses.further {f = f} k h) = let after = declared_after p tree f d k in (f, k, inr (inside_into tree rounds e f (omega arith) named h))

pub inside_its_name_tells : (p : Rows) → IsTree p → (d : ℕ) → Decides (plain.is_inside_its_name p d) (IsType p d × ((e : ℕ) × Encloses p e d × (name p e ≡ name p d)))
inside_its_name_tells p tree d = like (both (type_tells p d) (inside_tells p (name p d) (length p) d)) (λ h. (h.0, inside_out p (name p d) (length p) d h.1))
    (λ h. (h.0, inside_into p (name p d) tree (length p) h.1.0 d (type_below p d h.0) h.1.2 h.1.1))

abbrev pub TypeClash : Rows → ℕ → Type 0
TypeClash p n = ((d : ℕ) × Twice p role.Type d n × (name p d ≡ name p n)) ⊎ (SecondTopType p n
    ⊎ ((IsTopLevel p n × IsSubpackage p n) ⊎ (IsType p n × ((e : ℕ) × Encloses p e n × (name p e ≡ name p n)))))

pub type_clash_tells : (p : Rows) → IsTree p → (n : ℕ) → Decides (plain.has_type_clash p n) (TypeClash p n)
type_clash_tells p tree n = either (second_type_tells p n) (either (second_top_tells p n) (either (named_as_package_tells p n) (inside_its_name_tells p tree n)))

-- ---- locals, parameters and labels

local_or_parameter_tells : (r : Role) → Decides (plain.is_local_or_parameter r) ((r ≡ role.Local) ⊎ (r ≡ role.Parameter))
local_or_parameter_tells role.Local = (λ h. inl refl, λ e. refl)
local_or_parameter_tells role.Parameter = (λ h. inr refl, λ e. refl)
local_or_parameter_tells _ = (λ h. absurd (false≢true h), ⊎_elim (λ e. absurd (cc)) (λ e. absurd (cc)))

abbrev pub InScopeOf : Rows → ℕ → ℕ → Type 0
InScopeOf p d e = InLocalScope p d e ⊎ (InParameterScope p d e ⊎ (InOneList p d e × (d < e)))

in_scope_of_tells : (p : Rows) (d e : ℕ) → Decides (plain.is_in_scope_of p d e) (InScopeOf p d e)
in_scope_of_tells p d e = either (local_scope_tells p d e) (either (parameter_scope_tells p d e) (both (one_list_tells p d e) (Decides-ltb d e)))

in_scope_below : (p : Rows) (d e : ℕ) → InScopeOf p d e → d < length p
in_scope_below p d e (inl h) = bounded (λ l. role_of l ≡ role.Local) (λ e. cc) p d h.local
in_scope_below p d e (inr (inl h)) = bounded (λ l. role_of l ≡ role.Parameter) (λ e. cc) p d h.parameter
in_scope_below p d e (inr (inr h)) = bounded (λ l. role_of l ≡ role.Parameter) (λ e. cc) p d h.0.first

abbrev pub SecondLocal : Rows → ℕ → Type 0
SecondLocal p e = ((role_at p e ≡ role.Local) ⊎ (role_at p e ≡ role.Parameter)) × ((d : ℕ) × ((name p d ≡ name p e) × InScopeOf p d e))

pub second_local_tells : (p : Rows) (e : ℕ) → Decides (plain.is_second_local p e) (SecondLocal p e)
second_local_tells p e = both (local_or_parameter_tells (role_at p e))
    (some _ (λ d. (name p d ≡ name p e) × InScopeOf p d e) (λ d. both (same_name_tells p d e) (in_scope_of_tells p d e)) (length p) (λ d h. in_scope_below p d e h.1))

abbrev pub SecondLabel : Rows → ℕ → Type 0
SecondLabel p e = (role_at p e ≡ role.Label) × ((d : ℕ) × (InLabelScope p d e × (name p d ≡ name p e)))

pub second_label_tells : (p : Rows) (e : ℕ) → Decides (plain.is_second_label p e) (SecondLabel p e)
second_label_tells p e = both (role_tells (role_at p e) role.Label)
    (some _ (λ d. InLabelScope p d e × (name p d ≡ name p e)) (λ d. both (label_scope_tells p d e) (same_name_tells p d e)) (length p)
    (λ d h. bounded (λ l. role_of l ≡ role.Label) (λ e. cc) p d h.0.labeled))
