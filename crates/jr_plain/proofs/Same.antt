-- What tells roles, levels, types and referents apart.
use Rattle.std.proofs.Common.{◌≡◌, refl, ap, ap₂, ℕ, Bool, List, [], ◌∷◌, Option, Some, None, nat_eq, bytes_eq, Decides}
use Rattle.std.specs.Option.{option_eq}
use Rattle.std.specs.Cmp.Lexicographic.{pointwise}
use Rattle.std.proofs.lemmas.Bool.{false≢true}
use Rattle.std.proofs.lemmas.Bool.Decides.{Decides-eqb}
use Rattle.std.proofs.lemmas.Slice.Eq.{bytes_eq-Decides}
use Rattle.jr_base.specs.declared.text.Text.{Text}
use Rattle.jr_tree.specs.declared.label.Role.{Role}
use Rattle.jr_tree.specs.declared.label.Role.TheVariants as role
use Rattle.jr_defs.specs.declared.referent.Element.{Element}
use Rattle.jr_defs.specs.declared.referent.Element.TheVariants as element
use Rattle.jr_defs.specs.declared.referent.RowType.{RowType}
use Rattle.jr_defs.specs.declared.referent.Referent.{Referent}
use Rattle.jr_defs.specs.declared.referent.Referent.TheVariants.{Unbound, Ambiguous, ArrayLength, Package, Declared}
use Rattle.jr_plain.specs.Same.{same_role, same_path, same_level, same_pair, same_candidate, same_element, same_type, same_types, same_referent}
use Rattle.jr_plain.proofs.Tests.{like, both}

pub role_tells : (a b : Role) → Decides (same_role a b) (a ≡ b)
role_tells role.Nothing role.Nothing = (λ h. refl, λ e. refl)
role_tells role.Type role.Type = (λ h. refl, λ e. refl)
role_tells role.Field role.Field = (λ h. refl, λ e. refl)
role_tells role.Method role.Method = (λ h. refl, λ e. refl)
role_tells role.Constructor role.Constructor = (λ h. refl, λ e. refl)
role_tells role.Parameter role.Parameter = (λ h. refl, λ e. refl)
role_tells role.Local role.Local = (λ h. refl, λ e. refl)
role_tells role.Label role.Label = (λ h. refl, λ e. refl)
role_tells _ _ = (λ h. absurd (false≢true h), λ e. absurd (cc))

module _ {A : Type 0} (same : A → A → Bool) (tells : (a b : A) → Decides (same a b) (a ≡ b)) where
  pub list_tells : (xs ys : List A) → Decides (pointwise same xs ys) (xs ≡ ys)
  list_tells [] [] = (λ h. refl, λ e. refl)
  list_tells [] (y ∷ ys) = (λ h. absurd (false≢true h), λ e. absurd (cc))
  list_tells (x ∷ xs) [] = (λ h. absurd (false≢true h), λ e. absurd (cc))
  list_tells (x ∷ xs) (y ∷ ys) = like (both (tells x y) (list_tells xs ys)) (λ h. ap₂ (λ a more. a ∷ more) h.0 h.1) (λ e. (cc, cc))

  pub option_tells : (x y : Option A) → Decides (option_eq same x y) (x ≡ y)
  option_tells None None = (λ h. refl, λ e. refl)
  option_tells None (Some y) = (λ h. absurd (false≢true h), λ e. absurd (cc))
  option_tells (Some x) None = (λ h. absurd (false≢true h), λ e. absurd (cc))
  option_tells (Some x) (Some y) = like (tells x y) (λ e. ap Some e) (λ e. cc)

pub path_tells : (a b : List Text) → Decides (same_path a b) (a ≡ b)
path_tells a b = list_tells bytes_eq bytes_eq-Decides a b

pub level_tells : (a b : Option ℕ) → Decides (same_level a b) (a ≡ b)
level_tells a b = option_tells nat_eq Decides-eqb a b

pub pair_tells : (a b : ℕ × ℕ) → Decides (same_pair a b) (a ≡ b)
pair_tells a b = like (both (Decides-eqb a.0 b.0) (Decides-eqb a.1 b.1)) (λ h. λ i. (h.0 i, h.1 i)) (λ e. (ap (λ c. c.0) e, ap (λ c. c.1) e))

pub candidate_tells : (a b : ℕ × Option ℕ) → Decides (same_candidate a b) (a ≡ b)
candidate_tells a b = like (both (Decides-eqb a.0 b.0) (level_tells a.1 b.1)) (λ h. λ i. (h.0 i, h.1 i)) (λ e. (ap (λ c. c.0) e, ap (λ c. c.1) e))

pub element_tells : (a b : Element) → Decides (same_element a b) (a ≡ b)
element_tells element.Boolean element.Boolean = (λ h. refl, λ e. refl)
element_tells element.Byte element.Byte = (λ h. refl, λ e. refl)
element_tells element.Short element.Short = (λ h. refl, λ e. refl)
element_tells element.Char element.Char = (λ h. refl, λ e. refl)
element_tells element.Int element.Int = (λ h. refl, λ e. refl)
element_tells element.Long element.Long = (λ h. refl, λ e. refl)
element_tells element.Null element.Null = (λ h. refl, λ e. refl)
element_tells element.Void element.Void = (λ h. refl, λ e. refl)
element_tells (element.Class c) (element.Class d) = like (Decides-eqb c d) (λ e. ap element.Class e) (λ e. cc)
element_tells _ _ = (λ h. absurd (false≢true h), λ e. absurd (cc))

pub type_tells : (a b : RowType) → Decides (same_type a b) (a ≡ b)
type_tells a b = like (both (element_tells a.element b.element) (Decides-eqb a.dims b.dims))
    (λ h. λ i. record { element = h.0 i; dims = h.1 i }) (λ e. (ap (λ c. c.element) e, ap (λ c. c.dims) e))

pub types_tell : (a b : List RowType) → Decides (same_types a b) (a ≡ b)
types_tell a b = list_tells same_type type_tells a b

pub referent_tells : (a b : Referent) → Decides (same_referent a b) (a ≡ b)
referent_tells Unbound Unbound = (λ h. refl, λ e. refl)
referent_tells Ambiguous Ambiguous = (λ h. refl, λ e. refl)
referent_tells ArrayLength ArrayLength = (λ h. refl, λ e. refl)
referent_tells Package Package = (λ h. refl, λ e. refl)
referent_tells (Declared c level) (Declared d other) = like (both (Decides-eqb c d) (level_tells level other)) (λ h. ap₂ Declared h.0 h.1) (λ e. (cc, cc))
referent_tells _ _ = (λ h. absurd (false≢true h), λ e. absurd (cc))
