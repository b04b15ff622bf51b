-- Least sets of types.
use Rattle.std.proofs.Common.{◌≡◌, refl, ℕ, Bool, true, List, length, nat_eq}
use Rattle.std.proofs.lemmas.Bool.Decides.{Decides-eqb}
use Rattle.jr_tree.specs.declared.label.Label.{Label}
use Rattle.jr_tree.specs.declared.label.Label.TheVariants as is
use Rattle.jr_tree.specs.declared.label.Role.TheVariants as role
use Rattle.jr_tree.specs.Labels.{role_of}
use Rattle.jr_tree.specs.Rows.{Rows}
use Rattle.jr_defs.specs.Declarations.{IsType, IsClassLabel, IsInterfaceLabel}
use Rattle.jr_plain.specs.Search.{has, Lists, least}
use Rattle.jr_plain.specs.Declarations.{is_type, types}
use Rattle.jr_plain.proofs.Searches.{lists}
use Rattle.jr_plain.proofs.Least.{closed, sound}
use Rattle.jr_plain.proofs.Bounds.{type_below}
use Rattle.jr_plain.proofs.Declared.{type_tells}

pub types_list : (p : Rows) → Lists (types p) (λ c. IsType p c)
types_list p = lists (λ c. is_type p c) (λ c. IsType p c) (λ c. type_tells p c) (length p) (λ c h. type_below p c h)

module _ (p : Rows) (follows : List ℕ → ℕ → Bool) where
  pub closed_types : (c : ℕ) → IsType p c → follows (least nat_eq (types p) follows) c ≡ true → has (least nat_eq (types p) follows) c ≡ true
  closed_types c type h = closed nat_eq Decides-eqb (types p) follows c ((types_list p c).1 type) h

  pub sound_types : (R : ℕ → Type 0) → ((set : List ℕ) → ((k : ℕ) → has set k ≡ true → R k) → (k : ℕ) → IsType p k → follows set k ≡ true → R k)
      → (k : ℕ) → has (least nat_eq (types p) follows) k ≡ true → R k
  sound_types R step = sound nat_eq Decides-eqb (types p) follows R (λ set holds k at h. step set holds k ((types_list p k).0 at) h)

pub class_type : (l : Label) → IsClassLabel l → role_of l ≡ role.Type
class_type (is.Class m b) h = refl
class_type _ h = absurd h

pub interface_type : (l : Label) → IsInterfaceLabel l → role_of l ≡ role.Type
interface_type (is.Interface m b) h = refl
interface_type _ h = absurd h
