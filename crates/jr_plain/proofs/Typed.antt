-- The types that are computed are those that are written and declared.
use Rattle.std.proofs.Common.{◌≡◌, refl, sym, ◌∙◌, ap, ap₂, subst, arith, ℕ, zero, suc, ◌+◌, ◌≤◌, ◌<◌, Bool, true, false, cond, List, [], ◌∷◌, length, Option, Some, None, option_map, nat_eq, Decides}
use Rattle.std.proofs.lemmas.Bool.{false≢true, eq-eqb, ne_eqb, eqb-true}
use Rattle.std.proofs.lemmas.Bool.Decides.{Decides-eqb}
use Rattle.std.proofs.lemmas.Option.{none-some, same_Some, cond_some}
use Rattle.std.proofs.lemmas.Slice.Eq.{bytes_eq-Decides}
use Rattle.jr_tree.specs.declared.label.Label.{Label}
use Rattle.jr_tree.specs.declared.label.Label.TheVariants as is
use Rattle.jr_tree.specs.declared.label.Role.TheVariants as role
use Rattle.jr_tree.specs.Labels.{role_of}
use Rattle.jr_tree.specs.Rows.{Rows, label, name, parent, end, role_at}
use Rattle.jr_tree.specs.Tree.{IsTree}
use Rattle.jr_defs.specs.declared.referent.Element.TheVariants as element
use Rattle.jr_defs.specs.declared.referent.RowType.{RowType}
use Rattle.jr_defs.specs.declared.referent.Referent.{Referent}
use Rattle.jr_defs.specs.declared.referent.Referent.TheVariants.{Declared}
use Rattle.jr_defs.specs.Referents.{Table}
use Rattle.jr_defs.specs.Declarations.{IsType}
use Rattle.jr_defs.specs.Types.{element_of, array, plain, deeper, brackets_of, type_row, NamesType, TypeAt, HasType, ParameterTypes, Parameters, SameSignature}
use Rattle.jr_plain.specs.Search.{Finds}
use Rattle.jr_plain.specs.Same.{same_role}
use Rattle.jr_plain.specs.Declarations.{is_type}
use Rattle.jr_plain.specs.Types.{referred_type, named_type, type_by, type_at, with_brackets, type_of_by, type_of_declared, before, parameters_by, parameters_from, parameters, are_same_types, is_same_signature}
use Rattle.jr_plain.proofs.Tests.{both, like, never}
use Rattle.jr_plain.proofs.Same.{role_tells, types_tell}
use Rattle.jr_plain.proofs.Bounds.{parent_past}
use Rattle.jr_plain.proofs.Declared.{type_tells}

-- what a map of what is found gives
pub map_some : {A B : Type 0} (f : A → B) (found : Option A) (b : B) → option_map f found ≡ Some b → (a : A) × (found ≡ Some a) × (f a ≡ b)
map_some f None b e = absurd (none-some b e)
map_some f (Some a) b e = (a, refl, same_Some (f a) b e)

-- ---- written types

referred_out : (p : Rows) (a : Referent) (c : ℕ) → referred_type p a ≡ Some c → (level : Option ℕ) × (a ≡ Declared c level) × IsType p c
referred_out p (Declared d level) c e =
    let h = cond_some (is_type p d) d c e in (level, ap (λ x. Declared x level) h.1, subst (λ x. IsType p x) h.1 ((type_tells p d).0 h.0))
referred_out p _ c e = absurd (none-some c e)

if_true : {A : Type 0} (b : Bool) (x y : A) → b ≡ true → cond b x y ≡ x
if_true b x y e = ap (λ c. cond c x y) e

if_false : {A : Type 0} (b : Bool) (x y : A) → b ≡ false → cond b x y ≡ y
if_false b x y e = ap (λ c. cond c x y) e

referred_into : (p : Rows) (a : Referent) (c : ℕ) (level : Option ℕ) → a ≡ Declared c level → IsType p c → referred_type p a ≡ Some c
referred_into p a c level e h = ap (referred_type p) e ∙ if_true (is_type p c) (Some c) None ((type_tells p c).1 h)

guarded : {A : Type 0} (b : Bool) (found : Option A) (a : A) → cond b found None ≡ Some a → (b ≡ true) × (found ≡ Some a)
guarded true found a e = (refl, e)
guarded false found a e = absurd (none-some a e)

pub named_finds : (p : Rows) (t : Table) (n : ℕ) → Finds (named_type p t n) (λ c. NamesType p t n c)
named_finds p t n c = (out, into)
  where
    out : named_type p t n ≡ Some c → NamesType p t n c
    out e = let g = guarded (nat_eq (parent p (n + 1)) n) (referred_type p (t (n + 1))) c e in let h = referred_out p (t (n + 1)) c g.1 in
        record { first = eqb-true (parent p (n + 1)) n g.0; level = h.0; refers = h.1; type = h.2 }

    into : NamesType p t n c → named_type p t n ≡ Some c
    into h = if_true (nat_eq (parent p (n + 1)) n) (referred_type p (t (n + 1))) None (eq-eqb (parent p (n + 1)) n h.first) ∙ referred_into p (t (n + 1)) c h.level h.refers h.type

type_out : (p : Rows) (t : Table) (n : ℕ) (l : Label) (a : RowType) → label p n ≡ l → type_by p t n l ≡ Some a → TypeAt p t n a
type_out p t n (is.TypeUse (Some w) dims) a at e = subst (λ b. TypeAt p t n b) (same_Some (array (element_of w) dims) a e) (TypeAt.primitive at)
type_out p t n (is.TypeUse None dims) a at e =
    let h = map_some (λ c. array (element.Class c) dims) (named_type p t n) a e in subst (λ b. TypeAt p t n b) h.2 (TypeAt.named at ((named_finds p t n h.0).0 h.1))
type_out p t n _ a at e = absurd (none-some a e)

type_into : (p : Rows) (t : Table) (n : ℕ) (a : RowType) → TypeAt p t n a → type_at p t n ≡ Some a
type_into p t n a (TypeAt.primitive at) = ap (type_by p t n) at
type_into p t n a (TypeAt.named {c = c} {dims = dims} at h) = ap (type_by p t n) at ∙ ap (option_map (λ c. array (element.Class c) dims)) ((named_finds p t n c).1 h)

pub type_finds : (p : Rows) (t : Table) (n : ℕ) → Finds (type_at p t n) (λ a. TypeAt p t n a)
type_finds p t n a = (type_out p t n (label p n) a refl, type_into p t n a)

-- ---- declared types

brackets_out : (p : Rows) (t : Table) (d n : ℕ) (a : RowType) → with_brackets p t d n ≡ Some a → (b : RowType) × TypeAt p t n b × (deeper b (brackets_of (label p d)) ≡ a)
brackets_out p t d n a e = let h = map_some (λ b. deeper b (brackets_of (label p d))) (type_at p t n) a e in (h.0, (type_finds p t n h.0).0 h.1, h.2)

brackets_into : (p : Rows) (t : Table) (d n : ℕ) (a : RowType) → TypeAt p t n a → with_brackets p t d n ≡ Some (deeper a (brackets_of (label p d)))
brackets_into p t d n a h = ap (option_map (λ b. deeper b (brackets_of (label p d)))) ((type_finds p t n a).1 h)

has_type_out : (p : Rows) (t : Table) (d : ℕ) (l : Label) (a : RowType) → label p d ≡ l → type_of_by p t d l ≡ Some a → HasType p t d a
has_type_out p t d (is.Field m dims) a at e = let h = brackets_out p t d (type_row p d) a e in subst (λ b. HasType p t d b) h.2 (HasType.field (ap role_of at) h.1)
has_type_out p t d (is.Local f dims) a at e = let h = brackets_out p t d (type_row p d) a e in subst (λ b. HasType p t d b) h.2 (HasType.local (ap role_of at) h.1)
has_type_out p t d (is.Parameter f dims) a at e = let h = brackets_out p t d (d + 1) a e in subst (λ b. HasType p t d b) h.2 (HasType.parameter (ap role_of at) h.1)
has_type_out p t d (is.Method m true b) a at e = subst (λ b. HasType p t d b) (same_Some (plain element.Void) a e) (HasType.nothing at)
has_type_out p t d (is.Method m false b) a at e = HasType.outcome at ((type_finds p t (d + 1) a).0 e)
has_type_out p t d _ a at e = absurd (none-some a e)

field_by : (p : Rows) (t : Table) (d : ℕ) (l : Label) → role_of l ≡ role.Field → type_of_by p t d l ≡ with_brackets p t d (type_row p d)
field_by p t d (is.Field m dims) e = refl
field_by p t d _ e = absurd (cc)

local_by : (p : Rows) (t : Table) (d : ℕ) (l : Label) → role_of l ≡ role.Local → type_of_by p t d l ≡ with_brackets p t d (type_row p d)
local_by p t d (is.Local f dims) e = refl
local_by p t d _ e = absurd (cc)

parameter_by : (p : Rows) (t : Table) (d : ℕ) (l : Label) → role_of l ≡ role.Parameter → type_of_by p t d l ≡ with_brackets p t d (d + 1)
parameter_by p t d (is.Parameter f dims) e = refl
parameter_by p t d _ e = absurd (cc)

has_type_into : (p : Rows) (t : Table) (d : ℕ) (a : RowType) → HasType p t d a → type_of_declared p t d ≡ Some a
has_type_into p t d _ (HasType.field {a = a} r h) = field_by p t d (label p d) r ∙ brackets_into p t d (type_row p d) a h
has_type_into p t d _ (HasType.local {a = a} r h) = local_by p t d (label p d) r ∙ brackets_into p t d (type_row p d) a h
has_type_into p t d _ (HasType.parameter {a = a} r h) = parameter_by p t d (label p d) r ∙ brackets_into p t d (d + 1) a h
has_type_into p t d _ (HasType.nothing at) = ap (type_of_by p t d) at
has_type_into p t d a (HasType.outcome at h) = ap (type_of_by p t d) at ∙ (type_finds p t (d + 1) a).1 h

pub has_type_finds : (p : Rows) (t : Table) (d : ℕ) → Finds (type_of_declared p t d) (λ a. HasType p t d a)
has_type_finds p t d a = (has_type_out p t d (label p d) a refl, has_type_into p t d a)

-- ---- parameters

pub before_out : (found : Option RowType) (behind : Option (List RowType)) (all : List RowType) → before found behind ≡ Some all
    → (a : RowType) × (more : List RowType) × (found ≡ Some a) × (behind ≡ Some more) × ((a ∷ more) ≡ all)
before_out (Some a) (Some more) all e = (a, more, refl, refl, same_Some (a ∷ more) all e)
before_out (Some a) None all e = absurd (none-some all e)
before_out None _ all e = absurd (none-some all e)

module _ (p : Rows) (t : Table) (m : ℕ) where
  ends : (k : ℕ) (behind : Option (List RowType)) → (parent p k ≡ m → ⊥) → parameters_by p t m k behind ≡ Some []
  ends k behind apart = if_false (nat_eq (parent p k) m) _ (Some []) (ne_eqb (parent p k) m apart)

  takes : (k : ℕ) (a : RowType) (more : List RowType) (behind : Option (List RowType)) → parent p k ≡ m → role_at p k ≡ role.Parameter → HasType p t k a → behind ≡ Some more
      → parameters_by p t m k behind ≡ Some (a ∷ more)
  takes k a more behind up r h e = if_true (nat_eq (parent p k) m) _ (Some []) (eq-eqb (parent p k) m up)
      ∙ (if_true (same_role (role_at p k) role.Parameter) (before (type_of_declared p t k) behind) behind ((role_tells (role_at p k) role.Parameter).1 r)
      ∙ ap₂ before ((has_type_finds p t k a).1 h) e)

  skips : (k : ℕ) (behind : Option (List RowType)) → parent p k ≡ m → (role_at p k ≡ role.Parameter → ⊥) → parameters_by p t m k behind ≡ behind
  skips k behind up other = if_true (nat_eq (parent p k) m) _ (Some []) (eq-eqb (parent p k) m up)
      ∙ if_false (same_role (role_at p k) role.Parameter) (before (type_of_declared p t k) behind) behind (none_of (same_role (role_at p k) role.Parameter) (role_tells (role_at p k) role.Parameter))
    where
      none_of : (b : Bool) → Decides b (role_at p k ≡ role.Parameter) → b ≡ false
      none_of true d = absurd (other (d.0 refl))
      none_of false d = refl

  step_out : (k : ℕ) (behind : Option (List RowType)) → ((more : List RowType) → behind ≡ Some more → ParameterTypes p t m (end p k) more)
      → (all : List RowType) → parameters_by p t m k behind ≡ Some all → ParameterTypes p t m k all
  step_out k behind rest all e = by (nat_eq (parent p k) m) (Decides-eqb (parent p k) m) (same_role (role_at p k) role.Parameter) (role_tells (role_at p k) role.Parameter) e
    where
      by : (b : Bool) → Decides b (parent p k ≡ m) → (c : Bool) → Decides c (role_at p k ≡ role.Parameter)
          → cond b (cond c (before (type_of_declared p t k) behind) behind) (Some []) ≡ Some all → ParameterTypes p t m k all
      by true d true r e = let h = before_out (type_of_declared p t k) behind all e in
          subst (λ xs. ParameterTypes p t m k xs) h.4 (ParameterTypes.parameter (d.0 refl) (r.0 refl) ((has_type_finds p t k h.0).0 h.2) (rest h.1 h.3))
      by true d false r e = ParameterTypes.other (d.0 refl) (λ h. false≢true (r.1 h)) (rest all e)
      by false d c r e = subst (λ xs. ParameterTypes p t m k xs) (same_Some [] all e) (ParameterTypes.done (λ h. false≢true (d.1 h)))

  parameters_out : (rounds k : ℕ) (all : List RowType) → parameters_from p t m rounds k ≡ Some all → ParameterTypes p t m k all
  parameters_out zero k all e = step_out k None (λ more h. absurd (none-some more h)) all e
  parameters_out (suc rounds) k all e = step_out k (parameters_from p t m rounds (end p k)) (λ more h. parameters_out rounds (end p k) more h) all e

  past_end : (k : ℕ) → m < k → length p ≤ k → parent p k ≡ m → ⊥
  past_end k lt le up = let e = parent_past p k le in omega arith

  module _ (nested : (n : ℕ) → n < end p n) where
    parameters_into : (rounds k : ℕ) (all : List RowType) → m < k → length p ≤ k + rounds → ParameterTypes p t m k all → parameters_from p t m rounds k ≡ Some all
    parameters_into zero k _ lt le (ParameterTypes.parameter up r h rest) = absurd (past_end k lt (omega arith) up)
    parameters_into zero k _ lt le (ParameterTypes.other up r rest) = absurd (past_end k lt (omega arith) up)
    parameters_into zero k _ lt le (ParameterTypes.done apart) = ends k None apart
    parameters_into (suc rounds) k _ lt le (ParameterTypes.parameter {a = a} {more = more} up r h rest) =
        let gt = nested k in takes k a more (parameters_from p t m rounds (end p k)) up r h (parameters_into rounds (end p k) more (omega arith) (omega arith) rest)
    parameters_into (suc rounds) k all lt le (ParameterTypes.other up r rest) =
        let gt = nested k in skips k (parameters_from p t m rounds (end p k)) up r ∙ parameters_into rounds (end p k) all (omega arith) (omega arith) rest
    parameters_into (suc rounds) k _ lt le (ParameterTypes.done apart) = ends k (parameters_from p t m rounds (end p k)) apart

pub parameters_find : (p : Rows) (t : Table) (m : ℕ) → IsTree p → Finds (parameters p t m) (λ all. Parameters p t m all)
parameters_find p t m tree all = (parameters_out p t m (length p) (m + 1) all, λ h. parameters_into p t m tree.nested (length p) (m + 1) all (omega arith) (omega arith) h)

same_found : (a b : Option (List RowType)) → Decides (are_same_types a b) ((types : List RowType) × (a ≡ Some types) × (b ≡ Some types))
same_found (Some a) (Some b) = like (types_tell a b) (λ e. (a, refl, ap Some (sym e))) (λ h. same_Some a h.0 h.1 ∙ sym (same_Some b h.0 h.2))
same_found (Some a) None = like never (λ h. absurd h) (λ h. none-some h.0 h.2)
same_found None _ = like never (λ h. absurd h) (λ h. none-some h.0 h.1)

pub signature_tells : (p : Rows) (t : Table) (m k : ℕ) → IsTree p → Decides (is_same_signature p t m k) (SameSignature p t m k)
signature_tells p t m k tree = like (both (bytes_eq-Decides (name p m) (name p k)) (same_found (parameters p t m) (parameters p t k)))
    (λ h. record { named = h.0; types = h.1.0; first = (parameters_find p t m tree h.1.0).0 h.1.1; second = (parameters_find p t k tree h.1.0).0 h.1.2 })
    (λ h. (h.named, (h.types, (parameters_find p t m tree h.types).1 h.first, (parameters_find p t k tree h.types).1 h.second)))
