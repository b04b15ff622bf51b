-- The tests of static contexts and of instances tell what they are to tell.
use Rattle.std.proofs.Common.{◌≡◌, ◌⊎◌, refl, sym, subst, inl, inr, ⊎_elim, arith, ℕ, ◌≤◌, ◌<◌, true, false, ◌&&◌, ◌||◌, List, length, nat_eq, nat_lt, Option, IsTrue, Decides}
use Rattle.std.specs.Option.{option_map_or}
use Rattle.std.proofs.lemmas.Bool.{false≢true, cases_lt}
use Rattle.std.proofs.lemmas.Bool.Decides.{Decides-eqb, Decides-ltb}
use Rattle.jr_tree.specs.declared.tree.ThisOrSuper.{ThisOrSuper}
use Rattle.jr_tree.specs.declared.label.Label.{Label}
use Rattle.jr_tree.specs.declared.label.Label.TheVariants as is
use Rattle.jr_tree.specs.Rows.{Rows, label, parent, end}
use Rattle.jr_defs.specs.Declarations.{IsType, IsInterface}
use Rattle.jr_defs.specs.Enclosing.{BodyOf, DeclaredIn, Innermost}
use Rattle.jr_defs.specs.Modifiers.{IsInner}
use Rattle.jr_defs.specs.Instances.{is_static_code, InStaticContext, InConstructorCall, HasInstance}
use Rattle.jr_plain.specs.Search.{has, Finds}
use Rattle.jr_plain.specs.Declarations.{is_interface}
use Rattle.jr_plain.specs.Enclosing.{is_declared_in, innermost}
use Rattle.jr_plain.specs.Modifiers.{is_inner}
use Rattle.jr_plain.specs.Instances as plain
use Rattle.jr_plain.proofs.Tests.{itself, both, either, opposite, like}
use Rattle.jr_plain.proofs.Searches.{some, some_of}
use Rattle.jr_plain.proofs.OfTypes.{closed_types, sound_types}
use Rattle.jr_plain.proofs.Bounds.{bounded, body_below, parent_past}
use Rattle.jr_plain.proofs.Declared.{interface_tells}
use Rattle.jr_plain.proofs.Enclosed.{most, body_tells, innermost_finds, declared_in_tells}
use Rattle.jr_plain.proofs.Modified.{found_tells, inner_tells}

-- what is found is this number
pub found_is : (P : ℕ → Type 0) (found : Option ℕ) → Finds found P → (c : ℕ) → Decides (option_map_or (λ e. nat_eq e c) found false) (P c)
found_is P found finds c = like (found_tells P (λ e. nat_eq e c) (λ e. e ≡ c) (λ e. Decides-eqb e c) found finds) (λ h. subst P h.2 h.1) (λ h. (c, h, refl))

-- a member of a body is a row
member_row : (p : Rows) (c m : ℕ) → BodyOf p c (parent p m) → m < length p
member_row p c m h = ⊎_elim (λ lt. lt) (λ le. let e = parent_past p m le in let lt = body_below p c (parent p m) h in absurd (omega arith)) (cases_lt m (length p))

-- the member m, in the body of the type c, holds the place, and is static
abbrev StaticMember : Rows → ℕ → ℕ → ℕ → Type 0
StaticMember p o c m = ((BodyOf p c (parent p m) × (m ≤ o)) × (o < end p m)) × (IsTrue (is_static_code (label p m)) ⊎ IsInterface p c)

static_in_tells : (p : Rows) (o c : ℕ) → Decides (plain.is_static_in p o c) ((m : ℕ) × StaticMember p o c m)
static_in_tells p o c = some (λ m. plain.is_member_round p o c m && (is_static_code (label p m) || is_interface p c)) (λ m. StaticMember p o c m)
    (λ m. both (both (both (body_tells p c (parent p m)) (most m o)) (Decides-ltb o (end p m))) (either (itself (is_static_code (label p m))) (interface_tells p c))) (length p)
    (λ m h. member_row p c m h.0.0.0)

pub static_context_tells : (p : Rows) (o : ℕ) → Decides (plain.is_in_static_context p o) (InStaticContext p o)
static_context_tells p o = like
    (found_tells (λ c. Innermost p o c) (λ c. plain.is_static_in p o c) (λ c. (m : ℕ) × StaticMember p o c m) (static_in_tells p o) (innermost p o) (innermost_finds p o))
    (λ h. record { type = h.0; innermost = h.1; body = parent p h.2.0; of_type = h.2.1.0.0.0; member = h.2.0; inside = refl; from = h.2.1.0.0.1; before = h.2.1.0.1; static = h.2.1.1 })
    (λ h. (h.type, h.innermost, (h.member, (((subst (λ b. BodyOf p h.type b) (sym h.inside) h.of_type, h.from), h.before), h.static))))

-- the label of a call of a constructor, as it is written
abbrev IsCallOfConstructor : Label → Type 0
IsCallOfConstructor l = (target : ThisOrSuper) × (l ≡ is.ConstructorCall target)

call_label_tells : (l : Label) → Decides (plain.is_call_of_constructor l) (IsCallOfConstructor l)
call_label_tells (is.ConstructorCall target) = (λ h. (target, refl), λ h. refl)
call_label_tells _ = (λ h. absurd (false≢true h), λ h. let e = h.1 in absurd (cc))

pub constructor_call_tells : (p : Rows) (o : ℕ) → Decides (plain.is_in_constructor_call p o) (InConstructorCall p o)
constructor_call_tells p o = like
    (some (λ call. plain.is_call_of_constructor (label p call) && nat_lt call o && nat_lt o (end p call)) (λ call. (IsCallOfConstructor (label p call) × (call < o)) × (o < end p call))
    (λ call. both (both (call_label_tells (label p call)) (Decides-ltb call o)) (Decides-ltb o (end p call))) (length p)
    (λ call h. bounded IsCallOfConstructor (λ h. let e = h.1 in cc) p call h.0.0))
    (λ h. record { call = h.0; target = h.1.0.0.0; calls = h.1.0.0.1; after = h.1.0.1; before = h.1.1 }) (λ h. (h.call, (((h.target, h.calls), h.after), h.before)))

pub innermost_tells : (p : Rows) (o c : ℕ) → Decides (plain.is_innermost p o c) (Innermost p o c)
innermost_tells p o c = found_is (λ e. Innermost p o e) (innermost p o) (innermost_finds p o) c

-- ---- instances

module _ (p : Rows) (o : ℕ) where
  abbrev InstanceBy : List ℕ → ℕ → Type 0
  InstanceBy set c = (Innermost p o c × (InStaticContext p o → ⊥)) ⊎ ((b : ℕ) × (has set b ≡ true) × (IsInner p b × DeclaredIn p c b))

  instance_by_tells : (set : List ℕ) (c : ℕ) → Decides (plain.has_instance_by p o set c) (InstanceBy set c)
  instance_by_tells set c = either (both (innermost_tells p o c) (opposite (static_context_tells p o)))
      (some_of (λ b. is_inner p b && is_declared_in p c b) (λ b. IsInner p b × DeclaredIn p c b) (λ b. both (inner_tells p b) (declared_in_tells p c b)) set (λ b. itself (has set b)))

  instance_out : (c : ℕ) → plain.has_instance p o c ≡ true → HasInstance p o c
  instance_out = sound_types p (plain.has_instance_by p o) (λ c. HasInstance p o c) step
    where
      from : (set : List ℕ) → ((k : ℕ) → has set k ≡ true → HasInstance p o k) → (c : ℕ) → InstanceBy set c → HasInstance p o c
      from set holds c (inl h) = HasInstance.here h.0 h.1
      from set holds c (inr h) = HasInstance.around (holds h.0 h.1) h.2.0 h.2.1

      step : (set : List ℕ) → ((k : ℕ) → has set k ≡ true → HasInstance p o k) → (c : ℕ) → IsType p c → plain.has_instance_by p o set c ≡ true → HasInstance p o c
      step set holds c type h = from set holds c ((instance_by_tells set c).0 h)

  closed_instance : (c : ℕ) → IsType p c → InstanceBy (plain.instances p o) c → plain.has_instance p o c ≡ true
  closed_instance c type h = closed_types p (plain.has_instance_by p o) c type ((instance_by_tells (plain.instances p o) c).1 h)

  instance_into : (c : ℕ) → HasInstance p o c → plain.has_instance p o c ≡ true
  instance_into c (HasInstance.here i out) = closed_instance c i.holds.of_type.type (inl (i, out))
  instance_into c (HasInstance.around {b = b} h inner d) = closed_instance c d.inside.type (inr (b, instance_into b h, (inner, d)))

  pub instance_tells : (c : ℕ) → Decides (plain.has_instance p o c) (HasInstance p o c)
  instance_tells c = (instance_out c, instance_into c)
