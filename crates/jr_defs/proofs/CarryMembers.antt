-- Members of corresponding types correspond.
use Rattle.std.proofs.Common.{◌≡◌, ◌⊎◌, ℕ, ◌<◌, ◌≤◌, refl, sym, ◌∙◌, ap, subst, inl, inr, List}
use Rattle.std.specs.Prelude.{IsTrue, Option}
use Rattle.jr_base.specs.declared.text.Text.{Text}
use Rattle.jr_tree.specs.declared.label.Label.{Label}
use Rattle.jr_tree.specs.declared.label.Label.TheVariants as is
use Rattle.jr_tree.specs.declared.label.Role.{Role}
use Rattle.jr_tree.specs.declared.label.Role.TheVariants as role
use Rattle.jr_tree.specs.Labels.{role_of}
use Rattle.jr_tree.specs.Rows.{Rows, label, name, role_at}
use Rattle.jr_defs.specs.declared.referent.Space.{Space}
use Rattle.jr_defs.specs.Referents.{Table}
use Rattle.jr_defs.specs.Declarations.{IsOf, Declares, IsType, IsClass, IsInterface, IsInterfaceLabel, IsClassLabel, IsObject}
use Rattle.jr_defs.specs.Enclosing.{DeclaredIn, BodyOf, IsMemberRole}
use Rattle.jr_defs.specs.Modifiers.{written, access_of, IsPublic, IsProtected, IsPrivate, IsStatic, IsAbstract, InInterface, IsDefaultInInterface}
use Rattle.jr_defs.specs.Packages.{SamePackage}
use Rattle.jr_defs.specs.Types.{SameSignature}
use Rattle.jr_defs.specs.Supertypes.{Super, SuperAt, Above, AtOrAbove}
use Rattle.jr_defs.specs.Members.{SameNamed, SameMethods, Replaces, IsLeft, CanInherit, Passes, IsObjectMethod, MemberOf, MemberNamed}
use Rattle.jr_defs.specs.Correspondence.{IsDeclared, Alike, Carries, Sees, moved_types}

-- ---- what is declared

pub of_role : (p : Rows) (d : ℕ) (r : Role) → role_at p d ≡ r → (r ≡ role.Nothing → ⊥) → IsDeclared p d
of_role p d r e k n = k (sym e ∙ n)

pub type_declared : (p : Rows) (c : ℕ) → IsType p c → IsDeclared p c
type_declared p c e = of_role p c role.Type e (λ k. cc)

interface_label : (l : Label) → IsInterfaceLabel l → role_of l ≡ role.Type
interface_label (is.Interface m b) h = refl
interface_label _ h = absurd h

pub interface_type : (p : Rows) (c : ℕ) → IsInterface p c → IsType p c
interface_type p c h = interface_label (label p c) h

pub interface_declared : (p : Rows) (c : ℕ) → IsInterface p c → IsDeclared p c
interface_declared p c h = type_declared p c (interface_type p c h)

member_role : (r : Role) → IsMemberRole r → r ≡ role.Nothing → ⊥
member_role role.Type h e = cc
member_role role.Field h e = cc
member_role role.Method h e = cc
member_role role.Nothing h e = h
member_role role.Constructor h e = h
member_role role.Parameter h e = h
member_role role.Local h e = h
member_role role.Label h e = h

pub declared_in_declared : (p : Rows) (c d : ℕ) → DeclaredIn p c d → IsDeclared p d
declared_in_declared p c d h = member_role (role_at p d) h.member

pub member_declared : (p : Rows) (t : Table) (c d : ℕ) → MemberOf p t c d → IsDeclared p d
member_declared p t c d (MemberOf.declared h) = declared_in_declared p c d h
member_declared p t c d (MemberOf.inherited {s = s} sup m pass can left) = member_declared p t s d m
member_declared p t c d (MemberOf.of_object i o left) = declared_in_declared p o.of_type d o.declared

-- ---- one direction

module _ (p q : Rows) (f g : ℕ → ℕ) (a : Alike p q f g) where
  pub role_over : (n : ℕ) → IsDeclared p n → role_at q (f n) ≡ role_at p n
  role_over n k = ap role_of (a.label_same n k)

  pub at_role : (n : ℕ) (r : Role) → role_at p n ≡ r → (r ≡ role.Nothing → ⊥) → role_at q (f n) ≡ r
  at_role n r e k = role_over n (of_role p n r e k) ∙ e

  pub type_over : (c : ℕ) → IsType p c → IsType q (f c)
  type_over c e = at_role c role.Type e (λ k. cc)

  pub interface_over : (c : ℕ) → IsInterface p c → IsInterface q (f c)
  interface_over c h = subst IsInterfaceLabel (sym (a.label_same c (interface_declared p c h))) h

  pub in_interface_over : (d : ℕ) → InInterface p d → InInterface q (f d)
  in_interface_over d h = record { of_type = f h.of_type; interface = interface_over h.of_type h.interface; declared = a.declared h.of_type d h.declared }

  default_over : (d : ℕ) → IsDeclared p d → IsDefaultInInterface p d → IsDefaultInInterface q (f d)
  default_over d k h = record {
    default = a.label_same d k ∙ h.default;
    of_class = f h.of_class;
    constructs = a.constructor h.of_class d h.constructs;
    declared = in_interface_over h.of_class h.declared;
  }

  pub public_over : (d : ℕ) → IsDeclared p d → IsPublic p d → IsPublic q (f d)
  public_over d k (inl h) = inl (subst (λ m. IsTrue m.is_public) (sym (a.access_same d k)) h)
  public_over d k (inr (inl h)) = inr (inl (in_interface_over d h))
  public_over d k (inr (inr h)) = inr (inr (default_over d k h))

  pub protected_over : (d : ℕ) → IsDeclared p d → IsProtected p d → IsProtected q (f d)
  protected_over d k h = subst (λ m. IsTrue m.is_protected) (sym (a.access_same d k)) h

  pub private_over : (d : ℕ) → IsDeclared p d → IsPrivate p d → IsPrivate q (f d)
  private_over d k h = subst (λ m. IsTrue m.is_private) (sym (a.access_same d k)) h

  pub private_back : (d : ℕ) → IsDeclared p d → IsPrivate q (f d) → IsPrivate p d
  private_back d k h = subst (λ m. IsTrue m.is_private) (a.access_same d k) h

  pub static_over : (d : ℕ) → IsDeclared p d → IsStatic p d → IsStatic q (f d)
  static_over d k (IsStatic.written_so h) = IsStatic.written_so (subst (λ l. IsTrue (written l).is_static) (sym (a.label_same d k)) h)
  static_over d k (IsStatic.field e h) = IsStatic.field (role_over d k ∙ e) (in_interface_over d h)
  static_over d k (IsStatic.type e h) = IsStatic.type (role_over d k ∙ e) (in_interface_over d h)
  static_over d k (IsStatic.interface h) = IsStatic.interface (interface_over d h)

  pub abstract_over : (d : ℕ) → IsDeclared p d → IsAbstract p d → IsAbstract q (f d)
  abstract_over d k (IsAbstract.written_so h) = IsAbstract.written_so (subst (λ l. IsTrue (written l).is_abstract) (sym (a.label_same d k)) h)
  abstract_over d k (IsAbstract.method e h) = IsAbstract.method (role_over d k ∙ e) (in_interface_over d h)
  abstract_over d k (IsAbstract.interface h) = IsAbstract.interface (interface_over d h)

  pub declares_over : (kind : Space) (x : Text) (d : ℕ) → IsDeclared p d → Declares p kind x d → Declares q kind x (f d)
  declares_over kind x d k h = record { of_kind = subst (IsOf kind) (sym (role_over d k)) h.of_kind; named = a.name_same d k ∙ h.named }

  same_named_over : (r : Role) (e d : ℕ) → (r ≡ role.Nothing → ⊥) → SameNamed p r e d → SameNamed q r (f e) (f d)
  same_named_over r e d k h = record {
    first = at_role e r h.first k;
    second = at_role d r h.second k;
    named = a.name_same e (of_role p e r h.first k) ∙ h.named ∙ sym (a.name_same d (of_role p d r h.second k));
  }

  module _ (t u : Table) where
    pub methods_over : (e d : ℕ) → Sees p t q u f → SameMethods p t e d → SameMethods q u (f e) (f d)
    methods_over e d see h = record {
      first = at_role e role.Method h.first (λ k. cc);
      second = at_role d role.Method h.second (λ k. cc);
      signature = record {
        named = a.name_same e (of_role p e role.Method h.first (λ k. cc)) ∙ h.signature.named ∙ sym (a.name_same d (of_role p d role.Method h.second (λ k. cc)));
        types = moved_types f h.signature.types;
        first = see.parameters e h.signature.types h.signature.first;
        second = see.parameters d h.signature.types h.signature.second;
      };
    }

    pub replaces_over : (e d : ℕ) → (role_at p d ≡ role.Method → Sees p t q u f) → Replaces p t e d → Replaces q u (f e) (f d)
    replaces_over e d see (Replaces.field h) = Replaces.field (same_named_over role.Field e d (λ k. cc) h)
    replaces_over e d see (Replaces.type h) = Replaces.type (same_named_over role.Type e d (λ k. cc) h)
    replaces_over e d see (Replaces.method h) = Replaces.method (methods_over e d (see h.second) h)

-- ---- supertypes

module _ (p : Rows) (t : Table) (q : Rows) (u : Table) (f g : ℕ → ℕ) (C D : ℕ → Type 0) (to : Carries p t q u f g C D) where
  pub super_over : (c s : ℕ) → C c → Super p t c s → Super q u (f c) (f s)
  super_over c s k h = record { place = f h.place; at = to.super_at c h.place s k h.at }

  pub above_over : (c s : ℕ) → C c → Above p t c s → Above q u (f c) (f s)
  above_over c s k (Above.direct h) = Above.direct (super_over c s k h)
  above_over c s k (Above.further {r = r} h up) = Above.further (super_over c r k h) (above_over r s (to.super_known c h.place r k h.at) up)
  above_over c s k (Above.object i o) = Above.object (interface_over p q f g to.alike c i) (to.alike.prelude _ s o)

  pub at_or_above_over : (c s : ℕ) → C c → AtOrAbove p t c s → AtOrAbove q u (f c) (f s)
  at_or_above_over c s k (inl e) = inl (ap f e)
  at_or_above_over c s k (inr h) = inr (above_over c s k h)

-- ---- members

module _ (p : Rows) (t : Table) (q : Rows) (u : Table) (f g : ℕ → ℕ) (C D : ℕ → Type 0) (to : Carries p t q u f g C D) (from : Carries q u p t g f D C) where
  left_over : (c d : ℕ) → IsType p c → IsDeclared p d → (role_at p d ≡ role.Method → Sees q u p t g) → IsLeft p t c d → IsLeft q u (f c) (f d)
  left_over c d k l see h e' dec r = h (g e')
      (subst (λ c. DeclaredIn p c (g e')) (to.alike.back c (type_declared p c k)) (from.alike.declared (f c) e' dec))
      (subst (λ d. Replaces p t (g e') d) (to.alike.back d l)
      (replaces_over q p g f from.alike u t e' (f d) (λ e. see (sym (role_over p q f g to.alike d l) ∙ e)) r))

  can_over : (c d : ℕ) → IsType p c → IsDeclared p d → CanInherit p c d → CanInherit q (f c) (f d)
  can_over c d k l h = record {
    open_member = λ x. h.open_member (private_back p q f g to.alike d l x);
    reach = reached h.reach;
  }
    where
      reached : IsPublic p d ⊎ IsProtected p d ⊎ SamePackage p c d → IsPublic q (f d) ⊎ IsProtected q (f d) ⊎ SamePackage q (f c) (f d)
      reached (inl x) = inl (public_over p q f g to.alike d l x)
      reached (inr (inl x)) = inr (inl (protected_over p q f g to.alike d l x))
      reached (inr (inr x)) = inr (inr (to.alike.same_package c d (type_declared p c k) l x))

  passes_over : (s d : ℕ) → IsType p s → Passes p s d → Passes q (f s) (f d)
  passes_over s d k h = record {
    from_interface = λ i. in_interface_over p q f g to.alike d
        (h.from_interface (subst IsInterfaceLabel (to.alike.label_same s (type_declared p s k)) i));
  }

  object_method_over : (d : ℕ) → IsObjectMethod p d → IsObjectMethod q (f d)
  object_method_over d h = let l = declared_in_declared p h.of_type d h.declared in record {
    of_type = f h.of_type;
    object = to.alike.prelude _ h.of_type h.object;
    declared = to.alike.declared h.of_type d h.declared;
    method = role_over p q f g to.alike d l ∙ h.method;
    public = public_over p q f g to.alike d l h.public;
    instance = λ s. h.instance (subst (IsStatic p) (to.alike.back d l) (static_over q p g f from.alike (f d) (λ n. l (sym (role_over p q f g to.alike d l) ∙ n)) s));
  }

  pub member_over : (c d : ℕ) → C c → (role_at p d ≡ role.Method → Sees q u p t g) → MemberOf p t c d → MemberOf q u (f c) (f d)
  member_over c d k see (MemberOf.declared h) = MemberOf.declared (to.alike.declared c d h)
  member_over c d k see (MemberOf.inherited {s = s} sup m pass can left) =
      let ks = to.super_known c sup.place s k sup.at in
      let l = member_declared p t s d m in
      MemberOf.inherited (super_over p t q u f g C D to c s k sup) (member_over s d ks see m) (passes_over s d (to.known s ks) pass)
      (can_over c d (to.known c k) l can) (left_over c d (to.known c k) l see left)
  member_over c d k see (MemberOf.of_object i o left) =
      let l = declared_in_declared p o.of_type d o.declared in
      MemberOf.of_object (interface_over p q f g to.alike c i) (object_method_over d o)
      (λ s' i' up. let i = interface_over q p g f from.alike s' i' in
      let b = at_or_above_over q u p t g f D C from (f c) s' (to.goes c k) up in
      let z = left (g s') i (subst (λ c. AtOrAbove p t c (g s')) (to.alike.back c (type_declared p c (to.known c k))) b) in
      subst (λ s. IsLeft q u s (f d)) (from.alike.back s' (interface_declared q s' i')) (left_over (g s') d (interface_type p (g s') i) l see z))

  pub member_named_over : (kind : Space) (x : Text) (c d : ℕ) → C c → (role_at p d ≡ role.Method → Sees q u p t g) → MemberNamed p t kind x c d → MemberNamed q u kind x (f c) (f d)
  member_named_over kind x c d k see h = record {
    member = member_over c d k see h.member;
    declares = declares_over p q f g to.alike kind x d (member_declared p t c d h.member) h.declares;
  }
