-- What stands before a dot, and what a name behind it refers to.
use Rattle.std.proofs.Common.{◌≡◌, ◌⊎◌, refl, sym, ◌∙◌, ap, ap₂, subst, ⊎_elim, arith, ℕ, zero, suc, ◌+◌, ◌<◌, Bool, true, false, cond, List, [], length, Option, Some, None, nat_eq, nat_lt, Decides}
use Rattle.std.specs.Prelude.{bytes_eq, option_map}
use Rattle.std.proofs.lemmas.Bool.{false≢true, cases_lt}
use Rattle.std.proofs.lemmas.Bool.Decides.{Decides-eqb, Decides-ltb}
use Rattle.std.proofs.lemmas.Option.{none-some, same_Some}
use Rattle.std.proofs.lemmas.Slice.Eq.{bytes_eq-Decides}
use Rattle.jr_base.specs.declared.text.Text.{Text}
use Rattle.jr_tree.specs.declared.label.Role.{Role}
use Rattle.jr_tree.specs.declared.label.Role.TheVariants as role
use Rattle.jr_tree.specs.Rows.{Rows, label, name, parent, role_at}
use Rattle.jr_defs.specs.declared.referent.Element.{Element}
use Rattle.jr_defs.specs.declared.referent.Element.TheVariants as element
use Rattle.jr_defs.specs.declared.referent.RowType.{RowType}
use Rattle.jr_defs.specs.declared.referent.Referent.{Referent}
use Rattle.jr_defs.specs.declared.referent.Referent.TheVariants.{ArrayLength, Package, Declared}
use Rattle.jr_defs.specs.declared.referent.Space.TheVariants as space
use Rattle.jr_defs.specs.Referents.{Table}
use Rattle.jr_defs.specs.Declarations as def
use Rattle.jr_defs.specs.Declarations.{IsType, IsVariable, IsObject}
use Rattle.jr_defs.specs.Packages.{TypeOfPackage, spelled}
use Rattle.jr_defs.specs.Types.{array, class_type, NamesType}
use Rattle.jr_defs.specs.Members.{MemberOf, MemberNamed}
use Rattle.jr_defs.specs.Typing.{TypeOf}
use Rattle.jr_defs.specs.Lookup.{Receiver as Meant, MemberBefore, TypeBefore}
use Rattle.jr_plain.specs.Search.{Finds, Lists}
use Rattle.jr_plain.specs.Types.{referred_type}
use Rattle.jr_plain.specs.Declarations.{is_object}
use Rattle.jr_plain.proofs.Searches.{finds}
use Rattle.jr_plain.proofs.Bounds.{type_below, parent_past}
use Rattle.jr_plain.proofs.Declared.{object_tells}
use Rattle.jr_places.specs.declared.places.Places.{Places}
use Rattle.jr_places.specs.Names.{name_row}
use Rattle.jr_places.specs.Packages.{IsSpelled}
use Rattle.jr_supers.specs.Above.{HasNoOtherObject}
use Rattle.jr_supers.specs.Direct.{object_row}
use Rattle.jr_supers.specs.Tabled.{first_child}
use Rattle.jr_members.specs.declared.declared.MemberKind.TheVariants as kind
use Rattle.jr_members.specs.Each.{ListsEach}
use Rattle.jr_members.specs.Held.{IsMemberAs}
use Rattle.jr_lookup.specs.declared.qualified.Left.{Left}
use Rattle.jr_lookup.specs.declared.qualified.Left.TheVariants as left
use Rattle.jr_lookup.specs.declared.qualified.Receiver.{Receiver}
use Rattle.jr_lookup.specs.Outward.{IsNumberOf}
use Rattle.jr_lookup.specs.Sights.{IsTopNamed}
use Rattle.jr_lookup.specs.Behind.{IsTypeLabel, RefersByNames, IsLeftAt, left_by, value_of, IsLeftOf, HasValue, receiver_with, object_receiver, class_in, receiver_of}
use Rattle.jr_lookup.proofs.Importing.{referred_finds}
use Rattle.jr_lookup.proofs.Sighting.{lists_by, lists_none}
use Rattle.jr_lookup.proofs.Referring.{as_named, named_as}

-- ---- what refers to a type or a package is no expression

package_no_length : (a : Referent) → a ≡ Package → a ≡ ArrayLength → ⊥
package_no_length a e f = cc

type_no_length : (a : Referent) (d : ℕ) (level : Option ℕ) → a ≡ Declared d level → a ≡ ArrayLength → ⊥
type_no_length a d level e f = cc

package_no_row : (a : Referent) (d : ℕ) (level : Option ℕ) → a ≡ Package → a ≡ Declared d level → ⊥
package_no_row a d level e f = cc

one_row : (a : Referent) (c d : ℕ) (l m : Option ℕ) → a ≡ Declared c l → a ≡ Declared d m → d ≡ c
one_row a c d l m e f = cc

pub package_no_type : (p : Rows) (t : Table) (o : ℕ) → t (o + 1) ≡ Package → {c : ℕ} → referred_type p (t (o + 1)) ≡ Some c → ⊥
package_no_type p t o e {c = c} f = let g = (referred_finds p (t (o + 1)) c).0 f in package_no_row (t (o + 1)) c g.0 e g.1

module _ (p : Rows) (t : Table) (K : ℕ → Type 0) where
  no_expression : {n : ℕ} {a : RowType} → TypeOf p t K n a → IsTypeLabel (label p n) → ((d : ℕ) (level : Option ℕ) → t n ≡ Declared d level → IsVariable p d → ⊥) → (t n ≡ ArrayLength → ⊥) → ⊥
  no_expression (TypeOf.literal e h) l v w = subst IsTypeLabel e l
  no_expression (TypeOf.variable {d = d} {level = level} e h k) l v w = v d level e h
  no_expression (TypeOf.length e) l v w = w e
  no_expression (TypeOf.call e f r h) l v w = subst IsTypeLabel e l
  no_expression (TypeOf.created e h) l v w = subst IsTypeLabel e l
  no_expression (TypeOf.primitives e) l v w = subst IsTypeLabel e l
  no_expression (TypeOf.objects e h) l v w = subst IsTypeLabel e l
  no_expression (TypeOf.cast e i h) l v w = subst IsTypeLabel e l
  no_expression (TypeOf.paren e i h) l v w = subst IsTypeLabel e l
  no_expression (TypeOf.this e i h) l v w = subst IsTypeLabel e l
  no_expression (TypeOf.this_of e i h) l v w = subst IsTypeLabel e l
  no_expression (TypeOf.index e i h) l v w = subst IsTypeLabel e l
  no_expression (TypeOf.is_a e i h k) l v w = subst IsTypeLabel e l
  no_expression (TypeOf.unary e i h k) l v w = subst IsTypeLabel e l
  no_expression (TypeOf.pre_step e i h k) l v w = subst IsTypeLabel e l
  no_expression (TypeOf.post_step e i h k) l v w = subst IsTypeLabel e l
  no_expression (TypeOf.binary e i h j k m) l v w = subst IsTypeLabel e l
  no_expression (TypeOf.conditional e i g j h m k q) l v w = subst IsTypeLabel e l
  no_expression (TypeOf.assigned e i h) l v w = subst IsTypeLabel e l
  no_expression (TypeOf.compound e f i h j k m) l v w = subst IsTypeLabel e l

  module _ (refers : RefersByNames p t) (n : ℕ) where
    package_no_expression : t n ≡ Package → (a : RowType) → TypeOf p t K n a → ⊥
    package_no_expression e a h = no_expression h (refers.packages n e) (λ d level f v. package_no_row (t n) d level e f) (package_no_length (t n) e)

    type_no_expression : (c : ℕ) → referred_type p (t n) ≡ Some c → (a : RowType) → TypeOf p t K n a → ⊥
    type_no_expression c e a h = let f = (referred_finds p (t n) c).0 e in no_expression h (refers.type n c f.0 f.1 f.2)
        (λ d level g v. subst (λ r. def.IsOf space.Variable r) f.2 (subst (λ d. IsVariable p d) (one_row (t n) c d f.0 level f.1 g) v)) (type_no_length (t n) c f.0 f.1)

  -- ---- the row before a dot

  none_typed : (n : ℕ) → ((a : RowType) → TypeOf p t K n a → ⊥) → Finds None (λ a. TypeOf p t K n a)
  none_typed n out a = (λ e. absurd (none-some a e), λ h. absurd (out a h))

  pub value_left : (n : ℕ) (type : Option RowType) → Finds type (λ a. TypeOf p t K n a) → Finds (value_of (left_by type)) (λ a. TypeOf p t K n a)
  value_left n (Some a) f = f
  value_left n None f = f

  module _ (refers : RefersByNames p t) (n : ℕ) (seen : Referent) (sees : seen ≡ t n) where
    pub no_value_of_package : (number : Option ℕ) → seen ≡ Package → Finds (value_of (left.Package number)) (λ a. TypeOf p t K n a)
    no_value_of_package number e = none_typed n (package_no_expression refers n (sym sees ∙ e))

    pub no_value_of_type : (c : ℕ) (found : Option ℕ) → found ≡ referred_type p seen → found ≡ Some c → Finds (value_of (left.OfType c)) (λ a. TypeOf p t K n a)
    no_value_of_type c found f e = none_typed n (type_no_expression refers n c (ap (referred_type p) (sym sees) ∙ sym f ∙ e))

module _ (p : Rows) (t : Table) where
  module _ (places : Places) (n : ℕ) (seen : Referent) (sees : seen ≡ t n) where
    pub left_package : (number : Option ℕ) → seen ≡ Package → Finds number (IsSpelled p places.packages n) → IsLeftAt p t places n (left.Package number)
    left_package number e f = IsLeftAt.of_package (sym sees ∙ e) f

    pub left_type : (c : ℕ) (found : Option ℕ) → found ≡ referred_type p seen → found ≡ Some c → IsLeftAt p t places n (left.OfType c)
    left_type c found f e = IsLeftAt.of_type (ap (referred_type p) (sym sees) ∙ sym f ∙ e)

    pub left_rest : (found : Option ℕ) (type : Option RowType) → (seen ≡ Package → ⊥) → found ≡ referred_type p seen → found ≡ None → IsLeftAt p t places n (left_by type)
    left_rest found (Some a) out f e = IsLeftAt.value (λ k. out (sees ∙ k)) (ap (referred_type p) (sym sees) ∙ sym f ∙ e)
    left_rest found None out f e = IsLeftAt.nothing (λ k. out (sees ∙ k)) (ap (referred_type p) (sym sees) ∙ sym f ∙ e)

  pub child_inside : (o : ℕ) (found : Option ℕ) (n : ℕ) → found ≡ first_child p o → found ≡ Some n → (n ≡ o + 1) × (parent p (o + 1) ≡ o)
  child_inside o found n f e = by (nat_eq (parent p (o + 1)) o) (Decides-eqb (parent p (o + 1)) o) (sym f ∙ e)
    where
      by : (b : Bool) → Decides b (parent p (o + 1) ≡ o) → cond b (Some (o + 1)) None ≡ Some n → (n ≡ o + 1) × (parent p (o + 1) ≡ o)
      by true d e = (sym (same_Some (o + 1) n e), d.0 refl)
      by false d e = absurd (none-some n e)

  pub child_below : (o : ℕ) → parent p (o + 1) ≡ o → o + 1 < length p
  child_below o up = ⊎_elim (λ lt. lt) (λ le. let past = parent_past p (o + 1) le in absurd (omega (arith, past, up))) (cases_lt (o + 1) (length p))

  pub not_inside : (o : ℕ) (found : Option ℕ) → found ≡ first_child p o → found ≡ None → parent p (o + 1) ≡ o → ⊥
  not_inside o found f e up = none-some (o + 1) (sym e ∙ f ∙ ap (λ b. cond b (Some (o + 1)) None) ((Decides-eqb (parent p (o + 1)) o).1 up))

  module _ (places : Places) (o : ℕ) where
    pub left_child : (found : Option ℕ) (n : ℕ) (l : Left) → found ≡ first_child p o → found ≡ Some n → IsLeftAt p t places n l → IsLeftOf p t places o l
    left_child found n l f e h = let i = child_inside o found n f e in IsLeftOf.child i.1 (subst (λ n. IsLeftAt p t places n l) i.0 h)

    pub left_none : (found : Option ℕ) → found ≡ first_child p o → found ≡ None → IsLeftOf p t places o left.Nothing
    left_none found f e = IsLeftOf.none (not_inside o found f e)

  module _ (o : ℕ) where
    -- what they exclude
    names_type : (c : ℕ) → NamesType p t o c → (parent p (o + 1) ≡ o) × (referred_type p (t (o + 1)) ≡ Some c)
    names_type c h = (h.first, (referred_finds p (t (o + 1)) c).1 (h.level, h.refers, h.type))

    type_named : (c : ℕ) → parent p (o + 1) ≡ o → referred_type p (t (o + 1)) ≡ Some c → NamesType p t o c
    type_named c up e = let f = (referred_finds p (t (o + 1)) c).0 e in record { first = up; level = f.0; refers = f.1; type = f.2 }

    package_names_no_type : t (o + 1) ≡ Package → (c : ℕ) → NamesType p t o c → ⊥
    package_names_no_type e c h = package_no_row (t (o + 1)) c h.level e h.refers

-- ---- the class whose members are meant

module _ (p : Rows) (t : Table) (K : ℕ → Type 0) (o : ℕ) where
  module _ (places : Places) where
    objects : HasNoOtherObject p → Finds (object_row p) (IsObject p)
    objects one = finds (is_object p) (IsObject p) (object_tells p) (length p) (λ k h. type_below p k h.type) one

    abbrev Before : Receiver → Type 0
    Before r = Meant p t K o r.class r.ty

    same_receiver : {a b : Option RowType} {c d : ℕ} → c ≡ d → a ≡ b → Some (receiver_with a c) ≡ Some (receiver_with b d)
    same_receiver {a} {b} {c} {d} e f = ap₂ (λ c a. Some (receiver_with a c)) e f

    first_of : {c : ℕ} {a : Option RowType} → Meant p t K o c a → parent p (o + 1) ≡ o
    first_of (Meant.object up h) = up
    first_of (Meant.array_object up h k) = up
    first_of (Meant.type h) = h.first

    nothing_meant : ((a : RowType) → TypeOf p t K (o + 1) a → ⊥) → ((c : ℕ) → NamesType p t o c → ⊥) → {c : ℕ} {a : Option RowType} → Meant p t K o c a → ⊥
    nothing_meant no_value no_name (Meant.object {c = c} up h) = no_value (class_type c) h
    nothing_meant no_value no_name (Meant.array_object {dims = dims} {e = e} up h k) = no_value (array e (suc dims)) h
    nothing_meant no_value no_name (Meant.type {c = c} h) = no_name c h

    none_meant : ((r : Receiver) → Before r → ⊥) → Finds None Before
    none_meant out r = (λ e. absurd (none-some r e), λ h. absurd (out r h))

    -- the name of a type
    type_meant : (d : ℕ) → parent p (o + 1) ≡ o → referred_type p (t (o + 1)) ≡ Some d → ((a : RowType) → TypeOf p t K (o + 1) a → ⊥) → Finds (Some (receiver_with None d)) Before
    type_meant d up e no_value r = (λ same. subst Before (same_Some (receiver_with None d) r same) (Meant.type (type_named p t o d up e)), by)
      where
        by : {c : ℕ} {a : Option RowType} → Meant p t K o c a → Some (receiver_with None d) ≡ Some (receiver_with a c)
        by (Meant.object {c = c} up h) = absurd (no_value (class_type c) h)
        by (Meant.array_object {dims = dims} {e = e} up h k) = absurd (no_value (array e (suc dims)) h)
        by (Meant.type {c = c} h) = same_receiver (same_Some d c (sym e ∙ (names_type p t o c h).1)) refl

    class_is : (e : Element) (c : ℕ) → class_in e ≡ Some c → e ≡ element.Class c
    class_is (element.Class d) c h = ap (λ c. element.Class c) (same_Some d c h)
    class_is _ c h = absurd (none-some c h)

    -- an expression of a type
    module _ (up : parent p (o + 1) ≡ o) (no_name : (c : ℕ) → NamesType p t o c → ⊥) (a : RowType) (typed : Finds (Some a) (λ b. TypeOf p t K (o + 1) b)) where
      is_typed : (b : RowType) → TypeOf p t K (o + 1) b → a ≡ b
      is_typed b h = same_Some a b ((typed b).1 h)

      class_meant : a.dims ≡ 0 → (class : Option ℕ) → class_in a.element ≡ class → Finds (option_map (receiver_with (Some a)) class) Before
      class_meant plain (Some d) e r = (λ same. subst Before (same_Some (receiver_with (Some a) d) r same) here, by)
        where
          is_class : a ≡ class_type d
          is_class = ap₂ array (class_is a.element d e) plain

          here : Meant p t K o d (Some a)
          here = subst (λ b. Meant p t K o d (Some b)) (sym is_class) (Meant.object up (subst (λ b. TypeOf p t K (o + 1) b) is_class ((typed a).0 refl)))

          by : {c : ℕ} {b : Option RowType} → Meant p t K o c b → Some (receiver_with (Some a) d) ≡ Some (receiver_with b c)
          by (Meant.object {c = c} up h) = let same = is_typed (class_type c) h in same_receiver (same_Some d c (sym e ∙ ap (λ a. class_in a.element) same)) (ap Some same)
          by (Meant.array_object {dims = dims} {e = e} up h k) = let same = ap (λ b. b.dims) (is_typed (array e (suc dims)) h) in absurd (omega (arith, plain, same))
          by (Meant.type {c = c} h) = absurd (no_name c h)
      class_meant plain None e r = none_meant (λ r. by) r
        where
          by : {c : ℕ} {b : Option RowType} → Meant p t K o c b → ⊥
          by (Meant.object {c = c} up h) = none-some c (sym e ∙ ap (λ a. class_in a.element) (is_typed (class_type c) h))
          by (Meant.array_object {dims = dims} {e = e} up h k) = let same = ap (λ b. b.dims) (is_typed (array e (suc dims)) h) in omega (arith, plain, same)
          by (Meant.type {c = c} h) = no_name c h

      array_meant : 0 < a.dims → (object : Option ℕ) → Finds object (IsObject p) → Finds (option_map object_receiver object) Before
      array_meant deep (Some d) f r = (λ same. subst Before (same_Some (object_receiver d) r same) (here a.dims refl), by)
        where
          here : (dims : ℕ) → a.dims ≡ dims → Meant p t K o d (Some (class_type d))
          here zero e = absurd (omega (arith, e, deep))
          here (suc k) e = Meant.array_object up (subst (λ n. TypeOf p t K (o + 1) (array a.element n)) e ((typed a).0 refl)) ((f d).0 refl)

          by : {c : ℕ} {b : Option RowType} → Meant p t K o c b → Some (object_receiver d) ≡ Some (receiver_with b c)
          by (Meant.object {c = c} up h) = let same = ap (λ b. b.dims) (is_typed (class_type c) h) in absurd (omega (arith, deep, same))
          by (Meant.array_object {c = c} up h k) = ap (λ c. Some (object_receiver c)) (same_Some d c ((f c).1 k))
          by (Meant.type {c = c} h) = absurd (no_name c h)
      array_meant deep None f r = none_meant (λ r. by) r
        where
          by : {c : ℕ} {b : Option RowType} → Meant p t K o c b → ⊥
          by (Meant.object {c = c} up h) = let same = ap (λ b. b.dims) (is_typed (class_type c) h) in omega (arith, deep, same)
          by (Meant.array_object {c = c} up h k) = none-some c ((f c).1 k)
          by (Meant.type {c = c} h) = no_name c h

      value_meant : (object : Option ℕ) → Finds object (IsObject p) → (b : Bool) → Decides b (0 < a.dims) → Finds (cond b (option_map object_receiver object) (option_map (receiver_with (Some a)) (class_in a.element))) Before
      value_meant object f true d = array_meant (d.0 refl) object f
      value_meant object f false d = class_meant (⊎_elim (λ lt. absurd (false≢true (d.1 lt))) (λ le. omega arith) (cases_lt 0 a.dims)) (class_in a.element) refl

    untyped : {l : Left} → HasValue p t K o l → parent p (o + 1) ≡ o → value_of l ≡ None → (a : RowType) → TypeOf p t K (o + 1) a → ⊥
    untyped v up e a h = none-some a (sym e ∙ (v.typed up a).1 h)

    pub receiver_finds : {l : Left} → IsLeftOf p t places o l → HasValue p t K o l → (object : Option ℕ) → Finds object (IsObject p) → Finds (receiver_of object l) Before
    receiver_finds (IsLeftOf.none apart) v object f = none_meant (λ r h. apart (first_of h))
    receiver_finds (IsLeftOf.child up (IsLeftAt.of_package e g)) v object f = none_meant (λ r h. nothing_meant (untyped v up refl) (package_names_no_type p t o e) h)
    receiver_finds (IsLeftOf.child up (IsLeftAt.of_type {c = c} e)) v object f = type_meant c up e (untyped v up refl)
    receiver_finds (IsLeftOf.child up (IsLeftAt.value {a = a} out e)) v object f = value_meant up (λ c h. none-some c (sym e ∙ (names_type p t o c h).1)) a (v.typed up) object f (nat_lt 0 a.dims) (Decides-ltb 0 a.dims)
    receiver_finds (IsLeftOf.child up (IsLeftAt.nothing out e)) v object f = none_meant (λ r h. nothing_meant (untyped v up refl) (λ c k. none-some c (sym e ∙ (names_type p t o c k).1)) h)

    pub receiver_found : {l : Left} → IsLeftOf p t places o l → HasValue p t K o l → HasNoOtherObject p → (object : Option ℕ) → object ≡ object_row p → Finds (receiver_of object l) Before
    receiver_found h v one object is = receiver_finds h v object (subst (λ object. Finds object (IsObject p)) (sym is) (objects one))

    -- ---- what is known where it is a type or a package

    class_of_left : (c d : ℕ) → left.OfType c ≡ left.OfType d → c ≡ d
    class_of_left c d e = cc

    number_of_left : (m n : Option ℕ) → left.Package m ≡ left.Package n → m ≡ n
    number_of_left m n e = cc

    pub type_before : {l : Left} → IsLeftOf p t places o l → (c : ℕ) → l ≡ left.OfType c → (parent p (o + 1) ≡ o) × (referred_type p (t (o + 1)) ≡ Some c)
    type_before (IsLeftOf.none apart) c same = absurd (cc)
    type_before (IsLeftOf.child up (IsLeftAt.of_package e f)) c same = absurd (cc)
    type_before (IsLeftOf.child up (IsLeftAt.of_type {c = d} e)) c same = (up, e ∙ ap Some (class_of_left d c same))
    type_before (IsLeftOf.child up (IsLeftAt.value out e)) c same = absurd (cc)
    type_before (IsLeftOf.child up (IsLeftAt.nothing out e)) c same = absurd (cc)

    pub package_before : {l : Left} → IsLeftOf p t places o l → (number : Option ℕ) → l ≡ left.Package number → (parent p (o + 1) ≡ o) × (t (o + 1) ≡ Package) × Finds number (IsSpelled p places.packages (o + 1))
    package_before (IsLeftOf.none apart) number same = absurd (cc)
    package_before (IsLeftOf.child up (IsLeftAt.of_package {number = other} e f)) number same = (up, e, subst (λ n. Finds n (IsSpelled p places.packages (o + 1))) (number_of_left other number same) f)
    package_before (IsLeftOf.child up (IsLeftAt.of_type e)) number same = absurd (cc)
    package_before (IsLeftOf.child up (IsLeftAt.value out e)) number same = absurd (cc)
    package_before (IsLeftOf.child up (IsLeftAt.nothing out e)) number same = absurd (cc)

    pub neither_before : {l : Left} → IsLeftOf p t places o l → ((c : ℕ) → l ≡ left.OfType c → ⊥) → ((number : Option ℕ) → l ≡ left.Package number → ⊥)
        → ((parent p (o + 1) ≡ o) → t (o + 1) ≡ Package → ⊥) × ((c : ℕ) → NamesType p t o c → ⊥)
    neither_before (IsLeftOf.none apart) no_type no_package = (λ up e. apart up, λ c h. apart h.first)
    neither_before (IsLeftOf.child up (IsLeftAt.of_package {number = number} e f)) no_type no_package = absurd (no_package number refl)
    neither_before (IsLeftOf.child up (IsLeftAt.of_type {c = c} e)) no_type no_package = absurd (no_type c refl)
    neither_before (IsLeftOf.child up (IsLeftAt.value out e)) no_type no_package = (λ up e. out e, λ c h. none-some c (sym e ∙ (names_type p t o c h).1))
    neither_before (IsLeftOf.child up (IsLeftAt.nothing out e)) no_type no_package = (λ up e. out e, λ c h. none-some c (sym e ∙ (names_type p t o c h).1))

    -- ---- fields

    module _ (x : Text) (n : ℕ) (number : IsNumberOf p n x) where
      pub fields_some : (r : Receiver) (found : Option Receiver) → Finds found Before → found ≡ Some r → (all : List ℕ) → ListsEach all (IsMemberAs p t kind.Field r.class n) → Lists all (λ d. MemberBefore p t K space.Variable x o d)
      fields_some r found f e all each = lists_by all all refl each.lists
          (λ d m. record { class = r.class; receiver = r.ty; before = (f r).0 e; member = as_named p t x o n number r.class d m })
          (λ d m. let same = same_Some (receiver_with m.receiver m.class) r (sym ((f (receiver_with m.receiver m.class)).1 m.before) ∙ e) in
          named_as p t x o n number r.class d (subst (λ r. MemberNamed p t space.Variable x r.class d) same m.member))

      pub fields_none : (found : Option Receiver) → Finds found Before → found ≡ None → (all : List ℕ) → all ≡ [] → Lists all (λ d. MemberBefore p t K space.Variable x o d)
      fields_none found f e all is = lists_none all is (λ d m. none-some (receiver_with m.receiver m.class) (sym e ∙ (f (receiver_with m.receiver m.class)).1 m.before))

      -- ---- types

      named : (d : ℕ) → name_row p d ≡ n → name p d ≡ x
      named d e = (bytes_eq-Decides (name p d) x).0 (sym (number d) ∙ (Decides-eqb (name_row p d) n).1 e)

      numbered : (d : ℕ) → name p d ≡ x → name_row p d ≡ n
      numbered d e = (Decides-eqb (name_row p d) n).0 (number d ∙ (bytes_eq-Decides (name p d) x).1 e)

      declares : (d : ℕ) → IsType p d → name p d ≡ x → def.Declares p space.Type x d
      declares d type e = record { of_kind = subst (def.IsOf space.Type) (sym type) tt; named = e }

      type_role : (r : Role) → def.IsOf space.Type r → r ≡ role.Type
      type_role role.Type h = refl
      type_role _ h = absurd h

      top_type : (d : ℕ) → t (o + 1) ≡ Package → parent p (o + 1) ≡ o → IsTopNamed p (spelled p (o + 1)) n d → TypeBefore p t x o d
      top_type d e up h = TypeBefore.top (record { first = up; refers = e; spells = refl }) h.of (declares d h.of.top.type (named d h.named))

      type_top : {d : ℕ} → t (o + 1) ≡ Package → TypeBefore p t x o d → IsTopNamed p (spelled p (o + 1)) n d
      type_top e (TypeBefore.member {c = c} h m) = absurd (package_names_no_type p t o e c h)
      type_top {d = d} e (TypeBefore.top h k m) = record { of = subst (λ path. TypeOfPackage p path d) (sym h.spells) k; named = numbered d m.named }

      -- of the package before the dot
      pub types_top : (all : List ℕ) → t (o + 1) ≡ Package → parent p (o + 1) ≡ o → Lists all (IsTopNamed p (spelled p (o + 1)) n) → Lists all (λ d. TypeBefore p t x o d)
      types_top all e up h = lists_by all all refl h (λ d k. top_type d e up k) (λ d k. type_top e k)

      -- of the type before it
      pub types_member : (c : ℕ) (all : List ℕ) → parent p (o + 1) ≡ o → referred_type p (t (o + 1)) ≡ Some c → ListsEach all (IsMemberAs p t kind.Type c n) → Lists all (λ d. TypeBefore p t x o d)
      types_member c all up e each = lists_by all all refl each.lists
          (λ d m. TypeBefore.member (type_named p t o c up e) (record { member = m.member; declares = declares d m.of.role_is (named d m.of.named) })) (λ d k. by k)
        where
          by : {d : ℕ} → TypeBefore p t x o d → IsMemberAs p t kind.Type c n d
          by {d = d} (TypeBefore.member {c = g} h m) = let same = same_Some g c (sym (names_type p t o g h).1 ∙ e) in record {
            of = record { role_is = type_role (role_at p d) m.declares.of_kind; named = numbered d m.declares.named };
            member = subst (λ c. MemberOf p t c d) same m.member;
          }
          by (TypeBefore.top h k m) = absurd (package_no_row (t (o + 1)) c (type_named p t o c up e).level h.refers (type_named p t o c up e).refers)

      pub types_none : ((parent p (o + 1) ≡ o) → t (o + 1) ≡ Package → ⊥) → ((c : ℕ) → NamesType p t o c → ⊥) → (all : List ℕ) → all ≡ [] → Lists all (λ d. TypeBefore p t x o d)
      types_none no_package no_name all is = lists_none all is (λ d k. by k)
        where
          by : {d : ℕ} → TypeBefore p t x o d → ⊥
          by (TypeBefore.member {c = c} h m) = no_name c h
          by (TypeBefore.top h k m) = no_package h.first h.refers
