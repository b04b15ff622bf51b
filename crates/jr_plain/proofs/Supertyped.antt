-- The supertypes that are computed are those that are named, and the test of subtypes tells what it is to tell.
use Rattle.std.proofs.Common.{◌≡◌, ◌⊎◌, refl, sym, ◌∙◌, ap, subst, inl, inr, ⊎_elim, arith, ℕ, zero, suc, ◌<◌, Bool, true, cond, ◌&&◌, ◌||◌, List, [], length, flat_map, Option, nat_eq, Decides}
use Rattle.std.proofs.lemmas.Bool.{false≢true, or_left, or_right, and_from, eq-eqb}
use Rattle.std.proofs.lemmas.Bool.Decides.{Decides-eqb}
use Rattle.jr_tree.specs.declared.label.Label.{Label}
use Rattle.jr_tree.specs.declared.label.Label.TheVariants as is
use Rattle.jr_tree.specs.declared.label.NamePlace.TheVariants as place
use Rattle.jr_tree.specs.declared.label.Role.TheVariants as role
use Rattle.jr_tree.specs.Rows.{Rows, label, parent, role_at}
use Rattle.jr_tree.specs.Labels.{role_of}
use Rattle.jr_defs.specs.declared.referent.Element.{Element}
use Rattle.jr_defs.specs.declared.referent.Element.TheVariants as element
use Rattle.jr_defs.specs.declared.referent.RowType.{RowType}
use Rattle.jr_defs.specs.declared.referent.Referent.{Referent}
use Rattle.jr_defs.specs.declared.referent.Referent.TheVariants.{Declared}
use Rattle.jr_defs.specs.Referents.{Table}
use Rattle.jr_defs.specs.Declarations.{IsType, IsInterface, IsObject}
use Rattle.jr_defs.specs.Headers.{NamesHeader}
use Rattle.jr_defs.specs.Types.{array, plain}
use Rattle.jr_defs.specs.Supertypes.{IsSuperclassLabel, IsSuperinterfaceLabel, NamesSuperclass, NamesSuperinterface, HasImpliedSuperclass, SuperAt, Super, Superclass, Above, AtOrAbove, Wider, Widens, IsReferenceType, Subtype}
use Rattle.jr_plain.specs.Search.{all_such, has, Lists}
use Rattle.jr_plain.specs.Supertypes.{is_superclass_label, is_superinterface_label, names_superclass, names_superinterface, has_implied_superclass, declaration, is_super_at, implied_superclasses, supers, superclasses, is_lower, lower, is_above, is_at_or_above, widens, is_reference, is_reference_type, is_null, is_above_class, is_object_type, is_below, is_subtype}
use Rattle.jr_plain.specs.Headed.{IsHeaded}
use Rattle.jr_plain.specs.Same.{same_element}
use Rattle.jr_plain.specs.Declarations.{is_object}
use Rattle.jr_plain.specs.Enclosing.{children}
use Rattle.jr_plain.proofs.Tests.{itself, always, never, both, either, opposite, like}
use Rattle.jr_plain.proofs.Searches.{lists, some_of, among_append, if_tells, flat_of}
use Rattle.jr_plain.proofs.Same.{element_tells}
use Rattle.jr_plain.proofs.Bounds.{bounded, type_below}
use Rattle.jr_plain.proofs.Children.{IsChild, children_list, row_of_child}
use Rattle.jr_plain.proofs.OfTypes.{closed_types, sound_types, class_type, interface_type}
use Rattle.jr_plain.proofs.Declared.{class_tells, interface_tells, object_tells}

superclass_label_tells : (l : Label) → Decides (is_superclass_label l) (IsSuperclassLabel l)
superclass_label_tells (is.Name kind place.Superclass b) = always
superclass_label_tells _ = never

superinterface_label_tells : (l : Label) → Decides (is_superinterface_label l) (IsSuperinterfaceLabel l)
superinterface_label_tells (is.Name kind place.Superinterface b) = always
superinterface_label_tells _ = never

pub names_superclass_tells : (p : Rows) (c n : ℕ) → Decides (names_superclass p c n) (NamesSuperclass p c n)
names_superclass_tells p c n = like (both (superclass_label_tells (label p n)) (Decides-eqb (parent p n) c)) (λ h. record { names = h.0; inside = h.1 }) (λ h. (h.names, h.inside))

pub names_superinterface_tells : (p : Rows) (c n : ℕ) → Decides (names_superinterface p c n) (NamesSuperinterface p c n)
names_superinterface_tells p c n =
    like (both (superinterface_label_tells (label p n)) (Decides-eqb (parent p n) c)) (λ h. record { names = h.0; inside = h.1 }) (λ h. (h.names, h.inside))

pub superclass_name_below : (p : Rows) (c n : ℕ) → NamesSuperclass p c n → n < length p
superclass_name_below p c n h = bounded IsSuperclassLabel (λ h. h) p n h.names

pub superinterface_name_below : (p : Rows) (c n : ℕ) → NamesSuperinterface p c n → n < length p
superinterface_name_below p c n h = bounded IsSuperinterfaceLabel (λ h. h) p n h.names

superclass_role : (l : Label) → IsSuperclassLabel l → role_of l ≡ role.Nothing
superclass_role (is.Name kind place.Superclass b) h = refl
superclass_role _ h = absurd h

superinterface_role : (l : Label) → IsSuperinterfaceLabel l → role_of l ≡ role.Nothing
superinterface_role (is.Name kind place.Superinterface b) h = refl
superinterface_role _ h = absurd h

-- a name in a header stands right below its type
header_child : (p : Rows) → IsHeaded p → (c n : ℕ) → NamesHeader p c n → n < length p → parent p n ≡ c → role_at p n ≡ role.Nothing → IsChild p c n
header_child p headed c n h lt up nothing = row_of_child p headed.tree c n lt apart up
  where
    apart : n ≡ 0 → ⊥
    apart e = let top = ap (parent p) e ∙ headed.tree.root in let same : n ≡ c = omega arith in let type = headed.header c n h in let at = ap (role_at p) same in cc

pub superclass_child : (p : Rows) → IsHeaded p → (c n : ℕ) → NamesSuperclass p c n → IsChild p c n
superclass_child p headed c n h = header_child p headed c n (inl h) (superclass_name_below p c n h) h.inside (superclass_role (label p n) h.names)

pub superinterface_child : (p : Rows) → IsHeaded p → (c n : ℕ) → NamesSuperinterface p c n → IsChild p c n
superinterface_child p headed c n h = header_child p headed c n (inr h) (superinterface_name_below p c n h) h.inside (superinterface_role (label p n) h.names)

pub implied_tells : (p : Rows) → IsHeaded p → (c : ℕ) → Decides (has_implied_superclass p c) (HasImpliedSuperclass p c)
implied_tells p headed c = like
    (both (both (class_tells p c)
    (opposite (some_of (λ n. names_superclass p c n) (λ n. NamesSuperclass p c n) (λ n. names_superclass_tells p c n) (children p c) (children_list p headed.tree c))))
    (opposite (object_tells p c)))
    (λ h. record { class = h.0.0; unnamed = λ n k. h.0.1 (n, superclass_child p headed c n k, k); below = h.1 }) (λ h. ((h.class, λ k. h.unnamed k.0 k.2), h.below))

pub declaration_lists : (a : Referent) → Lists (declaration a) (λ s. (level : Option ℕ) × (a ≡ Declared s level))
declaration_lists (Declared d level) s = like (either (Decides-eqb d s) never) (⊎_elim (λ e. (level, ap (λ x. Declared x level) e)) (λ h. absurd h)) (λ h. let e = h.1 in inl (row_of e))
  where
    row_of : {a b : ℕ} {l m : Option ℕ} → Declared a l ≡ Declared b m → a ≡ b
    row_of e = cc
declaration_lists _ s = like never (λ h. absurd h) (λ h. let e = h.1 in absurd (cc))

pub super_at_tells : (p : Rows) (t : Table) → IsHeaded p → (c n s : ℕ) → Decides (is_super_at p t c n s) (SuperAt p t c n s)
super_at_tells p t headed c n s = like
    (either (both (either (names_superclass_tells p c n) (names_superinterface_tells p c n)) (declaration_lists (t n) s)) (both (both (Decides-eqb n c) (implied_tells p headed c)) (object_tells p s))) out into
  where
    out : ((NamesSuperclass p c n ⊎ NamesSuperinterface p c n) × ((level : Option ℕ) × (t n ≡ Declared s level))) ⊎ (((n ≡ c) × HasImpliedSuperclass p c) × IsObject p s) → SuperAt p t c n s
    out (inl h) = ⊎_elim (λ k. SuperAt.class k h.1.1) (λ k. SuperAt.interface k h.1.1) h.0
    out (inr h) = subst (λ m. SuperAt p t c m s) (sym h.0.0) (SuperAt.implied h.0.1 h.1)

    into : {n : ℕ} → SuperAt p t c n s → ((NamesSuperclass p c n ⊎ NamesSuperinterface p c n) × ((level : Option ℕ) × (t n ≡ Declared s level))) ⊎ (((n ≡ c) × HasImpliedSuperclass p c) × IsObject p s)
    into (SuperAt.class {level = level} k e) = inl (inl k, (level, e))
    into (SuperAt.implied i o) = inr ((refl, i), o)
    into (SuperAt.interface {level = level} k e) = inl (inr k, (level, e))

object_below : (p : Rows) (s : ℕ) → IsObject p s → s < length p
object_below p s h = type_below p s h.type

implied_lists : (p : Rows) → IsHeaded p → (c : ℕ) → Lists (implied_superclasses p c) (λ s. HasImpliedSuperclass p c × IsObject p s)
implied_lists p headed c s = let objects = lists (λ s. is_object p s) (λ s. IsObject p s) (λ s. object_tells p s) (length p) (λ s h. object_below p s h) s in
    like (if_tells nat_eq Decides-eqb (has_implied_superclass p c) (implied_tells p headed c) (all_such (length p) (λ s. is_object p s)) s) (λ h. (h.0, objects.0 h.1)) (λ h. (h.0, objects.1 h.1))

-- what the names right below c that a test takes refer to
named_lists : (p : Rows) (t : Table) → IsHeaded p → (c : ℕ) (test : ℕ → Bool) (P : ℕ → Type 0) → ((n : ℕ) → Decides (test n) (P n)) → ((n : ℕ) → P n → IsChild p c n)
    → Lists (flat_map (λ n. cond (test n) (declaration (t n)) []) (children p c)) (λ s. (n : ℕ) × (level : Option ℕ) × P n × (t n ≡ Declared s level))
named_lists p t headed c test P tells child s = like (flat_of nat_eq (λ n. cond (test n) (declaration (t n)) []) (children p c) (children_list p headed.tree c) s) out into
  where
    out : (n : ℕ) × IsChild p c n × (has (cond (test n) (declaration (t n)) []) s ≡ true) → (n : ℕ) × (level : Option ℕ) × P n × (t n ≡ Declared s level)
    out h = let k = (if_tells nat_eq Decides-eqb (test h.0) (tells h.0) (declaration (t h.0)) s).0 h.2 in let e = (declaration_lists (t h.0) s).0 k.1 in (h.0, e.0, k.0, e.1)

    into : (n : ℕ) × (level : Option ℕ) × P n × (t n ≡ Declared s level) → (n : ℕ) × IsChild p c n × (has (cond (test n) (declaration (t n)) []) s ≡ true)
    into h = (h.0, child h.0 h.2, (if_tells nat_eq Decides-eqb (test h.0) (tells h.0) (declaration (t h.0)) s).1 (h.2, (declaration_lists (t h.0) s).1 (h.1, h.3)))

module _ (p : Rows) (t : Table) (headed : IsHeaded p) where
  header_lists : (c : ℕ) → Lists (flat_map (λ n. cond (names_superclass p c n || names_superinterface p c n) (declaration (t n)) []) (children p c))
      (λ s. (n : ℕ) × (level : Option ℕ) × (NamesSuperclass p c n ⊎ NamesSuperinterface p c n) × (t n ≡ Declared s level))
  header_lists c = named_lists p t headed c (λ n. names_superclass p c n || names_superinterface p c n) (λ n. NamesSuperclass p c n ⊎ NamesSuperinterface p c n)
      (λ n. either (names_superclass_tells p c n) (names_superinterface_tells p c n)) (λ n. ⊎_elim (superclass_child p headed c n) (superinterface_child p headed c n))

  pub supers_list : (c : ℕ) → Lists (supers p t c) (λ s. Super p t c s)
  supers_list c s = like (among_append nat_eq Decides-eqb (implied_superclasses p c) (flat_map (λ n. cond (names_superclass p c n || names_superinterface p c n) (declaration (t n)) []) (children p c)) s)
      (⊎_elim (λ h. let k = (implied_lists p headed c s).0 h in record { place = c; at = SuperAt.implied k.0 k.1 })
      (λ h. let k = (header_lists c s).0 h in record { place = k.0; at = ⊎_elim (λ n. SuperAt.class n k.3) (λ n. SuperAt.interface n k.3) k.2 }))
      (λ h. from h.at)
    where
      from : {n : ℕ} → SuperAt p t c n s
          → (has (implied_superclasses p c) s ≡ true) ⊎ (has (flat_map (λ n. cond (names_superclass p c n || names_superinterface p c n) (declaration (t n)) []) (children p c)) s ≡ true)
      from (SuperAt.class {n = n} {level = level} k e) = inr ((header_lists c s).1 (n, level, inl k, e))
      from (SuperAt.implied i o) = inl ((implied_lists p headed c s).1 (i, o))
      from (SuperAt.interface {n = n} {level = level} k e) = inr ((header_lists c s).1 (n, level, inr k, e))

  superclass_lists : (c : ℕ) → Lists (flat_map (λ n. cond (names_superclass p c n) (declaration (t n)) []) (children p c))
      (λ s. (n : ℕ) × (level : Option ℕ) × NamesSuperclass p c n × (t n ≡ Declared s level))
  superclass_lists c = named_lists p t headed c (λ n. names_superclass p c n) (λ n. NamesSuperclass p c n) (λ n. names_superclass_tells p c n) (superclass_child p headed c)

  pub superclasses_list : (c : ℕ) → Lists (superclasses p t c) (λ s. Superclass p t c s)
  superclasses_list c s = like (among_append nat_eq Decides-eqb (implied_superclasses p c) (flat_map (λ n. cond (names_superclass p c n) (declaration (t n)) []) (children p c)) s)
      (⊎_elim (λ h. let k = (implied_lists p headed c s).0 h in Superclass.implied k.0 k.1) (λ h. let k = (superclass_lists c s).0 h in Superclass.named k.2 k.3)) into
    where
      into : Superclass p t c s → (has (implied_superclasses p c) s ≡ true) ⊎ (has (flat_map (λ n. cond (names_superclass p c n) (declaration (t n)) []) (children p c)) s ≡ true)
      into (Superclass.named {n = n} {level = level} k e) = inr ((superclass_lists c s).1 (n, level, k, e))
      into (Superclass.implied i o) = inl ((implied_lists p headed c s).1 (i, o))

  -- what has a supertype is a type
  pub super_source : (c s : ℕ) → Super p t c s → IsType p c
  super_source c s h = by h.at
    where
      by : {n : ℕ} → SuperAt p t c n s → IsType p c
      by (SuperAt.class {n = n} k e) = headed.header c n (inl k)
      by (SuperAt.implied i o) = class_type (label p c) i.class
      by (SuperAt.interface {n = n} k e) = headed.header c n (inr k)

  pub superclass_source : (c s : ℕ) → Superclass p t c s → IsType p c
  superclass_source c s (Superclass.named {n = n} k e) = headed.header c n (inl k)
  superclass_source c s (Superclass.implied i o) = class_type (label p c) i.class

  -- ---- above

  lower_tells : (s : ℕ) (set : List ℕ) (c : ℕ) → Decides (is_lower p t s set c) ((Super p t c s ⊎ ((r : ℕ) × Super p t c r × (has set r ≡ true))) ⊎ (IsInterface p c × IsObject p s))
  lower_tells s set c = either (either (supers_list c s) (some_of (has set) (λ r. has set r ≡ true) (λ r. itself (has set r)) (supers p t c) (supers_list c))) (both (interface_tells p c) (object_tells p s))

  above_out : (s c : ℕ) → has (lower p t s) c ≡ true → Above p t c s
  above_out s = sound_types p (is_lower p t s) (λ c. Above p t c s) step
    where
      step : (set : List ℕ) → ((k : ℕ) → has set k ≡ true → Above p t k s) → (k : ℕ) → IsType p k → is_lower p t s set k ≡ true → Above p t k s
      step set holds k type h = ⊎_elim (⊎_elim (λ d. Above.direct d) (λ f. Above.further f.1 (holds f.0 f.2))) (λ o. Above.object o.0 o.1) ((lower_tells s set k).0 h)

  above_into : (c s : ℕ) → Above p t c s → has (lower p t s) c ≡ true
  above_into c s (Above.direct h) = closed_types p (is_lower p t s) c (super_source c s h) ((lower_tells s (lower p t s) c).1 (inl (inl h)))
  above_into c s (Above.further {r = r} h more) = closed_types p (is_lower p t s) c (super_source c r h) ((lower_tells s (lower p t s) c).1 (inl (inr (r, h, above_into r s more))))
  above_into c s (Above.object i o) = closed_types p (is_lower p t s) c (interface_type (label p c) i) ((lower_tells s (lower p t s) c).1 (inr (i, o)))

  pub above_tells : (c s : ℕ) → Decides (is_above p t c s) (Above p t c s)
  above_tells c s = (above_out s c, above_into c s)

  pub at_or_above_tells : (c s : ℕ) → Decides (is_at_or_above p t c s) (AtOrAbove p t c s)
  at_or_above_tells c s = either (Decides-eqb c s) (above_tells c s)

-- ---- types

wider_widens : (a b : Element) → Wider a b → widens a b ≡ true
wider_widens _ _ Wider.byte = refl
wider_widens _ _ Wider.short = refl
wider_widens _ _ Wider.char = refl
wider_widens _ _ Wider.int = refl

from_short : (c : Element) → widens element.Short c ≡ true → widens element.Byte c ≡ true
from_short element.Int h = refl
from_short element.Long h = refl
from_short _ h = absurd (false≢true h)

from_int : (c : Element) → widens element.Int c ≡ true → (widens element.Short c ≡ true) × (widens element.Char c ≡ true)
from_int element.Long h = (refl, refl)
from_int _ h = absurd (false≢true h)

wider_then : (a b c : Element) → Wider a b → widens b c ≡ true → widens a c ≡ true
wider_then _ _ c Wider.byte h = from_short c h
wider_then _ _ c Wider.short h = (from_int c h).0
wider_then _ _ c Wider.char h = (from_int c h).1
wider_then _ _ c Wider.int h = absurd (from_long c h)
  where
    from_long : (c : Element) → widens element.Long c ≡ true → ⊥
    from_long element.Boolean h = false≢true h
    from_long _ h = false≢true h

widens_into : (a b : Element) → Widens a b → widens a b ≡ true
widens_into a b (Widens.step w) = wider_widens a b w
widens_into a c (Widens.steps {b = b} w more) = wider_then a b c w (widens_into b c more)

widens_out : (a b : Element) → widens a b ≡ true → Widens a b
widens_out element.Byte element.Short h = Widens.step Wider.byte
widens_out element.Byte element.Int h = Widens.steps Wider.byte (Widens.step Wider.short)
widens_out element.Byte element.Long h = Widens.steps Wider.byte (Widens.steps Wider.short (Widens.step Wider.int))
widens_out element.Short element.Int h = Widens.step Wider.short
widens_out element.Short element.Long h = Widens.steps Wider.short (Widens.step Wider.int)
widens_out element.Char element.Int h = Widens.step Wider.char
widens_out element.Char element.Long h = Widens.steps Wider.char (Widens.step Wider.int)
widens_out element.Int element.Long h = Widens.step Wider.int
widens_out _ _ h = absurd (false≢true h)

pub widens_tells : (a b : Element) → Decides (widens a b) (Widens a b)
widens_tells a b = (widens_out a b, widens_into a b)

reference_out : (dims : ℕ) (e : Element) → is_reference dims e ≡ true → IsReferenceType (array e dims)
reference_out (suc dims) e h = IsReferenceType.array_type
reference_out zero (element.Class c) h = IsReferenceType.class
reference_out zero _ h = absurd (false≢true h)

reference_into : (a : RowType) → IsReferenceType a → is_reference_type a ≡ true
reference_into _ IsReferenceType.class = refl
reference_into _ IsReferenceType.array_type = refl

pub reference_type_tells : (a : RowType) → Decides (is_reference_type a) (IsReferenceType a)
reference_type_tells a = (reference_out a.dims a.element, reference_into a)

pub null_tells : (e : Element) → Decides (is_null e) (e ≡ element.Null)
null_tells element.Null = (λ h. refl, λ e. refl)
null_tells _ = (λ h. absurd (false≢true h), λ e. absurd (cc))

above_class_out : (p : Rows) (t : Table) (a b : Element) → IsHeaded p → is_above_class p t a b ≡ true → Subtype p t (plain a) (plain b)
above_class_out p t (element.Class c) (element.Class s) headed h = Subtype.class ((above_tells p t headed c s).0 h)
above_class_out p t _ _ headed h = absurd (false≢true h)

object_type_out : (p : Rows) (t : Table) (e b : Element) (dims : ℕ) → is_object_type p b ≡ true → Subtype p t (array e (suc dims)) (plain b)
object_type_out p t e (element.Class s) dims h = Subtype.array_object ((object_tells p s).0 h)
object_type_out p t e _ dims h = absurd (false≢true h)

module _ (p : Rows) (t : Table) (headed : IsHeaded p) where
  null_below : (a b : Element) (dims : ℕ) → a ≡ element.Null → IsReferenceType (array b dims) → Subtype p t (plain a) (array b dims)
  null_below a b dims e h = subst (λ x. Subtype p t (plain x) (array b dims)) (sym e) (Subtype.null h)

  subtype_out : (a b : Element) (m n : ℕ) → is_below p t a b m n ≡ true → Subtype p t (array a m) (array b n)
  subtype_out a b zero zero h = ⊎_elim
      (⊎_elim (⊎_elim (λ e. subst (λ x. Subtype p t (plain a) (plain x)) e Subtype.same) (λ w. Subtype.primitive w)) (λ k. null_below a b zero k.0 (reference_out zero b k.1))) (above_class_out p t a b headed)
      ((either (either (either (element_tells a b) (widens_tells a b)) (both (null_tells a) (itself (is_reference zero b)))) (itself (is_above_class p t a b))).0 h)
  subtype_out a b zero (suc n) h = null_below a b (suc n) ((null_tells a).0 h) IsReferenceType.array_type
  subtype_out a b (suc m) zero h = object_type_out p t a b m h
  subtype_out a b (suc m) (suc n) h = by (λ k. subtype_out a b m n k) ((either (both (element_tells a b) (Decides-eqb m n)) (both (both (itself (is_reference m a)) (itself (is_reference n b))) (itself (is_below p t a b m n)))).0 h)
    where
      by : (is_below p t a b m n ≡ true → Subtype p t (array a m) (array b n))
          → ((a ≡ b) × (m ≡ n)) ⊎ (((is_reference m a ≡ true) × (is_reference n b ≡ true)) × (is_below p t a b m n ≡ true)) → Subtype p t (array a (suc m)) (array b (suc n))
      by more (inl k) = subst (λ x. Subtype p t (array a (suc m)) x) (λ i. array (k.0 i) (suc (k.1 i))) Subtype.same
      by more (inr k) = Subtype.array_array (reference_out m a k.0.0) (reference_out n b k.0.1) (more k.1)

  below_itself : (e : Element) (dims : ℕ) → is_below p t e e dims dims ≡ true
  below_itself e zero = or_left _ (is_above_class p t e e) (or_left _ (is_null e && is_reference zero e) (or_left (same_element e e) (widens e e) ((element_tells e e).1 refl)))
  below_itself e (suc dims) = or_left _ _ (and_from (same_element e e) (nat_eq dims dims) ((element_tells e e).1 refl) (eq-eqb dims dims refl))

  null_into : (b : RowType) → IsReferenceType b → is_subtype p t (plain element.Null) b ≡ true
  null_into _ IsReferenceType.class = refl
  null_into _ IsReferenceType.array_type = refl

  subtype_into : (a b : RowType) → Subtype p t a b → is_subtype p t a b ≡ true
  subtype_into a _ Subtype.same = below_itself a.element a.dims
  subtype_into _ _ (Subtype.primitive {a = a} {b = b} w) =
      or_left _ (is_above_class p t a b) (or_left _ (is_null a && is_reference zero b) (or_right (same_element a b) (widens a b) (widens_into a b w)))
  subtype_into _ b (Subtype.null h) = null_into b h
  subtype_into _ _ (Subtype.class {c = c} {s = s} h) = or_right _ (is_above p t c s) ((above_tells p t headed c s).1 h)
  subtype_into _ _ (Subtype.array_object {s = s} o) = (object_tells p s).1 o
  subtype_into _ _ (Subtype.array_array {a = a} {b = b} {m = m} {n = n} x y h) =
      or_right (same_element a b && nat_eq m n) _ (and_from (is_reference m a && is_reference n b) (is_below p t a b m n)
      (and_from (is_reference m a) (is_reference n b) (reference_into (array a m) x) (reference_into (array b n) y)) (subtype_into (array a m) (array b n) h))

  pub subtype_tells : (a b : RowType) → Decides (is_subtype p t a b) (Subtype p t a b)
  subtype_tells a b = (subtype_out a.element b.element a.dims b.dims, subtype_into a b)
