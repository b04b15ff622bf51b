-- What headers name in the rows before a row, and the rule on it.
use Rattle.std.proofs.Common.{◌≡◌, refl, sym, ◌∙◌, ap, ap₂, subst, arith, ℕ, ◌<◌, Bool, true, false, ◌&&◌, ◌||◌, List, length, Option, Some, None, nat_eq, nat_lt, Decides}
use Rattle.std.proofs.lemmas.Bool.{false≢true}
use Rattle.std.proofs.lemmas.Bool.Decides.{Decides-eqb, Decides-ltb}
use Rattle.std.proofs.lemmas.Option.{none-some, same_Some}
use Rattle.jr_tree.specs.declared.label.Label.{Label}
use Rattle.jr_tree.specs.declared.label.Label.TheVariants as is
use Rattle.jr_tree.specs.declared.label.NamePlace.TheVariants as place
use Rattle.jr_tree.specs.Rows.{Rows, label, parent}
use Rattle.jr_defs.specs.declared.referent.Referent.{Referent}
use Rattle.jr_defs.specs.declared.referent.Referent.TheVariants.{Unbound, Ambiguous, ArrayLength, Package, Declared}
use Rattle.jr_defs.specs.Referents.{Table}
use Rattle.jr_plain.specs.Search.{any_below}
use Rattle.jr_plain.specs.Declarations.{is_class, is_interface}
use Rattle.jr_plain.specs.Modifiers.{is_final, is_inner}
use Rattle.jr_plain.specs.Supertypes.{is_superclass_label, is_superinterface_label, names_superclass, names_superinterface}
use Rattle.jr_plain.proofs.Tests.{both, like}
use Rattle.jr_plain.proofs.Searches.{any}
use Rattle.jr_places.specs.declared.chains.Entry.{Entry}
use Rattle.jr_supers.specs.declared.supers.HeaderPlace.{HeaderPlace}
use Rattle.jr_supers.specs.declared.supers.HeaderPlace.TheVariants as header
use Rattle.jr_supers.specs.Above.{is_some_item}
use Rattle.jr_supers.specs.Direct.{header_place}
use Rattle.jr_supers.specs.Tabled.{declared}
use Rattle.jr_supers.proofs.Subtyped.{one_test}
use Rattle.jr_members.specs.Keys.{entry_for, entries_of}
use Rattle.jr_members.proofs.Keyed.{rows_last}
use Rattle.jr_members.proofs.Declaring.{some_named}
use Rattle.jr_lookup.proofs.Scoping.{is_keyed, HasRows, falling_entries}
use Rattle.jr_name_rules.specs.Found.{declared_row, found, both_found}
use Rattle.jr_name_rules.specs.HeaderTests.{has_wrong_supertype}
use Rattle.jr_member_faults.specs.Headers.{entry_by, superinterface_entry, AreHeadersTo, is_listed, is_wrong}

-- ---- tables of rows

-- something stands under a key where a row before has put it there
pub listed_before : (f : ℕ → Option Entry) → HasRows f → (c x n : ℕ) → is_listed (entries_of f n) c x ≡ any_below n (λ k. is_keyed (f k) c x)
listed_before f rows c x n = rows_last (entries_of f n) c x (length (entries_of f n)) ∙ ap is_some_item (falling_entries f rows c x n) ∙ some_named (λ k. is_keyed (f k) c x) n

-- ---- superinterfaces

row_declared : (r : Referent) → declared r ≡ declared_row r
row_declared (Declared d level) = refl
row_declared Unbound = refl
row_declared Ambiguous = refl
row_declared ArrayLength = refl
row_declared Package = refl

abbrev IsSuperinterface : Label → Type 0
IsSuperinterface l = header_place l ≡ Some header.Superinterface

interface_tells : (l : Label) → Decides (is_superinterface_label l) (IsSuperinterface l)
interface_tells (is.Name kind place.Superinterface q) = (λ h. refl, λ e. refl)
interface_tells (is.Name kind place.Superclass q) = (λ h. absurd (false≢true h), λ e. cc)
interface_tells (is.Name kind _ q) = (λ h. absurd (false≢true h), λ e. cc)
interface_tells _ = (λ h. absurd (false≢true h), λ e. cc)

abbrev IsSuperclass : Label → Type 0
IsSuperclass l = header_place l ≡ Some header.Superclass

class_tells : (l : Label) → Decides (is_superclass_label l) (IsSuperclass l)
class_tells (is.Name kind place.Superclass q) = (λ h. refl, λ e. refl)
class_tells (is.Name kind place.Superinterface q) = (λ h. absurd (false≢true h), λ e. cc)
class_tells (is.Name kind _ q) = (λ h. absurd (false≢true h), λ e. cc)
class_tells _ = (λ h. absurd (false≢true h), λ e. cc)

-- a row that names the type x as a superinterface of c
abbrev Names : Rows → Table → ℕ → ℕ → ℕ → Type 0
Names p t c x k = IsSuperinterface (label p k) × ((parent p k ≡ c) × (declared (t k) ≡ Some x))

module _ (p : Rows) (t : Table) where
  entry_rows : HasRows (superinterface_entry p t)
  entry_rows k e is = by (header_place (label p k)) (declared (t k)) is
    where
      by : (o : Option HeaderPlace) (d : Option ℕ) → entry_by p k o d ≡ Some e → e.row ≡ k
      by (Some header.Superinterface) (Some x) same = ap (λ z. z.row) (sym (same_Some (entry_for (parent p k) x k) e same))
      by (Some header.Superinterface) None same = absurd (none-some e same)
      by (Some header.Superclass) d same = absurd (none-some e same)
      by None d same = absurd (none-some e same)

  keyed_tells : (c x k : ℕ) → Decides (is_keyed (superinterface_entry p t k) c x) (Names p t c x k)
  keyed_tells c x k = by (header_place (label p k)) (declared (t k)) refl refl
    where
      by : (o : Option HeaderPlace) (d : Option ℕ) → header_place (label p k) ≡ o → declared (t k) ≡ d → Decides (is_keyed (entry_by p k o d) c x) (Names p t c x k)
      by (Some header.Superinterface) (Some y) e is = like (both (Decides-eqb (parent p k) c) (Decides-eqb y x)) (λ h. (e, (h.0, is ∙ ap Some h.1))) (λ h. (h.1.0, same_Some y x (sym is ∙ h.1.1)))
      by (Some header.Superinterface) None e is = (λ h. absurd (false≢true h), λ h. absurd (none-some x (sym is ∙ h.1.1)))
      by (Some header.Superclass) d e is = (λ h. absurd (false≢true h), λ h. let both = sym e ∙ h.0 in cc)
      by None d e is = (λ h. absurd (false≢true h), λ h. absurd (none-some header.Superinterface (sym e ∙ h.0)))

  -- both rows name one type
  abbrev AreSame : ℕ → ℕ → Type 0
  AreSame k n = (x : ℕ) × (declared (t k) ≡ Some x) × (declared (t n) ≡ Some x)

  same_tells : (k n : ℕ) → Decides (both_found (declared_row (t k)) (declared_row (t n)) nat_eq) (AreSame k n)
  same_tells k n = subst (λ o. Decides (both_found o (declared_row (t n)) nat_eq) (AreSame k n)) (row_declared (t k)) (subst (λ o. Decides (both_found (declared (t k)) o nat_eq) (AreSame k n)) (row_declared (t n)) (by (declared (t k)) (declared (t n)) refl refl))
    where
      by : (a b : Option ℕ) → declared (t k) ≡ a → declared (t n) ≡ b → Decides (both_found a b nat_eq) (AreSame k n)
      by (Some x) (Some y) ea eb = like (Decides-eqb x y) (λ same. (y, ea ∙ ap Some same, eb)) (λ q. same_Some x q.0 (sym ea ∙ q.1) ∙ sym (same_Some y q.0 (sym eb ∙ q.2)))
      by (Some x) None ea eb = (λ h. absurd (false≢true h), λ q. absurd (none-some q.0 (sym eb ∙ q.2)))
      by None b ea eb = (λ h. absurd (false≢true h), λ q. absurd (none-some q.0 (sym ea ∙ q.1)))

  abbrev IsPair : ℕ → ℕ → Type 0
  IsPair n k = ((IsSuperinterface (label p k) × (parent p k ≡ parent p n)) × (k < n)) × AreSame k n

  pair_tells : (n k : ℕ) → Decides (names_superinterface p (parent p n) k && nat_lt k n && both_found (declared_row (t k)) (declared_row (t n)) nat_eq) (IsPair n k)
  pair_tells n k = both (both (both (interface_tells (label p k)) (Decides-eqb (parent p k) (parent p n))) (Decides-ltb k n)) (same_tells k n)

  -- a superinterface of the same type is named before n
  second_tells : (n : ℕ) → n < length p → (x : ℕ) → declared (t n) ≡ Some x
      → Decides (any_below (length p) (λ k. names_superinterface p (parent p n) k && nat_lt k n && both_found (declared_row (t k)) (declared_row (t n)) nat_eq)) ((k : ℕ) × (k < n) × Names p t (parent p n) x k)
  second_tells n lt x is = like (any _ (IsPair n) (pair_tells n) (length p))
      (λ q. (q.0, q.2.0.1, (q.2.0.0.0, (q.2.0.0.1, q.2.1.1 ∙ ap Some (same_Some q.2.1.0 x (sym q.2.1.2 ∙ is))))))
      (λ q. let less = q.1 in (q.0, omega arith, (((q.2.0, q.2.1.0), q.1), (x, q.2.1.1, is))))

  second_listed : (n : ℕ) → n < length p → (x : ℕ) → declared (t n) ≡ Some x
      → is_listed (entries_of (superinterface_entry p t) n) (parent p n) x ≡ any_below (length p) (λ k. names_superinterface p (parent p n) k && nat_lt k n && both_found (declared_row (t k)) (declared_row (t n)) nat_eq)
  second_listed n lt x is = listed_before (superinterface_entry p t) entry_rows (parent p n) x n
      ∙ one_test _ _ ((k : ℕ) × (k < n) × Names p t (parent p n) x k) (any _ (Names p t (parent p n) x) (keyed_tells (parent p n) x) n) (second_tells n lt x is)

  none_second : (n : ℕ) → declared (t n) ≡ None → any_below (length p) (λ k. names_superinterface p (parent p n) k && nat_lt k n && both_found (declared_row (t k)) (declared_row (t n)) nat_eq) ≡ false
  none_second n is = one_test _ false ((k : ℕ) × (k < length p) × IsPair n k) (any _ (IsPair n) (pair_tells n) (length p))
      ((λ h. absurd (false≢true h)), (λ q. absurd (none-some q.2.1.0 (sym is ∙ q.2.1.2))))

-- ---- the rule

abbrev wrong_by : Bool → Bool → Bool → Bool → Bool → Bool
wrong_by class interface wrong other some = (class && wrong) || ((interface && other) || (interface && some))

with_true : (b : Bool) → (b && true) ≡ b
with_true true = refl
with_true false = refl

or_none : (b : Bool) → (b || false) ≡ b
or_none true = refl
or_none false = refl

told : {b : Bool} {P : Type 0} → Decides b P → (c : Bool) → Decides c P → b ≡ c
told {b} {P} d c e = one_test b c P d e

not_such : {b : Bool} {P : Type 0} → Decides b P → (P → ⊥) → b ≡ false
not_such d none = told d false ((λ h. absurd (false≢true h)), (λ q. absurd (none q)))

module _ (p : Rows) (t : Table) (all : List Entry) (n : ℕ) (lt : n < length p) (h : AreHeadersTo p t n all) where
  own : nat_eq (parent p n) (parent p n) ≡ true
  own = (Decides-eqb (parent p n) (parent p n)).1 refl

  class_is : (b : Bool) → is_superclass_label (label p n) ≡ b → names_superclass p (parent p n) n ≡ b
  class_is b e = ap₂ (λ x y. x && y) e own ∙ with_true b

  interface_is : (b : Bool) → is_superinterface_label (label p n) ≡ b → names_superinterface p (parent p n) n ≡ b
  interface_is b e = ap₂ (λ x y. x && y) e own ∙ with_true b

  abbrev class_wrong : Option ℕ → Bool
  class_wrong o = found o (λ d. is_final p d || (is_interface p d || is_inner p d))

  abbrev interface_wrong : Option ℕ → Bool
  interface_wrong o = found o (λ d. is_class p d)

  abbrev some_before : Bool
  some_before = any_below (length p) (λ k. names_superinterface p (parent p n) k && nat_lt k n && both_found (declared_row (t k)) (declared_row (t n)) nat_eq)

  rule_is : (s i : Bool) (o : Option ℕ) → is_superclass_label (label p n) ≡ s → is_superinterface_label (label p n) ≡ i → declared (t n) ≡ o → has_wrong_supertype p t n ≡ wrong_by s i (class_wrong o) (interface_wrong o) some_before
  rule_is s i o es ei eo = ap₂ (λ x y. wrong_by x y (class_wrong (declared_row (t n))) (interface_wrong (declared_row (t n))) some_before) (class_is s es) (interface_is i ei)
      ∙ ap (λ o. wrong_by s i (class_wrong o) (interface_wrong o) some_before) (sym (row_declared (t n)) ∙ eo)

  pub wrong_told : is_wrong p all n (header_place (label p n)) (declared (t n)) ≡ has_wrong_supertype p t n
  wrong_told = by (header_place (label p n)) (declared (t n)) refl refl
    where
      no_class : header_place (label p n) ≡ Some header.Superinterface → is_superclass_label (label p n) ≡ false
      no_class e = not_such (class_tells (label p n)) (λ q. let both = sym e ∙ q in cc)

      no_interface : header_place (label p n) ≡ Some header.Superclass → is_superinterface_label (label p n) ≡ false
      no_interface e = not_such (interface_tells (label p n)) (λ q. let both = sym e ∙ q in cc)

      by : (o : Option HeaderPlace) (d : Option ℕ) → header_place (label p n) ≡ o → declared (t n) ≡ d → is_wrong p all n o d ≡ has_wrong_supertype p t n
      by (Some header.Superclass) (Some x) e is = sym (rule_is true false (Some x) ((class_tells (label p n)).1 e) (no_interface e) is ∙ or_none (class_wrong (Some x)))
      by (Some header.Superclass) None e is = sym (rule_is true false None ((class_tells (label p n)).1 e) (no_interface e) is)
      by (Some header.Superinterface) (Some x) e is = ap (λ b. is_class p x || b) (ap (λ l. is_listed l (parent p n) x) h ∙ second_listed p t n lt x is) ∙ sym (rule_is false true (Some x) (no_class e) ((interface_tells (label p n)).1 e) is)
      by (Some header.Superinterface) None e is = sym (rule_is false true None (no_class e) ((interface_tells (label p n)).1 e) is ∙ none_second p t n is)
      by None d e is = sym (rule_is false false d (not_such (class_tells (label p n)) (λ q. none-some header.Superclass (sym e ∙ q))) (not_such (interface_tells (label p n)) (λ q. none-some header.Superinterface (sym e ∙ q))) is)
