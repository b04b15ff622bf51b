-- A test of a program with a table: where it passes, each row refers to what lookup gives.
use Rattle.std.proofs.Common.{◌≡◌, ◌⊎◌, refl, sym, ◌∙◌, ap, subst, inl, inr, ⊎_elim, arith, ℕ, ◌+◌, ◌<◌, ◌≤◌, Bool, true, false, cond, not, ◌&&◌, ◌||◌, List, [], ◌∷◌, length, Option, Some, None, nat_eq, nat_lt, nat_le, Decides}
use Rattle.std.specs.List.{list_all}
use Rattle.std.proofs.lemmas.Bool.{cases_lt}
use Rattle.std.proofs.lemmas.Bool.Decides.{Decides-eqb, Decides-ltb}
use Rattle.jr_base.specs.declared.constant.Const.{Const}
use Rattle.jr_tree.specs.declared.label.Label.{Label}
use Rattle.jr_tree.specs.declared.label.Label.TheVariants as is
use Rattle.jr_tree.specs.Labels.{sought_by}
use Rattle.jr_tree.specs.Rows.{Rows, label, name, parent, end, previous, sought_at}
use Rattle.jr_tree.specs.Tree.{IsTree}
use Rattle.jr_defs.specs.declared.referent.Referent.{Referent}
use Rattle.jr_defs.specs.declared.referent.Referent.TheVariants.{Unbound, ArrayLength, Declared}
use Rattle.jr_defs.specs.declared.referent.RowType.{RowType}
use Rattle.jr_defs.specs.Referents.{Table}
use Rattle.jr_defs.specs.Declarations.{IsType, IsString, IsVariable}
use Rattle.jr_defs.specs.Headers.{NamesHeader}
use Rattle.jr_defs.specs.Supertypes.{Above}
use Rattle.jr_defs.specs.Constants.{ConstantOf, ConstantVariable, HasConstantForm, Constant}
use Rattle.jr_defs.specs.Typing.{TypeOf}
use Rattle.jr_defs.specs.Lookup.{Look}
use Rattle.jr_defs.specs.Laws.{Picked}
use Rattle.jr_plain.specs.Search.{all_below, Finds}
use Rattle.jr_plain.specs.Same.{same_referent}
use Rattle.jr_plain.specs.Declarations.{is_type, types, is_string, is_variable}
use Rattle.jr_plain.specs.Supertypes.{names_superclass, names_superinterface, is_above}
use Rattle.jr_plain.specs.Headed.{IsHeaded}
use Rattle.jr_plain.specs.Overloads.{Types}
use Rattle.jr_plain.specs.Conversions.{Constants}
use Rattle.jr_plain.specs.Constants.{constants, has_constant_form}
use Rattle.jr_plain.specs.Typing.{IsVariableLabel, IsTypable, expression_types}
use Rattle.jr_plain.specs.Lookup.{look, look_for}
use Rattle.jr_plain.proofs.Tests.{both, either, implies, always, never, itself}
use Rattle.jr_plain.proofs.Searches.{all, every_of}
use Rattle.jr_plain.proofs.Bounds.{label_past, row_past}
use Rattle.jr_plain.proofs.Same.{referent_tells}
use Rattle.jr_plain.proofs.Enclosed.{most}
use Rattle.jr_plain.proofs.Declared.{type_tells, string_tells, variable_tells}
use Rattle.jr_plain.proofs.OfTypes.{types_list, interface_type}
use Rattle.jr_plain.proofs.Supertyped.{names_superclass_tells, names_superinterface_tells, superclass_name_below, superinterface_name_below, above_tells, super_source}
use Rattle.jr_plain.proofs.Valued.{form_constants_find}
use Rattle.jr_plain.proofs.Expressions.{expression_finds}
use Rattle.jr_plain.proofs.LookedUp.{look_for_is}
use Rattle.jr_worked.specs.Tables.{Worked, told, table_of, IsLookedUp}

-- ---- the rows are those of a tree

-- the row ends behind itself, and stands behind its parent and inside it
abbrev is_placed : Rows → ℕ → Bool
is_placed p n = (nat_lt n (end p n) && nat_le (end p n) (length p)) && (nat_eq n 0 || ((nat_lt (parent p n) n && nat_lt n (end p (parent p n))) && nat_lt (previous p n) n))

-- what stands inside m has its parent there, and ends there
abbrev is_inside : Rows → ℕ → ℕ → Bool
is_inside p m n = not (nat_lt m n && nat_lt n (end p m)) || (nat_le m (parent p n) && nat_le (end p n) (end p m))

abbrev is_tree : Rows → Bool
is_tree p = (nat_eq (parent p 0) 0 && all_below (length p) (is_placed p)) && all_below (length p) (λ m. all_below (length p) (λ n. is_inside p m n))

abbrev Placed : Rows → ℕ → Type 0
Placed p n = ((n < end p n) × (end p n ≤ length p)) × ((n ≡ 0) ⊎ (((parent p n < n) × (n < end p (parent p n))) × (previous p n < n)))

abbrev Inside : Rows → ℕ → ℕ → Type 0
Inside p m n = (m < n) × (n < end p m) → (m ≤ parent p n) × (end p n ≤ end p m)

placed_tells : (p : Rows) (n : ℕ) → Decides (is_placed p n) (Placed p n)
placed_tells p n = both (both (Decides-ltb n (end p n)) (most (end p n) (length p)))
    (either (Decides-eqb n 0) (both (both (Decides-ltb (parent p n) n) (Decides-ltb n (end p (parent p n)))) (Decides-ltb (previous p n) n)))

inside_tells : (p : Rows) (m n : ℕ) → Decides (is_inside p m n) (Inside p m n)
inside_tells p m n = implies (both (Decides-ltb m n) (Decides-ltb n (end p m))) (both (most m (parent p n)) (most (end p n) (end p m)))

tree_tells : (p : Rows) → Decides (is_tree p) (((parent p 0 ≡ 0) × ((n : ℕ) → n < length p → Placed p n)) × ((m : ℕ) → m < length p → (n : ℕ) → n < length p → Inside p m n))
tree_tells p = both (both (Decides-eqb (parent p 0) 0) (all (is_placed p) (Placed p) (placed_tells p) (length p)))
    (all (λ m. all_below (length p) (λ n. is_inside p m n)) (λ m. (n : ℕ) → n < length p → Inside p m n) (λ m. all (λ n. is_inside p m n) (Inside p m) (inside_tells p m) (length p)) (length p))

tree_from : (p : Rows) → is_tree p ≡ true → IsTree p
tree_from p passes = record {
  nested = λ n. ⊎_elim (λ lt. (placed n lt).0.0) (λ le. let e = end_past n le in omega arith) (cases_lt n (length p));
  last = λ n lt. (placed n lt).0.1;
  root = h.0.0;
  up = λ n lt apart. (below n lt apart).0.0;
  held = λ n lt apart. (below n lt apart).0.1;
  inner = λ m n before within. (inside m n before within).0;
  apart = λ m n before within. (inside m n before within).1;
  before = λ n lt apart. (below n lt apart).1;
}
  where
    h : ((parent p 0 ≡ 0) × ((n : ℕ) → n < length p → Placed p n)) × ((m : ℕ) → m < length p → (n : ℕ) → n < length p → Inside p m n)
    h = (tree_tells p).0 passes

    placed : (n : ℕ) → n < length p → Placed p n
    placed = h.0.1

    end_past : (n : ℕ) → length p ≤ n → end p n ≡ n + 1
    end_past n le = ap (λ r. r.end) (row_past p n le)

    below : (n : ℕ) → n < length p → 0 < n → ((parent p n < n) × (n < end p (parent p n))) × (previous p n < n)
    below n lt apart = ⊎_elim (λ e. absurd (omega arith)) (λ k. k) (placed n lt).1

    inside : (m n : ℕ) → m < n → n < end p m → (m ≤ parent p n) × (end p n ≤ end p m)
    inside m n before within = ⊎_elim
        (λ lt. let last = (placed m lt).0.1 in h.1 m lt n (omega arith) (before, within))
        (λ le. let e = end_past m le in absurd (omega arith)) (cases_lt m (length p))

-- ---- headers stand below types

abbrev is_header_placed : Rows → ℕ → Bool
is_header_placed p n = not (names_superclass p (parent p n) n || names_superinterface p (parent p n) n) || is_type p (parent p n)

header_tells : (p : Rows) (n : ℕ) → Decides (is_header_placed p n) (NamesHeader p (parent p n) n → IsType p (parent p n))
header_tells p n = implies (either (names_superclass_tells p (parent p n) n) (names_superinterface_tells p (parent p n) n)) (type_tells p (parent p n))

abbrev is_headed : Rows → Bool
is_headed p = is_tree p && all_below (length p) (is_header_placed p)

headed_tells : (p : Rows) → Decides (is_headed p) ((is_tree p ≡ true) × ((n : ℕ) → n < length p → NamesHeader p (parent p n) n → IsType p (parent p n)))
headed_tells p = both (itself (is_tree p)) (all (is_header_placed p) (λ n. NamesHeader p (parent p n) n → IsType p (parent p n)) (header_tells p) (length p))

headed_from : (p : Rows) → is_headed p ≡ true → IsHeaded p
headed_from p passes = record { tree = tree_from p h.0; header = header }
  where
    h : (is_tree p ≡ true) × ((n : ℕ) → n < length p → NamesHeader p (parent p n) n → IsType p (parent p n))
    h = (headed_tells p).0 passes

    place : (c n : ℕ) → NamesHeader p c n → (n < length p) × (parent p n ≡ c)
    place c n (inl k) = (superclass_name_below p c n k, k.inside)
    place c n (inr k) = (superinterface_name_below p c n k, k.inside)

    header : (c n : ℕ) → NamesHeader p c n → IsType p c
    header c n k = let at = place c n k in subst (IsType p) at.1 (h.1 n at.0 (subst (λ d. NamesHeader p d n) (sym at.1) k))

-- ---- the table

abbrev is_variable_label : Label → Bool
is_variable_label (is.Name kind place is_qualified) = true
is_variable_label is.Select = true
is_variable_label is.SuperSelect = true
is_variable_label _ = false

variable_label_tells : (l : Label) → Decides (is_variable_label l) (IsVariableLabel l)
variable_label_tells (is.Name kind place is_qualified) = always
variable_label_tells is.Select = always
variable_label_tells is.SuperSelect = always
variable_label_tells _ = never

-- names and fields alone refer to variables
abbrev may_refer : Rows → ℕ → Referent → Bool
may_refer p n (Declared d level) = not (is_variable p d) || is_variable_label (label p n)
may_refer p n ArrayLength = is_variable_label (label p n)
may_refer p n _ = true

abbrev is_entry : Rows → ℕ × Referent → Bool
is_entry p one = nat_lt one.0 (length p) && may_refer p one.0 one.1

-- the first entry is that of n, or what the others say
first_entry : (test : ℕ × Referent → Bool) (one : ℕ × Referent) (n : ℕ) (others : Referent) → test one ≡ true → (others ≡ Unbound) ⊎ (test (n, others) ≡ true)
    → (b : Bool) → Decides b (one.0 ≡ n) → (cond b one.1 others ≡ Unbound) ⊎ (test (n, cond b one.1 others) ≡ true)
first_entry test one n others passes more true d = inr (subst (λ m. test (m, one.1) ≡ true) (d.0 refl) passes)
first_entry test one n others passes more false d = more

-- an entry of the table passes, or there is none
entry_of : (test : ℕ × Referent → Bool) (all : List (ℕ × Referent)) (n : ℕ) → list_all test all ≡ true → (told all n ≡ Unbound) ⊎ (test (n, told all n) ≡ true)
entry_of test [] n h = inl refl
entry_of test (one ∷ more) n h = let parts = (both (itself (test one)) (itself (list_all test more))).0 h in
    first_entry test one n (told more n) parts.0 (entry_of test more n parts.1) (nat_eq one.0 n) (Decides-eqb one.0 n)

no_entry : (p : Rows) (targets : List (ℕ × Referent)) → list_all (is_entry p) targets ≡ true → (n : ℕ) → length p ≤ n → told targets n ≡ Unbound
no_entry p targets entries n le = ⊎_elim (λ e. e)
    (λ e. let lt = (both (Decides-ltb n (length p)) (itself (may_refer p n (told targets n)))).0 e in absurd (past lt.0)) (entry_of (is_entry p) targets n entries)
  where
    past : n < length p → ⊥
    past lt = omega arith

-- ---- types are not above each other, and there is one String

abbrev is_apart : Rows → Table → ℕ → ℕ → Bool
is_apart p t d s = not (is_above p t d s && is_above p t s d) || nat_eq d s

abbrev is_one_string : Rows → ℕ → ℕ → Bool
is_one_string p s d = not (is_string p s && is_string p d) || nat_eq s d

abbrev are_types_apart : Rows → Table → Bool
are_types_apart p t = list_all (λ d. list_all (λ s. is_apart p t d s && is_one_string p d s) (types p)) (types p)

module _ (p : Rows) (t : Table) (headed : IsHeaded p) where
  apart_tells : (d s : ℕ) → Decides (is_apart p t d s && is_one_string p d s)
      (((Above p t d s × Above p t s d) → d ≡ s) × ((IsString p d × IsString p s) → d ≡ s))
  apart_tells d s = both (implies (both (above_tells p t headed d s) (above_tells p t headed s d)) (Decides-eqb d s)) (implies (both (string_tells p d) (string_tells p s)) (Decides-eqb d s))

  types_apart : are_types_apart p t ≡ true → (d : ℕ) → IsType p d → (s : ℕ) → IsType p s → ((Above p t d s × Above p t s d) → d ≡ s) × ((IsString p d × IsString p s) → d ≡ s)
  types_apart = (every_of (λ d. list_all (λ s. is_apart p t d s && is_one_string p d s) (types p))
      (λ d. (s : ℕ) → IsType p s → ((Above p t d s × Above p t s d) → d ≡ s) × ((IsString p d × IsString p s) → d ≡ s))
      (λ d. every_of (λ s. is_apart p t d s && is_one_string p d s) (λ s. ((Above p t d s × Above p t s d) → d ≡ s) × ((IsString p d × IsString p s) → d ≡ s))
      (λ s. apart_tells d s) (types p) (types_list p)) (types p) (types_list p)).0

  above_source : {d s : ℕ} → Above p t d s → IsType p d
  above_source {d} {s} (Above.direct h) = super_source p t headed d s h
  above_source {d} (Above.further {r = r} h more) = super_source p t headed d r h
  above_source {d} (Above.object i o) = interface_type (label p d) i

-- ---- all of it

abbrev is_typable : Rows → List (ℕ × Referent) → Bool
is_typable p targets = (is_headed p && list_all (is_entry p) targets) && are_types_apart p (told targets)

typable_parts : (p : Rows) (targets : List (ℕ × Referent)) → is_typable p targets ≡ true
    → ((is_headed p ≡ true) × (list_all (is_entry p) targets ≡ true)) × (are_types_apart p (told targets) ≡ true)
typable_parts p targets = (both (both (itself (is_headed p)) (itself (list_all (is_entry p) targets))) (itself (are_types_apart p (told targets)))).0

typable_entries : (p : Rows) (targets : List (ℕ × Referent)) → is_typable p targets ≡ true → list_all (is_entry p) targets ≡ true
typable_entries p targets passes = (typable_parts p targets passes).0.1

typable_from : (p : Rows) (targets : List (ℕ × Referent)) → is_typable p targets ≡ true → IsTypable p (told targets)
typable_from p targets passes = record {
  headed = headed;
  one_string = λ s d hs hd. (apart s hs.type d hd.type).1 (hs, hd);
  variable = variable;
  length_of = length_of;
  acyclic = λ d s up down. (apart d (above_source p (told targets) headed up) s (above_source p (told targets) headed down)).0 (up, down);
}
  where
    h : ((is_headed p ≡ true) × (list_all (is_entry p) targets ≡ true)) × (are_types_apart p (told targets) ≡ true)
    h = typable_parts p targets passes

    headed : IsHeaded p
    headed = headed_from p h.0.0

    apart : (d : ℕ) → IsType p d → (s : ℕ) → IsType p s → ((Above p (told targets) d s × Above p (told targets) s d) → d ≡ s) × ((IsString p d × IsString p s) → d ≡ s)
    apart = types_apart p (told targets) headed h.1

    entry : (n : ℕ) → (told targets n ≡ Unbound) ⊎ (may_refer p n (told targets n) ≡ true)
    entry n = ⊎_elim inl (λ e. inr ((both (itself (nat_lt n (length p))) (itself (may_refer p n (told targets n)))).0 e).1) (entry_of (is_entry p) targets n h.0.1)

    of_variable : (n d : ℕ) (level : Option ℕ) (a : Referent) → (a ≡ Unbound) ⊎ (may_refer p n a ≡ true) → a ≡ Declared d level → IsVariable p d → IsVariableLabel (label p n)
    of_variable n d level a (inl none) e v = absurd (cc)
    of_variable n d level a (inr may) e v =
        (implies (variable_tells p d) (variable_label_tells (label p n))).0 (subst (λ x. may_refer p n x ≡ true) e may) v

    variable : (n d : ℕ) (level : Option ℕ) → told targets n ≡ Declared d level → IsVariable p d → IsVariableLabel (label p n)
    variable n d level e v = of_variable n d level (told targets n) (entry n) e v

    of_length : (n : ℕ) (a : Referent) → (a ≡ Unbound) ⊎ (may_refer p n a ≡ true) → a ≡ ArrayLength → IsVariableLabel (label p n)
    of_length n a (inl none) e = absurd (cc)
    of_length n a (inr may) e = (variable_label_tells (label p n)).0 (subst (λ x. may_refer p n x ≡ true) e may)

    length_of : (n : ℕ) → told targets n ≡ ArrayLength → IsVariableLabel (label p n)
    length_of n e = of_length n (told targets n) (entry n) e

-- ---- what the plain functions give

abbrev pub values : Rows → Table → Constants
values p t = constants p t (has_constant_form p t)

abbrev pub types_of : Rows → Table → Types
types_of p t = expression_types p t (values p t)

-- each row refers to what the function of lookup gives under the table itself
abbrev pub agrees : Rows → Table → Bool
agrees p t = let type_of = types_of p t in all_below (length p) (λ o. same_referent (look p t type_of o) (t o))

abbrev pub is_right : Worked → Bool
is_right w = is_typable w.rows w.targets && agrees w.rows (table_of w)

right_tells : (w : Worked) → Decides (is_right w) ((is_typable w.rows w.targets ≡ true) × (agrees w.rows (table_of w) ≡ true))
right_tells w = both (itself (is_typable w.rows w.targets)) (itself (agrees w.rows (table_of w)))

pub typable_of : (w : Worked) → is_right w ≡ true → IsTypable w.rows (table_of w)
typable_of w passes = typable_from w.rows w.targets ((right_tells w).0 passes).0

module _ (p : Rows) (t : Table) (typable : IsTypable p t) where
  values_find : (n : ℕ) → Finds (values p t n) (λ v. Constant p t n v)
  values_find = form_constants_find p t typable

  types_find : (n : ℕ) → Finds (types_of p t n) (λ a. TypeOf p t (HasConstantForm p t) n a)
  types_find = expression_finds p t typable (HasConstantForm p t) (values p t) values_find

  look_is : (o : ℕ) → Look p t (HasConstantForm p t) o (look p t (types_of p t) o)
  look_is o = look_for_is p t typable.headed (HasConstantForm p t) (types_of p t) types_find o (name p o) (sought_at p o)

-- the test tells that the table has what lookup gives
pub looked_up : (w : Worked) → is_right w ≡ true → IsLookedUp w
looked_up w passes o = subst (λ a. Look w.rows (table_of w) (HasConstantForm w.rows (table_of w)) o a) (same o) (look_is w.rows (table_of w) (typable_of w passes) o)
  where
    h : (is_typable w.rows w.targets ≡ true) × (agrees w.rows (table_of w) ≡ true)
    h = (right_tells w).0 passes

    within : (o : ℕ) → o < length w.rows → look w.rows (table_of w) (types_of w.rows (table_of w)) o ≡ table_of w o
    within = (all (λ o. same_referent (look w.rows (table_of w) (types_of w.rows (table_of w)) o) (table_of w o))
        (λ o. look w.rows (table_of w) (types_of w.rows (table_of w)) o ≡ table_of w o)
        (λ o. referent_tells (look w.rows (table_of w) (types_of w.rows (table_of w)) o) (table_of w o)) (length w.rows)).0 h.1

    -- past the end no row looks for anything, and the table has no entry
    looks_for_nothing : (o : ℕ) → length w.rows ≤ o → look w.rows (table_of w) (types_of w.rows (table_of w)) o ≡ Unbound
    looks_for_nothing o le =
        subst (λ s. look_for w.rows (table_of w) (types_of w.rows (table_of w)) o (name w.rows o) s ≡ Unbound) (sym (ap sought_by (label_past w.rows o le))) refl

    same : (o : ℕ) → look w.rows (table_of w) (types_of w.rows (table_of w)) o ≡ table_of w o
    same o = ⊎_elim (λ lt. within o lt) (λ le. looks_for_nothing o le ∙ sym (no_entry w.rows w.targets (typable_entries w.rows w.targets h.0) o le)) (cases_lt o (length w.rows))

-- ---- single facts

pub constant_is : (w : Worked) → is_right w ≡ true → (n : ℕ) (v : Const) → values w.rows (table_of w) n ≡ Some v → Constant w.rows (table_of w) n v
constant_is w passes n v e = (values_find w.rows (table_of w) (typable_of w passes) n v).0 e

pub no_constant : (w : Worked) → is_right w ≡ true → (n : ℕ) → values w.rows (table_of w) n ≡ None → (v : Const) → Constant w.rows (table_of w) n v → ⊥
no_constant w passes n e v h = let found = (values_find w.rows (table_of w) (typable_of w passes) n v).1 h in cc

pub type_is : (w : Worked) → is_right w ≡ true → (n : ℕ) (a : RowType) → types_of w.rows (table_of w) n ≡ Some a → TypeOf w.rows (table_of w) (HasConstantForm w.rows (table_of w)) n a
type_is w passes n a e = (types_find w.rows (table_of w) (typable_of w passes) n a).0 e

pub no_type : (w : Worked) → is_right w ≡ true → (n : ℕ) → types_of w.rows (table_of w) n ≡ None → (a : RowType) → TypeOf w.rows (table_of w) (HasConstantForm w.rows (table_of w)) n a → ⊥
no_type w passes n e a h = let found = (types_find w.rows (table_of w) (typable_of w passes) n a).1 h in cc

-- a test that fails
pub no : {b : Bool} {P : Type 0} → Decides b P → b ≡ false → P → ⊥
no tells e h = let found = tells.1 h in cc
