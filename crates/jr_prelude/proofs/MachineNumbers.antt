-- The numbers by which the machine knows declarations of the prelude are those of their rows.
use Rattle.std.proofs.Common.{◌≡◌, ◌⊎◌, inl, inr, ℕ, zero, suc, ◌+◌, ◌<◌, ◌≤◌, Bool, true, false, not, ◌||◌, ◌&&◌, ◌==◌, nat_lt, List, [], ◌∷◌, length, drop, get_or, slice_index_or, refl, sym, ◌∙◌, ap, subst, arith, codes}
use Rattle.std.specs.List.{AllByRecursion}
use Rattle.std.specs.Str.{bytes_eq}
use Rattle.std.proofs.lemmas.Bool.{false≢true, lt-ltb, eqb-true, eq-eqb, cases_lt, and_from, and_parts}
use Rattle.std.proofs.lemmas.List.{get_or_past}
use Rattle.std.proofs.lemmas.Slice.Eq.{bytes_eq-Decides}
use Rattle.jr_base.specs.declared.text.Text.{Text}
use Rattle.jr_tree.specs.declared.tree.TypeUse.{TypeUse}
use Rattle.jr_tree.specs.declared.tree.Base.{Base}
use Rattle.jr_tree.specs.declared.tree.Primitive.TheVariants as primitive
use Rattle.jr_tree.specs.declared.tree.Base.TheVariants as base
use Rattle.jr_tree.specs.declared.label.Label.{Label}
use Rattle.jr_tree.specs.declared.label.Label.TheVariants as is
use Rattle.jr_tree.specs.declared.label.Role.{Role}
use Rattle.jr_tree.specs.declared.label.Role.TheVariants as role
use Rattle.jr_tree.specs.declared.row.Row.{Row}
use Rattle.jr_tree.specs.Labels.{role_of}
use Rattle.jr_tree.specs.declared.tree.Unit as declared_unit
use Rattle.jr_tree.specs.Mirror.Decls as d
use Rattle.jr_tree.specs.Forest.{Forest, none, node, each}
use Rattle.jr_tree.specs.Decls.{unit_labels}
use Rattle.jr_tree.specs.Rows.{Rows, row, rows_from, program_rows, label, name, parent, end, role_at, nodes_before}
use Rattle.jr_tree.specs.Tree.{IsTree}
use Rattle.jr_tree.proofs.Trees.{each_program_is_tree}
use Rattle.jr_defs.specs.Declarations.{IsClass, IsClassLabel}
use Rattle.jr_defs.specs.Enclosing.{DeclaredIn, holder}
use Rattle.jr_defs.specs.Numbers.{units_before, numbered_at, nodes_to, declaration_part, IsDeclaration}
use Rattle.jr_defs.specs.Packages.{package_of}
use Rattle.jr_machine_defs.specs.declared.outcome.Fault.TheVariants as fault
use Rattle.jr_machine_defs.specs.Prelude.{decl_at}
use Rattle.jr_machine_defs.specs.Renamed.{IsOwn as own}
use Rattle.jr_prelude.specs.Lang.{lang_unit, primitive_type, object_type, string_type}
use Rattle.jr_prelude.specs.Io.{io_unit}
use Rattle.jr_prelude.specs.Numbers.{parameter_types, IsClassOfPrelude, Class, Method, HasNumber, machine_numbers, lang, io, HasMachineNumbers, ListsAllOwn}
use Rattle.jr_prelude.proofs.OneNumber.{one_number, one_unit}

-- ---- a test of each of the first rows, with its number

abbrev first_rows : (ℕ → Row → Bool) → ℕ → ℕ → Rows → Bool
first_rows test at zero rs = true
first_rows test at (suc more) [] = true
first_rows test at (suc more) (r ∷ rs) = test at r && first_rows test (at + 1) more rs

each_row : (test : ℕ → Row → Bool) (at more : ℕ) (rs : Rows) → first_rows test at more rs ≡ true → (n : ℕ) (d : Row) → n < more → n < length rs
    → test (at + n) (get_or rs n d) ≡ true
each_row test at zero rs h n d low l = absurd (omega arith)
each_row test at (suc more) [] h n d low l = absurd (omega arith)
each_row test at (suc more) (r ∷ rs) h zero d low l =
    subst (λ n. test n r ≡ true) (let e : at ≡ at + 0 = omega arith in e) (and_parts (test at r) (first_rows test (at + 1) more rs) h).0
each_row test at (suc more) (r ∷ rs) h (suc n) d low l =
    subst (λ k. test k (get_or rs n d) ≡ true) (let e : at + 1 + n ≡ at + suc n = omega arith in e)
    (each_row test (at + 1) more rs (and_parts (test at r) (first_rows test (at + 1) more rs) h).1 n d (omega arith) (omega arith))

-- ---- the tests

implied : (a b : Bool) → a ≡ true → (not a || b) ≡ true → b ≡ true
implied true b e h = h
implied false b e h = absurd (false≢true e)

same_text : (x y : Text) → x ≡ y → bytes_eq x y ≡ true
same_text x y e = (bytes_eq-Decides x y).1 e

abbrev is_class : Label → Bool
is_class (is.Class modifiers is_member) = true
is_class _ = false

class_label : (l : Label) → IsClassLabel l → is_class l ≡ true
class_label (is.Class modifiers is_member) h = refl
class_label _ h = absurd h

abbrev is_nothing : Role → Bool
is_nothing role.Nothing = true
is_nothing _ = false

class_declares : (l : Label) → IsClassLabel l → is_nothing (role_of l) ≡ false
class_declares (is.Class modifiers is_member) h = refl
class_declares _ h = absurd h

abbrev is_method : Role → Bool
is_method role.Method = true
is_method _ = false

abbrev is_string : Base → Bool
is_string (base.Named name) = bytes_eq (slice_index_or name.parts 0 []) (codes "String")
is_string (base.Primitive word) = false

abbrev is_one_string : List TypeUse → Bool
is_one_string (ty ∷ []) = is_string ty.base
is_one_string _ = false

-- a class with the name, right below the unit, is that one
abbrev only_class : ℕ → Text → ℕ → ℕ → Row → Bool
only_class u x c n r = not (is_class r.label && ((r.parent == u) && bytes_eq r.name x)) || (n == c)

-- of the rows from one on, a method with the name, whose number passes, is that one
abbrev only_method : ℕ → Text → (ℕ → Bool) → ℕ → ℕ → Row → Bool
only_method from x fits m n r = not (nat_lt from n && (is_method (role_of r.label) && (bytes_eq r.name x && fits n))) || (n == m)

-- ---- programs that begin with the units of the prelude

abbrev pub prelude_rows : Forest → Rows
prelude_rows rest = rows_from 0 0 0 (node is.Program (unit_labels lang_unit (unit_labels io_unit rest)) none)

past_row : (p : Rows) (n : ℕ) → length p ≤ n → row p n ≡ record { label = is.Skip; name = []; parent = n; end = n + 1; previous = n }
past_row p n past = get_or_past p n (record { label = is.Skip; name = []; parent = n; end = n + 1; previous = n }) past

passes : (p : Rows) (test : ℕ → Row → Bool) (to : ℕ) → first_rows test 0 to p ≡ true → to ≤ length p → (n : ℕ) → n < to → test n (row p n) ≡ true
passes p test to all long n low =
    subst (λ k. test k (row p n) ≡ true) (let e : 0 + n ≡ n = omega arith in e)
    (each_row test 0 to p all n (record { label = is.Skip; name = []; parent = n; end = n + 1; previous = n }) low (omega arith))

-- what stands right below a row of a program other than the first is inside it
module _ (p : Rows) (tree : IsTree p) (c n : ℕ) (below : parent p n ≡ c) (some : 1 ≤ c) (low : c < length p) where
  stands_there : n < length p
  stands_there = elim (cases_lt n (length p)) [
    | inl l ↦ l
    | inr past ↦ absurd (let at : parent p n ≡ n = ap (λ (r : Row). r.parent) (past_row p n past) in omega arith)
  ]

  not_first : (k : ℕ) → k ≡ n → 0 < k
  not_first zero e = absurd (let root = tree.root in let at : parent p 0 ≡ parent p n = ap (parent p) e in omega arith)
  not_first (suc k) e = omega arith

  pub inside : (c < n) × (n < end p c)
  inside =
      let first = not_first n refl in
      let up = tree.up n stands_there first in
      (omega arith, subst (λ k. n < end p k) below (tree.held n stands_there first))

module _ (rest : Forest) (tree : IsTree (prelude_rows rest)) where
  abbrev p : Rows
  p = prelude_rows rest

  unit_is_there : 262 < length p
  unit_is_there = elim (cases_lt 262 (length p)) [
    | inl l ↦ l
    | inr past ↦ absurd (let at : 391 ≡ 263 = ap (λ (r : Row). r.end) (past_row p 262 past) in omega arith)
  ]

  long : 391 ≤ length p
  long = tree.last 262 unit_is_there

  unit_row : (u : ℕ) → label p u ≡ is.Unit → units_before p u < 2 → (u ≡ 1) ⊎ (u ≡ 262)
  unit_row u unit few = elim (cases_lt (units_before p u) 1) [
    | inl l ↦ inl (one_unit p u 1 unit refl (let e : units_before p u ≡ 0 = omega arith in e))
    | inr g ↦ inr (one_unit p u 262 unit refl (let e : units_before p u ≡ 1 = omega arith in e))
  ]

  apart : lang ≡ io → ⊥
  apart e = false≢true (sym (ap (λ (path : List Text). bytes_eq (slice_index_or path 1 []) (codes "lang")) e))

  lang_row : (u : ℕ) → label p u ≡ is.Unit → units_before p u < 2 → package_of p u ≡ lang → u ≡ 1
  lang_row u unit few path = elim (unit_row u unit few) [
    | inl e ↦ e
    | inr e ↦ absurd (apart (sym path ∙ ap (package_of p) e))
  ]

  io_row : (u : ℕ) → label p u ≡ is.Unit → units_before p u < 2 → package_of p u ≡ io → u ≡ 262
  io_row u unit few path = elim (unit_row u unit few) [
    | inl e ↦ absurd (apart (sym (ap (package_of p) e) ∙ path))
    | inr e ↦ e
  ]

  -- ---- the only class, and the only method

  one_class : (u to : ℕ) (x : Text) (c d : ℕ) → first_rows (only_class u x c) 0 to p ≡ true → to ≤ length p → end p u ≡ to → 1 ≤ u → u < length p
      → IsClass p d → parent p d ≡ u → name p d ≡ x → d ≡ c
  one_class u to x c d all fits last some low class below named =
      let within = inside p tree u d below some low in
      let test = passes p (only_class u x c) to all fits d (let l = within.1 in omega arith) in
      let what = is_class (label p d) && ((parent p d == u) && bytes_eq (name p d) x) in
      let so : what ≡ true = and_from (is_class (label p d)) ((parent p d == u) && bytes_eq (name p d) x) (class_label (label p d) class)
      (and_from (parent p d == u) (bytes_eq (name p d) x) (eq-eqb (parent p d) u below) (same_text (name p d) x named)) in
      eqb-true d c (implied what (d == c) so test)

  one_method : (c to : ℕ) (x : Text) (fits : ℕ → Bool) (m d : ℕ) → first_rows (only_method c x fits m) 0 to p ≡ true → to ≤ length p → end p c ≡ to → 1 ≤ c → c < length p
      → role_at p d ≡ role.Method → name p d ≡ x → fits d ≡ true → DeclaredIn p c d → d ≡ m
  one_method c to x fits m d all few last some low method named fit declared =
      let b = parent p d in
      let body : parent p b ≡ c = ap (λ (r : Role). parent p (holder r p d)) (sym method) ∙ declared.inside.inside in
      let in_class = inside p tree c b body some low in
      let there = stands_there p tree c b body some low in
      let in_body = inside p tree b d refl (let l = in_class.0 in omega arith) there in
      let ends = tree.apart c b in_class.0 in_class.1 in
      let after : c < d = (let l = in_class.0 in let k = in_body.0 in omega arith) in
      let before : d < to = (let l = in_body.1 in omega arith) in
      let test = passes p (only_method c x fits m) to all few d before in
      let is_so = is_method (role_at p d) in
      let is_named = bytes_eq (name p d) x in
      let what = nat_lt c d && (is_so && (is_named && fits d)) in
      let so : what ≡ true = and_from (nat_lt c d) (is_so && (is_named && fits d)) (lt-ltb c d after)
      (and_from is_so (is_named && fits d) (ap is_method method) (and_from is_named (fits d) (same_text (name p d) x named) fit)) in
      eqb-true d m (implied what (d == m) so test)

  -- ---- a class with its number, and a method with its number

  declared_at : (u cu at n : ℕ) → label p u ≡ is.Unit → cu ≡ units_before p u → u ≤ n → n < end p u
      → at + nodes_before p u ≡ nodes_to p (numbered_at (label p n) p n) → 0 ≡ declaration_part (label p n) → IsDeclaration p n (decl_at cu at)
  declared_at u cu at n unit counts from before number part = record {
    node = record { unit = u; holds = record { unit = unit; from = from; before = before }; in_unit = counts; is_node = number };
    part_is = part;
  }

  declares : (r : Role) → is_nothing r ≡ false → r ≡ role.Nothing → ⊥
  declares r h e = false≢true (sym h ∙ ap is_nothing e)

  -- one class of a unit of the prelude
  record OneClass (path : List Text) (x : Text) (c : ℕ) : Type 0 where
    pub such : IsClassOfPrelude p path x c
    pub once : (d : ℕ) → IsClassOfPrelude p path x d → d ≡ c

  one_of_lang : (x : Text) (c : ℕ) → first_rows (only_class 1 x c) 0 262 p ≡ true → IsClass p c → name p c ≡ x → parent p c ≡ 1 → OneClass lang x c
  one_of_lang x c all class named below = record {
    such = record {
      class = class;
      named = named;
      top = ap (label p) below;
      in_prelude = subst (λ u. units_before p u < 2) (sym below) (omega arith);
      in_package = ap (package_of p) below;
    };
    once = λ d h. one_class 1 262 x c d all (omega (arith, long)) refl (omega arith) (omega (arith, long)) h.class (lang_row (parent p d) h.top h.in_prelude h.in_package) h.named;
  }

  of_class : (path : List Text) (x : Text) (c cu at : ℕ) → OneClass path x c → IsDeclaration p c (decl_at cu at) → HasNumber p (decl_at cu at) (Class path x)
  of_class path x c cu at one numbered = record {
    row = c;
    such = one.such;
    once = one.once;
    numbered = numbered;
    alone = λ d some h. one_number p (decl_at cu at) refl d c some (declares (role_at p c) (class_declares (label p c) one.such.class)) h numbered;
  }

  of_lang : (x : Text) (c at : ℕ) → first_rows (only_class 1 x c) 0 262 p ≡ true → IsClass p c → name p c ≡ x → parent p c ≡ 1 → 1 ≤ c → c < 262
      → at + nodes_before p 1 ≡ nodes_to p (numbered_at (label p c) p c) → 0 ≡ declaration_part (label p c) → HasNumber p (decl_at 0 at) (Class lang x)
  of_lang x c at all class named below some low number part = of_class lang x c 0 at (one_of_lang x c all class named below) (declared_at 1 0 at c refl refl some low number part)

  of_method : (path : List Text) (class x : Text) (types : List TypeUse) (fits : ℕ → Bool) (c to m cu at : ℕ) → OneClass path class c
      → first_rows (only_method c x fits m) 0 to p ≡ true → to ≤ length p → end p c ≡ to → 1 ≤ c → c < length p → ((d : ℕ) → parameter_types p d ≡ types → fits d ≡ true)
      → role_at p m ≡ role.Method → name p m ≡ x → parameter_types p m ≡ types → DeclaredIn p c m → IsDeclaration p m (decl_at cu at)
      → HasNumber p (decl_at cu at) (Method path class x types)
  of_method path class x types fits c to m cu at one all few last some low passing method named takes declared numbered = record {
    row = m;
    such = record { method = method; named = named; takes = takes; holder = c; of_class = one.such; declared = declared };
    once = λ d h. one_method c to x fits m d all few last some low h.method h.named (passing d h.takes)
        (subst (λ k. DeclaredIn p k d) (one.once h.holder h.of_class) h.declared);
    numbered = numbered;
    alone = λ d is_some h. one_number p (decl_at cu at) refl d m is_some (declares (role_at p m) (ap is_nothing method)) h numbered;
  }

  -- ---- the fourteen

  object : OneClass lang (codes "Object") 5
  object = one_of_lang (codes "Object") 5 refl tt refl refl

  string : OneClass lang (codes "String") 28
  string = one_of_lang (codes "String") 28 refl tt refl refl

  print_stream : OneClass io (codes "PrintStream") 266
  print_stream = record {
    such = record { class = tt; named = refl; top = refl; in_prelude = omega arith; in_package = refl };
    once = λ d h. one_class 262 391 (codes "PrintStream") 266 d refl long refl (omega arith) unit_is_there h.class (io_row (parent p d) h.top h.in_prelude h.in_package) h.named;
  }

  of_lang_method : (class x : Text) (types : List TypeUse) (c to m at : ℕ) → OneClass lang class c
      → first_rows (only_method c x (λ n. true) m) 0 to p ≡ true → to ≤ 262 → end p c ≡ to → 1 ≤ c → c < 262 → 1 ≤ m → m < 262
      → role_at p m ≡ role.Method → name p m ≡ x → parameter_types p m ≡ types → DeclaredIn p c m
      → at + nodes_before p 1 ≡ nodes_to p (numbered_at (label p m) p m) → 0 ≡ declaration_part (label p m)
      → HasNumber p (decl_at 0 at) (Method lang class x types)
  of_lang_method class x types c to m at one all few last some low above before method named takes declared number part =
      of_method lang class x types (λ n. true) c to m 0 at one all (omega (arith, long)) last some (omega (arith, long)) (λ d h. refl) method named takes declared
      (declared_at 1 0 at m refl refl above before number part)

  object_number : HasNumber p (decl_at 0 3) (Class lang (codes "Object"))
  object_number = of_lang (codes "Object") 5 3 refl tt refl refl (omega arith) (omega arith) refl refl

  to_string_number : HasNumber p (decl_at 0 19) (Method lang (codes "Object") (codes "toString") [])
  to_string_number = of_lang_method (codes "Object") (codes "toString") [] 5 28 22 19 object refl (omega arith) refl (omega arith) (omega arith) (omega arith) (omega arith)
      refl refl refl (record { member = tt; inside = record { type = refl; body = refl; inside = refl } }) refl refl

  string_number : HasNumber p (decl_at 0 25) (Class lang (codes "String"))
  string_number = of_lang (codes "String") 28 25 refl tt refl refl (omega arith) (omega arith) refl refl

  length_number : HasNumber p (decl_at 0 28) (Method lang (codes "String") (codes "length") [])
  length_number = of_lang_method (codes "String") (codes "length") [] 28 52 33 28 string refl (omega arith) refl (omega arith) (omega arith) (omega arith) (omega arith)
      refl refl refl (record { member = tt; inside = record { type = refl; body = refl; inside = refl } }) refl refl

  char_at_number : HasNumber p (decl_at 0 30) (Method lang (codes "String") (codes "charAt") (primitive_type primitive.Int ∷ []))
  char_at_number = of_lang_method (codes "String") (codes "charAt") (primitive_type primitive.Int ∷ []) 28 52 35 30 string refl (omega arith) refl (omega arith) (omega arith) (omega arith) (omega arith)
      refl refl refl (record { member = tt; inside = record { type = refl; body = refl; inside = refl } }) refl refl

  equals_number : HasNumber p (decl_at 0 34) (Method lang (codes "String") (codes "equals") (object_type ∷ []))
  equals_number = of_lang_method (codes "String") (codes "equals") (object_type ∷ []) 28 52 39 34 string refl (omega arith) refl (omega arith) (omega arith) (omega arith) (omega arith)
      refl refl refl (record { member = tt; inside = record { type = refl; body = refl; inside = refl } }) refl refl

  print_number : HasNumber p (decl_at 1 4) (Method io (codes "PrintStream") (codes "print") (string_type ∷ []))
  print_number = of_method io (codes "PrintStream") (codes "print") (string_type ∷ []) (λ n. is_one_string (parameter_types p n)) 266 391 270 1 4 print_stream
      refl long refl (omega arith) (omega (arith, long)) (λ d h. ap is_one_string h) refl refl refl
      (record { member = tt; inside = record { type = refl; body = refl; inside = refl } })
      (declared_at 262 1 4 270 refl refl (omega arith) (omega arith) refl refl)

  arithmetic_number : HasNumber p (decl_at 0 118) (Class lang (codes "ArithmeticException"))
  arithmetic_number = of_lang (codes "ArithmeticException") 132 118 refl tt refl refl (omega arith) (omega arith) refl refl

  null_pointer_number : HasNumber p (decl_at 0 130) (Class lang (codes "NullPointerException"))
  null_pointer_number = of_lang (codes "NullPointerException") 145 130 refl tt refl refl (omega arith) (omega arith) refl refl

  class_cast_number : HasNumber p (decl_at 0 142) (Class lang (codes "ClassCastException"))
  class_cast_number = of_lang (codes "ClassCastException") 158 142 refl tt refl refl (omega arith) (omega arith) refl refl

  array_store_number : HasNumber p (decl_at 0 154) (Class lang (codes "ArrayStoreException"))
  array_store_number = of_lang (codes "ArrayStoreException") 171 154 refl tt refl refl (omega arith) (omega arith) refl refl

  negative_size_number : HasNumber p (decl_at 0 166) (Class lang (codes "NegativeArraySizeException"))
  negative_size_number = of_lang (codes "NegativeArraySizeException") 184 166 refl tt refl refl (omega arith) (omega arith) refl refl

  array_index_number : HasNumber p (decl_at 0 214) (Class lang (codes "ArrayIndexOutOfBoundsException"))
  array_index_number = of_lang (codes "ArrayIndexOutOfBoundsException") 236 214 refl tt refl refl (omega arith) (omega arith) refl refl

  string_index_number : HasNumber p (decl_at 0 226) (Class lang (codes "StringIndexOutOfBoundsException"))
  string_index_number = of_lang (codes "StringIndexOutOfBoundsException") 249 226 refl tt refl refl (omega arith) (omega arith) refl refl

  exceptions_hold : AllByRecursion (λ e. HasNumber p e.0 e.1) (drop 7 machine_numbers)
  exceptions_hold = (arithmetic_number, (null_pointer_number, (class_cast_number, (array_store_number, (negative_size_number, (array_index_number, (string_index_number, tt)))))))

  pub machine_numbers_hold : HasMachineNumbers p
  machine_numbers_hold = (object_number, (to_string_number, (string_number, (length_number, (char_at_number, (equals_number, (print_number, exceptions_hold)))))))

-- ---- of programs, and of all that the machine knows by itself

pub with_prelude : (a b : declared_unit.Unit) (others : List declared_unit.Unit) → d.plain_unit a ≡ lang_unit → d.plain_unit b ≡ io_unit
    → HasMachineNumbers (program_rows (a ∷ (b ∷ others)))
with_prelude a b others first second =
    let rest = each (λ v. unit_labels (d.plain_unit v)) others none in
    let same : program_rows (a ∷ (b ∷ others)) ≡ prelude_rows rest =
    ap (λ u. rows_from 0 0 0 (node is.Program (unit_labels u (unit_labels (d.plain_unit b) rest)) none)) first
    ∙ ap (λ v. rows_from 0 0 0 (node is.Program (unit_labels lang_unit (unit_labels v rest)) none)) second in
    subst HasMachineNumbers (sym same) (machine_numbers_hold rest (subst IsTree same (each_program_is_tree (a ∷ (b ∷ others)))))

pub all_listed : ListsAllOwn
all_listed _ own.object = (0, omega arith, refl)
all_listed _ own.to_string = (1, omega arith, refl)
all_listed _ own.string = (2, omega arith, refl)
all_listed _ own.string_length = (3, omega arith, refl)
all_listed _ own.char_at = (4, omega arith, refl)
all_listed _ own.equals = (5, omega arith, refl)
all_listed _ own.prints = (6, omega arith, refl)
all_listed _ (own.exception fault.Arithmetic) = (7, omega arith, refl)
all_listed _ (own.exception fault.NullPointer) = (8, omega arith, refl)
all_listed _ (own.exception fault.ClassCast) = (9, omega arith, refl)
all_listed _ (own.exception fault.ArrayStore) = (10, omega arith, refl)
all_listed _ (own.exception fault.NegativeArraySize) = (11, omega arith, refl)
all_listed _ (own.exception fault.ArrayIndex) = (12, omega arith, refl)
all_listed _ (own.exception fault.StringIndex) = (13, omega arith, refl)
