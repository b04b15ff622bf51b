-- Labels of switches by the numbers of their values (JLS 14.11).
use Rattle.std.specs.Prelude.{◌≡◌, ℕ, ◌+◌, ◌<◌, ℤ, pos, Bool, true, false, ◌&&◌, ◌||◌, if◌then◌else◌, List, length, Option, Some, None, is_some, option_and_then, nat_eq, slice_index_or}
use Rattle.std.specs.HashMap.{get}
use Rattle.std.specs.Ordering.{int_eq}
use Rattle.jr_base.specs.declared.constant.Const.{Const}
use Rattle.jr_base.specs.declared.constant.Const.TheVariants as c
use Rattle.jr_tree.specs.Rows.{Rows, label}
use Rattle.jr_defs.specs.declared.referent.Element.{Element}
use Rattle.jr_defs.specs.Operators.{as_long, assigned_to}
use Rattle.jr_plain.specs.Search.{any_below}
use Rattle.jr_plain.specs.Conversions.{Constants, of_two, plain_of}
use Rattle.jr_plain.specs.Overloads.{Types}
use Rattle.jr_plain.specs.Typing.{first}
use Rattle.jr_places.specs.Stamps.{is_stamped, IsStamping}
use Rattle.jr_constants.specs.declared.value.Value.{Value}
use Rattle.jr_constants.specs.Values.{seen}
use Rattle.jr_rules.specs.Statements.{switch_of}
use Rattle.jr_rules.specs.StatementTests.{is_default, case_value, is_repeated, is_second_default}
use Rattle.jr_type_facts.specs.declared.repeated.Met as code

-- the number of a constant; constants of one type are one where their numbers are
abbrev pub bit : Bool → ℤ
bit true = pos 1
bit false = pos 0

abbrev pub number_of : Const → Option ℤ
number_of (c.Bool b) = Some (bit b)
number_of w = as_long w

abbrev pub number_in : Value → Option ℤ
number_in value = number_of (seen value)

-- the type of the switch s, if it is plain
abbrev pub element_of : Rows → Types → ℕ → Option Element
element_of p types s = option_and_then plain_of (first p types s)

-- the number of the label at n, as one of the type of its switch
abbrev pub label_number : Rows → Constants → Types → ℕ → Option ℤ
label_number p constant types n = option_and_then number_of (of_two assigned_to (element_of p types (switch_of p n)) (constant (n + 1)))

-- the number of the label `case` at n
abbrev pub case_number : Rows → Constants → Types → ℕ → Option ℤ
case_number p constant types n = option_and_then number_of (case_value p constant types n)

abbrev pub is_number : Option ℤ → ℤ → Bool
is_number None z = false
is_number (Some y) z = int_eq y z

-- the label m, of the switch s, has the number z
abbrev pub has_number : Rows → Constants → Types → ℕ → ℤ → ℕ → Bool
has_number p constant types s z m = nat_eq (switch_of p m) s && is_number (case_number p constant types m) z

-- the label m of the switch s is a default
abbrev pub is_default_of : Rows → ℕ → ℕ → Bool
is_default_of p s m = nat_eq (switch_of p m) s && is_default (label p m)

abbrev pub same_key : ℕ × ℤ → ℕ × ℤ → Bool
same_key a b = nat_eq a.0 b.0 && int_eq a.1 b.1

-- the values of the first n rows were met, and the defaults of the first k
pub record HasMet (p : Rows) (constant : Constants) (types : Types) (n k : ℕ) (met : code.Met) : Type 0 where
  pub values : (s : ℕ) (z : ℤ) → is_some (get same_key met.values (s, z)) ≡ any_below n (has_number p constant types s z)
  pub stamping : IsStamping met.defaults (length p)
  pub defaults : (s : ℕ) → s < length p → is_stamped met.defaults s ≡ any_below k (is_default_of p s)

-- the number z was put in for the switch s
pub record PutsNumber (s : ℕ) (z : ℤ) (at : ℕ) (old new : code.Met) : Type 0 where
  pub updates : (q : ℕ × ℤ) → get same_key new.values q ≡ (if same_key (s, z) q then Some at else get same_key old.values q)
  pub kept : old.defaults ≡ new.defaults

-- it was there before
abbrev pub was_number : code.Met → ℕ → ℤ → Bool
was_number met s z = is_some (get same_key met.values (s, z))

-- the label at n has the same one before it in its switch
abbrev pub is_met : Rows → Constants → Types → ℕ → Bool
is_met p constant types n = is_repeated p constant types n || is_second_default p n

abbrev pub AreRepeated : Rows → Constants → Types → List Bool → Type 0
AreRepeated p constant types all = (n : ℕ) → slice_index_or all n false ≡ is_met p constant types n
