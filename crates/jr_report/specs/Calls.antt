-- Which declarations may run a method (JLS 15.12.4.4, 15.18.1.1).
use Rattle.std.specs.Prelude.{◌≡◌, ℕ, ◌+◌, ◌<◌, ◌≤◌, Bool, true, false, not, ◌&&◌, ◌||◌, Option, Some, None, codes}
use Rattle.jr_base.specs.declared.kind.Symbol.TheVariants as y
use Rattle.jr_tree.specs.declared.label.Label.{Label}
use Rattle.jr_tree.specs.declared.label.Label.TheVariants as is
use Rattle.jr_tree.specs.declared.label.Role.TheVariants as role
use Rattle.jr_tree.specs.Rows.{Rows, label, name, end, role_at}
use Rattle.jr_defs.specs.declared.referent.Referent.TheVariants.{Declared}
use Rattle.jr_defs.specs.declared.referent.RowType.{RowType}
use Rattle.jr_defs.specs.Referents.{Table}
use Rattle.jr_defs.specs.Declarations.{IsObject}
use Rattle.jr_defs.specs.Enclosing.{DeclaredIn}
use Rattle.jr_defs.specs.Overriding.{Dispatches}
use Rattle.jr_plain.specs.Overloads.{Types}
use Rattle.jr_plain.specs.Supertypes.{is_reference_type}
use Rattle.jr_plain.specs.Typing.{is_string_type}

-- ---- calls

-- a call of k may run m: k itself, or what it finds in a class that has k
pub data MayRun (p : Rows) (t : Table) (k : ℕ) : ℕ → Type 0 where
  itself : MayRun p t k k
  found : {c m : ℕ} → Dispatches p t c k m → MayRun p t k m

-- a call of a method, a creation, or a call of a constructor, written or not (JLS 8.8.7, 15.9, 15.12)
abbrev pub is_call : Label → Bool
is_call (is.Call receiver) = true
is_call is.New = true
is_call (is.ConstructorCall which) = true
is_call is.ImplicitCall = true
is_call _ = false

-- a row that calls k
pub record IsCallOf (p : Rows) (t : Table) (k n : ℕ) : Type 0 where
  pub call : is_call (label p n) ≡ true
  pub level : Option ℕ
  pub target : t n ≡ Declared k level

-- ---- string conversions

-- String, or a reference type other than String; null is of neither
abbrev pub is_text : Rows → Option RowType → Bool
is_text p None = false
is_text p (Some a) = is_string_type p a

abbrev pub is_shown : Rows → Option RowType → Bool
is_shown p None = false
is_shown p (Some a) = is_reference_type a && not (is_string_type p a)

-- a sum that is a String, or a string to which is added, with an operand of another reference type, which is shown by its `toString` (JLS 15.18.1.1, 15.26.2); the
-- left operand stands in the next row, and the right one behind it
abbrev pub shows_by : Label → Rows → Types → ℕ → Bool
shows_by (is.Binary y.Plus) p type_of n = is_text p (type_of n) && (is_shown p (type_of (n + 1)) || is_shown p (type_of (end p (n + 1))))
shows_by (is.Assign y.PlusAssign) p type_of n = is_text p (type_of (n + 1)) && is_shown p (type_of (end p (n + 1)))
shows_by _ p type_of n = false

abbrev pub shows_object : Rows → Types → ℕ → Bool
shows_object p type_of n = shows_by (label p n) p type_of n

-- the method `toString` of Object (JLS 4.3.2)
pub record IsToString (p : Rows) (k : ℕ) : Type 0 where
  pub object : ℕ
  pub is_object : IsObject p object
  pub declared : DeclaredIn p object k
  pub method : role_at p k ≡ role.Method
  pub named : name p k ≡ codes "toString"

-- ---- callers

-- methods, constructors, initializers and fields have code
abbrev pub has_code : Label → Bool
has_code (is.Method modifiers is_abstract is_void) = true
has_code (is.Constructor modifiers) = true
has_code is.DefaultConstructor = true
has_code (is.Initializer is_static) = true
has_code (is.Field modifiers dims) = true
has_code _ = false

-- the row n stands in the code of the declaration b
pub record IsInCode (p : Rows) (b n : ℕ) : Type 0 where
  pub code : has_code (label p b) ≡ true
  pub from : b ≤ n
  pub to : n < end p b

-- the row may run m: it calls what may run it, or shows an object whose `toString` may be m
pub data IsRunBy (p : Rows) (t : Table) (type_of : Types) (m n : ℕ) : Type 0 where
  calls : {k : ℕ} → IsCallOf p t k n → MayRun p t k m → IsRunBy p t type_of m n
  shows : {k : ℕ} → shows_object p type_of n ≡ true → IsToString p k → MayRun p t k m → IsRunBy p t type_of m n

-- the code of b has a row that may run m
pub record IsCallerOf (p : Rows) (t : Table) (type_of : Types) (m b : ℕ) : Type 0 where
  pub row : ℕ
  pub inside : IsInCode p b row
  pub runs : IsRunBy p t type_of m row
