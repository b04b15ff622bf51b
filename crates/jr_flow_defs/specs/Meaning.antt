-- What a row does by what its names refer to, by the types of expressions and by their values.
use Rattle.std.specs.Prelude.{ℕ, zero, suc, ◌+◌, Bool, true, false, not, ◌&&◌, ◌||◌, if◌then◌else◌, length, Option, Some, None, is_some, nat_eq}
use Rattle.jr_base.specs.declared.kind.Symbol.{Symbol}
use Rattle.jr_base.specs.declared.kind.Symbol.TheVariants as y
use Rattle.jr_tree.specs.declared.label.Label.{Label}
use Rattle.jr_tree.specs.declared.label.Label.TheVariants as is
use Rattle.jr_tree.specs.declared.label.Role.{Role}
use Rattle.jr_tree.specs.declared.label.Role.TheVariants as role
use Rattle.jr_tree.specs.Rows.{Rows, label, parent, end, role_at}
use Rattle.jr_defs.specs.declared.referent.RowType.{RowType}
use Rattle.jr_defs.specs.declared.referent.Referent.{Referent}
use Rattle.jr_defs.specs.declared.referent.Referent.TheVariants.{ArrayLength, Declared}
use Rattle.jr_defs.specs.Referents.{Table}
use Rattle.jr_plain.specs.Conversions.{Constants}
use Rattle.jr_plain.specs.Constants.{constants, has_constant_form}
use Rattle.jr_plain.specs.Overloads.{Types}
use Rattle.jr_plain.specs.Supertypes.{is_reference_type, is_subtype}
use Rattle.jr_plain.specs.Typing.{is_string_type, is_plus, expression_types}

-- what names refer to, the values of constant expressions (JLS 15.28), and the types of expressions
pub record Meaning : Type 0 where
  pub targets : Table
  pub values : Constants
  pub types : Types

-- the meaning of a program under a table
abbrev pub meaning_of : Rows → Table → Meaning
meaning_of p t = let values = constants p t (has_constant_form p t) in record { targets = t; values = values; types = expression_types p t values }

abbrev pub is_constant : Meaning → ℕ → Bool
is_constant m n = is_some (m.values n)

-- ---- what names refer to

abbrev pub declared : Referent → Option ℕ
declared (Declared d level) = Some d
declared _ = None

abbrev pub is_local_role : Role → Bool
is_local_role role.Local = true
is_local_role role.Parameter = true
is_local_role _ = false

abbrev pub is_field_role : Role → Bool
is_field_role role.Field = true
is_field_role _ = false

-- the local or parameter among what is declared
abbrev pub local_among : Rows → Option ℕ → Option ℕ
local_among p (Some d) = if is_local_role (role_at p d) then Some d else None
local_among p None = None

-- the local or parameter to which the row refers
abbrev pub local_at : Rows → Meaning → ℕ → Option ℕ
local_at p m n = local_among p (declared (m.targets n))

-- a field, unless the name is constant (JLS 15.28), or the length of an array (JLS 10.7)
abbrev pub is_read : Rows → Meaning → ℕ → Referent → Bool
is_read p m n ArrayLength = true
is_read p m n (Declared d level) = is_field_role (role_at p d) && not (is_constant m n)
is_read p m n _ = false

abbrev pub reads_field : Rows → Meaning → ℕ → Bool
reads_field p m n = is_read p m n (m.targets n)

-- ---- what is assigned (JLS 15.26)

abbrev pub is_plain_assignment : Label → Bool
is_plain_assignment (is.Assign y.Assign) = true
is_plain_assignment _ = false

-- the left side of a simple assignment, whose value is not fetched (JLS 15.26.1)
abbrev pub is_only_written : Rows → ℕ → Bool
is_only_written p n = is_plain_assignment (label p (parent p n)) && nat_eq n (parent p n + 1)

abbrev pub is_paren : Label → Bool
is_paren is.Paren = true
is_paren _ = false

-- the first row from k on that is no parenthesis, within so many
abbrev pub unwrapped : Rows → ℕ → ℕ → ℕ
unwrapped p zero k = k
unwrapped p (suc room) k = if is_paren (label p k) then unwrapped p room (k + 1) else k

-- the first operand of the row, without parentheses (JLS 15.8.5)
abbrev pub operand : Rows → ℕ → ℕ
operand p n = unwrapped p (length p) (n + 1)

-- ---- operators

-- JLS 15.17.2, 15.17.3
abbrev pub divides : Symbol → Bool
divides y.Slash = true
divides y.Percent = true
divides y.SlashAssign = true
divides y.PercentAssign = true
divides _ = false

-- JLS 15.18, 15.26.2
abbrev pub adds : Symbol → Bool
adds y.Plus = true
adds y.PlusAssign = true
adds _ = false

abbrev pub is_text : Rows → Option RowType → Bool
is_text p None = false
is_text p (Some a) = is_string_type p a

-- the operator divides, or makes a string (JLS 15.18.1), and its value is not constant
abbrev pub makes : Rows → Meaning → ℕ → Symbol → Bool
makes p m n op = not (is_constant m n) && (divides op || (adds op && is_text p (m.types n)))

abbrev pub is_shown : Rows → Option RowType → Bool
is_shown p None = false
is_shown p (Some a) = is_reference_type a && not (is_string_type p a)

-- the left operand of a sum is an object that is converted to a string before the right one is evaluated (JLS 15.18.1.1, 15.7.1)
abbrev pub shows_left : Rows → Meaning → ℕ → Symbol → Bool
shows_left p m n op = is_plus op && makes p m n op && is_shown p (m.types (n + 1))

-- a conversion from a reference type to one that is not above it is checked when it runs (JLS 5.1.5, 15.16)
abbrev pub is_checked_cast : Rows → Meaning → Option RowType → Option RowType → Bool
is_checked_cast p m (Some from) (Some to) = is_reference_type from && is_reference_type to && not (is_subtype p m.targets from to)
is_checked_cast p m _ _ = false

abbrev pub narrows : Rows → Meaning → ℕ → Bool
narrows p m n = is_checked_cast p m (m.types (end p (n + 1))) (m.types n)
