-- Tables of values by row, and what the row of an expression has by them.
use Rattle.std.specs.Prelude.{◌≡◌, ℕ, ◌+◌, ◌<◌, Bool, true, false, List, ◌++◌, length, Option, Some, None, if◌then◌else◌, nat_eq, option_map, option_and_then, slice_get, slice_index_or, ⊤}
use Rattle.jr_base.specs.declared.constant.Const.{Const}
use Rattle.jr_tree.specs.declared.label.Label.{Label}
use Rattle.jr_tree.specs.declared.label.Label.TheVariants as is
use Rattle.jr_tree.specs.Rows.{Rows, parent}
use Rattle.jr_defs.specs.declared.referent.RowType.{RowType}
use Rattle.jr_defs.specs.Referents.{Table}
use Rattle.jr_defs.specs.Constants.{ConstantOf, ConstantVariable}
use Rattle.jr_defs.specs.Laws.{Picked}
use Rattle.jr_plain.specs.Constants.{constant_by, is_initialized}
use Rattle.jr_plain.specs.Conversions.{Constants}
use Rattle.jr_plain.specs.Types.{type_at}
use Rattle.jr_supers.specs.Tabled.{declared, first_child}
use Rattle.jr_constants.specs.declared.value.Value.{Value}
use Rattle.jr_constants.specs.declared.value.Value.TheVariants as v
use Rattle.jr_constants.specs.Values.{value_in, value_in_if}

-- ---- what a table has

abbrev pub item : List (Option Value) → ℕ → Option Value
item all n = slice_index_or all n None

-- the values of a table, with their strings
abbrev pub values_in : List (List ℕ) → List (Option Value) → Constants
values_in texts all n = value_in_if texts (item all n)

-- the rows that are picked
abbrev pub picks : List Bool → ℕ → Bool
picks all n = slice_index_or all n false

-- ---- the children of a row

-- the row behind all that is in a row
abbrev pub after : Rows → ℕ → Option ℕ
after p n = option_map (λ r. r.end) (slice_get p n)

-- what a table has for a child
abbrev pub part : Rows → List (Option Value) → ℕ → ℕ → Option Value
part p all n m = if nat_eq (parent p m) n then item all m else None

abbrev pub part_if : Rows → List (Option Value) → ℕ → Option ℕ → Option Value
part_if p all n None = None
part_if p all n (Some m) = part p all n m

abbrev pub second : Rows → List (Option Value) → ℕ → Option Value
second p all n = part_if p all n (after p (n + 1))

abbrev pub third : Rows → List (Option Value) → ℕ → Option Value
third p all n = part_if p all n (option_and_then (after p) (after p (n + 1)))

-- the type that is written at the first child
abbrev pub cast_type : Rows → Table → ℕ → Option RowType
cast_type p t n = option_and_then (type_at p t) (first_child p n)

-- ---- the value of a row

-- what a table has for the variable that a row refers to, where it is read as a constant
abbrev pub variable_read : Table → (ℕ → Bool) → Constants → ℕ → Option Const
variable_read t k variables n = if k n then option_and_then variables (declared (t n)) else None

-- the value of the expression n, by its label, from those of its parts and of variables
abbrev pub valued_by : Rows → Table → (ℕ → Bool) → Constants → Constants → ℕ → Label → Option Const
valued_by p t k variables values n (is.Name kind place is_qualified) = variable_read t k variables n
valued_by p t k variables values n is.Select = variable_read t k variables n
valued_by p t k variables values n is.SuperSelect = variable_read t k variables n
valued_by p t k variables values n l = constant_by p t k values n l

-- the label is that of no literal and no operator on two, which alone may make a string
abbrev pub is_plain : Label → Bool
is_plain (is.Literal token) = false
is_plain (is.Binary op) = false
is_plain _ = true

-- ---- the pool of texts

-- a string is one of the texts
abbrev pub IsIn : List (List ℕ) → Value → Type 0
IsIn texts (v.Str text) = text < length texts
IsIn texts _ = ⊤

abbrev pub IsInIf : List (List ℕ) → Option Value → Type 0
IsInIf texts None = ⊤
IsInIf texts (Some value) = IsIn texts value

abbrev pub AreIn : List (List ℕ) → List (Option Value) → Type 0
AreIn texts all = (n : ℕ) → IsInIf texts (item all n)

-- texts were added
abbrev pub IsGrown : List (List ℕ) → List (List ℕ) → Type 0
IsGrown before after = (more : List (List ℕ)) × (after ≡ before ++ more)

-- each value that a table has is the one of its row, by the definition
abbrev pub Tells : List (List ℕ) → List (Option Value) → (ℕ → Const → Type 0) → Type 0
Tells texts all R = (n : ℕ) (value : Value) → item all n ≡ Some value → IsIn texts value × R n (value_in texts value)

-- the values of expressions, one place for each row, and of variables are those of the definition, where the references of k are read as constants
pub record AreKnown (p : Rows) (t : Table) (k : ℕ → Bool) (texts : List (List ℕ)) (variables values : List (Option Value)) : Type 0 where
  pub of_rows : Tells texts values (ConstantOf p t (Picked k))
  pub of_variables : Tells texts variables (ConstantVariable p t (Picked k))
  pub size : length values ≡ length p

-- the row of the initializer of a final variable
pub record IsInitializer (p : Rows) (d n : ℕ) : Type 0 where
  pub initialized : is_initialized p d ≡ true
  pub row : n ≡ d + 2
