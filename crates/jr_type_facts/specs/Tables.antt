-- What the tables have, row by row, and facts whose view and tables are right.
use Rattle.std.specs.Prelude.{◌≡◌, ℕ, zero, suc, Bool, true, false, ◌||◌, if◌then◌else◌, List, [], ◌∷◌, ◌++◌, Option, Some, None, codes, length, slice_index_or}
use Rattle.jr_tree.specs.Rows.{Rows, label, parent}
use Rattle.jr_defs.specs.declared.referent.RowType.{RowType}
use Rattle.jr_defs.specs.Referents.{Table}
use Rattle.jr_plain.specs.Search.{Finds, first_below}
use Rattle.jr_plain.specs.Declarations.{is_prelude, is_variable}
use Rattle.jr_plain.specs.Enclosing.{is_body_of}
use Rattle.jr_plain.specs.Instances.{is_call_of_constructor, is_in_constructor_call}
use Rattle.jr_plain.specs.Overloads.{Types}
use Rattle.jr_plain.specs.Types.{type_of_declared}
use Rattle.jr_rules.specs.Typed.{InMember}
use Rattle.jr_rules.specs.PlaceTests.{held_by, initializer_type}
use Rattle.jr_type_facts.specs.declared.facts.Facts as facts
use Rattle.jr_type_facts.specs.declared.tables.Tables as code
use Rattle.jr_type_facts.specs.Views.{rows_in, table_in, types_in, IsSeenView}

-- ---- what a table has for a row

abbrev pub item : {A : Type 0} → List (Option A) → ℕ → Option A
item all n = slice_index_or all n None

abbrev pub is_marked : List Bool → ℕ → Bool
is_marked all n = slice_index_or all n false

-- the table of the first n rows, each entry by those before it
abbrev pub grown : {A : Type 0} → (List A → ℕ → A) → ℕ → List A
grown by zero = []
grown by (suc n) = grown by n ++ by (grown by n) n ∷ []

-- the member that holds n, and whether n stands in a call of a constructor, by the rows before it
abbrev pub member_by : Rows → List (Option ℕ) → ℕ → Option ℕ
member_by p known n = if is_body_of p (parent p (parent p n)) (parent p n) then Some n else item known (parent p n)

abbrev pub call_by : Rows → List Bool → ℕ → Bool
call_by p known n = is_call_of_constructor (label p (parent p n)) || is_marked known (parent p n)

-- the type of a variable
abbrev pub variable_at : Rows → Table → ℕ → Option RowType
variable_at p t n = if is_variable p n then type_of_declared p t n else None

-- the type that n stands for as an initializer, by those of the rows before it
abbrev pub initializer_by : Rows → Table → Types → List (Option RowType) → ℕ → Option RowType
initializer_by p t type_of known n = held_by p t type_of (parent p n) (item known (parent p n)) (label p (parent p n))

-- the member m of the innermost type holds the place
pub record IsMemberOf (p : Rows) (o m : ℕ) : Type 0 where
  pub class : ℕ
  pub inside : InMember p o class m

-- ---- when the tables are right

abbrev pub AreMembers : Rows → List (Option ℕ) → Type 0
AreMembers p all = (n : ℕ) → Finds (item all n) (λ m. IsMemberOf p n m)

abbrev pub AreCalls : Rows → List Bool → Type 0
AreCalls p all = (n : ℕ) → is_marked all n ≡ is_in_constructor_call p n

abbrev pub AreInitializers : Rows → Table → Types → List (Option RowType) → Type 0
AreInitializers p t type_of all = (n : ℕ) → item all n ≡ initializer_type p t type_of n

-- the first class Throwable of the prelude
abbrev pub throwable_row : Rows → Option ℕ
throwable_row p = first_below (length p) (λ n. is_prelude p (codes "Throwable") n)

-- there is one class Throwable in the prelude
abbrev pub HasNoOtherThrowable : Rows → Type 0
HasNoOtherThrowable p = (c d : ℕ) → is_prelude p (codes "Throwable") c ≡ true → is_prelude p (codes "Throwable") d ≡ true → c ≡ d

pub record AreTables (p : Rows) (t : Table) (type_of : Types) (tables : code.Tables) : Type 0 where
  pub members_are : AreMembers p tables.members.items
  pub calls_are : AreCalls p tables.calls.items
  pub initializers_are : AreInitializers p t type_of tables.initializers.items
  pub throwable_is : tables.throwable ≡ throwable_row p

pub record AreRightFacts (facts : facts.Facts) : Type 0 where
  pub seen : IsSeenView facts.view
  pub tables_are : AreTables (rows_in facts.view) (table_in facts.view) (types_in facts.view) facts.tables.now
