-- What a row does to the parts that wait, of which there are four kinds, and what the functions of single statements take of them (JLS 14).
use Rattle.std.specs.Prelude.{◌≡◌, ℕ, suc, ◌+◌, ◌<◌, ◌≤◌, Bool, true, false, List, [], ◌∷◌, ◌++◌, map, length, Option, Some, None, option_map, if◌then◌else◌}
use Rattle.jr_base.specs.declared.ids.DeclId.{DeclId}
use Rattle.jr_base.specs.declared.constant.Const.{Const}
use Rattle.jr_core.specs.declared.code.Catch.{Catch}
use Rattle.jr_core.specs.declared.code.Code.{Code}
use Rattle.jr_core.specs.declared.code.Code.TheVariants as c
use Rattle.jr_core.specs.declared.code.Group.{Group}
use Rattle.jr_core.specs.declared.code.SwitchLabel.{SwitchLabel}
use Rattle.jr_core.specs.declared.code.SwitchLabel.TheVariants as l
use Rattle.jr_tree.specs.declared.label.Label.{Label}
use Rattle.jr_tree.specs.declared.label.Role.TheVariants as role
use Rattle.jr_tree.specs.Rows.{Rows, label, end, role_at}
use Rattle.jr_defs.specs.declared.referent.Element.{Element}
use Rattle.jr_defs.specs.declared.referent.Element.TheVariants as element
use Rattle.jr_defs.specs.declared.referent.RowType.{RowType}
use Rattle.jr_defs.specs.Operators.{as_int}
use Rattle.jr_plain.specs.Same.{same_role}
use Rattle.jr_codes.specs.declared.source.Source.{Source}
use Rattle.jr_codes.specs.Facts.{Facts}
use Rattle.jr_codes.specs.Making.{Below}
use Rattle.jr_codes.specs.Reads.{rows_of, facts, IsReadAt}
use Rattle.jr_codes.specs.Waiting.{waiting, is_top, front, behind, TakesFront}
use Rattle.jr_expressions.specs.Statements.{Parts, Comes, header_made, behind_header}
use Rattle.jr_expressions.specs.Stacks.{Stacks, stacks_of, IsParted, IsSettled, ComesTo, AreDeep}
use Rattle.jr_elab.specs.declared.statements.Making.{Making}
use Rattle.jr_elab.specs.declared.statements.Outside.{Outside}

-- the parts that wait while a body is made
abbrev pub stacks_in : Making → Stacks
stacks_in making = record { of_code = waiting making.codes; of_label = waiting making.labels; of_group = waiting making.groups; of_catch = waiting making.catches }

abbrev pub stacks : Below → List (ℕ × SwitchLabel) → List (ℕ × Group) → List (ℕ × Catch) → Stacks
stacks codes labels groups catches = record { of_code = codes; of_label = labels; of_group = groups; of_catch = catches }

-- so many parts of each kind stand behind a row that ends here
pub record AreOutside (end : ℕ) (now : Stacks) (counts : Outside) : Type 0 where
  pub code : counts.codes ≡ length (behind end now.of_code)
  pub label : counts.labels ≡ length (behind end now.of_label)
  pub group : counts.groups ≡ length (behind end now.of_group)
  pub catch : counts.catches ≡ length (behind end now.of_catch)

-- of the codes that wait so many stand behind the row; where it is code it is alone before them, and where it is a label there is none
pub record AreCodesSettled (n behind : ℕ) (now : Stacks) : Type 0 where
  pub code : is_top n now.of_code ≡ true → length now.of_code ≡ suc behind
  pub label_code : is_top n now.of_label ≡ true → length now.of_code ≡ behind

-- whatever is made inside and behind the row, what comes of the parts inside stands in their place, if nothing that may not is left below it
pub record Does (s : Source) (n : ℕ) (made : Parts → Comes) (old new : Stacks) : Type 0 where
  pub does : IsReadAt s n → (inner outer : Parts) → IsParted n (end (rows_of s) n) inner outer → old ≡ stacks_of (inner ++ outer) → IsSettled n outer new → ComesTo (made inner) n inner outer new

-- ---- rows

-- the label of the row; past the last row there is none
abbrev pub IsLabelAt : Rows → ℕ → Option Label → Type 0
IsLabelAt p n (Some l) = label p n ≡ l
IsLabelAt p n None = length p ≤ n

-- the tables are read at each row, and the rows are nested
pub record AreRead (s : Source) : Type 0 where
  pub read : (n : ℕ) → n < length (rows_of s) → IsReadAt s n
  pub deep : AreDeep (facts s)
  pub more : (n : ℕ) → n < end (rows_of s) n
  pub last : (n : ℕ) → n < length (rows_of s) → end (rows_of s) n ≤ length (rows_of s)

-- ---- what single statements take

-- the condition of a `for`, which is there or not (JLS 14.14.1)
abbrev pub TakesCondition : Bool → ℕ → Below → Below → Option Code → Type 0
TakesCondition true row old new (Some a) = old ≡ (row, a) ∷ new
TakesCondition true row old new None = ⊥
TakesCondition false row old new (Some a) = ⊥
TakesCondition false row old new None = new ≡ old

-- the expressions of the rows before this one are taken, as statements
pub record TakesEvals (end : ℕ) (old new : Below) (all : List Code) : Type 0 where
  pub taken : all ≡ map c.Eval (front end old)
  pub left : new ≡ behind end old

-- the first part of the header of a `for`, which is there or not
pub record TakesHeader (f : Facts) (first : ℕ) (there : Bool) (old new : Below) (all : List Code) : Type 0 where
  pub taken : all ≡ header_made f first there old
  pub left : new ≡ behind_header f first there old

-- one expression is taken, as a statement
pub record AddsEval (row : ℕ) (old new : Below) (all after : List Code) : Type 0 where
  pub value : Code
  pub was : old ≡ (row, value) ∷ new
  pub adds : after ≡ all ++ c.Eval value ∷ []

-- the label of a case (JLS 14.11)
abbrev pub case_label : Option Const → Option SwitchLabel
case_label (Some value) = option_map l.Case (as_int value)
case_label None = None

-- the class that is caught
abbrev pub caught_class : Facts → Element → Option DeclId
caught_class f (element.Class class) = Some (f.decl class)
caught_class f _ = None

abbrev pub caught : Facts → Option RowType → Option DeclId
caught f (Some a) = caught_class f a.element
caught f None = None

-- the block of `finally`, which is there or not
abbrev pub TakesLast : Bool → ℕ → Below → Below → Option (List Code) → Type 0
TakesLast true end old new (Some all) = TakesFront end old new all
TakesLast true end old new None = ⊥
TakesLast false end old new (Some all) = ⊥
TakesLast false end old new None = new ≡ old

-- the parameter, where the row is one
abbrev pub parameter_if : Facts → ℕ → List DeclId
parameter_if f k = if same_role (role_at f.rows k) role.Parameter then f.decl k ∷ [] else []
