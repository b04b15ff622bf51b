-- The parts of a body that wait for the row round them, by their kinds, as the body is made from its last row back.
use Rattle.std.specs.Prelude.{◌≡◌, ℕ, suc, ◌+◌, ◌≤◌, ◌<◌, Bool, true, false, List, [], ◌∷◌, ◌++◌, length, Option}
use Rattle.jr_core.specs.declared.code.Catch.{Catch}
use Rattle.jr_core.specs.declared.code.Group.{Group}
use Rattle.jr_core.specs.declared.code.SwitchLabel.{SwitchLabel}
use Rattle.jr_defs.specs.declared.referent.RowType.{RowType}
use Rattle.jr_tree.specs.Rows.{end}
use Rattle.jr_codes.specs.declared.source.Source.{Source}
use Rattle.jr_codes.specs.Facts.{Facts}
use Rattle.jr_codes.specs.Making.{Below, AreBefore}
use Rattle.jr_codes.specs.Reads.{rows_of, facts, IsReadAt}
use Rattle.jr_codes.specs.Waiting.{is_top}
use Rattle.jr_expressions.specs.Statements.{Parts, Comes, part, through, strange, as_case, as_group, as_catch, those, codes, made_at, PartsAt}

-- what waits, a list for each kind
pub record Stacks : Type 0 where
  pub of_code : Below
  pub of_label : List (ℕ × SwitchLabel)
  pub of_group : List (ℕ × Group)
  pub of_catch : List (ℕ × Catch)

abbrev pub stacks_of : Parts → Stacks
stacks_of parts = record { of_code = codes parts; of_label = those as_case parts; of_group = those as_group parts; of_catch = those as_catch parts }

-- all rows of the parts are this one or stand behind it
abbrev pub AreFrom : {T : Type 0} → ℕ → List (ℕ × T) → Type 0
AreFrom start [] = Unit {0}
AreFrom start (one ∷ all) = (start ≤ one.0) × AreFrom start all

-- the rows of the parts rise from this one on
abbrev pub AreRising : {T : Type 0} → ℕ → List (ℕ × T) → Type 0
AreRising start [] = Unit {0}
AreRising start (one ∷ all) = (start ≤ one.0) × AreRising (one.0 + 1) all

-- what is made inside the row n, which ends here, and what is made behind it
pub record IsParted (n end : ℕ) (inner outer : Parts) : Type 0 where
  pub inside : AreBefore end inner
  pub rising : AreRising (n + 1) inner
  pub after : AreFrom end outer

-- what waits then is this, where before there were the parts inside the row and behind it
abbrev pub ComesTo : Comes → ℕ → Parts → Parts → Stacks → Type 0
ComesTo (part x) n inner outer new = new ≡ stacks_of ((n, x) ∷ outer)
ComesTo through n inner outer new = new ≡ stacks_of (inner ++ outer)
ComesTo strange n inner outer new = ⊥

-- whatever is made inside and behind the row, what comes of the row stands in place of what is made inside
pub record Makes (s : Source) (outcome : Option RowType) (n : ℕ) (old new : Stacks) : Type 0 where
  pub makes : IsReadAt s n → (inner outer : Parts) → IsParted n (end (rows_of s) n) inner outer → old ≡ stacks_of (inner ++ outer) → ComesTo (made_at (facts s) outcome n inner) n inner outer new

-- ---- what is left below a row

abbrev pub one_if : Bool → ℕ → ℕ
one_if true count = suc count
one_if false count = count

-- of what waits so many parts stand behind the row; before them stands the part of the row, if it is the first
abbrev pub IsAlone : {T : Type 0} → ℕ → ℕ → List (ℕ × T) → Type 0
IsAlone n behind now = length now ≡ one_if (is_top n now) behind

-- of what waits so many parts of each kind stand behind the row. No label, group or catch is left below it, and where it is code or a label, no code
pub record AreCounted (n codes labels groups catches : ℕ) (now : Stacks) : Type 0 where
  pub code : is_top n now.of_code ≡ true → length now.of_code ≡ suc codes
  pub label_code : is_top n now.of_label ≡ true → length now.of_code ≡ codes
  pub label : IsAlone n labels now.of_label
  pub group : IsAlone n groups now.of_group
  pub catch : IsAlone n catches now.of_catch

-- these parts stand behind the row
abbrev pub IsSettled : ℕ → Parts → Stacks → Type 0
IsSettled n outer now = AreCounted n (length (codes outer)) (length (those as_case outer)) (length (those as_group outer)) (length (those as_catch outer)) now

-- what waits are the parts of these rows
pub record WaitsFrom (f : Facts) (outcome : Option RowType) (n stop : ℕ) (now : Stacks) : Type 0 where
  pub parts : Parts
  pub are : PartsAt f outcome n stop parts
  pub is : now ≡ stacks_of parts

-- inside a row the rows are nested
pub record AreDeep (f : Facts) : Type 0 where
  pub more : (k j : ℕ) → k < j → j < end f.rows k → j < end f.rows j
  pub inside : (k j : ℕ) → k < j → j < end f.rows k → end f.rows j ≤ end f.rows k
