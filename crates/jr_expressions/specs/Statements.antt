-- The code of a statement by the parts below it, and of each row of a program (JLS 14).
use Rattle.std.specs.Prelude.{◌≡◌, ℕ, zero, suc, ◌+◌, ◌-◌, ◌<◌, ◌≤◌, ℤ, Bool, true, false, ◌&&◌, if◌then◌else◌, List, [], ◌∷◌, ◌++◌, map, Option, Some, None, option_map, nat_eq, nat_lt}
use Rattle.jr_base.specs.declared.ids.DeclId.{DeclId}
use Rattle.jr_base.specs.declared.constant.Const.{Const}
use Rattle.jr_core.specs.declared.code.Code.{Code}
use Rattle.jr_core.specs.declared.code.Code.TheVariants as c
use Rattle.jr_core.specs.declared.code.Catch.{Catch, roll-Catch}
use Rattle.jr_core.specs.declared.code.Group.{Group, roll-Group}
use Rattle.jr_core.specs.declared.code.SwitchLabel.{SwitchLabel}
use Rattle.jr_core.specs.declared.code.SwitchLabel.TheVariants as l
use Rattle.jr_tree.specs.declared.label.Label.{Label}
use Rattle.jr_tree.specs.declared.label.Label.TheVariants as is
use Rattle.jr_tree.specs.Rows.{label, end}
use Rattle.jr_defs.specs.declared.referent.Element.{Element}
use Rattle.jr_defs.specs.declared.referent.Element.TheVariants as element
use Rattle.jr_defs.specs.declared.referent.RowType.{RowType}
use Rattle.jr_defs.specs.Operators.{as_int}
use Rattle.jr_plain.specs.Types.{type_of_declared}
use Rattle.jr_supers.specs.Tabled.{declared}
use Rattle.jr_codes.specs.Facts.{Facts, has_child}
use Rattle.jr_codes.specs.Making.{Below, Made, code, nothing, unknown, code_if, of_none, of_one, of_two_parts}
use Rattle.jr_codes.specs.Waiting.{front, behind}
use Rattle.jr_codes.specs.Conversions.{converted}
use Rattle.jr_expressions.specs.Expressions.{expression_made, constant_made, codes_of}

-- what a row is in a core: code, a label or a group of a `switch`, or a catch
pub data Part : Type 0 where
  code_part : Code → Part
  case_part : SwitchLabel → Part
  group_part : Group → Part
  catch_part : Catch → Part

abbrev pub Parts : Type 0
Parts = List (ℕ × Part)

-- a row is a part; or it is none, and what is made below it stands in the row round it; or it is as in no program that compiles
pub data Comes : Type 0 where
  part : Part → Comes
  through : Comes
  strange : Comes

abbrev pub comes_of : Made → Comes
comes_of (code x) = part (code_part x)
comes_of nothing = through
comes_of unknown = strange

-- ---- parts of one kind

abbrev pub as_code : Part → Option Code
as_code (code_part x) = Some x
as_code _ = None

abbrev pub as_case : Part → Option SwitchLabel
as_case (case_part x) = Some x
as_case _ = None

abbrev pub as_group : Part → Option Group
as_group (group_part x) = Some x
as_group _ = None

abbrev pub as_catch : Part → Option Catch
as_catch (catch_part x) = Some x
as_catch _ = None

abbrev pub with_row : {T : Type 0} → ℕ → Option T → List (ℕ × T) → List (ℕ × T)
with_row n None all = all
with_row n (Some x) all = (n, x) ∷ all

-- those of one kind, with their rows
abbrev pub those : {T : Type 0} → (Part → Option T) → Parts → List (ℕ × T)
those kind [] = []
those kind (p ∷ parts) = with_row p.0 (kind p.1) (those kind parts)

abbrev pub codes : Parts → Below
codes parts = those as_code parts

abbrev pub items : {T : Type 0} → List (ℕ × T) → List T
items all = map (λ p. p.1) all

abbrev pub is_code : Part → Bool
is_code (code_part x) = true
is_code _ = false

abbrev pub is_group : Part → Bool
is_group (group_part x) = true
is_group _ = false

-- what stands in a group of a `switch`, and in a `try`
abbrev pub is_in_group : Part → Bool
is_in_group (code_part x) = true
is_in_group (case_part x) = true
is_in_group _ = false

abbrev pub is_in_try : Part → Bool
is_in_try (code_part x) = true
is_in_try (catch_part x) = true
is_in_try _ = false

abbrev pub all_are : (Part → Bool) → Parts → Bool
all_are kind [] = true
all_are kind (p ∷ parts) = kind p.1 && all_are kind parts

-- what comes of codes, where there is nothing else
abbrev pub alone : Parts → (Below → Comes) → Comes
alone parts made = if all_are is_code parts then made (codes parts) else strange

-- ---- statements that are made of codes

-- one declared variable, with its initializer if it has one (JLS 14.4)
abbrev pub local_made : Facts → ℕ → Below → Made
local_made f n [] = code (c.Local (f.decl n) None)
local_made f n ((m, a) ∷ []) = if nat_eq m (n + 1) then code (c.Local (f.decl n) (Some a)) else unknown
local_made f n _ = unknown

-- `if`, whose third part stands behind its second child (JLS 14.9)
abbrev pub choice_made : Facts → ℕ → Below → Made
choice_made f n ((m, a) ∷ ((k, b) ∷ [])) = code (c.If a b None)
choice_made f n ((m, a) ∷ ((k, b) ∷ ((j, d) ∷ []))) = if nat_eq j (end f.rows (end f.rows (n + 1))) then code (c.If a b (Some d)) else unknown
choice_made f n _ = unknown

-- the labeled statement that a jump names, if it names one (JLS 14.15, 14.16)
abbrev pub jump_target : Facts → ℕ → Bool → Option (Option DeclId)
jump_target f n false = Some None
jump_target f n true = option_map (λ d. Some (f.decl d)) (declared (f.refers n))

-- `break` or `continue`
abbrev pub jump_of : Bool → Option DeclId → Code
jump_of true = c.Break
jump_of false = c.Continue

abbrev pub jump_made : (Option DeclId → Code) → Facts → ℕ → Bool → Below → Made
jump_made g f n has_label parts = of_none parts (code_if (option_map g (jump_target f n has_label)))

-- what a method gives back, as a value of the type of its result (JLS 14.17)
abbrev pub returned : Option RowType → Facts → Below → Made
returned (Some to) f parts = of_one parts (λ m a. code_if (option_map (λ x. c.Return (Some x)) (converted f m to a)))
returned None f parts = unknown

abbrev pub return_made : Option RowType → Facts → ℕ → Below → Made
return_made outcome f n parts = if has_child f n then returned outcome f parts else of_none parts (code (c.Return None))

-- ---- `for` (JLS 14.14.1): its first part, its condition, its updates, and its last part, the body

abbrev pub is_list_of_expressions : Label → Bool
is_list_of_expressions is.ForExprs = true
is_list_of_expressions _ = false

-- the row behind this one, if it is there
abbrev pub row_behind : Facts → ℕ → Bool → ℕ
row_behind f n there = if there then end f.rows n else n

-- the last of the siblings from a row on that end before another one, of at most so many more
abbrev pub last_from : Facts → ℕ → ℕ → ℕ → ℕ
last_from f zero child stop = child
last_from f (suc rounds) child stop = if nat_lt (end f.rows child) stop then last_from f rounds (end f.rows child) stop else child

abbrev pub header_made : Facts → ℕ → Bool → Below → List Code
header_made f first false parts = []
header_made f first true parts =
    let all = front (end f.rows first) parts in if is_list_of_expressions (label f.rows first) then map c.Eval all else all

abbrev pub behind_header : Facts → ℕ → Bool → Below → Below
behind_header f first there parts = if there then behind (end f.rows first) parts else parts

-- the updates before the body, which stands at this row
abbrev pub body_made : List Code → Option Code → List Code → ℕ → Below → Made
body_made first cond update last ((m, b) ∷ []) = if nat_eq m last then code (c.For first cond (map c.Eval update) b) else unknown
body_made first cond update last _ = unknown

abbrev pub updates_made : List Code → Option Code → ℕ → Below → Made
updates_made first cond last parts = body_made first cond (front last parts) last (behind last parts)

-- the condition, which stands at this row
abbrev pub condition_made : List Code → Bool → ℕ → ℕ → Below → Made
condition_made first false row last parts = updates_made first None last parts
condition_made first true row last ((m, a) ∷ parts) = if nat_eq m row then updates_made first (Some a) last parts else unknown
condition_made first true row last [] = unknown

abbrev pub for_made : Facts → ℕ → Bool → Bool → Below → Made
for_made f n has_first has_condition parts =
    let condition = row_behind f (n + 1) has_first in let update = row_behind f condition has_condition in
    condition_made (header_made f (n + 1) has_first parts) has_condition condition (last_from f (end f.rows n - update) update (end f.rows n)) (behind_header f (n + 1) has_first parts)

-- what comes of a row with this label by codes alone
abbrev pub plain_made : Label → Facts → ℕ → Below → Made
plain_made is.Nest f n parts = code (c.Nest (codes_of parts))
plain_made (is.Local is_final dims) f n parts = local_made f n parts
plain_made is.Skip f n parts = of_none parts (code c.Skip)
plain_made is.If f n parts = choice_made f n parts
plain_made is.Eval f n parts = of_one parts (λ m a. code (c.Eval a))
plain_made is.Labeled f n parts = of_one parts (λ m a. code (c.Labeled (f.decl n) a))
plain_made is.Throw f n parts = of_one parts (λ m a. code (c.Throw a))
plain_made (is.Break has_label) f n parts = jump_made c.Break f n has_label parts
plain_made (is.Continue has_label) f n parts = jump_made c.Continue f n has_label parts
plain_made is.Do f n parts = of_two_parts parts (λ m a k b. code (c.Do a b))
plain_made is.While f n parts = of_two_parts parts (λ m a k b. code (c.While a b))
plain_made (is.For has_first has_condition) f n parts = for_made f n has_first has_condition parts
plain_made other f n parts = expression_made other f n parts

-- ---- `switch` and `try` (JLS 14.11, 14.20)

abbrev pub case_by : Option ℤ → Comes
case_by (Some z) = part (case_part (l.Case z))
case_by None = strange

abbrev pub case_made : Option Const → Below → Comes
case_made (Some v) ((m, a) ∷ []) = case_by (as_int v)
case_made _ _ = strange

abbrev pub default_made : Parts → Comes
default_made [] = part (case_part l.Default)
default_made _ = strange

abbrev pub switch_made : Parts → Comes
switch_made ((m, code_part a) ∷ parts) = if all_are is_group parts then part (code_part (c.Switch a (items (those as_group parts)))) else strange
switch_made _ = strange

abbrev pub group_made : Parts → Comes
group_made parts = if all_are is_in_group parts then part (group_part (roll-Group (record { labels = items (those as_case parts); stmts = codes_of (codes parts) }))) else strange

abbrev pub catch_by : Element → Facts → ℕ → Below → Comes
catch_by (element.Class class) f n parts = part (catch_part (roll-Catch (record { class = record { 0 = f.decl class }; param = f.decl (n + 1); body = codes_of parts })))
catch_by _ f n parts = strange

abbrev pub catch_made : Option RowType → Facts → ℕ → Below → Comes
catch_made (Some a) f n parts = catch_by a.element f n parts
catch_made None f n parts = strange

-- the blocks up to this row, the catches, and the block of `finally`
abbrev pub try_by : List Code → List Catch → Bool → Below → Comes
try_by body catches true last = part (code_part (c.Try body catches (Some (codes_of last))))
try_by body catches false [] = part (code_part (c.Try body catches None))
try_by body catches false _ = strange

abbrev pub try_made : Facts → ℕ → Bool → Parts → Comes
try_made f n has_finally parts =
    let stop = end f.rows (n + 1) in
    if all_are is_in_try parts then try_by (front stop (codes parts)) (items (those as_catch parts)) has_finally (behind stop (codes parts)) else strange

-- what comes of a row with this label, where the method round it has a result of this type
abbrev pub statement_made : Label → Facts → Option RowType → ℕ → Parts → Comes
statement_made is.Return f outcome n parts = alone parts (λ below. comes_of (return_made outcome f n below))
statement_made is.Case f outcome n parts = alone parts (λ below. case_made (f.value (n + 1)) below)
statement_made is.Default f outcome n parts = default_made parts
statement_made is.Group f outcome n parts = group_made parts
statement_made is.Switch f outcome n parts = switch_made parts
statement_made is.Catch f outcome n parts = alone parts (λ below. catch_made (type_of_declared f.rows f.refers (n + 1)) f n below)
statement_made (is.Try has_finally) f outcome n parts = try_made f n has_finally parts
statement_made other f outcome n parts = alone parts (λ below. comes_of (plain_made other f n below))

-- what comes of a row: a constant expression is a literal (JLS 15.28)
abbrev pub made_by : Option Const → Facts → Option RowType → ℕ → Parts → Comes
made_by (Some v) f outcome n parts = alone parts (λ below. comes_of (constant_made v f n below))
made_by None f outcome n parts = statement_made (label f.rows n) f outcome n parts

abbrev pub made_at : Facts → Option RowType → ℕ → Parts → Comes
made_at f outcome n parts = made_by (f.value n) f outcome n parts

-- ---- the parts of rows

-- these are the parts of the rows from one up to another that stand in no other part there, in order of the text
pub data PartsAt (f : Facts) (outcome : Option RowType) : ℕ → ℕ → Parts → Type 0 where
  none : {n stop : ℕ} → stop ≤ n → PartsAt f outcome n stop []
  one : {n stop : ℕ} {below rest : Parts} {x : Part} → n < stop → PartsAt f outcome (n + 1) (end f.rows n) below → made_at f outcome n below ≡ part x → PartsAt f outcome (end f.rows n) stop rest
      → PartsAt f outcome n stop ((n, x) ∷ rest)
  pass : {n stop : ℕ} {below rest : Parts} → n < stop → PartsAt f outcome (n + 1) (end f.rows n) below → made_at f outcome n below ≡ through → PartsAt f outcome (end f.rows n) stop rest
      → PartsAt f outcome n stop (below ++ rest)

-- the code of a row
pub record CoreAt (f : Facts) (outcome : Option RowType) (n : ℕ) (x : Code) : Type 0 where
  pub below : Parts
  pub parts : PartsAt f outcome (n + 1) (end f.rows n) below
  pub made : made_at f outcome n below ≡ part (code_part x)
