-- What each row does, one act after the other (JLS 14, 15.7).
use Rattle.std.specs.Prelude.{ℕ, zero, suc, ◌+◌, ◌-◌, Bool, true, false, not, if◌then◌else◌, List, [], ◌∷◌, ◌++◌, map, flat_map, filter, Option, Some, None, nat_lt}
use Rattle.std.specs.List.{list_any}
use Rattle.jr_base.specs.declared.kind.Symbol.{Symbol}
use Rattle.jr_base.specs.declared.kind.Symbol.TheVariants as y
use Rattle.jr_tree.specs.declared.label.Label.{Label}
use Rattle.jr_tree.specs.declared.label.Label.TheVariants as is
use Rattle.jr_tree.specs.Rows.{Rows, label, parent, end}
use Rattle.jr_flow_defs.specs.Meaning.{Meaning, declared, local_at, reads_field, is_only_written, operand, makes, shows_left, narrows}

-- how a statement or expression completes: normally, or abruptly for a reason (JLS 14.1, 15.6). A `break` and a `continue` have a target, by its row
-- (JLS 14.15, 14.16); `return` has the body (JLS 14.17).
pub data Completion : Type 0 where
  normally : Completion
  by_break : ℕ → Completion
  by_continue : ℕ → Completion
  by_return : Completion
  by_throw : Completion

-- one act of a row. Control goes on at the next act, and behind the last one the row completes normally, unless it says otherwise.
pub data Act : Type 0 where
  -- the row below is executed or evaluated
  part : ℕ → Act
  -- an event at the row: it may also complete by a throw (JLS 11.3, 15.6)
  event : ℕ → Act
  -- what cannot throw, at the row: a simple statement, the parameter of a catch, or a branch whose ways go on at one place
  node : ℕ → Act
  -- at the first row the local that is declared at the second gets a value, or is used
  define : ℕ → ℕ → Act
  use_of : ℕ → ℕ → Act
  -- a branch: control goes on, or the row completes normally
  quit : Act
  -- a branch: control goes on, or at the act of this number
  fork : ℕ → Act
  -- a switch: control goes on at any later act, and without `default` the row may also complete normally
  choose : Bool → Act
  -- control goes to the act of this number
  go : ℕ → Act
  -- the statement completes so
  jump : Completion → Act

abbrev pub Acts : Type 0
Acts = List Act

-- ---- parts

-- the rows from k on that stand before stop, each behind the one before, so many at most
abbrev pub siblings : Rows → ℕ → ℕ → ℕ → List ℕ
siblings p zero k stop = []
siblings p (suc room) k stop = if nat_lt k stop then k ∷ siblings p room (end p k) stop else []

-- what stands right below the row
abbrev pub children : Rows → ℕ → List ℕ
children p n = siblings p (end p n - n) (n + 1) (end p n)

-- the children from k on, and those between two
abbrev pub children_from : Rows → ℕ → ℕ → List ℕ
children_from p n k = siblings p (end p n - n) k (end p n)

abbrev pub first : Rows → ℕ → ℕ
first p n = n + 1

abbrev pub second : Rows → ℕ → ℕ
second p n = end p (n + 1)

abbrev pub third : Rows → ℕ → ℕ
third p n = end p (end p (n + 1))

-- the last of the rows, or else the number
abbrev pub last_or : ℕ → List ℕ → ℕ
last_or n [] = n
last_or n (k ∷ all) = last_or k all

abbrev pub last : Rows → ℕ → ℕ
last p n = last_or n (children p n)

-- all that stands right below, in turn: operands and statements from left to right (JLS 14.2, 15.7)
abbrev pub parts : Rows → ℕ → Acts
parts p n = map part (children p n)

abbrev pub event_if : Bool → ℕ → Acts
event_if test n = if test then event n ∷ [] else []

-- ---- names and places that are assigned

-- the use of a local, or else the reading of a field
abbrev pub fetched : Rows → Meaning → ℕ → Option ℕ → Acts
fetched p m n (Some d) = use_of n d ∷ []
fetched p m n None = event_if (reads_field p m n) n

-- a name or a field access: what is before the dot, and then its value, unless it is only written (JLS 6.5.6, 15.11, 15.26.1)
abbrev pub name_acts : Rows → Meaning → ℕ → Acts
name_acts p m n = parts p n ++ (if is_only_written p n then [] else fetched p m n (local_at p m n))

-- an array access (JLS 15.13)
abbrev pub index_acts : Rows → ℕ → Acts
index_acts p n = parts p n ++ (if is_only_written p n then [] else event n ∷ [])

-- a local gets its value at the row k, or else a field or an element at the row n is written
abbrev pub written : ℕ → ℕ → Option ℕ → Acts
written n k (Some d) = define k d ∷ []
written n k None = event n ∷ []

-- JLS 15.26: operands from left to right, then the operator of a compound assignment, then the value is stored
abbrev pub assignment_acts : Rows → Meaning → ℕ → Symbol → Acts
assignment_acts p m n op = parts p n ++ event_if (makes p m n op) n ++ written n (operand p n) (local_at p m (operand p n))

-- JLS 15.14.2, 15.14.3, 15.15.1, 15.15.2
abbrev pub step_acts : Rows → Meaning → ℕ → Acts
step_acts p m n = parts p n ++ written n n (local_at p m (operand p n))

-- ---- branches

-- the second part is done or passed over, as the first one says
abbrev pub guarded : ℕ → ℕ → Acts
guarded a b = part a ∷ quit ∷ part b ∷ []

-- one of two parts is done, as the first one says
abbrev pub two_ways : ℕ → ℕ → ℕ → Acts
two_ways a b c = part a ∷ fork 4 ∷ part b ∷ go 5 ∷ part c ∷ []

abbrev pub if_acts : Rows → ℕ → Acts
if_acts p n = if nat_lt (third p n) (end p n) then two_ways (first p n) (second p n) (third p n) else guarded (first p n) (second p n)

-- JLS 15.17 to 15.24: the left operand, then the right one; those of `&&` and `||` as the left one says (JLS 15.23, 15.24)
abbrev pub binary_acts : Rows → Meaning → ℕ → Symbol → Acts
binary_acts p m n y.AndAnd = guarded (first p n) (second p n)
binary_acts p m n y.OrOr = guarded (first p n) (second p n)
binary_acts p m n op = part (first p n) ∷ event_if (shows_left p m n op) n ++ part (second p n) ∷ event_if (makes p m n op) n

-- ---- loops

abbrev pub for_first : Rows → ℕ → Bool → Acts
for_first p n true = part (first p n) ∷ []
for_first p n false = []

-- the number of the act at which a turn of the `for` begins
abbrev pub for_start : Bool → ℕ
for_start true = 1
for_start false = 0

-- the row behind the first part, and that behind the condition
abbrev pub for_condition : Rows → ℕ → Bool → ℕ
for_condition p n true = second p n
for_condition p n false = first p n

abbrev pub for_updates : Rows → ℕ → Bool → ℕ
for_updates p k true = end p k
for_updates p k false = k

abbrev pub for_test : ℕ → Bool → Acts
for_test k true = part k ∷ quit ∷ []
for_test k false = []

-- JLS 14.14.1: the first part, and then in turns the condition, the body and the updates, which stand before the body
abbrev pub for_acts : Rows → ℕ → Bool → Bool → Acts
for_acts p n has_first has_condition = let condition = for_condition p n has_first in
    for_first p n has_first ++ for_test condition has_condition ++ part (last p n) ∷ []
    ++ map part (siblings p (end p n - n) (for_updates p condition has_condition) (last p n)) ++ go (for_start has_first) ∷ []

-- where a loop goes on that is continued: before its condition, of a `for` before its updates (JLS 14.12.1, 14.13.1, 14.14.1.3)
abbrev pub next_turn : Label → ℕ
next_turn is.Do = 1
next_turn (is.For has_first true) = for_start has_first + 3
next_turn (is.For has_first false) = for_start has_first + 1
next_turn _ = 0

-- ---- switch (JLS 14.11)

abbrev pub is_default : Label → Bool
is_default is.Default = true
is_default _ = false

abbrev pub is_default_group : Rows → ℕ → Bool
is_default_group p n = list_any (λ k. is_default (label p k)) (children p n)

-- the expression, and then the groups from any one on
abbrev pub switch_acts : Rows → ℕ → Acts
switch_acts p n = let groups = children_from p n (second p n) in
    part (first p n) ∷ choose (list_any (is_default_group p) groups) ∷ map part groups

-- ---- jumps

abbrev pub is_loop : Label → Bool
is_loop is.While = true
is_loop is.Do = true
is_loop (is.For has_first has_condition) = true
is_loop _ = false

abbrev pub is_loop_or_switch : Label → Bool
is_loop_or_switch is.Switch = true
is_loop_or_switch l = is_loop l

-- the innermost row round n of such a label, within so many
abbrev pub around : Rows → (Label → Bool) → ℕ → ℕ → Option ℕ
around p test zero n = None
around p test (suc room) n = if test (label p (parent p n)) then Some (parent p n) else around p test room (parent p n)

-- the statement with the label, or the innermost loop or switch (JLS 14.15)
abbrev pub break_target : Rows → Meaning → ℕ → Bool → Option ℕ
break_target p m n true = declared (m.targets n)
break_target p m n false = around p is_loop_or_switch n n

-- the loop below the label
abbrev pub labeled_loop : Rows → Option ℕ → Option ℕ
labeled_loop p (Some d) = if is_loop (label p (d + 1)) then Some (d + 1) else None
labeled_loop p None = None

-- the loop with the label, or the innermost one (JLS 14.16)
abbrev pub continue_target : Rows → Meaning → ℕ → Bool → Option ℕ
continue_target p m n true = labeled_loop p (declared (m.targets n))
continue_target p m n false = around p is_loop n n

-- a jump without target, which the rules forbid, leaves the body
abbrev pub breaks : Option ℕ → Completion
breaks (Some n) = by_break n
breaks None = by_return

abbrev pub continues : Option ℕ → Completion
continues (Some n) = by_continue n
continues None = by_return

-- ---- declarations, and what makes arrays

abbrev pub is_parameter : Label → Bool
is_parameter (is.Parameter is_final dims) = true
is_parameter _ = false

abbrev pub is_catch : Label → Bool
is_catch is.Catch = true
is_catch _ = false

-- the parameters have their values before anything else happens (JLS 8.4.1, 15.12.4.5)
abbrev pub callable_acts : Rows → ℕ → Acts
callable_acts p n = map part (filter (λ k. is_parameter (label p k)) (children p n)) ++ map part (filter (λ k. not (is_parameter (label p k))) (children p n))

-- that of a catch is also a node (JLS 14.20.1)
abbrev pub parameter_acts : Rows → ℕ → Acts
parameter_acts p n = (if is_catch (label p (parent p n)) then node n ∷ [] else []) ++ define n n ∷ []

-- a local variable, which gets a value where it has an initializer (JLS 14.4)
abbrev pub local_acts : Rows → ℕ → Acts
local_acts p n = if nat_lt (n + 1) (end p n) then parts p n ++ define n n ∷ [] else []

-- the array is made, and then each item is evaluated and stored (JLS 10.6)
abbrev pub list_acts : Rows → ℕ → Acts
list_acts p n = event n ∷ flat_map (λ k. part k ∷ event k ∷ []) (children p n)

-- ---- all rows

abbrev pub acts_by : Label → Rows → Meaning → ℕ → Acts
-- declarations (JLS 8.3.2, 8.4, 8.8, 8.4.1, 14.4)
acts_by (is.Method modifiers is_void has_body) p m n = callable_acts p n
acts_by (is.Constructor modifiers) p m n = callable_acts p n
acts_by (is.Field modifiers dims) p m n = parts p n ++ event n ∷ []
acts_by (is.Parameter is_final dims) p m n = parameter_acts p n
acts_by (is.Local is_final dims) p m n = local_acts p n
-- statements (JLS 14.4, 14.6, 14.8 to 14.20)
acts_by is.Skip p m n = node n ∷ []
acts_by is.Eval p m n = parts p n ++ node n ∷ []
acts_by is.Locals p m n = parts p n ++ node n ∷ []
acts_by is.If p m n = if_acts p n
acts_by is.While p m n = part (first p n) ∷ quit ∷ part (second p n) ∷ go 0 ∷ []
acts_by is.Do p m n = part (first p n) ∷ part (second p n) ∷ fork 0 ∷ []
acts_by (is.For has_first has_condition) p m n = for_acts p n has_first has_condition
acts_by is.Switch p m n = switch_acts p n
acts_by is.Case p m n = []
acts_by (is.Break has_label) p m n = parts p n ++ jump (breaks (break_target p m n has_label)) ∷ []
acts_by (is.Continue has_label) p m n = parts p n ++ jump (continues (continue_target p m n has_label)) ∷ []
acts_by is.Return p m n = parts p n ++ jump by_return ∷ []
acts_by is.Throw p m n = parts p n ++ jump by_throw ∷ []
acts_by (is.Try has_finally) p m n = part (first p n) ∷ []
-- calls and creations (JLS 8.8.7, 15.9, 15.10, 15.12, 10.6)
acts_by (is.ConstructorCall which) p m n = parts p n ++ event n ∷ []
acts_by is.ImplicitCall p m n = event n ∷ []
acts_by (is.Call receiver) p m n = parts p n ++ event n ∷ []
acts_by is.New p m n = parts p n ++ event n ∷ []
acts_by (is.NewArray primitive zero extra) p m n = parts p n
acts_by (is.NewArray primitive (suc lengths) extra) p m n = parts p n ++ event n ∷ []
acts_by is.List p m n = list_acts p n
-- names, fields and elements (JLS 6.5.6, 15.11, 15.13)
acts_by (is.Name kind place is_qualified) p m n = name_acts p m n
acts_by is.Select p m n = name_acts p m n
acts_by is.SuperSelect p m n = name_acts p m n
acts_by is.Index p m n = index_acts p n
-- operators (JLS 15.14 to 15.26)
acts_by (is.Assign op) p m n = assignment_acts p m n op
acts_by (is.PreStep op) p m n = step_acts p m n
acts_by (is.PostStep op) p m n = step_acts p m n
acts_by is.Conditional p m n = two_ways (first p n) (second p n) (third p n)
acts_by (is.Binary op) p m n = binary_acts p m n op
acts_by (is.Unary y.Not) p m n = parts p n ++ node n ∷ []
acts_by is.Cast p m n = parts p n ++ event_if (narrows p m n) n
-- nothing happens where a type is written; of all else the parts are done in turn
acts_by (is.TypeUse primitive dims) p m n = []
acts_by _ p m n = parts p n

abbrev pub acts : Rows → Meaning → ℕ → Acts
acts p m n = acts_by (label p n) p m n
