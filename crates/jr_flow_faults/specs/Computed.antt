-- What is known of the rows of a program, computed.
use Rattle.std.specs.Prelude.{ℕ, ◌+◌, Bool, true, false, ◌&&◌, if◌then◌else◌, List, length, Option, Some, None, option_map, option_and_then, is_some, nat_eq, nat_lt, slice_index_or, slice_set}
use Rattle.jr_base.specs.declared.constant.Const.{Const}
use Rattle.jr_base.specs.declared.constant.Const.TheVariants as c
use Rattle.jr_tree.specs.declared.label.Label.{Label}
use Rattle.jr_tree.specs.declared.label.Label.TheVariants as is
use Rattle.jr_tree.specs.Rows.{Rows, label, parent, end}
use Rattle.jr_defs.specs.Referents.{Table, entries}
use Rattle.jr_plain.specs.Conversions.{Constants}
use Rattle.jr_plain.specs.Search.{last_below}
use Rattle.jr_places.specs.Tabulated.{tabulated}
use Rattle.jr_supers.specs.Tabled.{declared}
use Rattle.jr_constants.specs.declared.value.Value.{Value}
use Rattle.jr_constants.specs.declared.value.Value.TheVariants as v
use Rattle.jr_constants.specs.Resting.{values_of}
use Rattle.jr_rules.specs.StatementTests.{is_switch, is_loop, is_loop_or_switch}
use Rattle.jr_reach.specs.declared.fact.Exit.{Exit}
use Rattle.jr_reach.specs.declared.fact.Exit.TheVariants as exit
use Rattle.jr_reach.specs.declared.fact.Fact.{Fact}
use Rattle.jr_reach.specs.Statements.{Facts}
use Rattle.jr_view.specs.declared.View.{View}
use Rattle.jr_flow_faults.specs.declared.facts.Part.{Part}
use Rattle.jr_flow_faults.specs.declared.facts.Part.TheVariants as part
use Rattle.jr_flow_faults.specs.declared.jumps.Targets.{Targets}

-- the boolean that a constant is, if it is one
abbrev pub truth_in : Option Const → Option Bool
truth_in (Some (c.Bool b)) = Some b
truth_in _ = None

-- the same of a value of the code
abbrev pub truth_of : Option Value → Option Bool
truth_of (Some (v.Bool b)) = Some b
truth_of _ = None

-- ---- jumps

-- the last statement round the place whose label passes the test
abbrev pub innermost : Rows → (Label → Bool) → ℕ → Option ℕ
innermost p test n = last_below n (λ s. test (label p s) && nat_lt n (end p s))

abbrev pub no_targets : Targets
no_targets = record { looping = None; breaking = None }

abbrev pub targets : Rows → ℕ → Targets
targets p n = record { looping = innermost p is_loop n; breaking = innermost p is_loop_or_switch n }

abbrev pub targets_in : List Targets → ℕ → Targets
targets_in known n = slice_index_or known n no_targets

-- those of a row by the ones of the row over it
abbrev pub targets_below : Rows → Targets → ℕ → Targets
targets_below p round over = if is_loop (label p over) then record { looping = Some over; breaking = Some over }
    else (if is_switch (label p over) then record { looping = round.looping; breaking = Some over } else round)

abbrev pub targets_by : Rows → List Targets → ℕ → Targets
targets_by p known n = targets_below p (targets_in known (parent p n)) (parent p n)

-- the loop at a label
abbrev pub labeled_loop : Rows → ℕ → Option ℕ
labeled_loop p d = if nat_eq (parent p (d + 1)) d && is_loop (label p (d + 1)) then Some (d + 1) else None

-- the loop at the label that a row refers to
abbrev pub referred_loop : Rows → Table → ℕ → Option ℕ
referred_loop p t n = option_and_then (labeled_loop p) (declared (t n))

abbrev pub target_by : Label → Rows → Table → Targets → ℕ → Option Exit
target_by (is.Break true) p t round n = option_map exit.Break (declared (t n))
target_by (is.Break false) p t round n = option_map exit.Break round.breaking
target_by (is.Continue true) p t round n = option_map exit.Continue (referred_loop p t n)
target_by (is.Continue false) p t round n = option_map exit.Continue round.looping
target_by _ p t round n = None

abbrev pub target : Rows → Table → ℕ → Option Exit
target p t n = target_by (label p n) p t (targets p n) n

-- ---- parts of a statement

abbrev pub is_block : Label → Bool
is_block is.Block = true
is_block _ = false

abbrev pub is_guarded : Label → Bool
is_guarded (is.Try has_finally) = has_finally
is_guarded _ = false

abbrev pub is_default : Label → Bool
is_default is.Default = true
is_default _ = false

-- the statement that has the row as a part of the kind: the block of a `finally`, or a label `default`
abbrev pub holder : Rows → Part → ℕ → Option ℕ
holder p part.Finally k = let n = parent p k in if is_block (label p k) && is_guarded (label p n) && nat_lt (n + 1) k then Some n else None
holder p part.Default k = if is_default (label p k) then Some (parent p (parent p k)) else None

abbrev pub is_it : Option ℕ → ℕ → Bool
is_it None n = false
is_it (Some m) n = nat_eq m n

-- the last part of the kind that the row has, of those below a number
abbrev pub last_part : Rows → Part → ℕ → ℕ → Option ℕ
last_part p kind k n = last_below k (λ j. is_it (holder p kind j) n)

abbrev pub last_parts : Rows → Part → ℕ → List (Option ℕ)
last_parts p kind k = tabulated (last_part p kind k) (length p)

-- the row k is put in the place of the row that has it
abbrev pub put_part : Option ℕ → ℕ → List (Option ℕ) → List (Option ℕ)
put_part None k all = all
put_part (Some n) k all = slice_set all n (Some k)

abbrev pub part_in : List (Option ℕ) → ℕ → Option ℕ
part_in all n = slice_index_or all n None

-- ---- all that is known

abbrev pub fact_by : Rows → Table → Constants → Targets → Option ℕ → Option ℕ → ℕ → Fact
fact_by p t constant round last default n = record { truth = truth_in (constant n); exit = target_by (label p n) p t round n; last = last; has_default = is_some default }

abbrev pub facts_by : Rows → Table → Constants → List Targets → List (Option ℕ) → List (Option ℕ) → ℕ → Facts
facts_by p t constant all lasts defaults k = tabulated (λ n. fact_by p t constant (targets_in all n) (part_in lasts n) (part_in defaults n) n) k

abbrev pub fact_at : Rows → Table → Constants → ℕ → Fact
fact_at p t constant n = fact_by p t constant (targets p n) (last_part p part.Finally (length p) n) (last_part p part.Default (length p) n) n

abbrev pub facts : Rows → Table → Constants → Facts
facts p t constant = tabulated (fact_at p t constant) (length p)

-- ---- of a view

abbrev pub rows_in : View → Rows
rows_in view = view.sight.world.under.rows.now

abbrev pub table_in : View → Table
table_in view = entries view.sight.world.under.table.now

abbrev pub constants_in : View → Constants
constants_in view = values_of view.constants.now

abbrev pub facts_in : View → Facts
facts_in view = facts (rows_in view) (table_in view) (constants_in view)
