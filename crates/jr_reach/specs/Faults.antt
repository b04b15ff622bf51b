-- The rules on jumps, on statements that cannot be reached and on bodies that complete, over the tables.
use Rattle.std.specs.Prelude.{ℕ, zero, suc, Bool, true, false, not, ◌&&◌, ◌||◌, if◌then◌else◌, List, [], ◌∷◌, ◌++◌, length, Option, Some, None}
use Rattle.jr_tree.specs.declared.label.Label.{Label}
use Rattle.jr_tree.specs.declared.label.Label.TheVariants as is
use Rattle.jr_tree.specs.Rows.{Rows, label, parent, previous}
use Rattle.jr_rule.specs.declared.Rule.{Rule}
use Rattle.jr_rule.specs.declared.Rule.TheVariants as rule
use Rattle.jr_rule.specs.declared.Fault.{Fault}
use Rattle.jr_reach.specs.declared.fact.Exit.{Exit}
use Rattle.jr_reach.specs.Statements.{Facts, Entries, fact, courses}
use Rattle.jr_reach.specs.Reached.{Reached, reached}

-- ---- a jump without target (14.15, 14.16)

abbrev pub is_nowhere : Option Exit → Bool
is_nowhere None = true
is_nowhere (Some x) = false

abbrev pub is_lost : Label → Facts → ℕ → Bool
is_lost (is.Break has_label) f n = is_nowhere (fact f n).exit
is_lost (is.Continue has_label) f n = is_nowhere (fact f n).exit
is_lost _ f n = false

-- ---- a statement that cannot be reached (14.21)

abbrev pub is_statement : Label → Bool
is_statement is.Nest = true
is_statement is.Locals = true
is_statement is.Skip = true
is_statement is.Do = true
is_statement is.While = true
is_statement is.If = true
is_statement is.Eval = true
is_statement (is.For has_first has_condition) = true
is_statement is.Switch = true
is_statement is.Labeled = true
is_statement (is.Break has_label) = true
is_statement (is.Continue has_label) = true
is_statement is.Return = true
is_statement is.Throw = true
is_statement (is.Try has_finally) = true
is_statement (is.ConstructorCall which) = true
is_statement _ = false

-- the first of those that cannot be reached: what is round it can, and the statement before it, if there is one
abbrev pub is_unreached : Rows → Reached → ℕ → Bool
is_unreached p known n = is_statement (label p n) && not (known n) && known (parent p n) && (known (previous p n) || not (is_statement (label p (previous p n))))

-- ---- a body that completes otherwise than it may: that of a method with a result cannot complete (8.4.7), that of an initializer can (8.6, 8.7)

abbrev pub completes_wrongly : Label → Bool → Bool
completes_wrongly (is.Method modifiers false true) completes = completes
completes_wrongly (is.Initializer is_static) completes = not completes
completes_wrongly _ completes = false

-- a member whose end is tested
abbrev pub has_tested_end : Label → Bool
has_tested_end (is.Method modifiers is_void has_body) = true
has_tested_end (is.Initializer is_static) = true
has_tested_end _ = false

-- at any other row no rule is broken
abbrev pub may_break : Label → Bool
may_break l = is_statement l || has_tested_end l

-- ---- the faults

abbrev pub fault_if : Bool → ℕ → Rule → List Fault
fault_if broken n rule = if broken then record { row = n; rule = rule } ∷ [] else []

abbrev pub faults_at : Rows → Facts → Entries → Reached → ℕ → List Fault
faults_at p f e known n = fault_if (is_lost (label p n) f n) n rule.Jump ++ fault_if (is_unreached p known n) n rule.Unreachable ++ fault_if (completes_wrongly (label p n) (e n).own.completes) n rule.Completion

-- those of the first k rows
abbrev pub faults_below : Rows → Facts → Entries → Reached → ℕ → List Fault
faults_below p f e known zero = []
faults_below p f e known (suc k) = faults_below p f e known k ++ faults_at p f e known k

abbrev pub faults : Rows → Facts → List Fault
faults p f = faults_below p f (courses p f) (reached p f) (length p)
