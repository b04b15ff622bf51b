-- Acts in code, as the definitions have them.
use Rattle.std.specs.Prelude.{ℕ, Bool, true, false, not, if◌then◌else◌, List, [], ◌∷◌, map, filter, flat_map}
use Rattle.jr_tree.specs.Rows.{Rows, label}
use Rattle.jr_tree.specs.declared.label.Label.{Label}
use Rattle.jr_tree.specs.declared.label.Label.TheVariants as is
use Rattle.jr_flow.specs.declared.acts.Completion as code_completion
use Rattle.jr_flow.specs.declared.acts.Completion.TheVariants as how
use Rattle.jr_flow.specs.declared.acts.Act as code_act
use Rattle.jr_flow.specs.declared.acts.Act.TheVariants as a
use Rattle.jr_flow.specs.declared.acts.Acts as code
use Rattle.jr_flow_defs.specs.Acts.{Completion, normally, by_break, by_continue, by_return, by_throw, Act, part, event, node, define, use_of, quit, fork, choose, go, jump, is_parameter}

abbrev pub completion_seen : code_completion.Completion → Completion
completion_seen how.Normally = normally
completion_seen (how.Break target) = by_break target
completion_seen (how.Continue target) = by_continue target
completion_seen how.Return = by_return
completion_seen how.Throw = by_throw

abbrev pub act_seen : code_act.Act → Act
act_seen (a.Part row) = part row
act_seen (a.Event row) = event row
act_seen (a.Node row) = node row
act_seen (a.Define row local) = define row local
act_seen (a.Use row local) = use_of row local
act_seen a.Quit = quit
act_seen (a.Fork to) = fork to
act_seen (a.Choose has_default) = choose has_default
act_seen (a.Go to) = go to
act_seen (a.Jump completion) = jump (completion_seen completion)

-- the acts that are written
abbrev pub seen : code.Acts → List Act
seen acts = map act_seen acts.all.items

-- items of an array, each evaluated and stored (JLS 10.6)
abbrev pub stored : List ℕ → List Act
stored all = flat_map (λ k. part k ∷ event k ∷ []) all

-- declarations and statements that act in a way of their own; all else acts as an expression does
abbrev pub is_statement : Label → Bool
is_statement (is.Method modifiers is_void has_body) = true
is_statement (is.Constructor modifiers) = true
is_statement (is.Field modifiers dims) = true
is_statement (is.Parameter is_final dims) = true
is_statement (is.Local is_final dims) = true
is_statement is.Skip = true
is_statement is.Eval = true
is_statement is.Locals = true
is_statement is.If = true
is_statement is.While = true
is_statement is.Do = true
is_statement (is.For has_first has_condition) = true
is_statement is.Switch = true
is_statement is.Case = true
is_statement (is.Break has_label) = true
is_statement (is.Continue has_label) = true
is_statement is.Return = true
is_statement is.Throw = true
is_statement (is.Try has_finally) = true
is_statement _ = false

-- those of them that have no branch and are no jump
abbrev pub is_direct : Label → Bool
is_direct (is.Method modifiers is_void has_body) = true
is_direct (is.Constructor modifiers) = true
is_direct (is.Field modifiers dims) = true
is_direct (is.Parameter is_final dims) = true
is_direct (is.Local is_final dims) = true
is_direct is.Skip = true
is_direct is.Eval = true
is_direct is.Locals = true
is_direct is.Case = true
is_direct (is.Try has_finally) = true
is_direct _ = false

-- a row is a parameter, or is none
abbrev pub such : Rows → Bool → ℕ → Bool
such p true k = is_parameter (label p k)
such p false k = not (is_parameter (label p k))

-- the parameters among rows, or all others
abbrev pub only : Rows → Bool → List ℕ → List ℕ
only p are_parameters all = filter (λ k. such p are_parameters k) all

abbrev pub part_if : Bool → ℕ → List Act
part_if test k = if test then part k ∷ [] else []
