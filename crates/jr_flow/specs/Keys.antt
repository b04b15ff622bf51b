-- Keys by numbers, under which completions and places of control are found again.
use Rattle.std.specs.Prelude.{ℕ, Bool, ◌&&◌, nat_eq}
use Rattle.jr_plain.specs.Same.{same_pair}
use Rattle.jr_flow.specs.declared.acts.Completion.{Completion}
use Rattle.jr_flow.specs.declared.acts.Completion.TheVariants as how
use Rattle.jr_flow.specs.declared.leaving.Moment.{Moment}
use Rattle.jr_flow.specs.declared.leaving.Moment.TheVariants as when
use Rattle.jr_flow.specs.declared.leaving.State.{State}
use Rattle.jr_flow.specs.declared.pending.Waiting.{Waiting}

-- the kind of the completion, and its target
abbrev pub completion_key : Completion → ℕ × ℕ
completion_key how.Normally = (0, 0)
completion_key (how.Break target) = (1, target)
completion_key (how.Continue target) = (2, target)
completion_key how.Return = (3, 0)
completion_key how.Throw = (4, 0)

abbrev pub moment_key : Moment → ℕ × ℕ
moment_key (when.Before act) = (5, act)
moment_key (when.Completed completion) = completion_key completion

abbrev pub waiting_key : Waiting → (ℕ × ℕ) × ℕ
waiting_key x = (completion_key x.completion, x.outer)

abbrev pub state_key : State → (ℕ × ℕ) × (ℕ × ℕ)
state_key a = (moment_key a.moment, (a.row, a.list))

-- ---- two keys are one

abbrev pub same_waiting : (ℕ × ℕ) × ℕ → (ℕ × ℕ) × ℕ → Bool
same_waiting a b = same_pair a.0 b.0 && nat_eq a.1 b.1

abbrev pub same_state : (ℕ × ℕ) × (ℕ × ℕ) → (ℕ × ℕ) × (ℕ × ℕ) → Bool
same_state a b = same_pair a.0 b.0 && same_pair a.1 b.1
