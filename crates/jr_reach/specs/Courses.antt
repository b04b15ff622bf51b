-- What may become of a statement once it is begun: whether it can complete normally, and which jumps leave it (JLS 14.1, 14.21).
use Rattle.std.specs.Prelude.{ℕ, Bool, true, false, not, ◌||◌, ◌&&◌, if◌then◌else◌, List, [], ◌∷◌, ◌++◌, Option, Some, None, nat_eq}
use Rattle.jr_reach.specs.declared.fact.Exit.{Exit}
use Rattle.jr_reach.specs.declared.fact.Exit.TheVariants as exit
use Rattle.jr_reach.specs.declared.course.Course.{Course}

-- ---- jumps that leave, as lists in which none stands twice

abbrev pub same_exit : Exit → Exit → Bool
same_exit (exit.Break m) (exit.Break n) = nat_eq m n
same_exit (exit.Continue m) (exit.Continue n) = nat_eq m n
same_exit (exit.Break m) (exit.Continue n) = false
same_exit (exit.Continue m) (exit.Break n) = false

abbrev pub has_exit : List Exit → Exit → Bool
has_exit [] e = false
has_exit (x ∷ exits) e = same_exit x e || has_exit exits e

abbrev pub with_exit : List Exit → Exit → List Exit
with_exit exits e = if has_exit exits e then exits else exits ++ e ∷ []

-- the exits of both lists
abbrev pub union : List Exit → List Exit → List Exit
union first [] = first
union first (e ∷ second) = union (with_exit first e) second

abbrev pub without : Exit → List Exit → List Exit
without e [] = []
without e (x ∷ exits) = if same_exit x e then without e exits else x ∷ without e exits

-- the exits but those that end at a loop
abbrev pub without_loop : ℕ → List Exit → List Exit
without_loop n exits = without (exit.Continue n) (without (exit.Break n) exits)

-- ---- courses

-- what does nothing
abbrev pub begun : Course
begun = record { completes = true; exits = [] }

-- a jump (14.15 to 14.18): it never completes
abbrev pub jump : Option Exit → Course
jump (Some x) = record { completes = false; exits = x ∷ [] }
jump None = record { completes = false; exits = [] }

-- the first, and then the second: it is begun where the first can complete
abbrev pub in_turn : Course → Course → Course
in_turn first second = if first.completes then record { completes = second.completes; exits = union first.exits second.exits } else first

-- one of two
abbrev pub either_of : Course → Course → Course
either_of first second = record { completes = first.completes || second.completes; exits = union first.exits second.exits }

-- a group of a switch and those behind it (14.11): each may be begun, and the last one completes the switch
abbrev pub groups : Course → Course → Course
groups first second = record { completes = second.completes; exits = union first.exits second.exits }

-- what goes on through a `finally` (14.20.2): where that cannot complete, only its own exits are left
abbrev pub through : Course → Course → Course
through course last = if last.completes then record { completes = course.completes; exits = union course.exits last.exits } else last

-- a labeled statement (14.7): a break to its label completes it
abbrev pub labeled : ℕ → Course → Course
labeled n body = record { completes = body.completes || has_exit body.exits (exit.Break n); exits = without (exit.Break n) body.exits }

-- a loop that tests before its body (14.12, 14.14): it completes, unless the condition is constant true and no break leaves it; under constant false the body is not begun
abbrev pub looped : Option Bool → ℕ → Course → Course
looped (Some false) n body = begun
looped (Some true) n body = record { completes = has_exit body.exits (exit.Break n); exits = without_loop n body.exits }
looped None n body = record { completes = true; exits = without_loop n body.exits }

abbrev pub is_yes : Option Bool → Bool
is_yes (Some true) = true
is_yes _ = false

-- one that tests behind its body (14.13): the condition is reached where the body completes or is continued
abbrev pub looped_once : Option Bool → ℕ → Course → Course
looped_once truth n body = record {
  completes = ((body.completes || has_exit body.exits (exit.Continue n)) && not (is_yes truth)) || has_exit body.exits (exit.Break n);
  exits = without_loop n body.exits;
}

-- a switch (14.11), from the course of its groups
abbrev pub switched : Bool → ℕ → Course → Course
switched has_default n body = record { completes = not has_default || body.completes || has_exit body.exits (exit.Break n); exits = without (exit.Break n) body.exits }
