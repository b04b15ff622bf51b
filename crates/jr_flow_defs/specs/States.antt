-- Where control is, and where it goes next (JLS 11.3, 14.1, 14.20, 15.6).
use Rattle.std.specs.Prelude.{ℕ, zero, suc, ◌+◌, ◌-◌, Bool, true, false, ◌&&◌, if◌then◌else◌, List, [], ◌∷◌, ◌++◌, length, map, filter, Option, Some, None, nat_eq, slice_get}
use Rattle.jr_tree.specs.declared.label.Label.{Label}
use Rattle.jr_tree.specs.declared.label.Label.TheVariants as is
use Rattle.jr_tree.specs.Rows.{Rows, label, parent}
use Rattle.jr_flow_defs.specs.Meaning.{Meaning}
use Rattle.jr_flow_defs.specs.Acts.{Completion, normally, by_break, by_continue, by_return, by_throw, Act, part, event, node, define, use_of, quit, fork, choose, go, jump, Acts, acts, children, last, is_catch, next_turn}

-- before the act of this number, or when the row has completed so
pub data Moment : Type 0 where
  before : ℕ → Moment
  completed : Completion → Moment

-- the completions that wait for the ends of the blocks of `finally` that were entered, the innermost first (JLS 14.20.2)
abbrev pub Pending : Type 0
Pending = List Completion

-- where control is: a moment of a row. A block of `finally` has a copy for each list of what is pending.
pub record State : Type 0 where
  pub row : ℕ
  pub moment : Moment
  pub pending : Pending

-- the next place to which control goes, and whether by a throw that happens here
pub record Hop (A : Type 0) : Type 0 where
  pub to : A
  pub is_throw : Bool

abbrev pub at : ℕ → ℕ → Pending → State
at n i w = record { row = n; moment = before i; pending = w }

abbrev pub left : ℕ → Completion → Pending → State
left n c w = record { row = n; moment = completed c; pending = w }

abbrev pub plainly : {A : Type 0} → A → Hop A
plainly a = record { to = a; is_throw = false }

abbrev pub is_throw : Completion → Bool
is_throw by_throw = true
is_throw _ = false

abbrev pub completing : ℕ → Completion → Pending → Hop State
completing n c w = record { to = left n c w; is_throw = is_throw c }

-- ---- inside a row

-- before the acts from the number i on, so many
abbrev pub all_at : ℕ → ℕ → ℕ → Pending → List (Hop State)
all_at n i zero w = []
all_at n i (suc count) w = plainly (at n i w) ∷ all_at n (i + 1) count w

-- from before the act i of the row n, which has so many
abbrev pub act_hops : Option Act → ℕ → ℕ → ℕ → Pending → List (Hop State)
act_hops None n i count w = plainly (left n normally w) ∷ []
act_hops (Some (part k)) n i count w = plainly (at k 0 w) ∷ []
act_hops (Some (event k)) n i count w = plainly (at n (i + 1) w) ∷ completing n by_throw w ∷ []
act_hops (Some (node k)) n i count w = plainly (at n (i + 1) w) ∷ []
act_hops (Some (define k d)) n i count w = plainly (at n (i + 1) w) ∷ []
act_hops (Some (use_of k d)) n i count w = plainly (at n (i + 1) w) ∷ []
act_hops (Some quit) n i count w = plainly (at n (i + 1) w) ∷ plainly (left n normally w) ∷ []
act_hops (Some (fork j)) n i count w = plainly (at n (i + 1) w) ∷ plainly (at n j w) ∷ []
act_hops (Some (choose has_default)) n i count w = all_at n (i + 1) (count - (i + 1)) w ++ (if has_default then [] else plainly (left n normally w) ∷ [])
act_hops (Some (go j)) n i count w = plainly (at n j w) ∷ []
act_hops (Some (jump c)) n i count w = completing n c w ∷ []

-- ---- out of a row

abbrev pub is_part : ℕ → Act → Bool
is_part k (part j) = nat_eq j k
is_part k _ = false

-- the number of the act behind the part k
abbrev pub behind : Acts → ℕ → ℕ
behind [] k = 0
behind (a ∷ all) k = if is_part k a then 1 else behind all k + 1

-- the part k of the row n has completed. Normally: control goes on behind it. A `break` with the row as target completes that normally (JLS 14.15), a
-- `continue` goes on with the next turn (JLS 14.16). For each other reason the row completes too (JLS 11.3, 14.1, 15.6).
abbrev pub part_left : Acts → Label → ℕ → ℕ → Completion → Pending → State
part_left all l n k normally w = at n (behind all k) w
part_left all l n k (by_break x) w = if nat_eq x n then left n normally w else left n (by_break x) w
part_left all l n k (by_continue x) w = if nat_eq x n then at n (next_turn l) w else left n (by_continue x) w
part_left all l n k by_return w = left n by_return w
part_left all l n k by_throw w = left n by_throw w

-- ---- `try` (JLS 14.20)

abbrev pub catches : Rows → ℕ → List ℕ
catches p n = filter (λ k. is_catch (label p k)) (children p n)

-- with a `finally`: into its block, where what happened is pending; without one the `try` completes so
abbrev pub into_finally : Rows → ℕ → Bool → Completion → Pending → State
into_finally p n true c w = at (last p n) 0 (c ∷ w)
into_finally p n false c w = left n c w

-- the body has completed: a throw goes to each of the catches, or is not caught
abbrev pub body_left : Rows → ℕ → Bool → Completion → Pending → List State
body_left p n has_finally by_throw w = map (λ k. at k 0 w) (catches p n) ++ into_finally p n has_finally by_throw w ∷ []
body_left p n has_finally c w = into_finally p n has_finally c w ∷ []

-- the block of `finally` has completed: normally, and the `try` completes as was pending; else abruptly for this reason, and what was pending is discarded (JLS 14.20.2)
abbrev pub finally_left : ℕ → Completion → Pending → List State
finally_left n normally (c ∷ w) = left n c w ∷ []
finally_left n c (x ∷ w) = left n c w ∷ []
finally_left n c [] = []

abbrev pub try_left : Rows → ℕ → Bool → ℕ → Completion → Pending → List State
try_left p n has_finally k c w =
    if nat_eq k (n + 1) then body_left p n has_finally c w
    else if has_finally && nat_eq k (last p n) then finally_left n c w
    else into_finally p n has_finally c w ∷ []

-- the row k right below n has completed
abbrev pub left_by : Label → Rows → Meaning → ℕ → ℕ → Completion → Pending → List State
left_by (is.Try has_finally) p m n k c w = try_left p n has_finally k c w
left_by l p m n k c w = part_left (acts p m n) l n k c w ∷ []

-- ---- out of the body

-- a body is left by a throw, or else normally: a `return` completes it (JLS 14.17)
abbrev pub as_left : Moment → Moment
as_left (completed by_throw) = completed by_throw
as_left (completed c) = completed normally
as_left (before i) = before i

abbrev pub ending : ℕ → State → State
ending body a = if nat_eq a.row body then record { row = a.row; moment = as_left a.moment; pending = a.pending } else a

-- ---- all together

abbrev pub hops_by : Moment → Rows → Meaning → ℕ → ℕ → Pending → List (Hop State)
hops_by (before i) p m body n w = act_hops (slice_get (acts p m n) i) n i (length (acts p m n)) w
hops_by (completed c) p m body n w = if nat_eq n body then [] else map (λ a. plainly (ending body a)) (left_by (label p (parent p n)) p m (parent p n) n c w)

-- where control goes from a state of a body
abbrev pub hops : Rows → Meaning → ℕ → State → List (Hop State)
hops p m body a = hops_by a.moment p m body a.row a.pending
