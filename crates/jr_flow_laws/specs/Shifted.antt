-- A body that stands in another program as it stood, so many rows on.
use Rattle.std.specs.Prelude.{◌≡◌, ℕ, ◌+◌, ◌<◌, ◌≤◌, Bool, true, false, ◌&&◌, if◌then◌else◌, length, map, Option, Some, nat_le, nat_lt}
use Rattle.jr_tree.specs.declared.label.Label.{Label}
use Rattle.jr_tree.specs.declared.label.Label.TheVariants as is
use Rattle.jr_tree.specs.Rows.{Rows, label, parent, end, role_at}
use Rattle.jr_tree.specs.Tree.{IsTree}
use Rattle.jr_defs.specs.declared.referent.Referent.{Referent}
use Rattle.jr_defs.specs.declared.referent.Referent.TheVariants.{Unbound, Ambiguous, ArrayLength, Package, Declared}
use Rattle.jr_flow_defs.specs.Meaning.{Meaning, is_constant, is_text, is_shown, narrows, local_at}
use Rattle.jr_flow_defs.specs.Acts.{Completion, normally, by_break, by_continue, by_return, by_throw, children, break_target, continue_target}
use Rattle.jr_flow_defs.specs.States.{Moment, before, completed, State}
use Rattle.jr_flow_defs.specs.Kept.{Origin}

-- ---- places of the copy

abbrev pub moved_completion : ℕ → Completion → Completion
moved_completion shift normally = normally
moved_completion shift (by_break n) = by_break (n + shift)
moved_completion shift (by_continue n) = by_continue (n + shift)
moved_completion shift by_return = by_return
moved_completion shift by_throw = by_throw

abbrev pub moved_moment : ℕ → Moment → Moment
moved_moment shift (before i) = before i
moved_moment shift (completed c) = completed (moved_completion shift c)

abbrev pub moved_state : ℕ → State → State
moved_state shift a = record { row = a.row + shift; moment = moved_moment shift a.moment; pending = map (moved_completion shift) a.pending }

-- ---- bodies

-- the row is that of the body's declaration, or stands below it
pub record IsIn (p : Rows) (body n : ℕ) : Type 0 where
  pub from : body ≤ n
  pub to : n < end p body

-- the declarations that may have code (JLS 8.3.2, 8.4.7, 8.6, 8.7, 8.8.7)
abbrev pub declares_code : Label → Bool
declares_code (is.Method modifiers is_void has_body) = true
declares_code (is.Constructor modifiers) = true
declares_code is.DefaultConstructor = true
declares_code (is.Initializer is_static) = true
declares_code (is.Field modifiers dims) = true
declares_code _ = false

-- the first part and the condition of a `for`, where it has them, and its body (JLS 14.14.1)
abbrev pub for_parts : Bool → Bool → ℕ
for_parts true true = 3
for_parts true false = 2
for_parts false true = 2
for_parts false false = 1

-- how many rows stand right below one of the label at least, where the acts of the row go to one of them by its place
abbrev pub least_parts : Label → ℕ
least_parts is.If = 2
least_parts is.While = 2
least_parts is.Do = 2
least_parts (is.For has_first has_condition) = for_parts has_first has_condition
least_parts is.Switch = 1
least_parts (is.Try has_finally) = 1
least_parts (is.Assign op) = 2
least_parts is.Conditional = 3
least_parts (is.Binary op) = 2
least_parts is.Cast = 2
least_parts (is.PreStep op) = 1
least_parts (is.PostStep op) = 1
least_parts is.Paren = 1
least_parts _ = 0

-- a jump has a target in the body
pub record HasTarget (p : Rows) (body : ℕ) (target : Option ℕ) : Type 0 where
  pub row : ℕ
  pub is_target : target ≡ Some row
  pub inside : IsIn p body row

-- a body by itself: a declaration with code in the rows of a tree, in which each row has its parts, each jump its target (JLS 14.15, 14.16), and the locals are its own (JLS 6.3)
pub record IsWholeBody (p : Rows) (m : Meaning) (body : ℕ) : Type 0 where
  pub tree : IsTree p
  pub few : body < length p
  pub declares : declares_code (label p body) ≡ true
  pub parts : (n : ℕ) → IsIn p body n → least_parts (label p n) ≤ length (children p n)
  pub breaks : (n : ℕ) (has_label : Bool) → IsIn p body n → label p n ≡ is.Break has_label → HasTarget p body (break_target p m n has_label)
  pub continues : (n : ℕ) (has_label : Bool) → IsIn p body n → label p n ≡ is.Continue has_label → HasTarget p body (continue_target p m n has_label)
  pub locals : (n d : ℕ) → IsIn p body n → local_at p m n ≡ Some d → IsIn p body d

-- ---- copies of bodies

-- where a row stands in the other program: a row of the body so many rows on, and any other as is told
abbrev pub moved_row : Rows → ℕ → ℕ → (ℕ → ℕ) → ℕ → ℕ
moved_row p body shift outside n = if nat_le body n && nat_lt n (end p body) then n + shift else outside n

-- the same declaration, where it stands now, through whatever level
pub data IsMovedReferent (move : ℕ → ℕ) : Referent → Referent → Type 0 where
  unbound : IsMovedReferent move Unbound Unbound
  ambiguous : IsMovedReferent move Ambiguous Ambiguous
  array_length : IsMovedReferent move ArrayLength ArrayLength
  a_package : IsMovedReferent move Package Package
  declared : {d : ℕ} {level over : Option ℕ} → IsMovedReferent move (Declared d level) (Declared (move d) over)

-- The rows of the body stand in q so many rows on: with the same labels, ends and parents. What they refer to is where it stands now: in the body so many rows on, and outside as
-- is told. Constant is what was, and what is told of a declaration outside has the role of that. Strings are strings, what is shown as one is shown (JLS 15.18.1), and casts that
-- can fail can fail (JLS 15.16).
pub record AreShiftedRows (p q : Rows) (m w : Meaning) (body shift : ℕ) (outside : ℕ → ℕ) : Type 0 where
  pub few : end p body + shift ≤ length q
  pub labels : (n : ℕ) → IsIn p body n → label q (n + shift) ≡ label p n
  pub ends : (n : ℕ) → IsIn p body n → end q (n + shift) ≡ end p n + shift
  pub parents : (n : ℕ) → IsIn p body n → body < n → parent q (n + shift) ≡ parent p n + shift
  pub referents : (n : ℕ) → IsIn p body n → IsMovedReferent (moved_row p body shift outside) (m.targets n) (w.targets (n + shift))
  pub roles : (n d : ℕ) (level : Option ℕ) → IsIn p body n → m.targets n ≡ Declared d level → (IsIn p body d → ⊥) → role_at q (outside d) ≡ role_at p d
  pub constants : (n : ℕ) → IsIn p body n → is_constant w (n + shift) ≡ is_constant m n
  pub texts : (n : ℕ) → IsIn p body n → is_text q (w.types (n + shift)) ≡ is_text p (m.types n)
  pub shown : (n : ℕ) → IsIn p body n → is_shown q (w.types (n + shift)) ≡ is_shown p (m.types n)
  pub casts : (n : ℕ) → IsIn p body n → label p n ≡ is.Cast → narrows q w (n + shift) ≡ narrows p m n

-- the rows of the copy have those of the body as origins, and no others have them
pub record AreOrigins (p : Rows) (body shift : ℕ) (origin : Origin) : Type 0 where
  pub own : (n : ℕ) → IsIn p body n → origin (n + shift) ≡ Some n
  pub once : (n k : ℕ) → IsIn p body n → origin k ≡ Some n → k ≡ n + shift
