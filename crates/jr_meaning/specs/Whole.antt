-- Rows of a body by itself, as the code looks at them.
use Rattle.std.specs.Prelude.{ℕ, zero, suc, ◌+◌, Bool, true, false, ◌&&◌, if◌then◌else◌, List, [], ◌∷◌, ◌++◌, Option, Some, None, nat_le}
use Rattle.jr_tree.specs.declared.label.Label.{Label}
use Rattle.jr_tree.specs.declared.label.Label.TheVariants as is
use Rattle.jr_tree.specs.Rows.{Rows, label, parent, end, role_at}
use Rattle.jr_change.specs.declared.change.RowRange.{RowRange}
use Rattle.jr_locks.specs.Origins.{no_row, origin_of, row_by}
use Rattle.jr_locks.specs.Locked.{is_within}
use Rattle.jr_flow_defs.specs.Meaning.{Meaning, declared, is_local_role}
use Rattle.jr_flow_defs.specs.Acts.{is_loop, is_loop_or_switch}
use Rattle.jr_flow_laws.specs.Shifted.{least_parts}

-- ---- what stands round rows

-- a loop, or also a switch
abbrev pub is_target : Bool → Label → Bool
is_target true = is_loop_or_switch
is_target false = is_loop

-- the innermost loop round the row n, or also switch, by those round the rows before it; or no row
abbrev pub near_by : Rows → Bool → List ℕ → ℕ → ℕ
near_by p with_switch near n =
    if nat_le n (parent p n) then no_row else if is_target with_switch (label p (parent p n)) then parent p n else origin_of near (parent p n)

abbrev pub nears : Rows → Bool → ℕ → List ℕ
nears p with_switch zero = []
nears p with_switch (suc n) = nears p with_switch n ++ near_by p with_switch (nears p with_switch n) n ∷ []

-- ---- parts

-- so many rows stand from k on before the end, each behind the one before
abbrev pub has_rows : Rows → ℕ → ℕ → ℕ → Bool
has_rows p k stop zero = true
has_rows p k stop (suc count) = if nat_le stop k then false else has_rows p (end p k) stop count

abbrev pub has_parts : Rows → ℕ → Bool
has_parts p n = has_rows p (n + 1) (end p n) (least_parts (label p n))

-- ---- targets of jumps

abbrev pub holds_some : RowRange → Option ℕ → Bool
holds_some range None = false
holds_some range (Some n) = is_within range n

-- the label d stands in the range, and below it a loop
abbrev pub holds_loop_below : Rows → RowRange → ℕ → Bool
holds_loop_below p range d = if is_within range d then is_loop (label p (d + 1)) && is_within range (d + 1) else false

abbrev pub holds_labeled : Rows → RowRange → Option ℕ → Bool
holds_labeled p range None = false
holds_labeled p range (Some d) = holds_loop_below p range d

abbrev pub holds_break : Meaning → List ℕ → RowRange → ℕ → Bool → Bool
holds_break m targets range n true = holds_some range (declared (m.targets n))
holds_break m targets range n false = holds_some range (row_by (origin_of targets n))

abbrev pub holds_continue : Rows → Meaning → List ℕ → RowRange → ℕ → Bool → Bool
holds_continue p m loops range n true = holds_labeled p range (declared (m.targets n))
holds_continue p m loops range n false = holds_some range (row_by (origin_of loops n))

-- a jump has its target in the range
abbrev pub holds_target : Rows → Meaning → List ℕ → List ℕ → RowRange → ℕ → Label → Bool
holds_target p m targets loops range n (is.Break has_label) = holds_break m targets range n has_label
holds_target p m targets loops range n (is.Continue has_label) = holds_continue p m loops range n has_label
holds_target p m targets loops range n _ = true

-- ---- locals

-- what is declared is no local or parameter, or stands in the range
abbrev pub holds_local : Rows → RowRange → Option ℕ → Bool
holds_local p range None = true
holds_local p range (Some d) = if is_local_role (role_at p d) then is_within range d else true

-- the row has its parts, a jump has its target in the range, and the locals are of the range
abbrev pub is_whole_at : Rows → Meaning → List ℕ → List ℕ → RowRange → ℕ → Bool
is_whole_at p m targets loops range n = has_parts p n && holds_target p m targets loops range n (label p n) && holds_local p range (declared (m.targets n))
