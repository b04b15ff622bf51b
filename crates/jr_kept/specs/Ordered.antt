-- The first of edges.
use Rattle.std.specs.Prelude.{◌≡◌, Bool, ◌&&◌, ◌||◌, if◌then◌else◌, Option, Some, None, nat_eq, nat_lt}
use Rattle.jr_kept.specs.declared.edges.Edge.{Edge}
use Rattle.jr_kept.specs.declared.edges.Firsts.{Firsts}

abbrev pub is_before : Edge → Edge → Bool
is_before a b = nat_lt a.first b.first || nat_eq a.first b.first && nat_lt a.second b.second

-- the first of the edges so far and of one more
abbrev pub first_with : Option Edge → Edge → Edge
first_with None edge = edge
first_with (Some known) edge = if is_before edge known then edge else known

-- no edge was found on either side
abbrev pub AreNone : Firsts → Type 0
AreNone firsts = (firsts.before ≡ None) × (firsts.after ≡ None)

-- some are found now just where some were before, or where the fact does not hold
pub record Tells (old new : Firsts) (Holds : Type 0) : Type 0 where
  pub none : AreNone new → AreNone old × Holds
  pub kept : AreNone old → Holds → AreNone new

-- nothing is found now only where nothing was before
abbrev pub OnlyAdds : Firsts → Firsts → Type 0
OnlyAdds old new = AreNone new → AreNone old

-- nothing is found now only where nothing was before and the fact holds
abbrev pub Checks : Firsts → Firsts → Type 0 → Type 0
Checks old new Holds = AreNone new → AreNone old × Holds
