-- Which rows can be reached (JLS 14.21).
use Rattle.std.specs.Prelude.{◌≡◌, ◌<◌, ◌≤◌, ℕ, zero, suc, ◌+◌, Bool, true, false, not, ◌&&◌, ◌||◌, if◌then◌else◌, List, [], ◌∷◌, ◌++◌, length, Option, Some, None, nat_eq, slice_index_or}
use Rattle.jr_tree.specs.declared.label.Label.{Label}
use Rattle.jr_tree.specs.declared.label.Label.TheVariants as is
use Rattle.jr_tree.specs.Rows.{Rows, label, parent, previous}
use Rattle.jr_reach.specs.Statements.{Facts, Entries, fact, for_condition, courses}

-- for each row whether it can be reached
abbrev pub Reached : Type 0
Reached = ℕ → Bool

abbrev pub is_switch_label : Label → Bool
is_switch_label is.Case = true
is_switch_label is.Default = true
is_switch_label _ = false

-- first in what is round it, or behind a statement that can be reached and can complete
abbrev pub behind : Rows → Entries → Reached → ℕ → Bool
behind p e known n = let before = previous p n in
    if nat_eq before (parent p n) || is_switch_label (label p before) then known (parent p n) else known before && (e before).own.completes

abbrev pub is_no : Option Bool → Bool
is_no (Some false) = true
is_no _ = false

-- by the label of the row round it: what stands in a loop is not reached under a condition that is constant false, and all else is reached with what is round it
abbrev pub reached_by : Label → Rows → Facts → Entries → Reached → ℕ → Bool
reached_by is.Block p f e known n = behind p e known n
reached_by is.Group p f e known n = behind p e known n
reached_by is.While p f e known n = known (parent p n) && not (is_no (fact f (parent p n + 1)).truth)
reached_by (is.For has_first true) p f e known n = known (parent p n) && not (is_no (fact f (for_condition p (parent p n) has_first)).truth)
reached_by _ p f e known n = known (parent p n)

abbrev pub reached_at : Rows → Facts → Entries → Reached → ℕ → Bool
reached_at p f e known n = reached_by (label p (parent p n)) p f e known n

-- ---- the table of rows that can be reached

-- the definition: the program is reached, and each other row where the rules say so
pub record AreReached (p : Rows) (f : Facts) (e : Entries) (known : Reached) : Type 0 where
  pub program : known 0 ≡ true
  pub inside : (n : ℕ) → 0 < n → n < length p → known n ≡ reached_at p f e known n
  pub outside : (n : ℕ) → length p ≤ n → known n ≡ true

-- what a list of the first rows says
abbrev pub earlier : List Bool → Reached
earlier all m = slice_index_or all m true

-- whether the first k rows can be reached
abbrev pub reaches : Rows → Facts → Entries → ℕ → List Bool
reaches p f e zero = []
reaches p f e (suc k) = let all = reaches p f e k in all ++ reached_at p f e (earlier all) k ∷ []

abbrev pub reached : Rows → Facts → Reached
reached p f = earlier (reaches p f (courses p f) (length p))

-- what the law asks of rows: the program is its own parent and no loop, and the parent of another and the row before it stand before it
pub record ReadsEarlier (p : Rows) : Type 0 where
  pub program : label p 0 ≡ is.Program
  pub root : parent p 0 ≡ 0
  pub below : (n : ℕ) → 0 < n → n < length p → parent p n < n
  pub beside : (n : ℕ) → 0 < n → n < length p → previous p n < n

-- the law: there is one table of what is reached, and the computed one is it
pub record ReachedIsOne (p : Rows) (f : Facts) : Type 0 where
  pub computed : AreReached p f (courses p f) (reached p f)
  pub only : (a b : Reached) → AreReached p f (courses p f) a → AreReached p f (courses p f) b → (n : ℕ) → a n ≡ b n

abbrev pub EachIsReached : Type 0
EachIsReached = (p : Rows) (f : Facts) → ReadsEarlier p → ReachedIsOne p f
