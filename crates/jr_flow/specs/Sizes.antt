-- Bodies with more points than there may be, and how many those of a body are at most.
use Rattle.std.specs.Prelude.{◌≡◌, ℕ, zero, suc, ◌+◌, ◌-◌, ◌<◌, ◌≤◌, Bool, true, false, not, ◌&&◌, if◌then◌else◌, nat_lt, length}
use Rattle.jr_tree.specs.declared.label.Label.{Label}
use Rattle.jr_tree.specs.declared.label.Label.TheVariants as is
use Rattle.jr_tree.specs.Rows.{Rows, label, end}
use Rattle.jr_flow_defs.specs.Meaning.{Meaning}
use Rattle.jr_flow_defs.specs.Acts.{first, second, third}
use Rattle.jr_flow.specs.Bodies.{has_code}
use Rattle.jr_flow.specs.Coded.{IsTooLarge}

-- some declaration that has code has more points than there may be
pub record HasTooLarge (p : Rows) (m : Meaning) : Type 0 where
  pub body : ℕ
  pub few : body < length p
  pub has : has_code p body ≡ true
  pub large : IsTooLarge p m body

-- the last of the rows to which control goes from the row by their place, or else the row itself (JLS 14.9 to 14.14, 14.20, 15.17 to 15.25)
abbrev pub farthest_by : Label → Rows → ℕ → ℕ
farthest_by is.If p n = second p n
farthest_by is.While p n = second p n
farthest_by is.Do p n = second p n
farthest_by (is.For has_first has_condition) p n = if has_first && has_condition then second p n else first p n
farthest_by is.Switch p n = first p n
farthest_by (is.Try has_finally) p n = first p n
farthest_by is.Conditional p n = third p n
farthest_by (is.Binary op) p n = second p n
farthest_by _ p n = n

abbrev pub is_try_with_finally : Label → Bool
is_try_with_finally (is.Try has_finally) = has_finally
is_try_with_finally _ = false

-- control that comes to the row goes on below it, and nothing is pending there
abbrev pub is_structured : Rows → ℕ → Bool
is_structured p n = not (is_try_with_finally (label p n)) && nat_lt (farthest_by (label p n) p n) (end p n)

-- how many points a row has at most: that of each item of an array belongs to the list (JLS 10.6)
abbrev pub most_by : Label → Rows → ℕ → ℕ
most_by is.List p n = end p n - n + 1
most_by _ p n = 2

-- so many rows from the row n on
abbrev pub most_of : Rows → ℕ → ℕ → ℕ
most_of p n zero = 0
most_of p n (suc count) = most_by (label p n) p n + most_of p (n + 1) count

-- control stays in the rows of the body, and these with the entry and the exits have no more points than there may be
pub record IsSmall (p : Rows) (body : ℕ) : Type 0 where
  pub rows : (n : ℕ) → body ≤ n → n < end p body → is_structured p n ≡ true
  pub few : most_of p body (end p body - body) + 3 ≤ 65536
