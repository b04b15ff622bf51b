-- Which numbers lead back to themselves by edges that are data, and how they are found: those with no edge from one that may are left out first.
use Rattle.std.specs.Prelude.{◌≡◌, ◌⊎◌, ℕ, zero, suc, ◌+◌, ◌<◌, ◌≤◌, true, false, not, ◌&&◌, if◌then◌else◌, List, [], ◌∷◌, length, nat_eq, slice_index_or}
use Rattle.jr_plain.specs.Search.{has, Reaches}
use Rattle.jr_places.specs.declared.chains.Entry.{Entry}
use Rattle.jr_places.specs.declared.stamps.Stamps.{Stamps}
use Rattle.jr_places.specs.Stamps.{is_stamped, IsStamping}
use Rattle.jr_places.specs.Chains.{entry_at, rows_under}
use Rattle.jr_members.specs.Each.{StandOnce}
use Rattle.jr_dispatch.specs.Families.{turns_left}

-- ---- edges

-- where edges lead from x, the last one first
abbrev pub next_of : List Entry → ℕ → List ℕ
next_of edges x = rows_under edges x 0 (length edges)

abbrev pub IsEdgeIn : List Entry → ℕ → ℕ → Type 0
IsEdgeIn edges x y = has (next_of edges x) y ≡ true

-- edges lead back to x
abbrev pub IsOnRound : List Entry → ℕ → Type 0
IsOnRound edges x = Reaches (IsEdgeIn edges) x x

-- the first number to which they do
abbrev pub IsFirstOnRound : List Entry → ℕ → Type 0
IsFirstOnRound edges x = IsOnRound edges x × ((y : ℕ) → IsOnRound edges y → x ≤ y)

-- edges lead to numbers below the bound, and stand as those rise that they lead from
pub record AreEdges (edges : List Entry) (bound : ℕ) : Type 0 where
  pub below : (x y : ℕ) → IsEdgeIn edges x y → y < bound
  pub rise : (j k : ℕ) → j ≤ k → k < length edges → (entry_at edges j).first ≤ (entry_at edges k).first

-- ---- what is reached

-- a number is met now; it waits, unless it was met before
pub record PutsOne (bound at : ℕ) (old new : Stamps) (before after : List ℕ) : Type 0 where
  pub counted : IsStamping new bound
  pub out : (x : ℕ) → is_stamped new x ≡ true → (is_stamped old x ≡ true) ⊎ ((at ≡ x) × (has after x ≡ true))
  pub met : (x : ℕ) → is_stamped old x ≡ true → is_stamped new x ≡ true
  pub kept : (x : ℕ) → has before x ≡ true → has after x ≡ true
  pub from : (x : ℕ) → has after x ≡ true → (has before x ≡ true) ⊎ ((at ≡ x) × ((is_stamped old x ≡ false) × (is_stamped new x ≡ true)))
  pub told : at < bound → is_stamped new at ≡ true
  pub once : StandOnce before → ((x : ℕ) → has before x ≡ true → is_stamped old x ≡ true) → StandOnce after
  pub less : turns_left new bound after ≤ turns_left old bound before

-- those of a list are met now, but for the rest
pub record IsPutting (bound : ℕ) (all : List ℕ) (old new : Stamps) (before after rest : List ℕ) : Type 0 where
  pub counted : IsStamping new bound
  pub out : (x : ℕ) → is_stamped new x ≡ true → (is_stamped old x ≡ true) ⊎ ((has all x ≡ true) × (has after x ≡ true))
  pub met : (x : ℕ) → is_stamped old x ≡ true → is_stamped new x ≡ true
  pub kept : (x : ℕ) → has before x ≡ true → has after x ≡ true
  pub from : (x : ℕ) → has after x ≡ true → (has before x ≡ true) ⊎ (is_stamped new x ≡ true)
  pub told : (x : ℕ) → has all x ≡ true → x < bound → (is_stamped new x ≡ true) ⊎ (has rest x ≡ true)
  pub less : turns_left new bound after ≤ turns_left old bound before

-- what is met is reached from a; where edges lead to from a, and from what is met and does not wait, is met
pub record IsReaching (edges : List Entry) (a bound : ℕ) (met : Stamps) (waiting : List ℕ) : Type 0 where
  pub counted : IsStamping met bound
  pub sound : (x : ℕ) → is_stamped met x ≡ true → Reaches (IsEdgeIn edges) a x
  pub held : (x : ℕ) → has waiting x ≡ true → is_stamped met x ≡ true
  pub start : (y : ℕ) → IsEdgeIn edges a y → y < bound → is_stamped met y ≡ true
  pub closed : (x y : ℕ) → is_stamped met x ≡ true → IsEdgeIn edges x y → y < bound → (has waiting x ≡ true) ⊎ (is_stamped met y ≡ true)

-- ---- what is left out

-- what a list has for x
abbrev pub count_at : List ℕ → ℕ → ℕ
count_at counts x = slice_index_or counts x 0

-- one, where the edge leads to x and not from a number that is left out
abbrev pub counted_by : List ℕ → ℕ → Entry → ℕ
counted_by left x e = if nat_eq e.row x && not (has left e.first) then 1 else 0

-- how many of the first n edges do
abbrev pub edges_to : List Entry → List ℕ → ℕ → ℕ → ℕ
edges_to edges left x zero = 0
edges_to edges left x (suc n) = counted_by left x (entry_at edges n) + edges_to edges left x n

-- how often x stands in a list
abbrev pub occurrences : List ℕ → ℕ → ℕ
occurrences [] x = 0
occurrences (y ∷ more) x = (if nat_eq y x then 1 else 0) + occurrences more x

-- the counts are no smaller than the numbers of edges among the first n that are not left out, with those of the list
pub record AreEnough (edges : List Entry) (left rest counts : List ℕ) (n : ℕ) : Type 0 where
  pub each : (x : ℕ) → x < length counts → edges_to edges left x n + occurrences rest x ≤ count_at counts x

-- no edges lead back to those that are left out, nor to those that are to be left out next, each of which is so once; of the edges from the last one the rest are to be taken away
pub record IsTaking (edges : List Entry) (bound : ℕ) (met : Stamps) (left free rest counts : List ℕ) : Type 0 where
  pub counted : IsStamping met bound
  pub size : length counts ≡ bound
  pub enough : AreEnough edges left rest counts (length edges)
  pub out : (x : ℕ) → has left x ≡ true → IsOnRound edges x → ⊥
  pub next : (x : ℕ) → has free x ≡ true → IsOnRound edges x → ⊥
  pub left_met : (x : ℕ) → has left x ≡ true → is_stamped met x ≡ true
  pub free_met : (x : ℕ) → has free x ≡ true → is_stamped met x ≡ true
  pub once : StandOnce free
  pub apart : (x : ℕ) → has free x ≡ true → has left x ≡ false

-- so it is where all edges from those that are left out are taken away
abbrev pub IsLeaving : List Entry → ℕ → Stamps → List ℕ → List ℕ → Type 0
IsLeaving edges bound met free counts = (left : List ℕ) × IsTaking edges bound met left free [] counts

-- the counts tell which numbers may lie on a round: no other has a count
pub record AreCounts (edges : List Entry) (bound : ℕ) (counts : List ℕ) : Type 0 where
  pub none : (x : ℕ) → count_at counts x ≡ 0 → IsOnRound edges x → ⊥
