-- The nodes of trees that rows stand for, the node right above another, and the tables that find them.
use Rattle.std.specs.Prelude.{◌≡◌, ℕ, zero, suc, ◌+◌, ◌<◌, ◌^◌, Bool, List, [], ◌∷◌, ◌++◌, length, nat_eq, if◌then◌else◌}
use Rattle.jr_base.specs.declared.ids.NodeAt.{NodeAt}
use Rattle.jr_tree.specs.declared.label.Label.{Label}
use Rattle.jr_tree.specs.declared.label.Label.TheVariants as is
use Rattle.jr_tree.specs.declared.label.ReceiverKind.{ReceiverKind}
use Rattle.jr_tree.specs.declared.label.ReceiverKind.TheVariants as on
use Rattle.jr_tree.specs.Labels.{nodes_of}
use Rattle.jr_tree.specs.Rows.{Rows, label, parent, nodes_before}
use Rattle.jr_tree.specs.Local.{IsLocal}
use Rattle.jr_defs.specs.Packages.{InUnit}
use Rattle.jr_defs.specs.Numbers.{units_before, offset, IsNodeAt}

-- of the nodes that the row n stands for, the one with so many before it
pub record IsNodeOf (p : Rows) (n nth : ℕ) (at : NodeAt) : Type 0 where
  pub unit : ℕ
  pub holds : InUnit p unit n
  pub in_unit : at.cu.0 ≡ units_before p unit
  pub counted : nth < nodes_of (label p n)
  pub is_node : at.node.0 + nodes_before p unit ≡ nodes_before p n + nth

-- no row stands for it
abbrev pub IsNowhere : Rows → NodeAt → Type 0
IsNowhere p at = (n nth : ℕ) → IsNodeOf p n nth at → ⊥

-- the first row that stands for nodes, from this one upwards
pub data IsNearest (p : Rows) : ℕ → ℕ → Type 0 where
  here : {n : ℕ} → 0 < nodes_of (label p n) → IsNearest p n n
  over : {n m : ℕ} → nodes_of (label p n) ≡ 0 → IsNearest p (parent p n) m → IsNearest p n m

-- which node of a row stands right above the nodes below: above the parts of a type that is a member that type, above what stands before
-- the dot of a call its receiver, and otherwise the row's first
abbrev pub receiver_over : ReceiverKind → Bool → ℕ
receiver_over on.Expression is_first = if is_first then 1 else 0
receiver_over _ is_first = 0

abbrev pub over_nth : Label → Bool → ℕ
over_nth (is.Class modifiers is_member) is_first = if is_member then 1 else 0
over_nth (is.Interface modifiers is_member) is_first = if is_member then 1 else 0
over_nth (is.Call receiver) is_first = receiver_over receiver is_first
over_nth _ is_first = 0

-- the node right above the node
pub data IsParentNode (p : Rows) (at up : NodeAt) : Type 0 where
  same_row : {n : ℕ} → IsNodeOf p n 1 at → IsNodeOf p n 0 up → IsParentNode p at up
  row_over : {n m : ℕ} → IsNodeOf p n 0 at → IsNearest p (parent p n) m → IsNodeOf p m (over_nth (label p m) (nat_eq n (m + 1))) up
      → IsParentNode p at up

-- the law: the node of a row's declaration or occurrence is one of those that the row stands for
abbrev pub NodesAreNumbered : Type 0
NodesAreNumbered = (p : Rows) (n : ℕ) (at : NodeAt) → IsNodeOf p n (offset (label p n)) at → IsNodeAt p n at

-- ---- the tables

-- how many nodes stand before each of the first n rows, and then in all of them
abbrev pub counts : Rows → ℕ → List ℕ
counts p zero = 0 ∷ []
counts p (suc n) = counts p n ++ nodes_before p (suc n) ∷ []

-- the units among the first n rows
abbrev pub if_unit : Label → ℕ → List ℕ
if_unit is.Unit n = n ∷ []
if_unit _ n = []

abbrev pub unit_rows : Rows → ℕ → List ℕ
unit_rows p zero = []
unit_rows p (suc n) = unit_rows p n ++ if_unit (label p n) n

-- the rows of a program with their tables
pub record IsIndex (p : Rows) (nodes units : List ℕ) : Type 0 where
  pub local : IsLocal p
  pub few : length p < 2 ^ 32
  pub counted : nodes ≡ counts p (length p)
  pub starts : units ≡ unit_rows p (length p)
