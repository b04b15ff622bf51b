-- The nodes by which the rows of a program are known, as they are counted from the first row on.
use Rattle.std.specs.Prelude.{◌≡◌, ◌≢◌, ℕ, zero, suc, ◌+◌, ◌-◌, ◌<◌, ◌^◌, List, [], ◌∷◌, ◌++◌, length, min, if◌then◌else◌}
use Rattle.jr_base.specs.declared.ids.DeclId.{DeclId}
use Rattle.jr_base.specs.declared.ids.NodeAt.{NodeAt}
use Rattle.jr_tree.specs.declared.label.Label.{Label}
use Rattle.jr_tree.specs.declared.label.Label.TheVariants as is
use Rattle.jr_tree.specs.declared.label.Role.TheVariants as role
use Rattle.jr_tree.specs.Labels.{nodes_of}
use Rattle.jr_tree.specs.Local.{IsLocal}
use Rattle.jr_tree.specs.Rows.{Rows, label, role_at, nodes_before}
use Rattle.jr_defs.specs.Numbers.{declaration_part, IsDeclaration}
use Rattle.jr_defs.specs.Packages.{InUnit}
use Rattle.jr_codes.specs.declared.ids.Count.{Count}
use Rattle.jr_codes.specs.Reads.{decl_at}

-- which of its nodes declares what the row declares
abbrev pub declaring : Label → ℕ
declaring (is.Class modifiers is_member) = if is_member then 1 else 0
declaring (is.Interface modifiers is_member) = if is_member then 1 else 0
declaring _ = 0

-- as a number of 32 bits
abbrev pub bounded : ℕ → ℕ
bounded n = min n (2 ^ 32 - 1)

-- a unit begins with its own first node
abbrev pub entered : Label → Count → Count
entered is.Unit c = record { unit = c.units; units = bounded (c.units + 1); node = 0 }
entered _ c = c

abbrev pub node_of : Label → Count → NodeAt
node_of l c = record { cu = record { 0 = c.unit }; node = record { 0 = bounded (c.node + declaring l) } }

abbrev pub passed : Label → Count → Count
passed l c = record { unit = c.unit; units = c.units; node = bounded (c.node + nodes_of l) }

-- before the row n
abbrev pub count_to : Rows → ℕ → Count
count_to p zero = record { unit = 0; units = 0; node = 0 }
count_to p (suc n) = passed (label p n) (entered (label p n) (count_to p n))

-- the nodes of the first n rows
abbrev pub counted_nodes : Rows → ℕ → List NodeAt
counted_nodes p zero = []
counted_nodes p (suc n) = counted_nodes p n ++ node_of (label p n) (entered (label p n) (count_to p n)) ∷ []

-- a declaration that is written, inside a unit, has by its node the number that is its own, and no other
pub record AreNumbered (p : Rows) (nodes : List NodeAt) : Type 0 where
  pub own : (u d : ℕ) → InUnit p u d → role_at p d ≢ role.Nothing → declaration_part (label p d) ≡ 0 → IsDeclaration p d (decl_at nodes p d)
  pub only : (d : ℕ) (number : DeclId) → role_at p d ≢ role.Nothing → number.part ≡ 0 → IsDeclaration p d number → decl_at nodes p d ≡ number

-- so it is in the rows of a program, where nodes are so few that they can be counted
abbrev pub NumbersDeclarations : Rows → List NodeAt → Type 0
NumbersDeclarations p nodes = IsLocal p → nodes_before p (length p) < 2 ^ 32 → AreNumbered p nodes
