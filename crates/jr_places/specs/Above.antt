-- The rows that hold a row, and the scopes of locals by them (JLS 6.3, 14.4.2).
use Rattle.std.specs.Prelude.{◌≡◌, ℕ, zero, suc, ◌≤◌, ◌<◌, ◌&&◌, Bool, if◌then◌else◌, List, [], ◌∷◌, ◌++◌, length, nat_eq, nat_lt}
use Rattle.jr_tree.specs.declared.label.Label.{Label}
use Rattle.jr_tree.specs.declared.label.Label.TheVariants as is
use Rattle.jr_tree.specs.declared.label.Role.TheVariants as role
use Rattle.jr_tree.specs.Rows.{Rows, label, parent, end, role_at}
use Rattle.jr_plain.specs.Search.{has, Lists}
use Rattle.jr_plain.specs.Same.{same_role}
use Rattle.jr_plain.specs.Scope.{is_in_local_scope}

-- the row k and those over it, at most so many more
abbrev pub above_to : Rows → ℕ → ℕ → List ℕ
above_to p zero k = k ∷ []
above_to p (suc rounds) k = k ∷ (if nat_eq k 0 then [] else above_to p rounds (parent p k))

abbrev pub holders : Rows → ℕ → List ℕ
holders p k = above_to p k k

-- these are the first rows that hold k, and the next one stands at over
pub record HoldersTo (p : Rows) (k room over : ℕ) (done : List ℕ) : Type 0 where
  pub rest : done ++ above_to p room over ≡ holders p k

-- the row that ends where a block of locals does: all groups of a switch are one block
abbrev pub block_by : Label → Rows → ℕ → ℕ
block_by is.Group p b = parent p b
block_by _ p b = b

abbrev pub block_of : Rows → ℕ → ℕ
block_of p d = block_by (label p (parent p (parent p d))) p (parent p (parent p d))

-- the local d is in scope at o, by the rows that hold o
abbrev pub is_local_at : Rows → ℕ → ℕ → Bool
is_local_at p d o = same_role (role_at p d) role.Local && nat_lt d o && has (holders p o) (block_of p d)

-- the law: the rows that hold a row are those in which it stands, and a local is in scope behind it where its block holds the place
pub record HoldersTell (p : Rows) : Type 0 where
  pub hold : (k : ℕ) → k < length p → Lists (holders p k) (λ m. (m ≤ k) × (k < end p m))
  pub locals : (d o : ℕ) → o < length p → is_local_at p d o ≡ is_in_local_scope p d o
