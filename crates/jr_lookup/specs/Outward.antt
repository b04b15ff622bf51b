-- The types round a place, from the innermost outwards (JLS 6.3, 8.1.3, 15.12.1).
use Rattle.std.specs.Prelude.{◌≡◌, ℕ, ◌+◌, ◌<◌, ◌≤◌, Option, Some, nat_eq, bytes_eq}
use Rattle.jr_base.specs.declared.text.Text.{Text}
use Rattle.jr_tree.specs.Rows.{Rows, name}
use Rattle.jr_defs.specs.Enclosing.{InBody}
use Rattle.jr_places.specs.Names.{name_row}

-- the innermost type round the place of which P holds
pub record IsInnermostSuch (p : Rows) (P : ℕ → Type 0) (o c : ℕ) : Type 0 where
  pub round : InBody p c o
  pub such : P c
  pub innermost : (e : ℕ) → InBody p e o → P e → e ≤ c

-- after so many types round the place, of none of which P holds, the next one
pub record IsWalking (p : Rows) (P : ℕ → Type 0) (o turn : ℕ) (around : Option ℕ) : Type 0 where
  pub inside : (h : ℕ) → around ≡ Some h → InBody p h o
  pub rest : (c : ℕ) → InBody p c o → P c → (h : ℕ) × (around ≡ Some h) × (c ≤ h)
  pub few : (h : ℕ) → around ≡ Some h → h + turn < o

-- the number stands for the text: the rows with this number are those with this name
abbrev pub IsNumberOf : Rows → ℕ → Text → Type 0
IsNumberOf p n x = (d : ℕ) → nat_eq (name_row p d) n ≡ bytes_eq (name p d) x
