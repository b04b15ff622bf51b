-- What is read of a program and its meaning, and when a row and its copy mean the same.
use Rattle.std.specs.Prelude.{◌≡◌, ℕ, ◌+◌, ◌<◌, ◌^◌, Bool, true, false, not, ◌&&◌, if◌then◌else◌, List, length, Option, Some, None, is_some, nat_eq, nat_lt, slice_index_or}
use Rattle.jr_tree.specs.declared.label.Label.{Label}
use Rattle.jr_tree.specs.declared.label.Label.TheVariants as is
use Rattle.jr_tree.specs.declared.label.Role.{Role}
use Rattle.jr_tree.specs.declared.label.Role.TheVariants as role
use Rattle.jr_tree.specs.Rows.{Rows, label, role_at}
use Rattle.jr_defs.specs.declared.referent.RowType.{RowType}
use Rattle.jr_defs.specs.Referents.{entries}
use Rattle.jr_supers.specs.Supers.{AreSupersOf}
use Rattle.jr_constants.specs.Tables.{item}
use Rattle.jr_flow_defs.specs.Meaning.{Meaning, is_constant, declared, is_text, is_shown, narrows}
use Rattle.jr_meaning.specs.declared.reading.Meant.{Meant}

abbrev pub type_in : List (Option RowType) → ℕ → Option RowType
type_in types n = slice_index_or types n None

-- What is read is of the meaning: its table, supertypes and types are those of the meaning, and so is what is constant. Rows are few enough to be counted.
pub record IsMeant (read : Meant) (m : Meaning) : Type 0 where
  pub few : length read.rows.now + 3 < 2 ^ 32
  pub targets : entries read.table.now ≡ m.targets
  pub supers : AreSupersOf read.rows.now m.targets read.supers.now
  pub types : (n : ℕ) → type_in read.types.now n ≡ m.types n
  pub constants : (n : ℕ) → is_some (item read.constants.now.values.items n) ≡ is_some (m.values n)

-- ---- a row and its copy

abbrev pub same : Bool → Bool → Bool
same first second = if first then second else not second

abbrev pub role_number : Role → ℕ
role_number role.Nothing = 0
role_number role.Type = 1
role_number role.Field = 2
role_number role.Method = 3
role_number role.Constructor = 4
role_number role.Parameter = 5
role_number role.Local = 6
role_number role.Label = 7

-- the row d is one of p, and c has its role in q
abbrev pub has_role_of : Rows → ℕ → Rows → ℕ → Bool
has_role_of p d q c = nat_lt d (length p) && nat_eq (role_number (role_at q c)) (role_number (role_at p d))

-- what was declared has become something with its role
abbrev pub keeps_declared : Rows → Option ℕ → Rows → Option ℕ → Bool
keeps_declared p None q to = true
keeps_declared p (Some d) q None = false
keeps_declared p (Some d) q (Some c) = has_role_of p d q c

abbrev pub is_cast : Label → Bool
is_cast is.Cast = true
is_cast _ = false

abbrev pub keeps_cast : Rows → Rows → Meaning → Meaning → ℕ → ℕ → Bool
keeps_cast p q m w n k = if is_cast (label p n) then same (narrows p m n) (narrows q w k) else true

abbrev pub keeps_type : Rows → Rows → Meaning → Meaning → ℕ → ℕ → Bool
keeps_type p q m w n k = same (is_text p (m.types n)) (is_text q (w.types k)) && same (is_shown p (m.types n)) (is_shown q (w.types k))

-- the row n of p means what the row k of q means
abbrev pub is_alike : Rows → Rows → Meaning → Meaning → ℕ → ℕ → Bool
is_alike p q m w n k = keeps_declared p (declared (m.targets n)) q (declared (w.targets k)) && same (is_constant m n) (is_constant w k) && keeps_type p q m w n k && keeps_cast p q m w n k
