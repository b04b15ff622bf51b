-- The stages of rows, by what they seek.
use Rattle.std.specs.Prelude.{◌≡◌, ℕ, Bool, true, false, List, length, Some, is_some, slice_get}
use Rattle.jr_tree.specs.declared.label.Label.{Label}
use Rattle.jr_tree.specs.declared.label.Label.TheVariants as is
use Rattle.jr_tree.specs.declared.label.NameKind.{NameKind}
use Rattle.jr_tree.specs.declared.label.NameKind.TheVariants as kind
use Rattle.jr_tree.specs.declared.label.Sought.{Sought}
use Rattle.jr_tree.specs.declared.label.Sought.TheVariants as sought
use Rattle.jr_tree.specs.Rows.{Rows, label, sought_at}
use Rattle.jr_supers.specs.Direct.{header_place}
use Rattle.jr_bind.specs.declared.stages.Stage.{Stage}
use Rattle.jr_bind.specs.declared.stages.Stage.TheVariants as stage

abbrev pub is_type_kind : NameKind → Bool
is_type_kind kind.Type = true
is_type_kind kind.PackageOrType = true
is_type_kind _ = false

-- the name stands for a type, or for a qualifier of one
abbrev pub seeks_type : Sought → Bool
seeks_type (sought.Simple k) = is_type_kind k
seeks_type (sought.Qualified k) = is_type_kind k
seeks_type _ = false

abbrev pub is_name : Label → Bool
is_name (is.Name k at is_qualified) = true
is_name _ = false

abbrev pub seeks_nothing : Sought → Bool
seeks_nothing sought.Nothing = true
seeks_nothing _ = false

-- the last identifier of a name in a header
abbrev pub ends_header : Label → Bool
ends_header l = is_some (header_place l)

-- the stage by what is sought: types alone in the first three, then what other names seek, then all else
abbrev pub IsLateAt : Rows → ℕ → Stage → Type 0
IsLateAt p n stage.Header = seeks_type (sought_at p n) ≡ true
IsLateAt p n stage.Import = (seeks_type (sought_at p n) ≡ true) × (ends_header (label p n) ≡ false)
IsLateAt p n stage.Type = (seeks_type (sought_at p n) ≡ true) × (ends_header (label p n) ≡ false)
IsLateAt p n stage.Name = (seeks_type (sought_at p n) ≡ false) × (is_name (label p n) ≡ true) × (seeks_nothing (sought_at p n) ≡ false)
IsLateAt p n stage.Other = (seeks_type (sought_at p n) ≡ false) × (is_name (label p n) ≡ false) × (seeks_nothing (sought_at p n) ≡ false)
IsLateAt p n stage.Nothing = seeks_nothing (sought_at p n) ≡ true

-- the first rows
abbrev pub AreLateTo : Rows → List Stage → ℕ → Type 0
AreLateTo p stages bound = (length stages ≡ bound) × ((n : ℕ) (s : Stage) → slice_get stages n ≡ Some s → IsLateAt p n s)

abbrev pub AreLate : Rows → List Stage → Type 0
AreLate p stages = AreLateTo p stages (length p)
