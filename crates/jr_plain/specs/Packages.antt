-- Units, packages and the types that they declare, as tests (JLS 7.3, 7.4, 7.6).
use Rattle.std.specs.Prelude.{ℕ, Bool, ◌&&◌, List, length, Option, nat_lt, nat_le}
use Rattle.jr_base.specs.declared.text.Text.{Text}
use Rattle.jr_tree.specs.Rows.{Rows, label, end}
use Rattle.jr_defs.specs.Packages.{package_of}
use Rattle.jr_plain.specs.Search.{any_below, first_below}
use Rattle.jr_plain.specs.Same.{same_path}
use Rattle.jr_plain.specs.Enclosing.{is_unit, is_top_level}

-- the unit that holds the place
abbrev pub is_in_unit : Rows → ℕ → ℕ → Bool
is_in_unit p u o = is_unit (label p u) && nat_le u o && nat_lt o (end p u)

abbrev pub unit_of : Rows → ℕ → Option ℕ
unit_of p o = first_below (length p) (λ u. is_in_unit p u o)

-- the place stands in a unit of the package
abbrev pub is_in_package : Rows → List Text → ℕ → Bool
is_in_package p path o = any_below (length p) (λ u. is_in_unit p u o && same_path (package_of p u) path)

abbrev pub is_same_package : Rows → ℕ → ℕ → Bool
is_same_package p m n = any_below (length p) (λ u. is_in_unit p u m && is_in_package p (package_of p u) n)

-- a top-level type of the package
abbrev pub is_type_of_package : Rows → List Text → ℕ → Bool
is_type_of_package p path d = is_top_level p d && is_in_package p path d
