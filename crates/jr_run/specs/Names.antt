-- Canonical names of types (JLS 6.7).
use Rattle.std.specs.Prelude.{ℕ, zero, suc, ◌+◌, List, [], ◌∷◌, ◌++◌, map, reverse, length, flat_map, Option, Some, None, if◌then◌else◌}
use Rattle.std.specs.Option.{option_map_or}
use Rattle.jr_base.specs.declared.text.Text.{Text}
use Rattle.jr_tree.specs.Rows.{Rows, label, name}
use Rattle.jr_defs.specs.Packages.{package_of}
use Rattle.jr_plain.specs.Enclosing.{declaring_type}
use Rattle.jr_plain.specs.Packages.{unit_of}
use Rattle.jr_places.specs.Packages.{is_package}

-- the identifiers of the package in which the place stands; the unnamed package has none (JLS 7.4)
abbrev pub package_path : Rows → ℕ → List Text
package_path p c = option_map_or (package_of p) (unit_of p c) []

-- those of the canonical name of a type: of the type that declares it, or else of its package, and its own; so many types are looked at
abbrev pub path_within : Rows → ℕ → ℕ → List Text
path_within p zero c = []
path_within p (suc more) c = option_map_or (λ d. path_within p more d) (declaring_type p c) (package_path p c) ++ name p c ∷ []

abbrev pub canonical_path : Rows → ℕ → List Text
canonical_path p c = path_within p (length p) c

-- each of the identifiers behind a dot
abbrev pub behind_dots : List Text → Text
behind_dots = flat_map (λ y. 46 ∷ y)

-- the identifiers, with dots between them
abbrev pub dotted : List Text → Text
dotted [] = []
dotted (x ∷ rest) = x ++ behind_dots rest

abbrev pub canonical_name : Rows → ℕ → Text
canonical_name p c = dotted (canonical_path p c)

-- the row of the last identifier of the package that a unit declares
abbrev pub package_row : Rows → ℕ → Option ℕ
package_row p u = if is_package (label p (u + 1)) then Some (u + 2) else None

-- the identifiers at the rows, that of the last row first
abbrev pub named : Rows → List ℕ → List Text
named p rows = map (name p) (reverse rows)
