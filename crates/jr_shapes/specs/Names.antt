-- The identifiers of names, as the rows that have them, from the last identifier back (JLS 6.2, 6.7).
use Rattle.std.specs.Prelude.{ℕ, zero, suc, ◌+◌, ◌-◌, Bool, true, false, if◌then◌else◌, List, [], ◌∷◌, Option, Some, None, take, slice_index_or}
use Rattle.std.specs.List.{range_with_len}
use Rattle.jr_tree.specs.declared.label.Label.{Label}
use Rattle.jr_tree.specs.declared.label.Label.TheVariants as is
use Rattle.jr_tree.specs.Rows.{Rows, label, parent}
use Rattle.jr_defs.specs.declared.referent.Referent.{Referent}
use Rattle.jr_defs.specs.declared.referent.Referent.TheVariants.{Declared}
use Rattle.jr_defs.specs.Referents.{Table}
use Rattle.jr_shapes.specs.Parts.{end_of, type_of}

abbrev pub is_atom_label : Label → Bool
is_atom_label (is.Literal kind) = true
is_atom_label (is.Name kind place is_qualified) = true
is_atom_label (is.This is_qualified) = true
is_atom_label is.Select = true
is_atom_label is.SuperSelect = true
is_atom_label is.Index = true
is_atom_label (is.Call receiver) = true
is_atom_label is.New = true
is_atom_label is.Paren = true
is_atom_label _ = false

-- it can stand behind a cast without parentheses
abbrev pub is_atom : Rows → ℕ → Bool
is_atom p n = is_atom_label (label p n)

abbrev pub has_identifier : Label → Bool
has_identifier (is.Name kind place is_qualified) = true
has_identifier is.Select = true
has_identifier is.SuperSelect = true
has_identifier (is.Call receiver) = true
has_identifier (is.Constructor modifiers) = true
has_identifier (is.Break has_label) = has_label
has_identifier (is.Continue has_label) = has_label
has_identifier _ = false

abbrev pub has_own_identifier : Rows → ℕ → Bool
has_own_identifier p n = has_identifier (label p n)

abbrev pub target_of : Referent → ℕ → ℕ
target_of (Declared d level) n = d
target_of _ n = n

-- the row whose identifier a reference has, by what it refers to
abbrev pub named_by : Rows → ℕ → Referent → ℕ
named_by p n found = if has_own_identifier p n then target_of found n else n

abbrev pub is_body : Label → Bool
is_body is.Body = true
is_body _ = false

abbrev pub is_body_at : Rows → ℕ → Bool
is_body_at p n = is_body (label p n)

-- the type whose member a type is (JLS 8.5)
abbrev pub around : Rows → ℕ → Option ℕ
around p c = if is_body_at p (parent p c) then Some (parent p (parent p c)) else None

abbrev pub is_package : Label → Bool
is_package is.Package = true
is_package _ = false

abbrev pub package_at : Rows → ℕ → Option ℕ
package_at p n = if is_package (label p n) then Some (end_of p n) else None

abbrev pub name_in : ℕ → Option ℕ → List ℕ
name_in first (Some end) = range_with_len first (end - first)
name_in first None = []

-- the package of a type that is no member: a package declaration is the first in its unit (JLS 7.3, 7.4)
abbrev pub package_names : Rows → ℕ → List ℕ
package_names p c = name_in (parent p c + 1 + 1) (package_at p (parent p c + 1))

-- the last identifiers of the canonical name of a type, so many at most (JLS 6.7)
abbrev pub suffix : Rows → ℕ → ℕ → List ℕ
suffix p zero c = []
suffix p (suc more) c = c ∷ elim (around p c) [ Some d ↦ suffix p more d | None ↦ take more (package_names p c) ]

-- the identifiers of a package in a reference: those of the package of the type behind it, or as they are where there is none
abbrev pub kept_package : Rows → Option ℕ → List ℕ → List ℕ
kept_package p (Some c) rest = package_names p c
kept_package p None rest = rest

-- the identifiers before the last one of a reference that keeps its shape: each type by its name now, a package as a whole
abbrev pub kept : Rows → Table → Option ℕ → List ℕ → List ℕ
kept p t behind [] = []
kept p t behind (n ∷ rest) = elim (type_of p (t n)) [ Some c ↦ c ∷ kept p t (Some c) rest | None ↦ kept_package p behind (n ∷ rest) ]
