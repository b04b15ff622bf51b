-- Packages of units, their names as bytes, and the files of types (JLS 7.2, 7.4, 7.5).
use Rattle.std.specs.Prelude.{ℕ, zero, suc, ◌+◌, ◌-◌, Bool, true, false, not, ◌&&◌, if◌then◌else◌, List, [], ◌∷◌, ◌++◌, All, map, codes, Option, Some, None, unwrap_or, eqb, nat_eq, nat_le}
use Rattle.std.specs.List.{slice_split}
use Rattle.jr_base.specs.Identifiers.{IsIdentifier}
use Rattle.jr_tree.specs.declared.label.Label.{Label}
use Rattle.jr_tree.specs.declared.label.Label.TheVariants as is
use Rattle.jr_tree.specs.Rows.{Rows, label, name, parent, end}
use Rattle.jr_plain.specs.Search.{first_below}
use Rattle.jr_draft.specs.declared.packages.Head.{Head}
use Rattle.jr_draft.specs.Drafting.{Drafted, plus, copied, glued}

-- ---- what stands in a unit before its types

abbrev pub is_package : Label → Bool
is_package is.Package = true
is_package _ = false

abbrev pub is_import : Label → Bool
is_import (is.Import kind) = true
is_import _ = false

-- the package declaration of a unit, whose first row below it is this one
abbrev pub package_at : Rows → ℕ → Option ℕ
package_at p first = if is_package (label p first) then Some first else None

abbrev pub behind_package : Rows → ℕ → ℕ
behind_package p first = if is_package (label p first) then end p first else first

-- a row right below the unit that is no import
abbrev pub is_no_import : Rows → ℕ → ℕ → Bool
is_no_import p unit at = nat_eq (parent p at) unit && not (is_import (label p at))

-- the first row behind the imports of a unit, which begin here
abbrev pub behind_imports : Rows → ℕ → ℕ → ℕ
behind_imports p unit first = unwrap_or (first_below (end p unit) (λ at. nat_le first at && is_no_import p unit at)) (end p unit)

abbrev pub head_of : Rows → ℕ → Head
head_of p unit = let first = plus unit 1 in let imports = behind_package p first in
    record { unit = unit; declared = package_at p first; imports = imports; types = behind_imports p unit imports }

-- ---- names

-- a dot before each identifier but the first
abbrev pub dot_before : ℕ → List ℕ
dot_before zero = []
dot_before (suc count) = codes "."

-- the first identifiers of a name, so many of them, with dots between them; the last row is the first identifier
abbrev pub dotted : Rows → ℕ → ℕ → List ℕ
dotted p behind zero = []
dotted p behind (suc count) = dotted p behind count ++ dot_before count ++ name p (behind - count - 1)

-- the name in a package declaration or an import that is not static (JLS 6.2)
abbrev pub name_below : Rows → ℕ → List ℕ
name_below p over = dotted p (end p over) (end p over - over - 1)

-- the name of a package; nothing for the unnamed one
abbrev pub name_of_package : Rows → Option ℕ → List ℕ
name_of_package p None = []
name_of_package p (Some declared) = name_below p declared

abbrev pub is_dot : ℕ → Bool
is_dot b = nat_eq b 46

-- identifiers with dots between them, as the name of a package that has one
abbrev pub IsPackageName : List ℕ → Type 0
IsPackageName named = All IsIdentifier (slice_split (λ b. eqb b 46) named)

-- one more for each dot
abbrev pub dots_from : ℕ → List ℕ → ℕ
dots_from count [] = count
dots_from count (b ∷ bs) = dots_from (if is_dot b then plus count 1 else count) bs

-- one for each identifier
abbrev pub count_identifiers : List ℕ → ℕ
count_identifiers named = dots_from 1 named

-- ---- files

abbrev pub slash_for_dot : ℕ → ℕ
slash_for_dot b = if is_dot b then 47 else b

-- the folder of a package, with a slash behind each identifier
abbrev pub folder_of_package : List ℕ → List ℕ
folder_of_package [] = []
folder_of_package (b ∷ bs) = map slash_for_dot (b ∷ bs) ++ codes "/"

abbrev pub path_of_type : List ℕ → List ℕ → List ℕ
path_of_type named type = folder_of_package named ++ (type ++ codes ".java")

-- what stands behind the last of these bytes, where this is what stands behind the last one so far
abbrev pub behind_last_in : ℕ → List ℕ → List ℕ → List ℕ
behind_last_in mark behind [] = behind
behind_last_in mark behind (b ∷ bs) = behind_last_in mark (if nat_eq b mark then bs else behind) bs

abbrev pub behind_last : List ℕ → ℕ → List ℕ
behind_last bytes mark = behind_last_in mark bytes bytes

-- ---- package declarations

-- a package declaration with its line end; none for the unnamed package
abbrev pub declaration_of : List ℕ → List ℕ
declaration_of [] = []
declaration_of (b ∷ bs) = codes "package " ++ (b ∷ bs) ++ codes ";" ++ 10 ∷ []

abbrev pub declared_row : Drafted → Option ℕ → Drafted
declared_row d None = glued d 1
declared_row d (Some row) = copied d row (plus row 1)

-- with the rows of a package declaration, which is a copy where there was one; its identifiers refer to nothing, and come from no old row
abbrev pub with_package_rows : List ℕ → Option ℕ → Drafted → Drafted
with_package_rows [] declared d = d
with_package_rows (b ∷ bs) declared d = glued (declared_row d declared) (count_identifiers (b ∷ bs))
