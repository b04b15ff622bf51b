-- The tests of units and packages tell what they are to tell.
use Rattle.std.proofs.Common.{◌≡◌, refl, sym, ◌∙◌, ℕ, ◌&&◌, List, length, Decides}
use Rattle.std.proofs.lemmas.Bool.Decides.{Decides-ltb}
use Rattle.jr_base.specs.declared.text.Text.{Text}
use Rattle.jr_tree.specs.Rows.{Rows, label, end}
use Rattle.jr_defs.specs.Packages.{package_of, InUnit, InPackage, SamePackage, TypeOfPackage}
use Rattle.jr_plain.specs.Same.{same_path}
use Rattle.jr_plain.specs.Packages as plain
use Rattle.jr_plain.proofs.Tests.{both, like}
use Rattle.jr_plain.proofs.Searches.{some}
use Rattle.jr_plain.proofs.Same.{path_tells}
use Rattle.jr_plain.proofs.Bounds.{unit_below}
use Rattle.jr_plain.proofs.Enclosed.{most, unit_label_tells, top_level_tells}

pub in_unit_tells : (p : Rows) (u o : ℕ) → Decides (plain.is_in_unit p u o) (InUnit p u o)
in_unit_tells p u o = like (both (both (unit_label_tells (label p u)) (most u o)) (Decides-ltb o (end p u))) (λ h. record { unit = h.0.0; from = h.0.1; before = h.1 }) (λ h. ((h.unit, h.from), h.before))

pub in_package_tells : (p : Rows) (path : List Text) (o : ℕ) → Decides (plain.is_in_package p path o) (InPackage p path o)
in_package_tells p path o = like
    (some (λ u. plain.is_in_unit p u o && same_path (package_of p u) path) (λ u. InUnit p u o × (package_of p u ≡ path))
    (λ u. both (in_unit_tells p u o) (path_tells (package_of p u) path)) (length p) (λ u h. unit_below p u h.0.unit))
    (λ h. record { unit = h.0; holds = h.1.0; has_path = h.1.1 }) (λ h. (h.unit, (h.holds, h.has_path)))

pub same_package_tells : (p : Rows) (m n : ℕ) → Decides (plain.is_same_package p m n) (SamePackage p m n)
same_package_tells p m n = like
    (some (λ u. plain.is_in_unit p u m && plain.is_in_package p (package_of p u) n) (λ u. InUnit p u m × InPackage p (package_of p u) n)
    (λ u. both (in_unit_tells p u m) (in_package_tells p (package_of p u) n)) (length p) (λ u h. unit_below p u h.0.unit))
    (λ h. record { path = package_of p h.0; first = record { unit = h.0; holds = h.1.0; has_path = refl }; second = h.1.1 })
    (λ h. (h.first.unit, (h.first.holds, record { unit = h.second.unit; holds = h.second.holds; has_path = h.second.has_path ∙ sym h.first.has_path })))

pub type_of_package_tells : (p : Rows) (path : List Text) (d : ℕ) → Decides (plain.is_type_of_package p path d) (TypeOfPackage p path d)
type_of_package_tells p path d = like (both (top_level_tells p d) (in_package_tells p path d)) (λ h. record { top = h.0; inside = h.1 }) (λ h. (h.top, h.inside))
