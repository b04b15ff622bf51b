-- Rule 13, computed: what headers name as supertypes (JLS 8.1.4, 8.1.5, 9.1.3).
use Rattle.std.specs.Prelude.{ℕ, Bool, ◌&&◌, ◌||◌, length, nat_eq, nat_lt}
use Rattle.jr_tree.specs.Rows.{Rows, parent}
use Rattle.jr_defs.specs.Referents.{Table}
use Rattle.jr_plain.specs.Search.{any_below}
use Rattle.jr_plain.specs.Declarations.{is_class, is_interface}
use Rattle.jr_plain.specs.Modifiers.{is_final, is_inner}
use Rattle.jr_plain.specs.Supertypes.{names_superclass, names_superinterface}
use Rattle.jr_name_rules.specs.Found.{declared_row, found, both_found}

-- the superclass is final, an interface or an inner class
abbrev pub is_wrong_superclass : Rows → Table → ℕ → Bool
is_wrong_superclass p t n = let wrong = found (declared_row (t n)) (λ d. is_final p d || (is_interface p d || is_inner p d)) in names_superclass p (parent p n) n && wrong

-- a superinterface is a class
abbrev pub is_wrong_superinterface : Rows → Table → ℕ → Bool
is_wrong_superinterface p t n = let wrong = found (declared_row (t n)) (λ d. is_class p d) in names_superinterface p (parent p n) n && wrong

-- a superinterface is named before
abbrev pub is_second_superinterface : Rows → Table → ℕ → Bool
is_second_superinterface p t m = let some = any_below (length p) (λ n. let same = both_found (declared_row (t n)) (declared_row (t m)) nat_eq in
    names_superinterface p (parent p m) n && nat_lt n m && same) in names_superinterface p (parent p m) m && some

-- rule 13, in one of its ways
abbrev pub has_wrong_supertype : Rows → Table → ℕ → Bool
has_wrong_supertype p t n = is_wrong_superclass p t n || (is_wrong_superinterface p t n || is_second_superinterface p t n)
