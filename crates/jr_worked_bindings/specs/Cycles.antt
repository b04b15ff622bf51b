-- Worked programs. Headers that lead back to their own type: there is no binding.
use Rattle.std.specs.Prelude.{true, false, [], ◌∷◌, codes}
use Rattle.jr_tree.specs.declared.tree.Modifier.TheVariants as modifier
use Rattle.jr_tree.specs.declared.label.Label.TheVariants as is
use Rattle.jr_tree.specs.declared.label.ImportKind.TheVariants as importing
use Rattle.jr_tree.specs.declared.label.NameKind.TheVariants as kind
use Rattle.jr_tree.specs.declared.label.NamePlace.TheVariants as place
use Rattle.jr_tree.specs.Decls.{modifiers_of}
use Rattle.jr_tree.specs.Rows.{Rows}
use Rattle.jr_worked.specs.Tables.{r, bare}

-- 53
-- A.java: class A extends B { } class B extends A { }
abbrev pub two_classes_extend_each_other : Rows
two_classes_extend_each_other =
    r 0 20 0 is.Program [] ∷ r 0 9 0 is.Unit [] ∷ r 1 5 1 is.Package [] ∷ r 2 5 2 (is.Name kind.Package place.Other true) (codes "lang") ∷
    r 3 5 3 (is.Name kind.Package place.Qualifier false) (codes "java") ∷
    r 1 9 2 (is.Class (modifiers_of (modifier.Public ∷ [])) false) (codes "Object") ∷ r 5 9 5 is.Body [] ∷ r 6 9 6 is.DefaultConstructor [] ∷
    r 7 9 7 is.ImplicitCall [] ∷ r 0 20 1 is.Unit [] ∷ r 9 15 9 (is.Class bare false) (codes "A") ∷
    r 10 12 10 (is.Name kind.Type place.Superclass false) (codes "B") ∷ r 10 15 11 is.Body [] ∷ r 12 15 12 is.DefaultConstructor [] ∷
    r 13 15 13 is.ImplicitCall [] ∷ r 9 20 10 (is.Class bare false) (codes "B") ∷ r 15 17 15 (is.Name kind.Type place.Superclass false) (codes "A") ∷
    r 15 20 16 is.Body [] ∷ r 17 20 17 is.DefaultConstructor [] ∷ r 18 20 18 is.ImplicitCall [] ∷ []

-- 54
-- p/C.java: package p; public class C extends q.A { }
-- q/A.java: package q; import p.C.*; public class A extends N { }
abbrev pub a_cycle_through_an_import : Rows
a_cycle_through_an_import =
    r 0 29 0 is.Program [] ∷ r 0 9 0 is.Unit [] ∷ r 1 5 1 is.Package [] ∷ r 2 5 2 (is.Name kind.Package place.Other true) (codes "lang") ∷
    r 3 5 3 (is.Name kind.Package place.Qualifier false) (codes "java") ∷
    r 1 9 2 (is.Class (modifiers_of (modifier.Public ∷ [])) false) (codes "Object") ∷ r 5 9 5 is.Body [] ∷ r 6 9 6 is.DefaultConstructor [] ∷
    r 7 9 7 is.ImplicitCall [] ∷ r 0 18 1 is.Unit [] ∷ r 9 12 9 is.Package [] ∷ r 10 12 10 (is.Name kind.Package place.Other false) (codes "p") ∷
    r 9 18 10 (is.Class (modifiers_of (modifier.Public ∷ [])) false) (codes "C") ∷ r 12 15 12 (is.Name kind.Type place.Superclass true) (codes "A") ∷
    r 13 15 13 (is.Name kind.PackageOrType place.Qualifier false) (codes "q") ∷ r 12 18 13 is.Body [] ∷ r 15 18 15 is.DefaultConstructor [] ∷
    r 16 18 16 is.ImplicitCall [] ∷ r 0 29 9 is.Unit [] ∷ r 18 21 18 is.Package [] ∷ r 19 21 19 (is.Name kind.Package place.Other false) (codes "q") ∷
    r 18 24 19 (is.Import importing.OnDemand) [] ∷ r 21 24 21 (is.Name kind.PackageOrType place.Other true) (codes "C") ∷
    r 22 24 22 (is.Name kind.PackageOrType place.Qualifier false) (codes "p") ∷
    r 18 29 21 (is.Class (modifiers_of (modifier.Public ∷ [])) false) (codes "A") ∷ r 24 26 24 (is.Name kind.Type place.Superclass false) (codes "N") ∷
    r 24 29 25 is.Body [] ∷ r 26 29 26 is.DefaultConstructor [] ∷ r 27 29 27 is.ImplicitCall [] ∷ []

-- 55
-- A.java: class A extends A.B { static class B { } }
abbrev pub a_class_extends_its_member : Rows
a_class_extends_its_member =
    r 0 20 0 is.Program [] ∷ r 0 9 0 is.Unit [] ∷ r 1 5 1 is.Package [] ∷ r 2 5 2 (is.Name kind.Package place.Other true) (codes "lang") ∷
    r 3 5 3 (is.Name kind.Package place.Qualifier false) (codes "java") ∷
    r 1 9 2 (is.Class (modifiers_of (modifier.Public ∷ [])) false) (codes "Object") ∷ r 5 9 5 is.Body [] ∷ r 6 9 6 is.DefaultConstructor [] ∷
    r 7 9 7 is.ImplicitCall [] ∷ r 0 20 1 is.Unit [] ∷ r 9 20 9 (is.Class bare false) (codes "A") ∷
    r 10 13 10 (is.Name kind.Type place.Superclass true) (codes "B") ∷ r 11 13 11 (is.Name kind.PackageOrType place.Qualifier false) (codes "A") ∷
    r 10 20 11 is.Body [] ∷ r 13 16 13 is.DefaultConstructor [] ∷ r 14 16 14 is.ImplicitCall [] ∷
    r 13 20 14 (is.Class (modifiers_of (modifier.Static ∷ [])) true) (codes "B") ∷ r 16 20 16 is.Body [] ∷ r 17 20 17 is.DefaultConstructor [] ∷
    r 18 20 18 is.ImplicitCall [] ∷ []

-- 62
-- A.java: class A extends B.C { } class B extends A { static class C { } }
abbrev pub a_cycle_through_a_qualifier : Rows
a_cycle_through_a_qualifier =
    r 0 25 0 is.Program [] ∷ r 0 9 0 is.Unit [] ∷ r 1 5 1 is.Package [] ∷ r 2 5 2 (is.Name kind.Package place.Other true) (codes "lang") ∷
    r 3 5 3 (is.Name kind.Package place.Qualifier false) (codes "java") ∷
    r 1 9 2 (is.Class (modifiers_of (modifier.Public ∷ [])) false) (codes "Object") ∷ r 5 9 5 is.Body [] ∷ r 6 9 6 is.DefaultConstructor [] ∷
    r 7 9 7 is.ImplicitCall [] ∷ r 0 25 1 is.Unit [] ∷ r 9 16 9 (is.Class bare false) (codes "A") ∷
    r 10 13 10 (is.Name kind.Type place.Superclass true) (codes "C") ∷ r 11 13 11 (is.Name kind.PackageOrType place.Qualifier false) (codes "B") ∷
    r 10 16 11 is.Body [] ∷ r 13 16 13 is.DefaultConstructor [] ∷ r 14 16 14 is.ImplicitCall [] ∷ r 9 25 10 (is.Class bare false) (codes "B") ∷
    r 16 18 16 (is.Name kind.Type place.Superclass false) (codes "A") ∷ r 16 25 17 is.Body [] ∷ r 18 21 18 is.DefaultConstructor [] ∷
    r 19 21 19 is.ImplicitCall [] ∷ r 18 25 19 (is.Class (modifiers_of (modifier.Static ∷ [])) true) (codes "C") ∷ r 21 25 21 is.Body [] ∷
    r 22 25 22 is.DefaultConstructor [] ∷ r 23 25 23 is.ImplicitCall [] ∷ []

-- 67
-- A.java: class A extends X implements Y { } class X extends X { } interface Y extends A.I { }
abbrev pub a_cycle_through_a_later_name : Rows
a_cycle_through_a_later_name =
    r 0 25 0 is.Program [] ∷ r 0 9 0 is.Unit [] ∷ r 1 5 1 is.Package [] ∷ r 2 5 2 (is.Name kind.Package place.Other true) (codes "lang") ∷
    r 3 5 3 (is.Name kind.Package place.Qualifier false) (codes "java") ∷
    r 1 9 2 (is.Class (modifiers_of (modifier.Public ∷ [])) false) (codes "Object") ∷ r 5 9 5 is.Body [] ∷ r 6 9 6 is.DefaultConstructor [] ∷
    r 7 9 7 is.ImplicitCall [] ∷ r 0 25 1 is.Unit [] ∷ r 9 16 9 (is.Class bare false) (codes "A") ∷
    r 10 12 10 (is.Name kind.Type place.Superclass false) (codes "X") ∷ r 10 13 11 (is.Name kind.Type place.Superinterface false) (codes "Y") ∷
    r 10 16 12 is.Body [] ∷ r 13 16 13 is.DefaultConstructor [] ∷ r 14 16 14 is.ImplicitCall [] ∷ r 9 21 10 (is.Class bare false) (codes "X") ∷
    r 16 18 16 (is.Name kind.Type place.Superclass false) (codes "X") ∷ r 16 21 17 is.Body [] ∷ r 18 21 18 is.DefaultConstructor [] ∷
    r 19 21 19 is.ImplicitCall [] ∷ r 9 25 16 (is.Interface bare false) (codes "Y") ∷
    r 21 24 21 (is.Name kind.Type place.Superinterface true) (codes "I") ∷ r 22 24 22 (is.Name kind.PackageOrType place.Qualifier false) (codes "A") ∷
    r 21 25 22 is.Body [] ∷ []
