-- Worked programs. Packages, imports and access (JLS 6.5, 6.6, 7.5, 8.2).
use Rattle.std.specs.Prelude.{true, false, [], ◌∷◌, Some, None, codes, pos}
use Rattle.jr_base.specs.declared.kind.Kind.TheVariants as token
use Rattle.jr_base.specs.declared.kind.Symbol.TheVariants as y
use Rattle.jr_tree.specs.declared.tree.Modifier.TheVariants as modifier
use Rattle.jr_tree.specs.declared.tree.Primitive.TheVariants as primitive
use Rattle.jr_tree.specs.declared.label.Label.TheVariants as is
use Rattle.jr_tree.specs.declared.label.ImportKind.TheVariants as importing
use Rattle.jr_tree.specs.declared.label.NameKind.TheVariants as kind
use Rattle.jr_tree.specs.declared.label.NamePlace.TheVariants as place
use Rattle.jr_tree.specs.declared.label.ReceiverKind.TheVariants as on
use Rattle.jr_tree.specs.Decls.{modifiers_of}
use Rattle.jr_defs.specs.declared.referent.Referent.TheVariants.{Unbound, Ambiguous, Package, Declared}
use Rattle.jr_worked.specs.Tables.{Worked, r, bare}

-- 24
-- p/A.java: package p; class A { int f() { return p.B.x; } }
-- p/B.java: package p; class /*1*/B { static int /*2*/x; }
abbrev pub a_field_of_a_type_of_a_package : Worked
a_field_of_a_type_of_a_package = record {
  rows =
      r 0 33 0 is.Program [] ∷ r 0 9 0 is.Unit [] ∷ r 1 5 1 is.Package [] ∷ r 2 5 2 (is.Name kind.Package place.Other true) (codes "lang") ∷
      r 3 5 3 (is.Name kind.Package place.Qualifier false) (codes "java") ∷
      r 1 9 2 (is.Class (modifiers_of (modifier.Public ∷ [])) false) (codes "Object") ∷ r 5 9 5 is.Body [] ∷ r 6 9 6 is.DefaultConstructor [] ∷
      r 7 9 7 is.ImplicitCall [] ∷ r 0 23 1 is.Unit [] ∷ r 9 12 9 is.Package [] ∷ r 10 12 10 (is.Name kind.Package place.Other false) (codes "p") ∷
      r 9 23 10 (is.Class bare false) (codes "A") ∷ r 12 23 12 is.Body [] ∷ r 13 16 13 is.DefaultConstructor [] ∷ r 14 16 14 is.ImplicitCall [] ∷
      r 13 23 14 (is.Method bare false true) (codes "f") ∷ r 16 18 16 (is.TypeUse (Some primitive.Int) 0) [] ∷ r 16 23 17 is.Block [] ∷
      r 18 23 18 is.Return [] ∷ r 19 23 19 (is.Name kind.Variable place.Expression true) (codes "x") ∷
      r 20 23 20 (is.Name kind.Ambiguous place.Qualifier true) (codes "B") ∷ r 21 23 21 (is.Name kind.Ambiguous place.Qualifier false) (codes "p") ∷
      r 0 33 9 is.Unit [] ∷ r 23 26 23 is.Package [] ∷ r 24 26 24 (is.Name kind.Package place.Other false) (codes "p") ∷
      r 23 33 24 (is.Class bare false) (codes "B") ∷ r 26 33 26 is.Body [] ∷ r 27 30 27 is.DefaultConstructor [] ∷ r 28 30 28 is.ImplicitCall [] ∷
      r 27 33 28 (is.Fields (modifiers_of (modifier.Static ∷ []))) [] ∷ r 30 32 30 (is.TypeUse (Some primitive.Int) 0) [] ∷
      r 30 33 31 (is.Field (modifiers_of (modifier.Static ∷ [])) 0) (codes "x") ∷ [];
  targets = (15, Declared 7 None) ∷ (20, Declared 32 None) ∷ (21, Declared 26 None) ∷ (22, Package) ∷ (29, Declared 7 None) ∷ [];
}

-- 25
-- p/A.java: package p; class A { int p; int f() { return p.B.x; } }
-- p/B.java: package p; class /*1*/B { static int /*2*/x; }
abbrev pub a_field_obscures_a_package : Worked
a_field_obscures_a_package = record {
  rows =
      r 0 36 0 is.Program [] ∷ r 0 9 0 is.Unit [] ∷ r 1 5 1 is.Package [] ∷ r 2 5 2 (is.Name kind.Package place.Other true) (codes "lang") ∷
      r 3 5 3 (is.Name kind.Package place.Qualifier false) (codes "java") ∷
      r 1 9 2 (is.Class (modifiers_of (modifier.Public ∷ [])) false) (codes "Object") ∷ r 5 9 5 is.Body [] ∷ r 6 9 6 is.DefaultConstructor [] ∷
      r 7 9 7 is.ImplicitCall [] ∷ r 0 26 1 is.Unit [] ∷ r 9 12 9 is.Package [] ∷ r 10 12 10 (is.Name kind.Package place.Other false) (codes "p") ∷
      r 9 26 10 (is.Class bare false) (codes "A") ∷ r 12 26 12 is.Body [] ∷ r 13 16 13 is.DefaultConstructor [] ∷ r 14 16 14 is.ImplicitCall [] ∷
      r 13 19 14 (is.Fields bare) [] ∷ r 16 18 16 (is.TypeUse (Some primitive.Int) 0) [] ∷ r 16 19 17 (is.Field bare 0) (codes "p") ∷
      r 13 26 16 (is.Method bare false true) (codes "f") ∷ r 19 21 19 (is.TypeUse (Some primitive.Int) 0) [] ∷ r 19 26 20 is.Block [] ∷
      r 21 26 21 is.Return [] ∷ r 22 26 22 (is.Name kind.Variable place.Expression true) (codes "x") ∷
      r 23 26 23 (is.Name kind.Ambiguous place.Qualifier true) (codes "B") ∷ r 24 26 24 (is.Name kind.Ambiguous place.Qualifier false) (codes "p") ∷
      r 0 36 9 is.Unit [] ∷ r 26 29 26 is.Package [] ∷ r 27 29 27 (is.Name kind.Package place.Other false) (codes "p") ∷
      r 26 36 27 (is.Class bare false) (codes "B") ∷ r 29 36 29 is.Body [] ∷ r 30 33 30 is.DefaultConstructor [] ∷ r 31 33 31 is.ImplicitCall [] ∷
      r 30 36 31 (is.Fields (modifiers_of (modifier.Static ∷ []))) [] ∷ r 33 35 33 (is.TypeUse (Some primitive.Int) 0) [] ∷
      r 33 36 34 (is.Field (modifiers_of (modifier.Static ∷ [])) 0) (codes "x") ∷ [];
  targets = (15, Declared 7 None) ∷ (23, Unbound) ∷ (24, Unbound) ∷ (25, Declared 18 (Some 12)) ∷ (32, Declared 7 None) ∷ [];
}

-- 26
-- A.java: class A { int f() { return q.r.s; } }
abbrev pub packages_need_no_unit : Worked
packages_need_no_unit = record {
  rows =
      r 0 21 0 is.Program [] ∷ r 0 9 0 is.Unit [] ∷ r 1 5 1 is.Package [] ∷ r 2 5 2 (is.Name kind.Package place.Other true) (codes "lang") ∷
      r 3 5 3 (is.Name kind.Package place.Qualifier false) (codes "java") ∷
      r 1 9 2 (is.Class (modifiers_of (modifier.Public ∷ [])) false) (codes "Object") ∷ r 5 9 5 is.Body [] ∷ r 6 9 6 is.DefaultConstructor [] ∷
      r 7 9 7 is.ImplicitCall [] ∷ r 0 21 1 is.Unit [] ∷ r 9 21 9 (is.Class bare false) (codes "A") ∷ r 10 21 10 is.Body [] ∷
      r 11 14 11 is.DefaultConstructor [] ∷ r 12 14 12 is.ImplicitCall [] ∷ r 11 21 12 (is.Method bare false true) (codes "f") ∷
      r 14 16 14 (is.TypeUse (Some primitive.Int) 0) [] ∷ r 14 21 15 is.Block [] ∷ r 16 21 16 is.Return [] ∷
      r 17 21 17 (is.Name kind.Variable place.Expression true) (codes "s") ∷ r 18 21 18 (is.Name kind.Ambiguous place.Qualifier true) (codes "r") ∷
      r 19 21 19 (is.Name kind.Ambiguous place.Qualifier false) (codes "q") ∷ [];
  targets = (13, Declared 7 None) ∷ (18, Unbound) ∷ (19, Package) ∷ (20, Package) ∷ [];
}

-- 28
-- p/A.java: package p; import q.B; class A { B b; }
-- p/B.java: package p; class B { }
-- q/B.java: package q; public class /*1*/B { }
abbrev pub an_import_by_name_shadows_the_package : Worked
an_import_by_name_shadows_the_package = record {
  rows =
      r 0 37 0 is.Program [] ∷ r 0 9 0 is.Unit [] ∷ r 1 5 1 is.Package [] ∷ r 2 5 2 (is.Name kind.Package place.Other true) (codes "lang") ∷
      r 3 5 3 (is.Name kind.Package place.Qualifier false) (codes "java") ∷
      r 1 9 2 (is.Class (modifiers_of (modifier.Public ∷ [])) false) (codes "Object") ∷ r 5 9 5 is.Body [] ∷ r 6 9 6 is.DefaultConstructor [] ∷
      r 7 9 7 is.ImplicitCall [] ∷ r 0 23 1 is.Unit [] ∷ r 9 12 9 is.Package [] ∷ r 10 12 10 (is.Name kind.Package place.Other false) (codes "p") ∷
      r 9 15 10 (is.Import importing.Single) [] ∷ r 12 15 12 (is.Name kind.Type place.Other true) (codes "B") ∷
      r 13 15 13 (is.Name kind.PackageOrType place.Qualifier false) (codes "q") ∷ r 9 23 12 (is.Class bare false) (codes "A") ∷ r 15 23 15 is.Body [] ∷
      r 16 19 16 is.DefaultConstructor [] ∷ r 17 19 17 is.ImplicitCall [] ∷ r 16 23 17 (is.Fields bare) [] ∷ r 19 22 19 (is.TypeUse None 0) [] ∷
      r 20 22 20 (is.Name kind.Type place.Other false) (codes "B") ∷ r 19 23 20 (is.Field bare 0) (codes "b") ∷ r 0 30 9 is.Unit [] ∷
      r 23 26 23 is.Package [] ∷ r 24 26 24 (is.Name kind.Package place.Other false) (codes "p") ∷ r 23 30 24 (is.Class bare false) (codes "B") ∷
      r 26 30 26 is.Body [] ∷ r 27 30 27 is.DefaultConstructor [] ∷ r 28 30 28 is.ImplicitCall [] ∷ r 0 37 23 is.Unit [] ∷ r 30 33 30 is.Package [] ∷
      r 31 33 31 (is.Name kind.Package place.Other false) (codes "q") ∷ r 30 37 31 (is.Class (modifiers_of (modifier.Public ∷ [])) false) (codes "B") ∷
      r 33 37 33 is.Body [] ∷ r 34 37 34 is.DefaultConstructor [] ∷ r 35 37 35 is.ImplicitCall [] ∷ [];
  targets = (13, Declared 33 None) ∷ (14, Package) ∷ (18, Declared 7 None) ∷ (21, Declared 33 None) ∷ (29, Declared 7 None) ∷ (36, Declared 7 None) ∷ [];
}

-- 29
-- p/A.java: package p; import q.*; class A { B b; }
-- p/B.java: package p; class /*2*/B { }
-- q/B.java: package q; public class /*1*/B { }
abbrev pub the_package_shadows_an_import_on_demand : Worked
the_package_shadows_an_import_on_demand = record {
  rows =
      r 0 36 0 is.Program [] ∷ r 0 9 0 is.Unit [] ∷ r 1 5 1 is.Package [] ∷ r 2 5 2 (is.Name kind.Package place.Other true) (codes "lang") ∷
      r 3 5 3 (is.Name kind.Package place.Qualifier false) (codes "java") ∷
      r 1 9 2 (is.Class (modifiers_of (modifier.Public ∷ [])) false) (codes "Object") ∷ r 5 9 5 is.Body [] ∷ r 6 9 6 is.DefaultConstructor [] ∷
      r 7 9 7 is.ImplicitCall [] ∷ r 0 22 1 is.Unit [] ∷ r 9 12 9 is.Package [] ∷ r 10 12 10 (is.Name kind.Package place.Other false) (codes "p") ∷
      r 9 14 10 (is.Import importing.OnDemand) [] ∷ r 12 14 12 (is.Name kind.PackageOrType place.Other false) (codes "q") ∷
      r 9 22 12 (is.Class bare false) (codes "A") ∷ r 14 22 14 is.Body [] ∷ r 15 18 15 is.DefaultConstructor [] ∷ r 16 18 16 is.ImplicitCall [] ∷
      r 15 22 16 (is.Fields bare) [] ∷ r 18 21 18 (is.TypeUse None 0) [] ∷ r 19 21 19 (is.Name kind.Type place.Other false) (codes "B") ∷
      r 18 22 19 (is.Field bare 0) (codes "b") ∷ r 0 29 9 is.Unit [] ∷ r 22 25 22 is.Package [] ∷
      r 23 25 23 (is.Name kind.Package place.Other false) (codes "p") ∷ r 22 29 23 (is.Class bare false) (codes "B") ∷ r 25 29 25 is.Body [] ∷
      r 26 29 26 is.DefaultConstructor [] ∷ r 27 29 27 is.ImplicitCall [] ∷ r 0 36 22 is.Unit [] ∷ r 29 32 29 is.Package [] ∷
      r 30 32 30 (is.Name kind.Package place.Other false) (codes "q") ∷ r 29 36 30 (is.Class (modifiers_of (modifier.Public ∷ [])) false) (codes "B") ∷
      r 32 36 32 is.Body [] ∷ r 33 36 33 is.DefaultConstructor [] ∷ r 34 36 34 is.ImplicitCall [] ∷ [];
  targets = (13, Package) ∷ (17, Declared 7 None) ∷ (20, Declared 25 None) ∷ (28, Declared 7 None) ∷ (35, Declared 7 None) ∷ [];
}

-- 30
-- p/A.java: package p; import q.*; class A { B b; }
-- q/B.java: package q; public class /*1*/B { }
abbrev pub an_import_on_demand : Worked
an_import_on_demand = record {
  rows =
      r 0 29 0 is.Program [] ∷ r 0 9 0 is.Unit [] ∷ r 1 5 1 is.Package [] ∷ r 2 5 2 (is.Name kind.Package place.Other true) (codes "lang") ∷
      r 3 5 3 (is.Name kind.Package place.Qualifier false) (codes "java") ∷
      r 1 9 2 (is.Class (modifiers_of (modifier.Public ∷ [])) false) (codes "Object") ∷ r 5 9 5 is.Body [] ∷ r 6 9 6 is.DefaultConstructor [] ∷
      r 7 9 7 is.ImplicitCall [] ∷ r 0 22 1 is.Unit [] ∷ r 9 12 9 is.Package [] ∷ r 10 12 10 (is.Name kind.Package place.Other false) (codes "p") ∷
      r 9 14 10 (is.Import importing.OnDemand) [] ∷ r 12 14 12 (is.Name kind.PackageOrType place.Other false) (codes "q") ∷
      r 9 22 12 (is.Class bare false) (codes "A") ∷ r 14 22 14 is.Body [] ∷ r 15 18 15 is.DefaultConstructor [] ∷ r 16 18 16 is.ImplicitCall [] ∷
      r 15 22 16 (is.Fields bare) [] ∷ r 18 21 18 (is.TypeUse None 0) [] ∷ r 19 21 19 (is.Name kind.Type place.Other false) (codes "B") ∷
      r 18 22 19 (is.Field bare 0) (codes "b") ∷ r 0 29 9 is.Unit [] ∷ r 22 25 22 is.Package [] ∷
      r 23 25 23 (is.Name kind.Package place.Other false) (codes "q") ∷ r 22 29 23 (is.Class (modifiers_of (modifier.Public ∷ [])) false) (codes "B") ∷
      r 25 29 25 is.Body [] ∷ r 26 29 26 is.DefaultConstructor [] ∷ r 27 29 27 is.ImplicitCall [] ∷ [];
  targets = (13, Package) ∷ (17, Declared 7 None) ∷ (20, Declared 25 None) ∷ (28, Declared 7 None) ∷ [];
}

-- 31
-- p/A.java: package p; import q.*; import r.*; class A { B b; }
-- q/B.java: package q; public class B { }
-- r/B.java: package r; public class B { }
abbrev pub two_imports_on_demand : Worked
two_imports_on_demand = record {
  rows =
      r 0 38 0 is.Program [] ∷ r 0 9 0 is.Unit [] ∷ r 1 5 1 is.Package [] ∷ r 2 5 2 (is.Name kind.Package place.Other true) (codes "lang") ∷
      r 3 5 3 (is.Name kind.Package place.Qualifier false) (codes "java") ∷
      r 1 9 2 (is.Class (modifiers_of (modifier.Public ∷ [])) false) (codes "Object") ∷ r 5 9 5 is.Body [] ∷ r 6 9 6 is.DefaultConstructor [] ∷
      r 7 9 7 is.ImplicitCall [] ∷ r 0 24 1 is.Unit [] ∷ r 9 12 9 is.Package [] ∷ r 10 12 10 (is.Name kind.Package place.Other false) (codes "p") ∷
      r 9 14 10 (is.Import importing.OnDemand) [] ∷ r 12 14 12 (is.Name kind.PackageOrType place.Other false) (codes "q") ∷
      r 9 16 12 (is.Import importing.OnDemand) [] ∷ r 14 16 14 (is.Name kind.PackageOrType place.Other false) (codes "r") ∷
      r 9 24 14 (is.Class bare false) (codes "A") ∷ r 16 24 16 is.Body [] ∷ r 17 20 17 is.DefaultConstructor [] ∷ r 18 20 18 is.ImplicitCall [] ∷
      r 17 24 18 (is.Fields bare) [] ∷ r 20 23 20 (is.TypeUse None 0) [] ∷ r 21 23 21 (is.Name kind.Type place.Other false) (codes "B") ∷
      r 20 24 21 (is.Field bare 0) (codes "b") ∷ r 0 31 9 is.Unit [] ∷ r 24 27 24 is.Package [] ∷
      r 25 27 25 (is.Name kind.Package place.Other false) (codes "q") ∷ r 24 31 25 (is.Class (modifiers_of (modifier.Public ∷ [])) false) (codes "B") ∷
      r 27 31 27 is.Body [] ∷ r 28 31 28 is.DefaultConstructor [] ∷ r 29 31 29 is.ImplicitCall [] ∷ r 0 38 24 is.Unit [] ∷ r 31 34 31 is.Package [] ∷
      r 32 34 32 (is.Name kind.Package place.Other false) (codes "r") ∷ r 31 38 32 (is.Class (modifiers_of (modifier.Public ∷ [])) false) (codes "B") ∷
      r 34 38 34 is.Body [] ∷ r 35 38 35 is.DefaultConstructor [] ∷ r 36 38 36 is.ImplicitCall [] ∷ [];
  targets = (13, Package) ∷ (15, Package) ∷ (19, Declared 7 None) ∷ (22, Ambiguous) ∷ (30, Declared 7 None) ∷ (37, Declared 7 None) ∷ [];
}

-- 32
-- p/A.java: package p; import q.*; import r.*; class A { B b; }
-- q/B.java: package q; public class /*1*/B { }
-- r/B.java: package r; class B { }
abbrev pub an_import_on_demand_brings_what_is_accessible : Worked
an_import_on_demand_brings_what_is_accessible = record {
  rows =
      r 0 38 0 is.Program [] ∷ r 0 9 0 is.Unit [] ∷ r 1 5 1 is.Package [] ∷ r 2 5 2 (is.Name kind.Package place.Other true) (codes "lang") ∷
      r 3 5 3 (is.Name kind.Package place.Qualifier false) (codes "java") ∷
      r 1 9 2 (is.Class (modifiers_of (modifier.Public ∷ [])) false) (codes "Object") ∷ r 5 9 5 is.Body [] ∷ r 6 9 6 is.DefaultConstructor [] ∷
      r 7 9 7 is.ImplicitCall [] ∷ r 0 24 1 is.Unit [] ∷ r 9 12 9 is.Package [] ∷ r 10 12 10 (is.Name kind.Package place.Other false) (codes "p") ∷
      r 9 14 10 (is.Import importing.OnDemand) [] ∷ r 12 14 12 (is.Name kind.PackageOrType place.Other false) (codes "q") ∷
      r 9 16 12 (is.Import importing.OnDemand) [] ∷ r 14 16 14 (is.Name kind.PackageOrType place.Other false) (codes "r") ∷
      r 9 24 14 (is.Class bare false) (codes "A") ∷ r 16 24 16 is.Body [] ∷ r 17 20 17 is.DefaultConstructor [] ∷ r 18 20 18 is.ImplicitCall [] ∷
      r 17 24 18 (is.Fields bare) [] ∷ r 20 23 20 (is.TypeUse None 0) [] ∷ r 21 23 21 (is.Name kind.Type place.Other false) (codes "B") ∷
      r 20 24 21 (is.Field bare 0) (codes "b") ∷ r 0 31 9 is.Unit [] ∷ r 24 27 24 is.Package [] ∷
      r 25 27 25 (is.Name kind.Package place.Other false) (codes "q") ∷ r 24 31 25 (is.Class (modifiers_of (modifier.Public ∷ [])) false) (codes "B") ∷
      r 27 31 27 is.Body [] ∷ r 28 31 28 is.DefaultConstructor [] ∷ r 29 31 29 is.ImplicitCall [] ∷ r 0 38 24 is.Unit [] ∷ r 31 34 31 is.Package [] ∷
      r 32 34 32 (is.Name kind.Package place.Other false) (codes "r") ∷ r 31 38 32 (is.Class bare false) (codes "B") ∷ r 34 38 34 is.Body [] ∷
      r 35 38 35 is.DefaultConstructor [] ∷ r 36 38 36 is.ImplicitCall [] ∷ [];
  targets = (13, Package) ∷ (15, Package) ∷ (19, Declared 7 None) ∷ (22, Declared 27 None) ∷ (30, Declared 7 None) ∷ (37, Declared 7 None) ∷ [];
}

-- 33
-- A.java: class A { }
-- p/C.java: package p; class C { A a; }
abbrev pub no_name_for_types_of_the_unnamed_package : Worked
no_name_for_types_of_the_unnamed_package = record {
  rows =
      r 0 25 0 is.Program [] ∷ r 0 9 0 is.Unit [] ∷ r 1 5 1 is.Package [] ∷ r 2 5 2 (is.Name kind.Package place.Other true) (codes "lang") ∷
      r 3 5 3 (is.Name kind.Package place.Qualifier false) (codes "java") ∷
      r 1 9 2 (is.Class (modifiers_of (modifier.Public ∷ [])) false) (codes "Object") ∷ r 5 9 5 is.Body [] ∷ r 6 9 6 is.DefaultConstructor [] ∷
      r 7 9 7 is.ImplicitCall [] ∷ r 0 14 1 is.Unit [] ∷ r 9 14 9 (is.Class bare false) (codes "A") ∷ r 10 14 10 is.Body [] ∷
      r 11 14 11 is.DefaultConstructor [] ∷ r 12 14 12 is.ImplicitCall [] ∷ r 0 25 9 is.Unit [] ∷ r 14 17 14 is.Package [] ∷
      r 15 17 15 (is.Name kind.Package place.Other false) (codes "p") ∷ r 14 25 15 (is.Class bare false) (codes "C") ∷ r 17 25 17 is.Body [] ∷
      r 18 21 18 is.DefaultConstructor [] ∷ r 19 21 19 is.ImplicitCall [] ∷ r 18 25 19 (is.Fields bare) [] ∷ r 21 24 21 (is.TypeUse None 0) [] ∷
      r 22 24 22 (is.Name kind.Type place.Other false) (codes "A") ∷ r 21 25 22 (is.Field bare 0) (codes "a") ∷ [];
  targets = (13, Declared 7 None) ∷ (20, Declared 7 None) ∷ (23, Unbound) ∷ [];
}

-- 34
-- p/C.java: package p; public class C { public static int /*1*/m(int a) { return a; } }
-- q/D.java: package q; import static p.C.m; class D { int f() { return m(1); } }
abbrev pub a_static_import : Worked
a_static_import = record {
  rows =
      r 0 39 0 is.Program [] ∷ r 0 9 0 is.Unit [] ∷ r 1 5 1 is.Package [] ∷ r 2 5 2 (is.Name kind.Package place.Other true) (codes "lang") ∷
      r 3 5 3 (is.Name kind.Package place.Qualifier false) (codes "java") ∷
      r 1 9 2 (is.Class (modifiers_of (modifier.Public ∷ [])) false) (codes "Object") ∷ r 5 9 5 is.Body [] ∷ r 6 9 6 is.DefaultConstructor [] ∷
      r 7 9 7 is.ImplicitCall [] ∷ r 0 23 1 is.Unit [] ∷ r 9 12 9 is.Package [] ∷ r 10 12 10 (is.Name kind.Package place.Other false) (codes "p") ∷
      r 9 23 10 (is.Class (modifiers_of (modifier.Public ∷ [])) false) (codes "C") ∷ r 12 23 12 is.Body [] ∷ r 13 16 13 is.DefaultConstructor [] ∷
      r 14 16 14 is.ImplicitCall [] ∷ r 13 23 14 (is.Method (modifiers_of (modifier.Public ∷ modifier.Static ∷ [])) false true) (codes "m") ∷
      r 16 18 16 (is.TypeUse (Some primitive.Int) 0) [] ∷ r 16 20 17 (is.Parameter false 0) (codes "a") ∷
      r 18 20 18 (is.TypeUse (Some primitive.Int) 0) [] ∷ r 16 23 18 is.Block [] ∷ r 20 23 20 is.Return [] ∷
      r 21 23 21 (is.Name kind.Variable place.Expression false) (codes "a") ∷ r 0 39 9 is.Unit [] ∷ r 23 26 23 is.Package [] ∷
      r 24 26 24 (is.Name kind.Package place.Other false) (codes "q") ∷ r 23 29 24 (is.Import importing.StaticSingle) (codes "m") ∷
      r 26 29 26 (is.Name kind.Type place.Other true) (codes "C") ∷ r 27 29 27 (is.Name kind.PackageOrType place.Qualifier false) (codes "p") ∷
      r 23 39 26 (is.Class bare false) (codes "D") ∷ r 29 39 29 is.Body [] ∷ r 30 33 30 is.DefaultConstructor [] ∷ r 31 33 31 is.ImplicitCall [] ∷
      r 30 39 31 (is.Method bare false true) (codes "f") ∷ r 33 35 33 (is.TypeUse (Some primitive.Int) 0) [] ∷ r 33 39 34 is.Block [] ∷
      r 35 39 35 is.Return [] ∷ r 36 39 36 (is.Call on.Absent) (codes "m") ∷ r 37 39 37 (is.Literal (token.Int (pos 1))) [] ∷ [];
  targets = (15, Declared 7 None) ∷ (22, Declared 18 None) ∷ (27, Declared 12 None) ∷ (28, Package) ∷ (32, Declared 7 None) ∷ (37, Declared 16 None) ∷ [];
}

-- 35
-- p/C.java: package p; public class C { public static int /*1*/m(int a) { return a; } }
-- q/D.java: package q; import static p.C.m; class D { int m() { return 0; } int f() { return m(1); } }
abbrev pub a_member_method_shadows_a_static_import : Worked
a_member_method_shadows_a_static_import = record {
  rows =
      r 0 44 0 is.Program [] ∷ r 0 9 0 is.Unit [] ∷ r 1 5 1 is.Package [] ∷ r 2 5 2 (is.Name kind.Package place.Other true) (codes "lang") ∷
      r 3 5 3 (is.Name kind.Package place.Qualifier false) (codes "java") ∷
      r 1 9 2 (is.Class (modifiers_of (modifier.Public ∷ [])) false) (codes "Object") ∷ r 5 9 5 is.Body [] ∷ r 6 9 6 is.DefaultConstructor [] ∷
      r 7 9 7 is.ImplicitCall [] ∷ r 0 23 1 is.Unit [] ∷ r 9 12 9 is.Package [] ∷ r 10 12 10 (is.Name kind.Package place.Other false) (codes "p") ∷
      r 9 23 10 (is.Class (modifiers_of (modifier.Public ∷ [])) false) (codes "C") ∷ r 12 23 12 is.Body [] ∷ r 13 16 13 is.DefaultConstructor [] ∷
      r 14 16 14 is.ImplicitCall [] ∷ r 13 23 14 (is.Method (modifiers_of (modifier.Public ∷ modifier.Static ∷ [])) false true) (codes "m") ∷
      r 16 18 16 (is.TypeUse (Some primitive.Int) 0) [] ∷ r 16 20 17 (is.Parameter false 0) (codes "a") ∷
      r 18 20 18 (is.TypeUse (Some primitive.Int) 0) [] ∷ r 16 23 18 is.Block [] ∷ r 20 23 20 is.Return [] ∷
      r 21 23 21 (is.Name kind.Variable place.Expression false) (codes "a") ∷ r 0 44 9 is.Unit [] ∷ r 23 26 23 is.Package [] ∷
      r 24 26 24 (is.Name kind.Package place.Other false) (codes "q") ∷ r 23 29 24 (is.Import importing.StaticSingle) (codes "m") ∷
      r 26 29 26 (is.Name kind.Type place.Other true) (codes "C") ∷ r 27 29 27 (is.Name kind.PackageOrType place.Qualifier false) (codes "p") ∷
      r 23 44 26 (is.Class bare false) (codes "D") ∷ r 29 44 29 is.Body [] ∷ r 30 33 30 is.DefaultConstructor [] ∷ r 31 33 31 is.ImplicitCall [] ∷
      r 30 38 31 (is.Method bare false true) (codes "m") ∷ r 33 35 33 (is.TypeUse (Some primitive.Int) 0) [] ∷ r 33 38 34 is.Block [] ∷
      r 35 38 35 is.Return [] ∷ r 36 38 36 (is.Literal (token.Int (pos 0))) [] ∷ r 30 44 33 (is.Method bare false true) (codes "f") ∷
      r 38 40 38 (is.TypeUse (Some primitive.Int) 0) [] ∷ r 38 44 39 is.Block [] ∷ r 40 44 40 is.Return [] ∷ r 41 44 41 (is.Call on.Absent) (codes "m") ∷
      r 42 44 42 (is.Literal (token.Int (pos 1))) [] ∷ [];
  targets = (15, Declared 7 None) ∷ (22, Declared 18 None) ∷ (27, Declared 12 None) ∷ (28, Package) ∷ (32, Declared 7 None) ∷ (42, Unbound) ∷ [];
}

-- 36
-- p/A.java: package p; public class A { int n; }
-- q/B.java: package q; public class B extends p.A { }
-- p/C.java: package p; public class C extends q.B { int f() { return n; } }
abbrev pub a_member_does_not_pass_through_another_package : Worked
a_member_does_not_pass_through_another_package = record {
  rows =
      r 0 42 0 is.Program [] ∷ r 0 9 0 is.Unit [] ∷ r 1 5 1 is.Package [] ∷ r 2 5 2 (is.Name kind.Package place.Other true) (codes "lang") ∷
      r 3 5 3 (is.Name kind.Package place.Qualifier false) (codes "java") ∷
      r 1 9 2 (is.Class (modifiers_of (modifier.Public ∷ [])) false) (codes "Object") ∷ r 5 9 5 is.Body [] ∷ r 6 9 6 is.DefaultConstructor [] ∷
      r 7 9 7 is.ImplicitCall [] ∷ r 0 19 1 is.Unit [] ∷ r 9 12 9 is.Package [] ∷ r 10 12 10 (is.Name kind.Package place.Other false) (codes "p") ∷
      r 9 19 10 (is.Class (modifiers_of (modifier.Public ∷ [])) false) (codes "A") ∷ r 12 19 12 is.Body [] ∷ r 13 16 13 is.DefaultConstructor [] ∷
      r 14 16 14 is.ImplicitCall [] ∷ r 13 19 14 (is.Fields bare) [] ∷ r 16 18 16 (is.TypeUse (Some primitive.Int) 0) [] ∷
      r 16 19 17 (is.Field bare 0) (codes "n") ∷ r 0 28 9 is.Unit [] ∷ r 19 22 19 is.Package [] ∷
      r 20 22 20 (is.Name kind.Package place.Other false) (codes "q") ∷ r 19 28 20 (is.Class (modifiers_of (modifier.Public ∷ [])) false) (codes "B") ∷
      r 22 25 22 (is.Name kind.Type place.Superclass true) (codes "A") ∷ r 23 25 23 (is.Name kind.PackageOrType place.Qualifier false) (codes "p") ∷
      r 22 28 23 is.Body [] ∷ r 25 28 25 is.DefaultConstructor [] ∷ r 26 28 26 is.ImplicitCall [] ∷ r 0 42 19 is.Unit [] ∷ r 28 31 28 is.Package [] ∷
      r 29 31 29 (is.Name kind.Package place.Other false) (codes "p") ∷ r 28 42 29 (is.Class (modifiers_of (modifier.Public ∷ [])) false) (codes "C") ∷
      r 31 34 31 (is.Name kind.Type place.Superclass true) (codes "B") ∷ r 32 34 32 (is.Name kind.PackageOrType place.Qualifier false) (codes "q") ∷
      r 31 42 32 is.Body [] ∷ r 34 37 34 is.DefaultConstructor [] ∷ r 35 37 35 is.ImplicitCall [] ∷ r 34 42 35 (is.Method bare false true) (codes "f") ∷
      r 37 39 37 (is.TypeUse (Some primitive.Int) 0) [] ∷ r 37 42 38 is.Block [] ∷ r 39 42 39 is.Return [] ∷
      r 40 42 40 (is.Name kind.Variable place.Expression false) (codes "n") ∷ [];
  targets = (15, Declared 7 None) ∷ (23, Declared 12 None) ∷ (24, Package) ∷ (27, Declared 14 None) ∷ (32, Declared 22 None) ∷ (33, Package) ∷ (36, Declared 26 None) ∷ (41, Unbound) ∷ [];
}

-- 37
-- p/A.java: package p; public class A { protected int /*1*/n; }
-- q/B.java: package q; import p.A; public class B extends A { int f(A a, B b) { return b.n + a.n; } }
abbrev pub a_protected_field_is_reached_through_the_subclass : Worked
a_protected_field_is_reached_through_the_subclass = record {
  rows =
      r 0 45 0 is.Program [] ∷ r 0 9 0 is.Unit [] ∷ r 1 5 1 is.Package [] ∷ r 2 5 2 (is.Name kind.Package place.Other true) (codes "lang") ∷
      r 3 5 3 (is.Name kind.Package place.Qualifier false) (codes "java") ∷
      r 1 9 2 (is.Class (modifiers_of (modifier.Public ∷ [])) false) (codes "Object") ∷ r 5 9 5 is.Body [] ∷ r 6 9 6 is.DefaultConstructor [] ∷
      r 7 9 7 is.ImplicitCall [] ∷ r 0 19 1 is.Unit [] ∷ r 9 12 9 is.Package [] ∷ r 10 12 10 (is.Name kind.Package place.Other false) (codes "p") ∷
      r 9 19 10 (is.Class (modifiers_of (modifier.Public ∷ [])) false) (codes "A") ∷ r 12 19 12 is.Body [] ∷ r 13 16 13 is.DefaultConstructor [] ∷
      r 14 16 14 is.ImplicitCall [] ∷ r 13 19 14 (is.Fields (modifiers_of (modifier.Protected ∷ []))) [] ∷
      r 16 18 16 (is.TypeUse (Some primitive.Int) 0) [] ∷ r 16 19 17 (is.Field (modifiers_of (modifier.Protected ∷ [])) 0) (codes "n") ∷
      r 0 45 9 is.Unit [] ∷ r 19 22 19 is.Package [] ∷ r 20 22 20 (is.Name kind.Package place.Other false) (codes "q") ∷
      r 19 25 20 (is.Import importing.Single) [] ∷ r 22 25 22 (is.Name kind.Type place.Other true) (codes "A") ∷
      r 23 25 23 (is.Name kind.PackageOrType place.Qualifier false) (codes "p") ∷
      r 19 45 22 (is.Class (modifiers_of (modifier.Public ∷ [])) false) (codes "B") ∷ r 25 27 25 (is.Name kind.Type place.Superclass false) (codes "A") ∷
      r 25 45 26 is.Body [] ∷ r 27 30 27 is.DefaultConstructor [] ∷ r 28 30 28 is.ImplicitCall [] ∷ r 27 45 28 (is.Method bare false true) (codes "f") ∷
      r 30 32 30 (is.TypeUse (Some primitive.Int) 0) [] ∷ r 30 35 31 (is.Parameter false 0) (codes "a") ∷ r 32 35 32 (is.TypeUse None 0) [] ∷
      r 33 35 33 (is.Name kind.Type place.Other false) (codes "A") ∷ r 30 38 32 (is.Parameter false 0) (codes "b") ∷ r 35 38 35 (is.TypeUse None 0) [] ∷
      r 36 38 36 (is.Name kind.Type place.Other false) (codes "B") ∷ r 30 45 35 is.Block [] ∷ r 38 45 38 is.Return [] ∷ r 39 45 39 (is.Binary y.Plus) [] ∷
      r 40 43 40 (is.Name kind.Variable place.Expression true) (codes "n") ∷ r 41 43 41 (is.Name kind.Ambiguous place.Qualifier false) (codes "b") ∷
      r 40 45 41 (is.Name kind.Variable place.Expression true) (codes "n") ∷ r 43 45 43 (is.Name kind.Ambiguous place.Qualifier false) (codes "a") ∷ [];
  targets = (15, Declared 7 None) ∷ (23, Declared 12 None) ∷ (24, Package) ∷ (26, Declared 12 None) ∷ (29, Declared 14 None) ∷ (34, Declared 12 None) ∷ (37, Declared 25 None) ∷ (41, Declared 18 None) ∷ (42, Declared 35 None) ∷ (43, Declared 18 None) ∷ (44, Declared 32 None) ∷ [];
}

-- 56
-- p/A.java: package p; import p.A; class A { }
abbrev pub an_import_of_the_own_type : Worked
an_import_of_the_own_type = record {
  rows =
      r 0 19 0 is.Program [] ∷ r 0 9 0 is.Unit [] ∷ r 1 5 1 is.Package [] ∷ r 2 5 2 (is.Name kind.Package place.Other true) (codes "lang") ∷
      r 3 5 3 (is.Name kind.Package place.Qualifier false) (codes "java") ∷
      r 1 9 2 (is.Class (modifiers_of (modifier.Public ∷ [])) false) (codes "Object") ∷ r 5 9 5 is.Body [] ∷ r 6 9 6 is.DefaultConstructor [] ∷
      r 7 9 7 is.ImplicitCall [] ∷ r 0 19 1 is.Unit [] ∷ r 9 12 9 is.Package [] ∷ r 10 12 10 (is.Name kind.Package place.Other false) (codes "p") ∷
      r 9 15 10 (is.Import importing.Single) [] ∷ r 12 15 12 (is.Name kind.Type place.Other true) (codes "A") ∷
      r 13 15 13 (is.Name kind.PackageOrType place.Qualifier false) (codes "p") ∷ r 9 19 12 (is.Class bare false) (codes "A") ∷ r 15 19 15 is.Body [] ∷
      r 16 19 16 is.DefaultConstructor [] ∷ r 17 19 17 is.ImplicitCall [] ∷ [];
  targets = (13, Declared 15 None) ∷ (14, Package) ∷ (18, Declared 7 None) ∷ [];
}

-- 61
-- p/A.java: package p; class A { A a; }
-- p/X.java: package p; class A { A b; }
abbrev pub two_types_of_one_package : Worked
two_types_of_one_package = record {
  rows =
      r 0 31 0 is.Program [] ∷ r 0 9 0 is.Unit [] ∷ r 1 5 1 is.Package [] ∷ r 2 5 2 (is.Name kind.Package place.Other true) (codes "lang") ∷
      r 3 5 3 (is.Name kind.Package place.Qualifier false) (codes "java") ∷
      r 1 9 2 (is.Class (modifiers_of (modifier.Public ∷ [])) false) (codes "Object") ∷ r 5 9 5 is.Body [] ∷ r 6 9 6 is.DefaultConstructor [] ∷
      r 7 9 7 is.ImplicitCall [] ∷ r 0 20 1 is.Unit [] ∷ r 9 12 9 is.Package [] ∷ r 10 12 10 (is.Name kind.Package place.Other false) (codes "p") ∷
      r 9 20 10 (is.Class bare false) (codes "A") ∷ r 12 20 12 is.Body [] ∷ r 13 16 13 is.DefaultConstructor [] ∷ r 14 16 14 is.ImplicitCall [] ∷
      r 13 20 14 (is.Fields bare) [] ∷ r 16 19 16 (is.TypeUse None 0) [] ∷ r 17 19 17 (is.Name kind.Type place.Other false) (codes "A") ∷
      r 16 20 17 (is.Field bare 0) (codes "a") ∷ r 0 31 9 is.Unit [] ∷ r 20 23 20 is.Package [] ∷
      r 21 23 21 (is.Name kind.Package place.Other false) (codes "p") ∷ r 20 31 21 (is.Class bare false) (codes "A") ∷ r 23 31 23 is.Body [] ∷
      r 24 27 24 is.DefaultConstructor [] ∷ r 25 27 25 is.ImplicitCall [] ∷ r 24 31 25 (is.Fields bare) [] ∷ r 27 30 27 (is.TypeUse None 0) [] ∷
      r 28 30 28 (is.Name kind.Type place.Other false) (codes "A") ∷ r 27 31 28 (is.Field bare 0) (codes "b") ∷ [];
  targets = (15, Declared 7 None) ∷ (18, Ambiguous) ∷ (26, Declared 7 None) ∷ (29, Ambiguous) ∷ [];
}

-- 68
-- p/A.java: package p; import q.D.*; class A { C c; E e; }
-- q/B.java: package q; public class B { public static class C { } }
-- q/D.java: package q; public class D extends B { public static class /*1*/E { } }
abbrev pub an_import_on_demand_brings_no_inherited_type : Worked
an_import_on_demand_brings_no_inherited_type = record {
  rows =
      r 0 50 0 is.Program [] ∷ r 0 9 0 is.Unit [] ∷ r 1 5 1 is.Package [] ∷ r 2 5 2 (is.Name kind.Package place.Other true) (codes "lang") ∷
      r 3 5 3 (is.Name kind.Package place.Qualifier false) (codes "java") ∷
      r 1 9 2 (is.Class (modifiers_of (modifier.Public ∷ [])) false) (codes "Object") ∷ r 5 9 5 is.Body [] ∷ r 6 9 6 is.DefaultConstructor [] ∷
      r 7 9 7 is.ImplicitCall [] ∷ r 0 27 1 is.Unit [] ∷ r 9 12 9 is.Package [] ∷ r 10 12 10 (is.Name kind.Package place.Other false) (codes "p") ∷
      r 9 15 10 (is.Import importing.OnDemand) [] ∷ r 12 15 12 (is.Name kind.PackageOrType place.Other true) (codes "D") ∷
      r 13 15 13 (is.Name kind.PackageOrType place.Qualifier false) (codes "q") ∷ r 9 27 12 (is.Class bare false) (codes "A") ∷ r 15 27 15 is.Body [] ∷
      r 16 19 16 is.DefaultConstructor [] ∷ r 17 19 17 is.ImplicitCall [] ∷ r 16 23 17 (is.Fields bare) [] ∷ r 19 22 19 (is.TypeUse None 0) [] ∷
      r 20 22 20 (is.Name kind.Type place.Other false) (codes "C") ∷ r 19 23 20 (is.Field bare 0) (codes "c") ∷ r 16 27 19 (is.Fields bare) [] ∷
      r 23 26 23 (is.TypeUse None 0) [] ∷ r 24 26 24 (is.Name kind.Type place.Other false) (codes "E") ∷ r 23 27 24 (is.Field bare 0) (codes "e") ∷
      r 0 38 9 is.Unit [] ∷ r 27 30 27 is.Package [] ∷ r 28 30 28 (is.Name kind.Package place.Other false) (codes "q") ∷
      r 27 38 28 (is.Class (modifiers_of (modifier.Public ∷ [])) false) (codes "B") ∷ r 30 38 30 is.Body [] ∷ r 31 34 31 is.DefaultConstructor [] ∷
      r 32 34 32 is.ImplicitCall [] ∷ r 31 38 32 (is.Class (modifiers_of (modifier.Public ∷ modifier.Static ∷ [])) true) (codes "C") ∷
      r 34 38 34 is.Body [] ∷ r 35 38 35 is.DefaultConstructor [] ∷ r 36 38 36 is.ImplicitCall [] ∷ r 0 50 27 is.Unit [] ∷ r 38 41 38 is.Package [] ∷
      r 39 41 39 (is.Name kind.Package place.Other false) (codes "q") ∷ r 38 50 39 (is.Class (modifiers_of (modifier.Public ∷ [])) false) (codes "D") ∷
      r 41 43 41 (is.Name kind.Type place.Superclass false) (codes "B") ∷ r 41 50 42 is.Body [] ∷ r 43 46 43 is.DefaultConstructor [] ∷
      r 44 46 44 is.ImplicitCall [] ∷ r 43 50 44 (is.Class (modifiers_of (modifier.Public ∷ modifier.Static ∷ [])) true) (codes "E") ∷
      r 46 50 46 is.Body [] ∷ r 47 50 47 is.DefaultConstructor [] ∷ r 48 50 48 is.ImplicitCall [] ∷ [];
  targets = (13, Declared 41 None) ∷ (14, Package) ∷ (18, Declared 7 None) ∷ (21, Unbound) ∷ (25, Declared 46 None) ∷ (33, Declared 7 None) ∷ (37, Declared 7 None) ∷ (42, Declared 30 None) ∷ (45, Declared 32 None) ∷ (49, Declared 7 None) ∷ [];
}
