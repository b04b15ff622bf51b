-- Worked programs. Creations and constructors (JLS 15.9, 8.8).
use Rattle.std.specs.Prelude.{true, false, [], ◌∷◌, Some, None, codes}
use Rattle.jr_tree.specs.declared.tree.Modifier.TheVariants as modifier
use Rattle.jr_tree.specs.declared.tree.Primitive.TheVariants as primitive
use Rattle.jr_tree.specs.declared.tree.ThisOrSuper.TheVariants as which
use Rattle.jr_tree.specs.declared.label.Label.TheVariants as is
use Rattle.jr_tree.specs.declared.label.NameKind.TheVariants as kind
use Rattle.jr_tree.specs.declared.label.NamePlace.TheVariants as place
use Rattle.jr_tree.specs.Decls.{modifiers_of}
use Rattle.jr_defs.specs.declared.referent.Referent.TheVariants.{Unbound, Package, Declared}
use Rattle.jr_worked.specs.Tables.{Worked, r, bare}

-- 45
-- A.java: class O { class I { } class P extends O { class J { } Object f() { return new I(); } } }
abbrev pub an_inherited_inner_class : Worked
an_inherited_inner_class = record {
  rows =
      r 0 34 0 is.Program [] ∷ r 0 9 0 is.Unit [] ∷ r 1 5 1 is.Package [] ∷ r 2 5 2 (is.Name kind.Package place.Other true) (codes "lang") ∷
      r 3 5 3 (is.Name kind.Package place.Qualifier false) (codes "java") ∷
      r 1 9 2 (is.Class (modifiers_of (modifier.Public ∷ [])) false) (codes "Object") ∷ r 5 9 5 is.Body [] ∷ r 6 9 6 is.DefaultConstructor [] ∷
      r 7 9 7 is.ImplicitCall [] ∷ r 0 34 1 is.Unit [] ∷ r 9 34 9 (is.Class bare false) (codes "O") ∷ r 10 34 10 is.Body [] ∷
      r 11 14 11 is.DefaultConstructor [] ∷ r 12 14 12 is.ImplicitCall [] ∷ r 11 18 12 (is.Class bare true) (codes "I") ∷ r 14 18 14 is.Body [] ∷
      r 15 18 15 is.DefaultConstructor [] ∷ r 16 18 16 is.ImplicitCall [] ∷ r 11 34 14 (is.Class bare true) (codes "P") ∷
      r 18 20 18 (is.Name kind.Type place.Superclass false) (codes "O") ∷ r 18 34 19 is.Body [] ∷ r 20 23 20 is.DefaultConstructor [] ∷
      r 21 23 21 is.ImplicitCall [] ∷ r 20 27 21 (is.Class bare true) (codes "J") ∷ r 23 27 23 is.Body [] ∷ r 24 27 24 is.DefaultConstructor [] ∷
      r 25 27 25 is.ImplicitCall [] ∷ r 20 34 23 (is.Method bare false true) (codes "f") ∷ r 27 30 27 (is.TypeUse None 0) [] ∷
      r 28 30 28 (is.Name kind.Type place.Other false) (codes "Object") ∷ r 27 34 28 is.Block [] ∷ r 30 34 30 is.Return [] ∷ r 31 34 31 is.New [] ∷
      r 32 34 32 (is.Name kind.Type place.Other false) (codes "I") ∷ [];
  targets = (13, Declared 7 None) ∷ (17, Declared 7 None) ∷ (19, Declared 10 None) ∷ (22, Declared 12 None) ∷ (26, Declared 7 None) ∷ (29, Declared 5 None) ∷ (32, Declared 16 (Some 18)) ∷ (33, Declared 14 None) ∷ [];
}

-- 46
-- A.java: class O { class I { } } class A { Object f() { return new O.I(); } }
abbrev pub an_inner_class_of_no_enclosing_one : Worked
an_inner_class_of_no_enclosing_one = record {
  rows =
      r 0 30 0 is.Program [] ∷ r 0 9 0 is.Unit [] ∷ r 1 5 1 is.Package [] ∷ r 2 5 2 (is.Name kind.Package place.Other true) (codes "lang") ∷
      r 3 5 3 (is.Name kind.Package place.Qualifier false) (codes "java") ∷
      r 1 9 2 (is.Class (modifiers_of (modifier.Public ∷ [])) false) (codes "Object") ∷ r 5 9 5 is.Body [] ∷ r 6 9 6 is.DefaultConstructor [] ∷
      r 7 9 7 is.ImplicitCall [] ∷ r 0 30 1 is.Unit [] ∷ r 9 18 9 (is.Class bare false) (codes "O") ∷ r 10 18 10 is.Body [] ∷
      r 11 14 11 is.DefaultConstructor [] ∷ r 12 14 12 is.ImplicitCall [] ∷ r 11 18 12 (is.Class bare true) (codes "I") ∷ r 14 18 14 is.Body [] ∷
      r 15 18 15 is.DefaultConstructor [] ∷ r 16 18 16 is.ImplicitCall [] ∷ r 9 30 10 (is.Class bare false) (codes "A") ∷ r 18 30 18 is.Body [] ∷
      r 19 22 19 is.DefaultConstructor [] ∷ r 20 22 20 is.ImplicitCall [] ∷ r 19 30 20 (is.Method bare false true) (codes "f") ∷
      r 22 25 22 (is.TypeUse None 0) [] ∷ r 23 25 23 (is.Name kind.Type place.Other false) (codes "Object") ∷ r 22 30 23 is.Block [] ∷
      r 25 30 25 is.Return [] ∷ r 26 30 26 is.New [] ∷ r 27 30 27 (is.Name kind.Type place.Other true) (codes "I") ∷
      r 28 30 28 (is.Name kind.PackageOrType place.Qualifier false) (codes "O") ∷ [];
  targets = (13, Declared 7 None) ∷ (17, Declared 7 None) ∷ (21, Declared 7 None) ∷ (24, Declared 5 None) ∷ (27, Unbound) ∷ (28, Declared 14 None) ∷ (29, Declared 10 None) ∷ [];
}

-- 47
-- A.java: class A { } class B { Object f() { return new A(); } }
abbrev pub a_default_constructor : Worked
a_default_constructor = record {
  rows =
      r 0 25 0 is.Program [] ∷ r 0 9 0 is.Unit [] ∷ r 1 5 1 is.Package [] ∷ r 2 5 2 (is.Name kind.Package place.Other true) (codes "lang") ∷
      r 3 5 3 (is.Name kind.Package place.Qualifier false) (codes "java") ∷
      r 1 9 2 (is.Class (modifiers_of (modifier.Public ∷ [])) false) (codes "Object") ∷ r 5 9 5 is.Body [] ∷ r 6 9 6 is.DefaultConstructor [] ∷
      r 7 9 7 is.ImplicitCall [] ∷ r 0 25 1 is.Unit [] ∷ r 9 14 9 (is.Class bare false) (codes "A") ∷ r 10 14 10 is.Body [] ∷
      r 11 14 11 is.DefaultConstructor [] ∷ r 12 14 12 is.ImplicitCall [] ∷ r 9 25 10 (is.Class bare false) (codes "B") ∷ r 14 25 14 is.Body [] ∷
      r 15 18 15 is.DefaultConstructor [] ∷ r 16 18 16 is.ImplicitCall [] ∷ r 15 25 16 (is.Method bare false true) (codes "f") ∷
      r 18 21 18 (is.TypeUse None 0) [] ∷ r 19 21 19 (is.Name kind.Type place.Other false) (codes "Object") ∷ r 18 25 19 is.Block [] ∷
      r 21 25 21 is.Return [] ∷ r 22 25 22 is.New [] ∷ r 23 25 23 (is.Name kind.Type place.Other false) (codes "A") ∷ [];
  targets = (13, Declared 7 None) ∷ (17, Declared 7 None) ∷ (20, Declared 5 None) ∷ (23, Declared 12 None) ∷ (24, Declared 10 None) ∷ [];
}

-- 48
-- A.java: class A { A(int a) { } } class B extends A { B() { } }
abbrev pub no_constructor_for_the_implicit_call : Worked
no_constructor_for_the_implicit_call = record {
  rows =
      r 0 23 0 is.Program [] ∷ r 0 9 0 is.Unit [] ∷ r 1 5 1 is.Package [] ∷ r 2 5 2 (is.Name kind.Package place.Other true) (codes "lang") ∷
      r 3 5 3 (is.Name kind.Package place.Qualifier false) (codes "java") ∷
      r 1 9 2 (is.Class (modifiers_of (modifier.Public ∷ [])) false) (codes "Object") ∷ r 5 9 5 is.Body [] ∷ r 6 9 6 is.DefaultConstructor [] ∷
      r 7 9 7 is.ImplicitCall [] ∷ r 0 23 1 is.Unit [] ∷ r 9 17 9 (is.Class bare false) (codes "A") ∷ r 10 17 10 is.Body [] ∷
      r 11 17 11 (is.Constructor bare) (codes "A") ∷ r 12 14 12 is.ImplicitCall [] ∷ r 12 16 13 (is.Parameter false 0) (codes "a") ∷
      r 14 16 14 (is.TypeUse (Some primitive.Int) 0) [] ∷ r 12 17 14 is.Block [] ∷ r 9 23 10 (is.Class bare false) (codes "B") ∷
      r 17 19 17 (is.Name kind.Type place.Superclass false) (codes "A") ∷ r 17 23 18 is.Body [] ∷ r 19 23 19 (is.Constructor bare) (codes "B") ∷
      r 20 22 20 is.ImplicitCall [] ∷ r 20 23 21 is.Block [] ∷ [];
  targets = (12, Declared 10 None) ∷ (13, Declared 7 None) ∷ (18, Declared 10 None) ∷ (20, Declared 17 None) ∷ (21, Unbound) ∷ [];
}

-- 49
-- A.java: class A { A() { } B() { } }
abbrev pub a_constructor_of_another_name : Worked
a_constructor_of_another_name = record {
  rows =
      r 0 18 0 is.Program [] ∷ r 0 9 0 is.Unit [] ∷ r 1 5 1 is.Package [] ∷ r 2 5 2 (is.Name kind.Package place.Other true) (codes "lang") ∷
      r 3 5 3 (is.Name kind.Package place.Qualifier false) (codes "java") ∷
      r 1 9 2 (is.Class (modifiers_of (modifier.Public ∷ [])) false) (codes "Object") ∷ r 5 9 5 is.Body [] ∷ r 6 9 6 is.DefaultConstructor [] ∷
      r 7 9 7 is.ImplicitCall [] ∷ r 0 18 1 is.Unit [] ∷ r 9 18 9 (is.Class bare false) (codes "A") ∷ r 10 18 10 is.Body [] ∷
      r 11 15 11 (is.Constructor bare) (codes "A") ∷ r 12 14 12 is.ImplicitCall [] ∷ r 12 15 13 is.Block [] ∷
      r 11 18 12 (is.Constructor bare) (codes "B") ∷ r 15 17 15 is.ImplicitCall [] ∷ r 15 18 16 is.Block [] ∷ [];
  targets = (12, Declared 10 None) ∷ (13, Declared 7 None) ∷ (15, Declared 10 None) ∷ (16, Declared 7 None) ∷ [];
}

-- 58
-- p/I.java: package p; public interface I { class /*1*/C { } }
-- q/D.java: package q; class D { Object f() { return new p.I.C(); } } class E extends p.I.C { }
abbrev pub a_class_of_an_interface : Worked
a_class_of_an_interface = record {
  rows =
      r 0 41 0 is.Program [] ∷ r 0 9 0 is.Unit [] ∷ r 1 5 1 is.Package [] ∷ r 2 5 2 (is.Name kind.Package place.Other true) (codes "lang") ∷
      r 3 5 3 (is.Name kind.Package place.Qualifier false) (codes "java") ∷
      r 1 9 2 (is.Class (modifiers_of (modifier.Public ∷ [])) false) (codes "Object") ∷ r 5 9 5 is.Body [] ∷ r 6 9 6 is.DefaultConstructor [] ∷
      r 7 9 7 is.ImplicitCall [] ∷ r 0 18 1 is.Unit [] ∷ r 9 12 9 is.Package [] ∷ r 10 12 10 (is.Name kind.Package place.Other false) (codes "p") ∷
      r 9 18 10 (is.Interface (modifiers_of (modifier.Public ∷ [])) false) (codes "I") ∷ r 12 18 12 is.Body [] ∷
      r 13 18 13 (is.Class bare true) (codes "C") ∷ r 14 18 14 is.Body [] ∷ r 15 18 15 is.DefaultConstructor [] ∷ r 16 18 16 is.ImplicitCall [] ∷
      r 0 41 9 is.Unit [] ∷ r 18 21 18 is.Package [] ∷ r 19 21 19 (is.Name kind.Package place.Other false) (codes "q") ∷
      r 18 34 19 (is.Class bare false) (codes "D") ∷ r 21 34 21 is.Body [] ∷ r 22 25 22 is.DefaultConstructor [] ∷ r 23 25 23 is.ImplicitCall [] ∷
      r 22 34 23 (is.Method bare false true) (codes "f") ∷ r 25 28 25 (is.TypeUse None 0) [] ∷
      r 26 28 26 (is.Name kind.Type place.Other false) (codes "Object") ∷ r 25 34 26 is.Block [] ∷ r 28 34 28 is.Return [] ∷ r 29 34 29 is.New [] ∷
      r 30 34 30 (is.Name kind.Type place.Other true) (codes "C") ∷ r 31 34 31 (is.Name kind.PackageOrType place.Qualifier true) (codes "I") ∷
      r 32 34 32 (is.Name kind.PackageOrType place.Qualifier false) (codes "p") ∷ r 18 41 21 (is.Class bare false) (codes "E") ∷
      r 34 38 34 (is.Name kind.Type place.Superclass true) (codes "C") ∷ r 35 38 35 (is.Name kind.PackageOrType place.Qualifier true) (codes "I") ∷
      r 36 38 36 (is.Name kind.PackageOrType place.Qualifier false) (codes "p") ∷ r 34 41 35 is.Body [] ∷ r 38 41 38 is.DefaultConstructor [] ∷
      r 39 41 39 is.ImplicitCall [] ∷ [];
  targets = (17, Declared 7 None) ∷ (24, Declared 7 None) ∷ (27, Declared 5 None) ∷ (30, Declared 16 None) ∷ (31, Declared 14 None) ∷ (32, Declared 12 None) ∷ (33, Package) ∷ (35, Declared 14 None) ∷ (36, Declared 12 None) ∷ (37, Package) ∷ (40, Declared 16 None) ∷ [];
}

-- 64
-- A.java: class O { private class I { } class P extends O { Object f() { return new I(); } } }
abbrev pub a_private_inner_class : Worked
a_private_inner_class = record {
  rows =
      r 0 30 0 is.Program [] ∷ r 0 9 0 is.Unit [] ∷ r 1 5 1 is.Package [] ∷ r 2 5 2 (is.Name kind.Package place.Other true) (codes "lang") ∷
      r 3 5 3 (is.Name kind.Package place.Qualifier false) (codes "java") ∷
      r 1 9 2 (is.Class (modifiers_of (modifier.Public ∷ [])) false) (codes "Object") ∷ r 5 9 5 is.Body [] ∷ r 6 9 6 is.DefaultConstructor [] ∷
      r 7 9 7 is.ImplicitCall [] ∷ r 0 30 1 is.Unit [] ∷ r 9 30 9 (is.Class bare false) (codes "O") ∷ r 10 30 10 is.Body [] ∷
      r 11 14 11 is.DefaultConstructor [] ∷ r 12 14 12 is.ImplicitCall [] ∷
      r 11 18 12 (is.Class (modifiers_of (modifier.Private ∷ [])) true) (codes "I") ∷ r 14 18 14 is.Body [] ∷ r 15 18 15 is.DefaultConstructor [] ∷
      r 16 18 16 is.ImplicitCall [] ∷ r 11 30 14 (is.Class bare true) (codes "P") ∷ r 18 20 18 (is.Name kind.Type place.Superclass false) (codes "O") ∷
      r 18 30 19 is.Body [] ∷ r 20 23 20 is.DefaultConstructor [] ∷ r 21 23 21 is.ImplicitCall [] ∷ r 20 30 21 (is.Method bare false true) (codes "f") ∷
      r 23 26 23 (is.TypeUse None 0) [] ∷ r 24 26 24 (is.Name kind.Type place.Other false) (codes "Object") ∷ r 23 30 24 is.Block [] ∷
      r 26 30 26 is.Return [] ∷ r 27 30 27 is.New [] ∷ r 28 30 28 (is.Name kind.Type place.Other false) (codes "I") ∷ [];
  targets = (13, Declared 7 None) ∷ (17, Declared 7 None) ∷ (19, Declared 10 None) ∷ (22, Declared 12 None) ∷ (25, Declared 5 None) ∷ (28, Declared 16 (Some 10)) ∷ (29, Declared 14 None) ∷ [];
}

-- 65
-- p/A.java: package p; public class A { protected /*1*/A() { } }
-- q/B.java: package q; class B extends p.A { B() { super(); } Object f() { return new p.A(); } }
abbrev pub a_protected_constructor : Worked
a_protected_constructor = record {
  rows =
      r 0 35 0 is.Program [] ∷ r 0 9 0 is.Unit [] ∷ r 1 5 1 is.Package [] ∷ r 2 5 2 (is.Name kind.Package place.Other true) (codes "lang") ∷
      r 3 5 3 (is.Name kind.Package place.Qualifier false) (codes "java") ∷
      r 1 9 2 (is.Class (modifiers_of (modifier.Public ∷ [])) false) (codes "Object") ∷ r 5 9 5 is.Body [] ∷ r 6 9 6 is.DefaultConstructor [] ∷
      r 7 9 7 is.ImplicitCall [] ∷ r 0 17 1 is.Unit [] ∷ r 9 12 9 is.Package [] ∷ r 10 12 10 (is.Name kind.Package place.Other false) (codes "p") ∷
      r 9 17 10 (is.Class (modifiers_of (modifier.Public ∷ [])) false) (codes "A") ∷ r 12 17 12 is.Body [] ∷
      r 13 17 13 (is.Constructor (modifiers_of (modifier.Protected ∷ []))) (codes "A") ∷ r 14 16 14 is.ImplicitCall [] ∷ r 14 17 15 is.Block [] ∷
      r 0 35 9 is.Unit [] ∷ r 17 20 17 is.Package [] ∷ r 18 20 18 (is.Name kind.Package place.Other false) (codes "q") ∷
      r 17 35 18 (is.Class bare false) (codes "B") ∷ r 20 23 20 (is.Name kind.Type place.Superclass true) (codes "A") ∷
      r 21 23 21 (is.Name kind.PackageOrType place.Qualifier false) (codes "p") ∷ r 20 35 21 is.Body [] ∷ r 23 27 23 (is.Constructor bare) (codes "B") ∷
      r 24 27 24 is.Block [] ∷ r 25 27 25 (is.ConstructorCall which.Super) [] ∷ r 23 35 24 (is.Method bare false true) (codes "f") ∷
      r 27 30 27 (is.TypeUse None 0) [] ∷ r 28 30 28 (is.Name kind.Type place.Other false) (codes "Object") ∷ r 27 35 28 is.Block [] ∷
      r 30 35 30 is.Return [] ∷ r 31 35 31 is.New [] ∷ r 32 35 32 (is.Name kind.Type place.Other true) (codes "A") ∷
      r 33 35 33 (is.Name kind.PackageOrType place.Qualifier false) (codes "p") ∷ [];
  targets = (14, Declared 12 None) ∷ (15, Declared 7 None) ∷ (21, Declared 12 None) ∷ (22, Package) ∷ (24, Declared 20 None) ∷ (26, Declared 14 None) ∷ (29, Declared 5 None) ∷ (32, Unbound) ∷ (33, Declared 12 None) ∷ (34, Package) ∷ [];
}
