-- Worked programs. Fields: nested types, inheritance, receivers, obscured names (JLS 6.3.1, 6.4.2, 8.3, 15.11).
use Rattle.std.specs.Prelude.{true, false, [], ◌∷◌, Some, None, codes, pos}
use Rattle.jr_base.specs.declared.kind.Kind.TheVariants as token
use Rattle.jr_base.specs.declared.kind.Symbol.TheVariants as y
use Rattle.jr_tree.specs.declared.tree.Modifier.TheVariants as modifier
use Rattle.jr_tree.specs.declared.tree.Primitive.TheVariants as primitive
use Rattle.jr_tree.specs.declared.label.Label.TheVariants as is
use Rattle.jr_tree.specs.declared.label.NameKind.TheVariants as kind
use Rattle.jr_tree.specs.declared.label.NamePlace.TheVariants as place
use Rattle.jr_tree.specs.Decls.{modifiers_of}
use Rattle.jr_defs.specs.declared.referent.Referent.TheVariants.{Unbound, Ambiguous, ArrayLength, Declared}
use Rattle.jr_worked.specs.Tables.{Worked, r, bare}

-- 11
-- A.java: class A { int /*1*/x; class B { int /*2*/x; int f() { return x; } } }
abbrev pub a_field_of_the_inner_class : Worked
a_field_of_the_inner_class = record {
  rows =
      r 0 29 0 is.Program [] ∷ r 0 9 0 is.Unit [] ∷ r 1 5 1 is.Package [] ∷ r 2 5 2 (is.Name kind.Package place.Other true) (codes "lang") ∷
      r 3 5 3 (is.Name kind.Package place.Qualifier false) (codes "java") ∷
      r 1 9 2 (is.Class (modifiers_of (modifier.Public ∷ [])) false) (codes "Object") ∷ r 5 9 5 is.Body [] ∷ r 6 9 6 is.DefaultConstructor [] ∷
      r 7 9 7 is.ImplicitCall [] ∷ r 0 29 1 is.Unit [] ∷ r 9 29 9 (is.Class bare false) (codes "A") ∷ r 10 29 10 is.Body [] ∷
      r 11 14 11 is.DefaultConstructor [] ∷ r 12 14 12 is.ImplicitCall [] ∷ r 11 17 12 (is.Fields bare) [] ∷
      r 14 16 14 (is.TypeUse (Some primitive.Int) 0) [] ∷ r 14 17 15 (is.Field bare 0) (codes "x") ∷ r 11 29 14 (is.Class bare true) (codes "B") ∷
      r 17 29 17 is.Body [] ∷ r 18 21 18 is.DefaultConstructor [] ∷ r 19 21 19 is.ImplicitCall [] ∷ r 18 24 19 (is.Fields bare) [] ∷
      r 21 23 21 (is.TypeUse (Some primitive.Int) 0) [] ∷ r 21 24 22 (is.Field bare 0) (codes "x") ∷ r 18 29 21 (is.Method bare false true) (codes "f") ∷
      r 24 26 24 (is.TypeUse (Some primitive.Int) 0) [] ∷ r 24 29 25 is.Block [] ∷ r 26 29 26 is.Return [] ∷
      r 27 29 27 (is.Name kind.Variable place.Expression false) (codes "x") ∷ [];
  targets = (13, Declared 7 None) ∷ (20, Declared 7 None) ∷ (28, Declared 23 (Some 17)) ∷ [];
}

-- 12
-- A.java: class A { int /*1*/x; class B { int f() { return x; } } }
abbrev pub a_field_of_the_outer_class : Worked
a_field_of_the_outer_class = record {
  rows =
      r 0 26 0 is.Program [] ∷ r 0 9 0 is.Unit [] ∷ r 1 5 1 is.Package [] ∷ r 2 5 2 (is.Name kind.Package place.Other true) (codes "lang") ∷
      r 3 5 3 (is.Name kind.Package place.Qualifier false) (codes "java") ∷
      r 1 9 2 (is.Class (modifiers_of (modifier.Public ∷ [])) false) (codes "Object") ∷ r 5 9 5 is.Body [] ∷ r 6 9 6 is.DefaultConstructor [] ∷
      r 7 9 7 is.ImplicitCall [] ∷ r 0 26 1 is.Unit [] ∷ r 9 26 9 (is.Class bare false) (codes "A") ∷ r 10 26 10 is.Body [] ∷
      r 11 14 11 is.DefaultConstructor [] ∷ r 12 14 12 is.ImplicitCall [] ∷ r 11 17 12 (is.Fields bare) [] ∷
      r 14 16 14 (is.TypeUse (Some primitive.Int) 0) [] ∷ r 14 17 15 (is.Field bare 0) (codes "x") ∷ r 11 26 14 (is.Class bare true) (codes "B") ∷
      r 17 26 17 is.Body [] ∷ r 18 21 18 is.DefaultConstructor [] ∷ r 19 21 19 is.ImplicitCall [] ∷ r 18 26 19 (is.Method bare false true) (codes "f") ∷
      r 21 23 21 (is.TypeUse (Some primitive.Int) 0) [] ∷ r 21 26 22 is.Block [] ∷ r 23 26 23 is.Return [] ∷
      r 24 26 24 (is.Name kind.Variable place.Expression false) (codes "x") ∷ [];
  targets = (13, Declared 7 None) ∷ (20, Declared 7 None) ∷ (25, Declared 16 (Some 10)) ∷ [];
}

-- 13
-- A.java: class A { int /*1*/x; } class B extends A { } class C { int x; class D extends B { int f() { return x; } } }
abbrev pub an_inherited_field_shadows_an_enclosing_one : Worked
an_inherited_field_shadows_an_enclosing_one = record {
  rows =
      r 0 39 0 is.Program [] ∷ r 0 9 0 is.Unit [] ∷ r 1 5 1 is.Package [] ∷ r 2 5 2 (is.Name kind.Package place.Other true) (codes "lang") ∷
      r 3 5 3 (is.Name kind.Package place.Qualifier false) (codes "java") ∷
      r 1 9 2 (is.Class (modifiers_of (modifier.Public ∷ [])) false) (codes "Object") ∷ r 5 9 5 is.Body [] ∷ r 6 9 6 is.DefaultConstructor [] ∷
      r 7 9 7 is.ImplicitCall [] ∷ r 0 39 1 is.Unit [] ∷ r 9 17 9 (is.Class bare false) (codes "A") ∷ r 10 17 10 is.Body [] ∷
      r 11 14 11 is.DefaultConstructor [] ∷ r 12 14 12 is.ImplicitCall [] ∷ r 11 17 12 (is.Fields bare) [] ∷
      r 14 16 14 (is.TypeUse (Some primitive.Int) 0) [] ∷ r 14 17 15 (is.Field bare 0) (codes "x") ∷ r 9 22 10 (is.Class bare false) (codes "B") ∷
      r 17 19 17 (is.Name kind.Type place.Superclass false) (codes "A") ∷ r 17 22 18 is.Body [] ∷ r 19 22 19 is.DefaultConstructor [] ∷
      r 20 22 20 is.ImplicitCall [] ∷ r 9 39 17 (is.Class bare false) (codes "C") ∷ r 22 39 22 is.Body [] ∷ r 23 26 23 is.DefaultConstructor [] ∷
      r 24 26 24 is.ImplicitCall [] ∷ r 23 29 24 (is.Fields bare) [] ∷ r 26 28 26 (is.TypeUse (Some primitive.Int) 0) [] ∷
      r 26 29 27 (is.Field bare 0) (codes "x") ∷ r 23 39 26 (is.Class bare true) (codes "D") ∷
      r 29 31 29 (is.Name kind.Type place.Superclass false) (codes "B") ∷ r 29 39 30 is.Body [] ∷ r 31 34 31 is.DefaultConstructor [] ∷
      r 32 34 32 is.ImplicitCall [] ∷ r 31 39 32 (is.Method bare false true) (codes "f") ∷ r 34 36 34 (is.TypeUse (Some primitive.Int) 0) [] ∷
      r 34 39 35 is.Block [] ∷ r 36 39 36 is.Return [] ∷ r 37 39 37 (is.Name kind.Variable place.Expression false) (codes "x") ∷ [];
  targets = (13, Declared 7 None) ∷ (18, Declared 10 None) ∷ (21, Declared 12 None) ∷ (25, Declared 7 None) ∷ (30, Declared 17 None) ∷ (33, Declared 20 None) ∷ (38, Declared 16 (Some 29)) ∷ [];
}

-- 14
-- A.java: class A { private int x; } class B extends A { int f() { return x; } }
abbrev pub a_private_field_is_not_inherited : Worked
a_private_field_is_not_inherited = record {
  rows =
      r 0 27 0 is.Program [] ∷ r 0 9 0 is.Unit [] ∷ r 1 5 1 is.Package [] ∷ r 2 5 2 (is.Name kind.Package place.Other true) (codes "lang") ∷
      r 3 5 3 (is.Name kind.Package place.Qualifier false) (codes "java") ∷
      r 1 9 2 (is.Class (modifiers_of (modifier.Public ∷ [])) false) (codes "Object") ∷ r 5 9 5 is.Body [] ∷ r 6 9 6 is.DefaultConstructor [] ∷
      r 7 9 7 is.ImplicitCall [] ∷ r 0 27 1 is.Unit [] ∷ r 9 17 9 (is.Class bare false) (codes "A") ∷ r 10 17 10 is.Body [] ∷
      r 11 14 11 is.DefaultConstructor [] ∷ r 12 14 12 is.ImplicitCall [] ∷ r 11 17 12 (is.Fields (modifiers_of (modifier.Private ∷ []))) [] ∷
      r 14 16 14 (is.TypeUse (Some primitive.Int) 0) [] ∷ r 14 17 15 (is.Field (modifiers_of (modifier.Private ∷ [])) 0) (codes "x") ∷
      r 9 27 10 (is.Class bare false) (codes "B") ∷ r 17 19 17 (is.Name kind.Type place.Superclass false) (codes "A") ∷ r 17 27 18 is.Body [] ∷
      r 19 22 19 is.DefaultConstructor [] ∷ r 20 22 20 is.ImplicitCall [] ∷ r 19 27 20 (is.Method bare false true) (codes "f") ∷
      r 22 24 22 (is.TypeUse (Some primitive.Int) 0) [] ∷ r 22 27 23 is.Block [] ∷ r 24 27 24 is.Return [] ∷
      r 25 27 25 (is.Name kind.Variable place.Expression false) (codes "x") ∷ [];
  targets = (13, Declared 7 None) ∷ (18, Declared 10 None) ∷ (21, Declared 12 None) ∷ (26, Unbound) ∷ [];
}

-- 15
-- A.java: class A { private int /*1*/x; class B { int f(A a) { return a.x; } } }
abbrev pub private_reaches_the_top_level_type : Worked
private_reaches_the_top_level_type = record {
  rows =
      r 0 30 0 is.Program [] ∷ r 0 9 0 is.Unit [] ∷ r 1 5 1 is.Package [] ∷ r 2 5 2 (is.Name kind.Package place.Other true) (codes "lang") ∷
      r 3 5 3 (is.Name kind.Package place.Qualifier false) (codes "java") ∷
      r 1 9 2 (is.Class (modifiers_of (modifier.Public ∷ [])) false) (codes "Object") ∷ r 5 9 5 is.Body [] ∷ r 6 9 6 is.DefaultConstructor [] ∷
      r 7 9 7 is.ImplicitCall [] ∷ r 0 30 1 is.Unit [] ∷ r 9 30 9 (is.Class bare false) (codes "A") ∷ r 10 30 10 is.Body [] ∷
      r 11 14 11 is.DefaultConstructor [] ∷ r 12 14 12 is.ImplicitCall [] ∷ r 11 17 12 (is.Fields (modifiers_of (modifier.Private ∷ []))) [] ∷
      r 14 16 14 (is.TypeUse (Some primitive.Int) 0) [] ∷ r 14 17 15 (is.Field (modifiers_of (modifier.Private ∷ [])) 0) (codes "x") ∷
      r 11 30 14 (is.Class bare true) (codes "B") ∷ r 17 30 17 is.Body [] ∷ r 18 21 18 is.DefaultConstructor [] ∷ r 19 21 19 is.ImplicitCall [] ∷
      r 18 30 19 (is.Method bare false true) (codes "f") ∷ r 21 23 21 (is.TypeUse (Some primitive.Int) 0) [] ∷
      r 21 26 22 (is.Parameter false 0) (codes "a") ∷ r 23 26 23 (is.TypeUse None 0) [] ∷ r 24 26 24 (is.Name kind.Type place.Other false) (codes "A") ∷
      r 21 30 23 is.Block [] ∷ r 26 30 26 is.Return [] ∷ r 27 30 27 (is.Name kind.Variable place.Expression true) (codes "x") ∷
      r 28 30 28 (is.Name kind.Ambiguous place.Qualifier false) (codes "a") ∷ [];
  targets = (13, Declared 7 None) ∷ (20, Declared 7 None) ∷ (25, Declared 10 None) ∷ (28, Declared 16 None) ∷ (29, Declared 23 None) ∷ [];
}

-- 16
-- A.java: interface I { int x = 1; } interface J { int x = 2; } class A implements I, J { int f() { return x; } }
abbrev pub two_inherited_fields : Worked
two_inherited_fields = record {
  rows =
      r 0 35 0 is.Program [] ∷ r 0 9 0 is.Unit [] ∷ r 1 5 1 is.Package [] ∷ r 2 5 2 (is.Name kind.Package place.Other true) (codes "lang") ∷
      r 3 5 3 (is.Name kind.Package place.Qualifier false) (codes "java") ∷
      r 1 9 2 (is.Class (modifiers_of (modifier.Public ∷ [])) false) (codes "Object") ∷ r 5 9 5 is.Body [] ∷ r 6 9 6 is.DefaultConstructor [] ∷
      r 7 9 7 is.ImplicitCall [] ∷ r 0 35 1 is.Unit [] ∷ r 9 17 9 (is.Interface bare false) (codes "I") ∷ r 10 17 10 is.Body [] ∷
      r 11 17 11 (is.Fields bare) [] ∷ r 12 14 12 (is.TypeUse (Some primitive.Int) 0) [] ∷ r 12 17 13 (is.Field bare 0) (codes "x") ∷
      r 14 17 14 is.Value [] ∷ r 15 17 15 (is.Literal (token.Int (pos 1))) [] ∷ r 9 24 10 (is.Interface bare false) (codes "J") ∷ r 17 24 17 is.Body [] ∷
      r 18 24 18 (is.Fields bare) [] ∷ r 19 21 19 (is.TypeUse (Some primitive.Int) 0) [] ∷ r 19 24 20 (is.Field bare 0) (codes "x") ∷
      r 21 24 21 is.Value [] ∷ r 22 24 22 (is.Literal (token.Int (pos 2))) [] ∷ r 9 35 17 (is.Class bare false) (codes "A") ∷
      r 24 26 24 (is.Name kind.Type place.Superinterface false) (codes "I") ∷ r 24 27 25 (is.Name kind.Type place.Superinterface false) (codes "J") ∷
      r 24 35 26 is.Body [] ∷ r 27 30 27 is.DefaultConstructor [] ∷ r 28 30 28 is.ImplicitCall [] ∷ r 27 35 28 (is.Method bare false true) (codes "f") ∷
      r 30 32 30 (is.TypeUse (Some primitive.Int) 0) [] ∷ r 30 35 31 is.Block [] ∷ r 32 35 32 is.Return [] ∷
      r 33 35 33 (is.Name kind.Variable place.Expression false) (codes "x") ∷ [];
  targets = (25, Declared 10 None) ∷ (26, Declared 17 None) ∷ (29, Declared 7 None) ∷ (34, Ambiguous) ∷ [];
}

-- 17
-- A.java: interface I { int /*1*/x = 1; } interface J extends I { } interface K extends I { } class A implements J, K { int f() { return x; } }
abbrev pub one_field_by_two_ways : Worked
one_field_by_two_ways = record {
  rows =
      r 0 34 0 is.Program [] ∷ r 0 9 0 is.Unit [] ∷ r 1 5 1 is.Package [] ∷ r 2 5 2 (is.Name kind.Package place.Other true) (codes "lang") ∷
      r 3 5 3 (is.Name kind.Package place.Qualifier false) (codes "java") ∷
      r 1 9 2 (is.Class (modifiers_of (modifier.Public ∷ [])) false) (codes "Object") ∷ r 5 9 5 is.Body [] ∷ r 6 9 6 is.DefaultConstructor [] ∷
      r 7 9 7 is.ImplicitCall [] ∷ r 0 34 1 is.Unit [] ∷ r 9 17 9 (is.Interface bare false) (codes "I") ∷ r 10 17 10 is.Body [] ∷
      r 11 17 11 (is.Fields bare) [] ∷ r 12 14 12 (is.TypeUse (Some primitive.Int) 0) [] ∷ r 12 17 13 (is.Field bare 0) (codes "x") ∷
      r 14 17 14 is.Value [] ∷ r 15 17 15 (is.Literal (token.Int (pos 1))) [] ∷ r 9 20 10 (is.Interface bare false) (codes "J") ∷
      r 17 19 17 (is.Name kind.Type place.Superinterface false) (codes "I") ∷ r 17 20 18 is.Body [] ∷ r 9 23 17 (is.Interface bare false) (codes "K") ∷
      r 20 22 20 (is.Name kind.Type place.Superinterface false) (codes "I") ∷ r 20 23 21 is.Body [] ∷ r 9 34 20 (is.Class bare false) (codes "A") ∷
      r 23 25 23 (is.Name kind.Type place.Superinterface false) (codes "J") ∷ r 23 26 24 (is.Name kind.Type place.Superinterface false) (codes "K") ∷
      r 23 34 25 is.Body [] ∷ r 26 29 26 is.DefaultConstructor [] ∷ r 27 29 27 is.ImplicitCall [] ∷ r 26 34 27 (is.Method bare false true) (codes "f") ∷
      r 29 31 29 (is.TypeUse (Some primitive.Int) 0) [] ∷ r 29 34 30 is.Block [] ∷ r 31 34 31 is.Return [] ∷
      r 32 34 32 (is.Name kind.Variable place.Expression false) (codes "x") ∷ [];
  targets = (18, Declared 10 None) ∷ (21, Declared 10 None) ∷ (24, Declared 17 None) ∷ (25, Declared 20 None) ∷ (28, Declared 7 None) ∷ (33, Declared 14 (Some 23)) ∷ [];
}

-- 18
-- A.java: class A { static int /*1*/x; } class B extends A { int x; int f() { return ((A)this).x; } }
abbrev pub a_field_through_a_cast : Worked
a_field_through_a_cast = record {
  rows =
      r 0 35 0 is.Program [] ∷ r 0 9 0 is.Unit [] ∷ r 1 5 1 is.Package [] ∷ r 2 5 2 (is.Name kind.Package place.Other true) (codes "lang") ∷
      r 3 5 3 (is.Name kind.Package place.Qualifier false) (codes "java") ∷
      r 1 9 2 (is.Class (modifiers_of (modifier.Public ∷ [])) false) (codes "Object") ∷ r 5 9 5 is.Body [] ∷ r 6 9 6 is.DefaultConstructor [] ∷
      r 7 9 7 is.ImplicitCall [] ∷ r 0 35 1 is.Unit [] ∷ r 9 17 9 (is.Class bare false) (codes "A") ∷ r 10 17 10 is.Body [] ∷
      r 11 14 11 is.DefaultConstructor [] ∷ r 12 14 12 is.ImplicitCall [] ∷ r 11 17 12 (is.Fields (modifiers_of (modifier.Static ∷ []))) [] ∷
      r 14 16 14 (is.TypeUse (Some primitive.Int) 0) [] ∷ r 14 17 15 (is.Field (modifiers_of (modifier.Static ∷ [])) 0) (codes "x") ∷
      r 9 35 10 (is.Class bare false) (codes "B") ∷ r 17 19 17 (is.Name kind.Type place.Superclass false) (codes "A") ∷ r 17 35 18 is.Body [] ∷
      r 19 22 19 is.DefaultConstructor [] ∷ r 20 22 20 is.ImplicitCall [] ∷ r 19 25 20 (is.Fields bare) [] ∷
      r 22 24 22 (is.TypeUse (Some primitive.Int) 0) [] ∷ r 22 25 23 (is.Field bare 0) (codes "x") ∷ r 19 35 22 (is.Method bare false true) (codes "f") ∷
      r 25 27 25 (is.TypeUse (Some primitive.Int) 0) [] ∷ r 25 35 26 is.Block [] ∷ r 27 35 27 is.Return [] ∷ r 28 35 28 is.Select (codes "x") ∷
      r 29 35 29 is.Paren [] ∷ r 30 35 30 is.Cast [] ∷ r 31 34 31 (is.TypeUse None 0) [] ∷ r 32 34 32 (is.Name kind.Type place.Other false) (codes "A") ∷
      r 31 35 32 (is.This false) [] ∷ [];
  targets = (13, Declared 7 None) ∷ (18, Declared 10 None) ∷ (21, Declared 12 None) ∷ (29, Declared 16 None) ∷ (33, Declared 10 None) ∷ [];
}

-- 19
-- A.java: class A { int /*1*/x; } class B extends A { int x; int f() { return super.x; } }
abbrev pub a_field_through_super : Worked
a_field_through_super = record {
  rows =
      r 0 30 0 is.Program [] ∷ r 0 9 0 is.Unit [] ∷ r 1 5 1 is.Package [] ∷ r 2 5 2 (is.Name kind.Package place.Other true) (codes "lang") ∷
      r 3 5 3 (is.Name kind.Package place.Qualifier false) (codes "java") ∷
      r 1 9 2 (is.Class (modifiers_of (modifier.Public ∷ [])) false) (codes "Object") ∷ r 5 9 5 is.Body [] ∷ r 6 9 6 is.DefaultConstructor [] ∷
      r 7 9 7 is.ImplicitCall [] ∷ r 0 30 1 is.Unit [] ∷ r 9 17 9 (is.Class bare false) (codes "A") ∷ r 10 17 10 is.Body [] ∷
      r 11 14 11 is.DefaultConstructor [] ∷ r 12 14 12 is.ImplicitCall [] ∷ r 11 17 12 (is.Fields bare) [] ∷
      r 14 16 14 (is.TypeUse (Some primitive.Int) 0) [] ∷ r 14 17 15 (is.Field bare 0) (codes "x") ∷ r 9 30 10 (is.Class bare false) (codes "B") ∷
      r 17 19 17 (is.Name kind.Type place.Superclass false) (codes "A") ∷ r 17 30 18 is.Body [] ∷ r 19 22 19 is.DefaultConstructor [] ∷
      r 20 22 20 is.ImplicitCall [] ∷ r 19 25 20 (is.Fields bare) [] ∷ r 22 24 22 (is.TypeUse (Some primitive.Int) 0) [] ∷
      r 22 25 23 (is.Field bare 0) (codes "x") ∷ r 19 30 22 (is.Method bare false true) (codes "f") ∷ r 25 27 25 (is.TypeUse (Some primitive.Int) 0) [] ∷
      r 25 30 26 is.Block [] ∷ r 27 30 27 is.Return [] ∷ r 28 30 28 is.SuperSelect (codes "x") ∷ [];
  targets = (13, Declared 7 None) ∷ (18, Declared 10 None) ∷ (21, Declared 12 None) ∷ (29, Declared 16 None) ∷ [];
}

-- 20
-- A.java: class A { int x; static int f() { return this.x; } }
abbrev pub no_this_in_static_code : Worked
no_this_in_static_code = record {
  rows =
      r 0 23 0 is.Program [] ∷ r 0 9 0 is.Unit [] ∷ r 1 5 1 is.Package [] ∷ r 2 5 2 (is.Name kind.Package place.Other true) (codes "lang") ∷
      r 3 5 3 (is.Name kind.Package place.Qualifier false) (codes "java") ∷
      r 1 9 2 (is.Class (modifiers_of (modifier.Public ∷ [])) false) (codes "Object") ∷ r 5 9 5 is.Body [] ∷ r 6 9 6 is.DefaultConstructor [] ∷
      r 7 9 7 is.ImplicitCall [] ∷ r 0 23 1 is.Unit [] ∷ r 9 23 9 (is.Class bare false) (codes "A") ∷ r 10 23 10 is.Body [] ∷
      r 11 14 11 is.DefaultConstructor [] ∷ r 12 14 12 is.ImplicitCall [] ∷ r 11 17 12 (is.Fields bare) [] ∷
      r 14 16 14 (is.TypeUse (Some primitive.Int) 0) [] ∷ r 14 17 15 (is.Field bare 0) (codes "x") ∷
      r 11 23 14 (is.Method (modifiers_of (modifier.Static ∷ [])) false true) (codes "f") ∷ r 17 19 17 (is.TypeUse (Some primitive.Int) 0) [] ∷
      r 17 23 18 is.Block [] ∷ r 19 23 19 is.Return [] ∷ r 20 23 20 is.Select (codes "x") ∷ r 21 23 21 (is.This false) [] ∷ [];
  targets = (13, Declared 7 None) ∷ (21, Unbound) ∷ [];
}

-- 21
-- A.java: class A { int /*1*/x; static int f() { return x; } }
abbrev pub an_instance_field_in_static_code : Worked
an_instance_field_in_static_code = record {
  rows =
      r 0 22 0 is.Program [] ∷ r 0 9 0 is.Unit [] ∷ r 1 5 1 is.Package [] ∷ r 2 5 2 (is.Name kind.Package place.Other true) (codes "lang") ∷
      r 3 5 3 (is.Name kind.Package place.Qualifier false) (codes "java") ∷
      r 1 9 2 (is.Class (modifiers_of (modifier.Public ∷ [])) false) (codes "Object") ∷ r 5 9 5 is.Body [] ∷ r 6 9 6 is.DefaultConstructor [] ∷
      r 7 9 7 is.ImplicitCall [] ∷ r 0 22 1 is.Unit [] ∷ r 9 22 9 (is.Class bare false) (codes "A") ∷ r 10 22 10 is.Body [] ∷
      r 11 14 11 is.DefaultConstructor [] ∷ r 12 14 12 is.ImplicitCall [] ∷ r 11 17 12 (is.Fields bare) [] ∷
      r 14 16 14 (is.TypeUse (Some primitive.Int) 0) [] ∷ r 14 17 15 (is.Field bare 0) (codes "x") ∷
      r 11 22 14 (is.Method (modifiers_of (modifier.Static ∷ [])) false true) (codes "f") ∷ r 17 19 17 (is.TypeUse (Some primitive.Int) 0) [] ∷
      r 17 22 18 is.Block [] ∷ r 19 22 19 is.Return [] ∷ r 20 22 20 (is.Name kind.Variable place.Expression false) (codes "x") ∷ [];
  targets = (13, Declared 7 None) ∷ (21, Declared 16 (Some 10)) ∷ [];
}

-- 22
-- A.java: class A { static class /*1*/B { static int /*2*/x; } int f() { return B.x; } }
abbrev pub a_field_of_a_named_type : Worked
a_field_of_a_named_type = record {
  rows =
      r 0 27 0 is.Program [] ∷ r 0 9 0 is.Unit [] ∷ r 1 5 1 is.Package [] ∷ r 2 5 2 (is.Name kind.Package place.Other true) (codes "lang") ∷
      r 3 5 3 (is.Name kind.Package place.Qualifier false) (codes "java") ∷
      r 1 9 2 (is.Class (modifiers_of (modifier.Public ∷ [])) false) (codes "Object") ∷ r 5 9 5 is.Body [] ∷ r 6 9 6 is.DefaultConstructor [] ∷
      r 7 9 7 is.ImplicitCall [] ∷ r 0 27 1 is.Unit [] ∷ r 9 27 9 (is.Class bare false) (codes "A") ∷ r 10 27 10 is.Body [] ∷
      r 11 14 11 is.DefaultConstructor [] ∷ r 12 14 12 is.ImplicitCall [] ∷ r 11 21 12 (is.Class (modifiers_of (modifier.Static ∷ [])) true) (codes "B") ∷
      r 14 21 14 is.Body [] ∷ r 15 18 15 is.DefaultConstructor [] ∷ r 16 18 16 is.ImplicitCall [] ∷
      r 15 21 16 (is.Fields (modifiers_of (modifier.Static ∷ []))) [] ∷ r 18 20 18 (is.TypeUse (Some primitive.Int) 0) [] ∷
      r 18 21 19 (is.Field (modifiers_of (modifier.Static ∷ [])) 0) (codes "x") ∷ r 11 27 14 (is.Method bare false true) (codes "f") ∷
      r 21 23 21 (is.TypeUse (Some primitive.Int) 0) [] ∷ r 21 27 22 is.Block [] ∷ r 23 27 23 is.Return [] ∷
      r 24 27 24 (is.Name kind.Variable place.Expression true) (codes "x") ∷ r 25 27 25 (is.Name kind.Ambiguous place.Qualifier false) (codes "B") ∷ [];
  targets = (13, Declared 7 None) ∷ (17, Declared 7 None) ∷ (25, Declared 20 None) ∷ (26, Declared 14 None) ∷ [];
}

-- 23
-- A.java: class A { static class B { static int x; } int f(A /*1*/B) { return B.x; } }
abbrev pub a_parameter_obscures_a_type : Worked
a_parameter_obscures_a_type = record {
  rows =
      r 0 30 0 is.Program [] ∷ r 0 9 0 is.Unit [] ∷ r 1 5 1 is.Package [] ∷ r 2 5 2 (is.Name kind.Package place.Other true) (codes "lang") ∷
      r 3 5 3 (is.Name kind.Package place.Qualifier false) (codes "java") ∷
      r 1 9 2 (is.Class (modifiers_of (modifier.Public ∷ [])) false) (codes "Object") ∷ r 5 9 5 is.Body [] ∷ r 6 9 6 is.DefaultConstructor [] ∷
      r 7 9 7 is.ImplicitCall [] ∷ r 0 30 1 is.Unit [] ∷ r 9 30 9 (is.Class bare false) (codes "A") ∷ r 10 30 10 is.Body [] ∷
      r 11 14 11 is.DefaultConstructor [] ∷ r 12 14 12 is.ImplicitCall [] ∷ r 11 21 12 (is.Class (modifiers_of (modifier.Static ∷ [])) true) (codes "B") ∷
      r 14 21 14 is.Body [] ∷ r 15 18 15 is.DefaultConstructor [] ∷ r 16 18 16 is.ImplicitCall [] ∷
      r 15 21 16 (is.Fields (modifiers_of (modifier.Static ∷ []))) [] ∷ r 18 20 18 (is.TypeUse (Some primitive.Int) 0) [] ∷
      r 18 21 19 (is.Field (modifiers_of (modifier.Static ∷ [])) 0) (codes "x") ∷ r 11 30 14 (is.Method bare false true) (codes "f") ∷
      r 21 23 21 (is.TypeUse (Some primitive.Int) 0) [] ∷ r 21 26 22 (is.Parameter false 0) (codes "B") ∷ r 23 26 23 (is.TypeUse None 0) [] ∷
      r 24 26 24 (is.Name kind.Type place.Other false) (codes "A") ∷ r 21 30 23 is.Block [] ∷ r 26 30 26 is.Return [] ∷
      r 27 30 27 (is.Name kind.Variable place.Expression true) (codes "x") ∷ r 28 30 28 (is.Name kind.Ambiguous place.Qualifier false) (codes "B") ∷ [];
  targets = (13, Declared 7 None) ∷ (17, Declared 7 None) ∷ (25, Declared 10 None) ∷ (28, Unbound) ∷ (29, Declared 23 None) ∷ [];
}

-- 27
-- A.java: class A { int f(int[] a) { return a.length + a.size; } }
abbrev pub the_length_of_an_array : Worked
the_length_of_an_array = record {
  rows =
      r 0 25 0 is.Program [] ∷ r 0 9 0 is.Unit [] ∷ r 1 5 1 is.Package [] ∷ r 2 5 2 (is.Name kind.Package place.Other true) (codes "lang") ∷
      r 3 5 3 (is.Name kind.Package place.Qualifier false) (codes "java") ∷
      r 1 9 2 (is.Class (modifiers_of (modifier.Public ∷ [])) false) (codes "Object") ∷ r 5 9 5 is.Body [] ∷ r 6 9 6 is.DefaultConstructor [] ∷
      r 7 9 7 is.ImplicitCall [] ∷ r 0 25 1 is.Unit [] ∷ r 9 25 9 (is.Class bare false) (codes "A") ∷ r 10 25 10 is.Body [] ∷
      r 11 14 11 is.DefaultConstructor [] ∷ r 12 14 12 is.ImplicitCall [] ∷ r 11 25 12 (is.Method bare false true) (codes "f") ∷
      r 14 16 14 (is.TypeUse (Some primitive.Int) 0) [] ∷ r 14 18 15 (is.Parameter false 0) (codes "a") ∷
      r 16 18 16 (is.TypeUse (Some primitive.Int) 1) [] ∷ r 14 25 16 is.Block [] ∷ r 18 25 18 is.Return [] ∷ r 19 25 19 (is.Binary y.Plus) [] ∷
      r 20 23 20 (is.Name kind.Variable place.Expression true) (codes "length") ∷ r 21 23 21 (is.Name kind.Ambiguous place.Qualifier false) (codes "a") ∷
      r 20 25 21 (is.Name kind.Variable place.Expression true) (codes "size") ∷ r 23 25 23 (is.Name kind.Ambiguous place.Qualifier false) (codes "a") ∷ [];
  targets = (13, Declared 7 None) ∷ (21, ArrayLength) ∷ (22, Declared 16 None) ∷ (23, Unbound) ∷ (24, Declared 16 None) ∷ [];
}

-- 55
-- A.java: class A { class B extends A { } }
abbrev pub a_member_extends_its_class : Worked
a_member_extends_its_class = record {
  rows =
      r 0 19 0 is.Program [] ∷ r 0 9 0 is.Unit [] ∷ r 1 5 1 is.Package [] ∷ r 2 5 2 (is.Name kind.Package place.Other true) (codes "lang") ∷
      r 3 5 3 (is.Name kind.Package place.Qualifier false) (codes "java") ∷
      r 1 9 2 (is.Class (modifiers_of (modifier.Public ∷ [])) false) (codes "Object") ∷ r 5 9 5 is.Body [] ∷ r 6 9 6 is.DefaultConstructor [] ∷
      r 7 9 7 is.ImplicitCall [] ∷ r 0 19 1 is.Unit [] ∷ r 9 19 9 (is.Class bare false) (codes "A") ∷ r 10 19 10 is.Body [] ∷
      r 11 14 11 is.DefaultConstructor [] ∷ r 12 14 12 is.ImplicitCall [] ∷ r 11 19 12 (is.Class bare true) (codes "B") ∷
      r 14 16 14 (is.Name kind.Type place.Superclass false) (codes "A") ∷ r 14 19 15 is.Body [] ∷ r 16 19 16 is.DefaultConstructor [] ∷
      r 17 19 17 is.ImplicitCall [] ∷ [];
  targets = (13, Declared 7 None) ∷ (15, Declared 10 None) ∷ (18, Declared 12 None) ∷ [];
}
