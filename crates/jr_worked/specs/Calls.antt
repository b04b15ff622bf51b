-- Worked programs. Calls of methods (JLS 15.12, 8.4.8).
use Rattle.std.specs.Prelude.{true, false, [], ◌∷◌, Some, None, codes, pos}
use Rattle.jr_base.specs.declared.kind.Kind.TheVariants as token
use Rattle.jr_base.specs.declared.kind.Keyword.TheVariants as word
use Rattle.jr_base.specs.declared.kind.Symbol.TheVariants as y
use Rattle.jr_tree.specs.declared.tree.Modifier.TheVariants as modifier
use Rattle.jr_tree.specs.declared.tree.Primitive.TheVariants as primitive
use Rattle.jr_tree.specs.declared.label.Label.TheVariants as is
use Rattle.jr_tree.specs.declared.label.NameKind.TheVariants as kind
use Rattle.jr_tree.specs.declared.label.NamePlace.TheVariants as place
use Rattle.jr_tree.specs.declared.label.ReceiverKind.TheVariants as on
use Rattle.jr_tree.specs.Decls.{modifiers_of}
use Rattle.jr_defs.specs.declared.referent.Referent.TheVariants.{Unbound, Ambiguous, Package, Declared}
use Rattle.jr_worked.specs.Tables.{Worked, r, bare}

-- 38
-- A.java: class A { void m(Object o) { } void /*1*/m(String s) { } void f() { m("a"); m(null); } }
abbrev pub the_most_specific_method : Worked
the_most_specific_method = record {
  rows =
      r 0 36 0 is.Program [] ∷ r 0 13 0 is.Unit [] ∷ r 1 5 1 is.Package [] ∷ r 2 5 2 (is.Name kind.Package place.Other true) (codes "lang") ∷
      r 3 5 3 (is.Name kind.Package place.Qualifier false) (codes "java") ∷
      r 1 9 2 (is.Class (modifiers_of (modifier.Public ∷ [])) false) (codes "Object") ∷ r 5 9 5 is.Body [] ∷ r 6 9 6 is.DefaultConstructor [] ∷
      r 7 9 7 is.ImplicitCall [] ∷ r 1 13 5 (is.Class (modifiers_of (modifier.Public ∷ modifier.Final ∷ [])) false) (codes "String") ∷
      r 9 13 9 is.Body [] ∷ r 10 13 10 is.DefaultConstructor [] ∷ r 11 13 11 is.ImplicitCall [] ∷ r 0 36 1 is.Unit [] ∷
      r 13 36 13 (is.Class bare false) (codes "A") ∷ r 14 36 14 is.Body [] ∷ r 15 18 15 is.DefaultConstructor [] ∷ r 16 18 16 is.ImplicitCall [] ∷
      r 15 23 16 (is.Method bare true true) (codes "m") ∷ r 18 22 18 (is.Parameter false 0) (codes "o") ∷ r 19 22 19 (is.TypeUse None 0) [] ∷
      r 20 22 20 (is.Name kind.Type place.Other false) (codes "Object") ∷ r 18 23 19 is.Block [] ∷ r 15 28 18 (is.Method bare true true) (codes "m") ∷
      r 23 27 23 (is.Parameter false 0) (codes "s") ∷ r 24 27 24 (is.TypeUse None 0) [] ∷
      r 25 27 25 (is.Name kind.Type place.Other false) (codes "String") ∷ r 23 28 24 is.Block [] ∷ r 15 36 23 (is.Method bare true true) (codes "f") ∷
      r 28 36 28 is.Block [] ∷ r 29 33 29 is.Eval [] ∷ r 30 33 30 (is.Call on.Absent) (codes "m") ∷ r 31 33 31 (is.Literal (token.Str (codes "a"))) [] ∷
      r 29 36 30 is.Eval [] ∷ r 33 36 33 (is.Call on.Absent) (codes "m") ∷ r 34 36 34 (is.Literal (token.Word word.Null)) [] ∷ [];
  targets = (12, Declared 7 None) ∷ (17, Declared 7 None) ∷ (21, Declared 5 None) ∷ (26, Declared 9 None) ∷ (31, Declared 23 (Some 14)) ∷ (34, Declared 23 (Some 14)) ∷ [];
}

-- 39
-- A.java: class A { void m(Object o, String s) { } void m(String s, Object o) { } void f() { m("a", "b"); } }
abbrev pub no_most_specific_method : Worked
no_most_specific_method = record {
  rows =
      r 0 40 0 is.Program [] ∷ r 0 13 0 is.Unit [] ∷ r 1 5 1 is.Package [] ∷ r 2 5 2 (is.Name kind.Package place.Other true) (codes "lang") ∷
      r 3 5 3 (is.Name kind.Package place.Qualifier false) (codes "java") ∷
      r 1 9 2 (is.Class (modifiers_of (modifier.Public ∷ [])) false) (codes "Object") ∷ r 5 9 5 is.Body [] ∷ r 6 9 6 is.DefaultConstructor [] ∷
      r 7 9 7 is.ImplicitCall [] ∷ r 1 13 5 (is.Class (modifiers_of (modifier.Public ∷ modifier.Final ∷ [])) false) (codes "String") ∷
      r 9 13 9 is.Body [] ∷ r 10 13 10 is.DefaultConstructor [] ∷ r 11 13 11 is.ImplicitCall [] ∷ r 0 40 1 is.Unit [] ∷
      r 13 40 13 (is.Class bare false) (codes "A") ∷ r 14 40 14 is.Body [] ∷ r 15 18 15 is.DefaultConstructor [] ∷ r 16 18 16 is.ImplicitCall [] ∷
      r 15 26 16 (is.Method bare true true) (codes "m") ∷ r 18 22 18 (is.Parameter false 0) (codes "o") ∷ r 19 22 19 (is.TypeUse None 0) [] ∷
      r 20 22 20 (is.Name kind.Type place.Other false) (codes "Object") ∷ r 18 25 19 (is.Parameter false 0) (codes "s") ∷
      r 22 25 22 (is.TypeUse None 0) [] ∷ r 23 25 23 (is.Name kind.Type place.Other false) (codes "String") ∷ r 18 26 22 is.Block [] ∷
      r 15 34 18 (is.Method bare true true) (codes "m") ∷ r 26 30 26 (is.Parameter false 0) (codes "s") ∷ r 27 30 27 (is.TypeUse None 0) [] ∷
      r 28 30 28 (is.Name kind.Type place.Other false) (codes "String") ∷ r 26 33 27 (is.Parameter false 0) (codes "o") ∷
      r 30 33 30 (is.TypeUse None 0) [] ∷ r 31 33 31 (is.Name kind.Type place.Other false) (codes "Object") ∷ r 26 34 30 is.Block [] ∷
      r 15 40 26 (is.Method bare true true) (codes "f") ∷ r 34 40 34 is.Block [] ∷ r 35 40 35 is.Eval [] ∷ r 36 40 36 (is.Call on.Absent) (codes "m") ∷
      r 37 39 37 (is.Literal (token.Str (codes "a"))) [] ∷ r 37 40 38 (is.Literal (token.Str (codes "b"))) [] ∷ [];
  targets = (12, Declared 7 None) ∷ (17, Declared 7 None) ∷ (21, Declared 5 None) ∷ (24, Declared 9 None) ∷ (29, Declared 9 None) ∷ (32, Declared 5 None) ∷ (37, Ambiguous) ∷ [];
}

-- 40
-- A.java: class A { void /*1*/m(int i) { } void m(long l) { } void f(char c, byte b) { m(c); m(b); } }
abbrev pub arguments_are_widened : Worked
arguments_are_widened = record {
  rows =
      r 0 34 0 is.Program [] ∷ r 0 9 0 is.Unit [] ∷ r 1 5 1 is.Package [] ∷ r 2 5 2 (is.Name kind.Package place.Other true) (codes "lang") ∷
      r 3 5 3 (is.Name kind.Package place.Qualifier false) (codes "java") ∷
      r 1 9 2 (is.Class (modifiers_of (modifier.Public ∷ [])) false) (codes "Object") ∷ r 5 9 5 is.Body [] ∷ r 6 9 6 is.DefaultConstructor [] ∷
      r 7 9 7 is.ImplicitCall [] ∷ r 0 34 1 is.Unit [] ∷ r 9 34 9 (is.Class bare false) (codes "A") ∷ r 10 34 10 is.Body [] ∷
      r 11 14 11 is.DefaultConstructor [] ∷ r 12 14 12 is.ImplicitCall [] ∷ r 11 18 12 (is.Method bare true true) (codes "m") ∷
      r 14 17 14 (is.Parameter false 0) (codes "i") ∷ r 15 17 15 (is.TypeUse (Some primitive.Int) 0) [] ∷ r 14 18 15 is.Block [] ∷
      r 11 22 14 (is.Method bare true true) (codes "m") ∷ r 18 21 18 (is.Parameter false 0) (codes "l") ∷
      r 19 21 19 (is.TypeUse (Some primitive.Long) 0) [] ∷ r 18 22 19 is.Block [] ∷ r 11 34 18 (is.Method bare true true) (codes "f") ∷
      r 22 25 22 (is.Parameter false 0) (codes "c") ∷ r 23 25 23 (is.TypeUse (Some primitive.Char) 0) [] ∷ r 22 27 23 (is.Parameter false 0) (codes "b") ∷
      r 25 27 25 (is.TypeUse (Some primitive.Byte) 0) [] ∷ r 22 34 25 is.Block [] ∷ r 27 31 27 is.Eval [] ∷ r 28 31 28 (is.Call on.Absent) (codes "m") ∷
      r 29 31 29 (is.Name kind.Variable place.Expression false) (codes "c") ∷ r 27 34 28 is.Eval [] ∷ r 31 34 31 (is.Call on.Absent) (codes "m") ∷
      r 32 34 32 (is.Name kind.Variable place.Expression false) (codes "b") ∷ [];
  targets = (13, Declared 7 None) ∷ (29, Declared 14 (Some 10)) ∷ (30, Declared 23 None) ∷ (32, Declared 14 (Some 10)) ∷ (33, Declared 25 None) ∷ [];
}

-- 41
-- A.java: class O { void m() { } class I { void m(int a) { } void t() { m(); } } }
abbrev pub the_search_stops_at_the_inner_class : Worked
the_search_stops_at_the_inner_class = record {
  rows =
      r 0 28 0 is.Program [] ∷ r 0 9 0 is.Unit [] ∷ r 1 5 1 is.Package [] ∷ r 2 5 2 (is.Name kind.Package place.Other true) (codes "lang") ∷
      r 3 5 3 (is.Name kind.Package place.Qualifier false) (codes "java") ∷
      r 1 9 2 (is.Class (modifiers_of (modifier.Public ∷ [])) false) (codes "Object") ∷ r 5 9 5 is.Body [] ∷ r 6 9 6 is.DefaultConstructor [] ∷
      r 7 9 7 is.ImplicitCall [] ∷ r 0 28 1 is.Unit [] ∷ r 9 28 9 (is.Class bare false) (codes "O") ∷ r 10 28 10 is.Body [] ∷
      r 11 14 11 is.DefaultConstructor [] ∷ r 12 14 12 is.ImplicitCall [] ∷ r 11 16 12 (is.Method bare true true) (codes "m") ∷ r 14 16 14 is.Block [] ∷
      r 11 28 14 (is.Class bare true) (codes "I") ∷ r 16 28 16 is.Body [] ∷ r 17 20 17 is.DefaultConstructor [] ∷ r 18 20 18 is.ImplicitCall [] ∷
      r 17 24 18 (is.Method bare true true) (codes "m") ∷ r 20 23 20 (is.Parameter false 0) (codes "a") ∷
      r 21 23 21 (is.TypeUse (Some primitive.Int) 0) [] ∷ r 20 24 21 is.Block [] ∷ r 17 28 20 (is.Method bare true true) (codes "t") ∷
      r 24 28 24 is.Block [] ∷ r 25 28 25 is.Eval [] ∷ r 26 28 26 (is.Call on.Absent) (codes "m") ∷ [];
  targets = (13, Declared 7 None) ∷ (19, Declared 7 None) ∷ (27, Unbound) ∷ [];
}

-- 42
-- A.java: interface I { void /*1*/m(); } interface J { void m(); } abstract class A implements I, J { void f() { m(); } }
abbrev pub the_first_of_abstract_methods : Worked
the_first_of_abstract_methods = record {
  rows =
      r 0 26 0 is.Program [] ∷ r 0 9 0 is.Unit [] ∷ r 1 5 1 is.Package [] ∷ r 2 5 2 (is.Name kind.Package place.Other true) (codes "lang") ∷
      r 3 5 3 (is.Name kind.Package place.Qualifier false) (codes "java") ∷
      r 1 9 2 (is.Class (modifiers_of (modifier.Public ∷ [])) false) (codes "Object") ∷ r 5 9 5 is.Body [] ∷ r 6 9 6 is.DefaultConstructor [] ∷
      r 7 9 7 is.ImplicitCall [] ∷ r 0 26 1 is.Unit [] ∷ r 9 13 9 (is.Interface bare false) (codes "I") ∷ r 10 13 10 is.Body [] ∷
      r 11 13 11 (is.Method bare true false) (codes "m") ∷ r 9 16 10 (is.Interface bare false) (codes "J") ∷ r 13 16 13 is.Body [] ∷
      r 14 16 14 (is.Method bare true false) (codes "m") ∷ r 9 26 13 (is.Class (modifiers_of (modifier.Abstract ∷ [])) false) (codes "A") ∷
      r 16 18 16 (is.Name kind.Type place.Superinterface false) (codes "I") ∷ r 16 19 17 (is.Name kind.Type place.Superinterface false) (codes "J") ∷
      r 16 26 18 is.Body [] ∷ r 19 22 19 is.DefaultConstructor [] ∷ r 20 22 20 is.ImplicitCall [] ∷ r 19 26 20 (is.Method bare true true) (codes "f") ∷
      r 22 26 22 is.Block [] ∷ r 23 26 23 is.Eval [] ∷ r 24 26 24 (is.Call on.Absent) (codes "m") ∷ [];
  targets = (17, Declared 10 None) ∷ (18, Declared 13 None) ∷ (21, Declared 7 None) ∷ (25, Declared 12 (Some 16)) ∷ [];
}

-- 43
-- A.java: class B { public void /*1*/m() { } } interface I { void m(); } class A extends B implements I { void f() { m(); } }
abbrev pub the_method_that_is_not_abstract : Worked
the_method_that_is_not_abstract = record {
  rows =
      r 0 29 0 is.Program [] ∷ r 0 9 0 is.Unit [] ∷ r 1 5 1 is.Package [] ∷ r 2 5 2 (is.Name kind.Package place.Other true) (codes "lang") ∷
      r 3 5 3 (is.Name kind.Package place.Qualifier false) (codes "java") ∷
      r 1 9 2 (is.Class (modifiers_of (modifier.Public ∷ [])) false) (codes "Object") ∷ r 5 9 5 is.Body [] ∷ r 6 9 6 is.DefaultConstructor [] ∷
      r 7 9 7 is.ImplicitCall [] ∷ r 0 29 1 is.Unit [] ∷ r 9 16 9 (is.Class bare false) (codes "B") ∷ r 10 16 10 is.Body [] ∷
      r 11 14 11 is.DefaultConstructor [] ∷ r 12 14 12 is.ImplicitCall [] ∷
      r 11 16 12 (is.Method (modifiers_of (modifier.Public ∷ [])) true true) (codes "m") ∷ r 14 16 14 is.Block [] ∷
      r 9 19 10 (is.Interface bare false) (codes "I") ∷ r 16 19 16 is.Body [] ∷ r 17 19 17 (is.Method bare true false) (codes "m") ∷
      r 9 29 16 (is.Class bare false) (codes "A") ∷ r 19 21 19 (is.Name kind.Type place.Superclass false) (codes "B") ∷
      r 19 22 20 (is.Name kind.Type place.Superinterface false) (codes "I") ∷ r 19 29 21 is.Body [] ∷ r 22 25 22 is.DefaultConstructor [] ∷
      r 23 25 23 is.ImplicitCall [] ∷ r 22 29 23 (is.Method bare true true) (codes "f") ∷ r 25 29 25 is.Block [] ∷ r 26 29 26 is.Eval [] ∷
      r 27 29 27 (is.Call on.Absent) (codes "m") ∷ [];
  targets = (13, Declared 7 None) ∷ (20, Declared 10 None) ∷ (21, Declared 16 None) ∷ (24, Declared 12 None) ∷ (28, Declared 14 (Some 19)) ∷ [];
}

-- 44
-- A.java: interface I { } class A { int f(I i) { return i.hashCode(); } }
abbrev pub an_interface_has_the_methods_of_object : Worked
an_interface_has_the_methods_of_object = record {
  rows =
      r 0 27 0 is.Program [] ∷ r 0 11 0 is.Unit [] ∷ r 1 5 1 is.Package [] ∷ r 2 5 2 (is.Name kind.Package place.Other true) (codes "lang") ∷
      r 3 5 3 (is.Name kind.Package place.Qualifier false) (codes "java") ∷
      r 1 11 2 (is.Class (modifiers_of (modifier.Public ∷ [])) false) (codes "Object") ∷ r 5 11 5 is.Body [] ∷ r 6 9 6 is.DefaultConstructor [] ∷
      r 7 9 7 is.ImplicitCall [] ∷ r 6 11 7 (is.Method (modifiers_of (modifier.Public ∷ modifier.Native ∷ [])) false false) (codes "hashCode") ∷
      r 9 11 9 (is.TypeUse (Some primitive.Int) 0) [] ∷ r 0 27 1 is.Unit [] ∷ r 11 14 11 (is.Interface bare false) (codes "I") ∷ r 12 14 12 is.Body [] ∷
      r 11 27 12 (is.Class bare false) (codes "A") ∷ r 14 27 14 is.Body [] ∷ r 15 18 15 is.DefaultConstructor [] ∷ r 16 18 16 is.ImplicitCall [] ∷
      r 15 27 16 (is.Method bare false true) (codes "f") ∷ r 18 20 18 (is.TypeUse (Some primitive.Int) 0) [] ∷
      r 18 23 19 (is.Parameter false 0) (codes "i") ∷ r 20 23 20 (is.TypeUse None 0) [] ∷ r 21 23 21 (is.Name kind.Type place.Other false) (codes "I") ∷
      r 18 27 20 is.Block [] ∷ r 23 27 23 is.Return [] ∷ r 24 27 24 (is.Call on.Name) (codes "hashCode") ∷
      r 25 27 25 (is.Name kind.Ambiguous place.Receiver false) (codes "i") ∷ [];
  targets = (17, Declared 7 None) ∷ (22, Declared 12 None) ∷ (25, Declared 9 None) ∷ (26, Declared 20 None) ∷ [];
}

-- 59
-- p/A.java: package p; class /*1*/C { static int /*2*/m() { return 1; } } class D { int f() { return C.m() + p.C.m(); } }
abbrev pub calls_on_named_types : Worked
calls_on_named_types = record {
  rows =
      r 0 35 0 is.Program [] ∷ r 0 9 0 is.Unit [] ∷ r 1 5 1 is.Package [] ∷ r 2 5 2 (is.Name kind.Package place.Other true) (codes "lang") ∷
      r 3 5 3 (is.Name kind.Package place.Qualifier false) (codes "java") ∷
      r 1 9 2 (is.Class (modifiers_of (modifier.Public ∷ [])) false) (codes "Object") ∷ r 5 9 5 is.Body [] ∷ r 6 9 6 is.DefaultConstructor [] ∷
      r 7 9 7 is.ImplicitCall [] ∷ r 0 35 1 is.Unit [] ∷ r 9 12 9 is.Package [] ∷ r 10 12 10 (is.Name kind.Package place.Other false) (codes "p") ∷
      r 9 21 10 (is.Class bare false) (codes "C") ∷ r 12 21 12 is.Body [] ∷ r 13 16 13 is.DefaultConstructor [] ∷ r 14 16 14 is.ImplicitCall [] ∷
      r 13 21 14 (is.Method (modifiers_of (modifier.Static ∷ [])) false true) (codes "m") ∷ r 16 18 16 (is.TypeUse (Some primitive.Int) 0) [] ∷
      r 16 21 17 is.Block [] ∷ r 18 21 18 is.Return [] ∷ r 19 21 19 (is.Literal (token.Int (pos 1))) [] ∷ r 9 35 12 (is.Class bare false) (codes "D") ∷
      r 21 35 21 is.Body [] ∷ r 22 25 22 is.DefaultConstructor [] ∷ r 23 25 23 is.ImplicitCall [] ∷ r 22 35 23 (is.Method bare false true) (codes "f") ∷
      r 25 27 25 (is.TypeUse (Some primitive.Int) 0) [] ∷ r 25 35 26 is.Block [] ∷ r 27 35 27 is.Return [] ∷ r 28 35 28 (is.Binary y.Plus) [] ∷
      r 29 32 29 (is.Call on.Name) (codes "m") ∷ r 30 32 30 (is.Name kind.Ambiguous place.Receiver false) (codes "C") ∷
      r 29 35 30 (is.Call on.Name) (codes "m") ∷ r 32 35 32 (is.Name kind.Ambiguous place.Receiver true) (codes "C") ∷
      r 33 35 33 (is.Name kind.Ambiguous place.Qualifier false) (codes "p") ∷ [];
  targets = (15, Declared 7 None) ∷ (24, Declared 7 None) ∷ (30, Declared 16 None) ∷ (31, Declared 12 None) ∷ (32, Declared 16 None) ∷ (33, Declared 12 None) ∷ (34, Package) ∷ [];
}

-- 63
-- A.java: interface J { String /*1*/toString(); } interface K extends J { } class A { String f(K k) { return k.toString(); } }
abbrev pub an_interface_declares_a_method_of_object : Worked
an_interface_declares_a_method_of_object = record {
  rows =
      r 0 39 0 is.Program [] ∷ r 0 16 0 is.Unit [] ∷ r 1 5 1 is.Package [] ∷ r 2 5 2 (is.Name kind.Package place.Other true) (codes "lang") ∷
      r 3 5 3 (is.Name kind.Package place.Qualifier false) (codes "java") ∷
      r 1 12 2 (is.Class (modifiers_of (modifier.Public ∷ [])) false) (codes "Object") ∷ r 5 12 5 is.Body [] ∷ r 6 9 6 is.DefaultConstructor [] ∷
      r 7 9 7 is.ImplicitCall [] ∷ r 6 12 7 (is.Method (modifiers_of (modifier.Public ∷ modifier.Native ∷ [])) false false) (codes "toString") ∷
      r 9 12 9 (is.TypeUse None 0) [] ∷ r 10 12 10 (is.Name kind.Type place.Other false) (codes "String") ∷
      r 1 16 5 (is.Class (modifiers_of (modifier.Public ∷ modifier.Final ∷ [])) false) (codes "String") ∷ r 12 16 12 is.Body [] ∷
      r 13 16 13 is.DefaultConstructor [] ∷ r 14 16 14 is.ImplicitCall [] ∷ r 0 39 1 is.Unit [] ∷ r 16 22 16 (is.Interface bare false) (codes "J") ∷
      r 17 22 17 is.Body [] ∷ r 18 22 18 (is.Method bare false false) (codes "toString") ∷ r 19 22 19 (is.TypeUse None 0) [] ∷
      r 20 22 20 (is.Name kind.Type place.Other false) (codes "String") ∷ r 16 25 17 (is.Interface bare false) (codes "K") ∷
      r 22 24 22 (is.Name kind.Type place.Superinterface false) (codes "J") ∷ r 22 25 23 is.Body [] ∷ r 16 39 22 (is.Class bare false) (codes "A") ∷
      r 25 39 25 is.Body [] ∷ r 26 29 26 is.DefaultConstructor [] ∷ r 27 29 27 is.ImplicitCall [] ∷ r 26 39 27 (is.Method bare false true) (codes "f") ∷
      r 29 32 29 (is.TypeUse None 0) [] ∷ r 30 32 30 (is.Name kind.Type place.Other false) (codes "String") ∷
      r 29 35 30 (is.Parameter false 0) (codes "k") ∷ r 32 35 32 (is.TypeUse None 0) [] ∷ r 33 35 33 (is.Name kind.Type place.Other false) (codes "K") ∷
      r 29 39 32 is.Block [] ∷ r 35 39 35 is.Return [] ∷ r 36 39 36 (is.Call on.Name) (codes "toString") ∷
      r 37 39 37 (is.Name kind.Ambiguous place.Receiver false) (codes "k") ∷ [];
  targets = (11, Declared 12 None) ∷ (15, Declared 7 None) ∷ (21, Declared 12 None) ∷ (23, Declared 17 None) ∷ (28, Declared 7 None) ∷ (31, Declared 12 None) ∷ (34, Declared 22 None) ∷ (37, Declared 19 None) ∷ (38, Declared 32 None) ∷ [];
}

-- 66
-- A.java: abstract class A { abstract void m(); abstract void m(); void f() { m(); } }
abbrev pub two_abstract_methods_of_one_type : Worked
two_abstract_methods_of_one_type = record {
  rows =
      r 0 20 0 is.Program [] ∷ r 0 9 0 is.Unit [] ∷ r 1 5 1 is.Package [] ∷ r 2 5 2 (is.Name kind.Package place.Other true) (codes "lang") ∷
      r 3 5 3 (is.Name kind.Package place.Qualifier false) (codes "java") ∷
      r 1 9 2 (is.Class (modifiers_of (modifier.Public ∷ [])) false) (codes "Object") ∷ r 5 9 5 is.Body [] ∷ r 6 9 6 is.DefaultConstructor [] ∷
      r 7 9 7 is.ImplicitCall [] ∷ r 0 20 1 is.Unit [] ∷ r 9 20 9 (is.Class (modifiers_of (modifier.Abstract ∷ [])) false) (codes "A") ∷
      r 10 20 10 is.Body [] ∷ r 11 14 11 is.DefaultConstructor [] ∷ r 12 14 12 is.ImplicitCall [] ∷
      r 11 15 12 (is.Method (modifiers_of (modifier.Abstract ∷ [])) true false) (codes "m") ∷
      r 11 16 14 (is.Method (modifiers_of (modifier.Abstract ∷ [])) true false) (codes "m") ∷ r 11 20 15 (is.Method bare true true) (codes "f") ∷
      r 16 20 16 is.Block [] ∷ r 17 20 17 is.Eval [] ∷ r 18 20 18 (is.Call on.Absent) (codes "m") ∷ [];
  targets = (13, Declared 7 None) ∷ (19, Ambiguous) ∷ [];
}
