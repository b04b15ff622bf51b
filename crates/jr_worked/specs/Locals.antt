-- Worked programs. Locals, parameters and labels (JLS 6.3, 6.3.1, 14.4.2, 14.7, 14.14.1).
use Rattle.std.specs.Prelude.{true, false, [], ◌∷◌, Some, None, codes, pos}
use Rattle.jr_base.specs.declared.kind.Kind.TheVariants as token
use Rattle.jr_base.specs.declared.kind.Keyword.TheVariants as word
use Rattle.jr_base.specs.declared.kind.Symbol.TheVariants as y
use Rattle.jr_tree.specs.declared.tree.Modifier.TheVariants as modifier
use Rattle.jr_tree.specs.declared.tree.Primitive.TheVariants as primitive
use Rattle.jr_tree.specs.declared.label.Label.TheVariants as is
use Rattle.jr_tree.specs.declared.label.NameKind.TheVariants as kind
use Rattle.jr_tree.specs.declared.label.NamePlace.TheVariants as place
use Rattle.jr_tree.specs.declared.label.ReceiverKind.TheVariants as on
use Rattle.jr_tree.specs.Decls.{modifiers_of}
use Rattle.jr_defs.specs.declared.referent.Referent.TheVariants.{Ambiguous, Declared}
use Rattle.jr_worked.specs.Tables.{Worked, r, bare}

-- 1
-- A.java: class A { int /*1*/x; int f(int /*2*/x) { return x; } }
abbrev pub a_parameter_hides_a_field : Worked
a_parameter_hides_a_field = record {
  rows =
      r 0 24 0 is.Program [] ∷ r 0 9 0 is.Unit [] ∷ r 1 5 1 is.Package [] ∷ r 2 5 2 (is.Name kind.Package place.Other true) (codes "lang") ∷
      r 3 5 3 (is.Name kind.Package place.Qualifier false) (codes "java") ∷
      r 1 9 2 (is.Class (modifiers_of (modifier.Public ∷ [])) false) (codes "Object") ∷ r 5 9 5 is.Body [] ∷ r 6 9 6 is.DefaultConstructor [] ∷
      r 7 9 7 is.ImplicitCall [] ∷ r 0 24 1 is.Unit [] ∷ r 9 24 9 (is.Class bare false) (codes "A") ∷ r 10 24 10 is.Body [] ∷
      r 11 14 11 is.DefaultConstructor [] ∷ r 12 14 12 is.ImplicitCall [] ∷ r 11 17 12 (is.Fields bare) [] ∷
      r 14 16 14 (is.TypeUse (Some primitive.Int) 0) [] ∷ r 14 17 15 (is.Field bare 0) (codes "x") ∷ r 11 24 14 (is.Method bare false true) (codes "f") ∷
      r 17 19 17 (is.TypeUse (Some primitive.Int) 0) [] ∷ r 17 21 18 (is.Parameter false 0) (codes "x") ∷
      r 19 21 19 (is.TypeUse (Some primitive.Int) 0) [] ∷ r 17 24 19 is.Block [] ∷ r 21 24 21 is.Return [] ∷
      r 22 24 22 (is.Name kind.Variable place.Expression false) (codes "x") ∷ [];
  targets = (13, Declared 7 None) ∷ (23, Declared 19 None) ∷ [];
}

-- 2
-- A.java: class A { int /*1*/x; int f(int y) { return x; } }
abbrev pub a_field_is_in_scope_in_a_method : Worked
a_field_is_in_scope_in_a_method = record {
  rows =
      r 0 24 0 is.Program [] ∷ r 0 9 0 is.Unit [] ∷ r 1 5 1 is.Package [] ∷ r 2 5 2 (is.Name kind.Package place.Other true) (codes "lang") ∷
      r 3 5 3 (is.Name kind.Package place.Qualifier false) (codes "java") ∷
      r 1 9 2 (is.Class (modifiers_of (modifier.Public ∷ [])) false) (codes "Object") ∷ r 5 9 5 is.Body [] ∷ r 6 9 6 is.DefaultConstructor [] ∷
      r 7 9 7 is.ImplicitCall [] ∷ r 0 24 1 is.Unit [] ∷ r 9 24 9 (is.Class bare false) (codes "A") ∷ r 10 24 10 is.Body [] ∷
      r 11 14 11 is.DefaultConstructor [] ∷ r 12 14 12 is.ImplicitCall [] ∷ r 11 17 12 (is.Fields bare) [] ∷
      r 14 16 14 (is.TypeUse (Some primitive.Int) 0) [] ∷ r 14 17 15 (is.Field bare 0) (codes "x") ∷ r 11 24 14 (is.Method bare false true) (codes "f") ∷
      r 17 19 17 (is.TypeUse (Some primitive.Int) 0) [] ∷ r 17 21 18 (is.Parameter false 0) (codes "y") ∷
      r 19 21 19 (is.TypeUse (Some primitive.Int) 0) [] ∷ r 17 24 19 is.Block [] ∷ r 21 24 21 is.Return [] ∷
      r 22 24 22 (is.Name kind.Variable place.Expression false) (codes "x") ∷ [];
  targets = (13, Declared 7 None) ∷ (23, Declared 16 (Some 10)) ∷ [];
}

-- 3
-- A.java: class A { int f() { int /*1*/x = x; return 0; } }
abbrev pub a_local_is_in_scope_in_its_own_initializer : Worked
a_local_is_in_scope_in_its_own_initializer = record {
  rows =
      r 0 24 0 is.Program [] ∷ r 0 9 0 is.Unit [] ∷ r 1 5 1 is.Package [] ∷ r 2 5 2 (is.Name kind.Package place.Other true) (codes "lang") ∷
      r 3 5 3 (is.Name kind.Package place.Qualifier false) (codes "java") ∷
      r 1 9 2 (is.Class (modifiers_of (modifier.Public ∷ [])) false) (codes "Object") ∷ r 5 9 5 is.Body [] ∷ r 6 9 6 is.DefaultConstructor [] ∷
      r 7 9 7 is.ImplicitCall [] ∷ r 0 24 1 is.Unit [] ∷ r 9 24 9 (is.Class bare false) (codes "A") ∷ r 10 24 10 is.Body [] ∷
      r 11 14 11 is.DefaultConstructor [] ∷ r 12 14 12 is.ImplicitCall [] ∷ r 11 24 12 (is.Method bare false true) (codes "f") ∷
      r 14 16 14 (is.TypeUse (Some primitive.Int) 0) [] ∷ r 14 24 15 is.Block [] ∷ r 16 22 16 is.Locals [] ∷
      r 17 19 17 (is.TypeUse (Some primitive.Int) 0) [] ∷ r 17 22 18 (is.Local false 0) (codes "x") ∷ r 19 22 19 is.Value [] ∷
      r 20 22 20 (is.Name kind.Variable place.Expression false) (codes "x") ∷ r 16 24 17 is.Return [] ∷ r 22 24 22 (is.Literal (token.Int (pos 0))) [] ∷ [];
  targets = (13, Declared 7 None) ∷ (21, Declared 19 None) ∷ [];
}

-- 4
-- A.java: class A { int /*1*/x; int f() { int y = x; int /*2*/x = 1; return x; } }
abbrev pub a_field_before_a_later_local : Worked
a_field_before_a_later_local = record {
  rows =
      r 0 32 0 is.Program [] ∷ r 0 9 0 is.Unit [] ∷ r 1 5 1 is.Package [] ∷ r 2 5 2 (is.Name kind.Package place.Other true) (codes "lang") ∷
      r 3 5 3 (is.Name kind.Package place.Qualifier false) (codes "java") ∷
      r 1 9 2 (is.Class (modifiers_of (modifier.Public ∷ [])) false) (codes "Object") ∷ r 5 9 5 is.Body [] ∷ r 6 9 6 is.DefaultConstructor [] ∷
      r 7 9 7 is.ImplicitCall [] ∷ r 0 32 1 is.Unit [] ∷ r 9 32 9 (is.Class bare false) (codes "A") ∷ r 10 32 10 is.Body [] ∷
      r 11 14 11 is.DefaultConstructor [] ∷ r 12 14 12 is.ImplicitCall [] ∷ r 11 17 12 (is.Fields bare) [] ∷
      r 14 16 14 (is.TypeUse (Some primitive.Int) 0) [] ∷ r 14 17 15 (is.Field bare 0) (codes "x") ∷ r 11 32 14 (is.Method bare false true) (codes "f") ∷
      r 17 19 17 (is.TypeUse (Some primitive.Int) 0) [] ∷ r 17 32 18 is.Block [] ∷ r 19 25 19 is.Locals [] ∷
      r 20 22 20 (is.TypeUse (Some primitive.Int) 0) [] ∷ r 20 25 21 (is.Local false 0) (codes "y") ∷ r 22 25 22 is.Value [] ∷
      r 23 25 23 (is.Name kind.Variable place.Expression false) (codes "x") ∷ r 19 30 20 is.Locals [] ∷
      r 25 27 25 (is.TypeUse (Some primitive.Int) 0) [] ∷ r 25 30 26 (is.Local false 0) (codes "x") ∷ r 27 30 27 is.Value [] ∷
      r 28 30 28 (is.Literal (token.Int (pos 1))) [] ∷ r 19 32 25 is.Return [] ∷ r 30 32 30 (is.Name kind.Variable place.Expression false) (codes "x") ∷ [];
  targets = (13, Declared 7 None) ∷ (24, Declared 16 (Some 10)) ∷ (31, Declared 27 None) ∷ [];
}

-- 5
-- A.java: class A { int f() { int /*1*/a = 1, b = a; return b; } }
abbrev pub a_local_in_the_next_initializer : Worked
a_local_in_the_next_initializer = record {
  rows =
      r 0 27 0 is.Program [] ∷ r 0 9 0 is.Unit [] ∷ r 1 5 1 is.Package [] ∷ r 2 5 2 (is.Name kind.Package place.Other true) (codes "lang") ∷
      r 3 5 3 (is.Name kind.Package place.Qualifier false) (codes "java") ∷
      r 1 9 2 (is.Class (modifiers_of (modifier.Public ∷ [])) false) (codes "Object") ∷ r 5 9 5 is.Body [] ∷ r 6 9 6 is.DefaultConstructor [] ∷
      r 7 9 7 is.ImplicitCall [] ∷ r 0 27 1 is.Unit [] ∷ r 9 27 9 (is.Class bare false) (codes "A") ∷ r 10 27 10 is.Body [] ∷
      r 11 14 11 is.DefaultConstructor [] ∷ r 12 14 12 is.ImplicitCall [] ∷ r 11 27 12 (is.Method bare false true) (codes "f") ∷
      r 14 16 14 (is.TypeUse (Some primitive.Int) 0) [] ∷ r 14 27 15 is.Block [] ∷ r 16 25 16 is.Locals [] ∷
      r 17 19 17 (is.TypeUse (Some primitive.Int) 0) [] ∷ r 17 22 18 (is.Local false 0) (codes "a") ∷ r 19 22 19 is.Value [] ∷
      r 20 22 20 (is.Literal (token.Int (pos 1))) [] ∷ r 17 25 19 (is.Local false 0) (codes "b") ∷ r 22 25 22 is.Value [] ∷
      r 23 25 23 (is.Name kind.Variable place.Expression false) (codes "a") ∷ r 16 27 17 is.Return [] ∷
      r 25 27 25 (is.Name kind.Variable place.Expression false) (codes "b") ∷ [];
  targets = (13, Declared 7 None) ∷ (24, Declared 19 None) ∷ (26, Declared 22 None) ∷ [];
}

-- 6
-- A.java: class A { void f() { for (int /*1*/i = 0; i < 9; i++) { g(i); } } void /*2*/g(int k) { } }
abbrev pub a_local_of_a_for_header : Worked
a_local_of_a_for_header = record {
  rows =
      r 0 36 0 is.Program [] ∷ r 0 9 0 is.Unit [] ∷ r 1 5 1 is.Package [] ∷ r 2 5 2 (is.Name kind.Package place.Other true) (codes "lang") ∷
      r 3 5 3 (is.Name kind.Package place.Qualifier false) (codes "java") ∷
      r 1 9 2 (is.Class (modifiers_of (modifier.Public ∷ [])) false) (codes "Object") ∷ r 5 9 5 is.Body [] ∷ r 6 9 6 is.DefaultConstructor [] ∷
      r 7 9 7 is.ImplicitCall [] ∷ r 0 36 1 is.Unit [] ∷ r 9 36 9 (is.Class bare false) (codes "A") ∷ r 10 36 10 is.Body [] ∷
      r 11 14 11 is.DefaultConstructor [] ∷ r 12 14 12 is.ImplicitCall [] ∷ r 11 32 12 (is.Method bare true true) (codes "f") ∷ r 14 32 14 is.Block [] ∷
      r 15 32 15 (is.For true true) [] ∷ r 16 22 16 is.ForLocals [] ∷ r 17 19 17 (is.TypeUse (Some primitive.Int) 0) [] ∷
      r 17 22 18 (is.Local false 0) (codes "i") ∷ r 19 22 19 is.Value [] ∷ r 20 22 20 (is.Literal (token.Int (pos 0))) [] ∷
      r 16 25 17 (is.Binary y.Less) [] ∷ r 22 24 22 (is.Name kind.Variable place.Expression false) (codes "i") ∷
      r 22 25 23 (is.Literal (token.Int (pos 9))) [] ∷ r 16 27 22 (is.PostStep y.PlusPlus) [] ∷
      r 25 27 25 (is.Name kind.Variable place.Expression false) (codes "i") ∷ r 16 32 25 is.Nest [] ∷ r 27 32 27 is.Block [] ∷ r 28 32 28 is.Eval [] ∷
      r 29 32 29 (is.Call on.Absent) (codes "g") ∷ r 30 32 30 (is.Name kind.Variable place.Expression false) (codes "i") ∷
      r 11 36 14 (is.Method bare true true) (codes "g") ∷ r 32 35 32 (is.Parameter false 0) (codes "k") ∷
      r 33 35 33 (is.TypeUse (Some primitive.Int) 0) [] ∷ r 32 36 33 is.Block [] ∷ [];
  targets = (13, Declared 7 None) ∷ (23, Declared 19 None) ∷ (26, Declared 19 None) ∷ (30, Declared 32 (Some 10)) ∷ (31, Declared 19 None) ∷ [];
}

-- 7
-- A.java: class A { int /*1*/i; void f() { for (int i = 0; ; ) { } i = 1; } }
abbrev pub a_field_behind_a_for : Worked
a_field_behind_a_for = record {
  rows =
      r 0 31 0 is.Program [] ∷ r 0 9 0 is.Unit [] ∷ r 1 5 1 is.Package [] ∷ r 2 5 2 (is.Name kind.Package place.Other true) (codes "lang") ∷
      r 3 5 3 (is.Name kind.Package place.Qualifier false) (codes "java") ∷
      r 1 9 2 (is.Class (modifiers_of (modifier.Public ∷ [])) false) (codes "Object") ∷ r 5 9 5 is.Body [] ∷ r 6 9 6 is.DefaultConstructor [] ∷
      r 7 9 7 is.ImplicitCall [] ∷ r 0 31 1 is.Unit [] ∷ r 9 31 9 (is.Class bare false) (codes "A") ∷ r 10 31 10 is.Body [] ∷
      r 11 14 11 is.DefaultConstructor [] ∷ r 12 14 12 is.ImplicitCall [] ∷ r 11 17 12 (is.Fields bare) [] ∷
      r 14 16 14 (is.TypeUse (Some primitive.Int) 0) [] ∷ r 14 17 15 (is.Field bare 0) (codes "i") ∷ r 11 31 14 (is.Method bare true true) (codes "f") ∷
      r 17 31 17 is.Block [] ∷ r 18 27 18 (is.For true false) [] ∷ r 19 25 19 is.ForLocals [] ∷ r 20 22 20 (is.TypeUse (Some primitive.Int) 0) [] ∷
      r 20 25 21 (is.Local false 0) (codes "i") ∷ r 22 25 22 is.Value [] ∷ r 23 25 23 (is.Literal (token.Int (pos 0))) [] ∷ r 19 27 20 is.Nest [] ∷
      r 25 27 25 is.Block [] ∷ r 18 31 19 is.Eval [] ∷ r 27 31 27 (is.Assign y.Assign) [] ∷
      r 28 30 28 (is.Name kind.Variable place.Expression false) (codes "i") ∷ r 28 31 29 (is.Literal (token.Int (pos 1))) [] ∷ [];
  targets = (13, Declared 7 None) ∷ (29, Declared 16 (Some 10)) ∷ [];
}

-- 8
-- A.java: class A { void f(int k) { switch (k) { case 1: int /*1*/x = 1; case 2: x = 2; } } }
abbrev pub a_local_of_an_earlier_switch_group : Worked
a_local_of_an_earlier_switch_group = record {
  rows =
      r 0 35 0 is.Program [] ∷ r 0 9 0 is.Unit [] ∷ r 1 5 1 is.Package [] ∷ r 2 5 2 (is.Name kind.Package place.Other true) (codes "lang") ∷
      r 3 5 3 (is.Name kind.Package place.Qualifier false) (codes "java") ∷
      r 1 9 2 (is.Class (modifiers_of (modifier.Public ∷ [])) false) (codes "Object") ∷ r 5 9 5 is.Body [] ∷ r 6 9 6 is.DefaultConstructor [] ∷
      r 7 9 7 is.ImplicitCall [] ∷ r 0 35 1 is.Unit [] ∷ r 9 35 9 (is.Class bare false) (codes "A") ∷ r 10 35 10 is.Body [] ∷
      r 11 14 11 is.DefaultConstructor [] ∷ r 12 14 12 is.ImplicitCall [] ∷ r 11 35 12 (is.Method bare true true) (codes "f") ∷
      r 14 17 14 (is.Parameter false 0) (codes "k") ∷ r 15 17 15 (is.TypeUse (Some primitive.Int) 0) [] ∷ r 14 35 15 is.Block [] ∷
      r 17 35 17 is.Switch [] ∷ r 18 20 18 (is.Name kind.Variable place.Expression false) (codes "k") ∷ r 18 28 19 is.Group [] ∷ r 20 23 20 is.Case [] ∷
      r 21 23 21 (is.Literal (token.Int (pos 1))) [] ∷ r 20 28 21 is.Locals [] ∷ r 23 25 23 (is.TypeUse (Some primitive.Int) 0) [] ∷
      r 23 28 24 (is.Local false 0) (codes "x") ∷ r 25 28 25 is.Value [] ∷ r 26 28 26 (is.Literal (token.Int (pos 1))) [] ∷ r 18 35 20 is.Group [] ∷
      r 28 31 28 is.Case [] ∷ r 29 31 29 (is.Literal (token.Int (pos 2))) [] ∷ r 28 35 29 is.Eval [] ∷ r 31 35 31 (is.Assign y.Assign) [] ∷
      r 32 34 32 (is.Name kind.Variable place.Expression false) (codes "x") ∷ r 32 35 33 (is.Literal (token.Int (pos 2))) [] ∷ [];
  targets = (13, Declared 7 None) ∷ (19, Declared 15 None) ∷ (33, Declared 25 None) ∷ [];
}

-- 9
-- A.java: class A { void f() { try { } catch (Exception /*1*/e) { e = null; } } }
abbrev pub a_parameter_of_a_catch : Worked
a_parameter_of_a_catch = record {
  rows =
      r 0 31 0 is.Program [] ∷ r 0 13 0 is.Unit [] ∷ r 1 5 1 is.Package [] ∷ r 2 5 2 (is.Name kind.Package place.Other true) (codes "lang") ∷
      r 3 5 3 (is.Name kind.Package place.Qualifier false) (codes "java") ∷
      r 1 9 2 (is.Class (modifiers_of (modifier.Public ∷ [])) false) (codes "Object") ∷ r 5 9 5 is.Body [] ∷ r 6 9 6 is.DefaultConstructor [] ∷
      r 7 9 7 is.ImplicitCall [] ∷ r 1 13 5 (is.Class (modifiers_of (modifier.Public ∷ [])) false) (codes "Exception") ∷ r 9 13 9 is.Body [] ∷
      r 10 13 10 is.DefaultConstructor [] ∷ r 11 13 11 is.ImplicitCall [] ∷ r 0 31 1 is.Unit [] ∷ r 13 31 13 (is.Class bare false) (codes "A") ∷
      r 14 31 14 is.Body [] ∷ r 15 18 15 is.DefaultConstructor [] ∷ r 16 18 16 is.ImplicitCall [] ∷ r 15 31 16 (is.Method bare true true) (codes "f") ∷
      r 18 31 18 is.Block [] ∷ r 19 31 19 (is.Try false) [] ∷ r 20 22 20 is.Block [] ∷ r 20 31 21 is.Catch [] ∷
      r 22 26 22 (is.Parameter false 0) (codes "e") ∷ r 23 26 23 (is.TypeUse None 0) [] ∷
      r 24 26 24 (is.Name kind.Type place.Other false) (codes "Exception") ∷ r 22 31 23 is.Block [] ∷ r 26 31 26 is.Eval [] ∷
      r 27 31 27 (is.Assign y.Assign) [] ∷ r 28 30 28 (is.Name kind.Variable place.Expression false) (codes "e") ∷
      r 28 31 29 (is.Literal (token.Word word.Null)) [] ∷ [];
  targets = (12, Declared 7 None) ∷ (17, Declared 7 None) ∷ (25, Declared 9 None) ∷ (29, Declared 23 None) ∷ [];
}

-- 10
-- A.java: class A { void f() { /*1*/x: while (true) { x: while (true) { break x; } } } }
abbrev pub labels_do_not_shadow : Worked
labels_do_not_shadow = record {
  rows =
      r 0 27 0 is.Program [] ∷ r 0 9 0 is.Unit [] ∷ r 1 5 1 is.Package [] ∷ r 2 5 2 (is.Name kind.Package place.Other true) (codes "lang") ∷
      r 3 5 3 (is.Name kind.Package place.Qualifier false) (codes "java") ∷
      r 1 9 2 (is.Class (modifiers_of (modifier.Public ∷ [])) false) (codes "Object") ∷ r 5 9 5 is.Body [] ∷ r 6 9 6 is.DefaultConstructor [] ∷
      r 7 9 7 is.ImplicitCall [] ∷ r 0 27 1 is.Unit [] ∷ r 9 27 9 (is.Class bare false) (codes "A") ∷ r 10 27 10 is.Body [] ∷
      r 11 14 11 is.DefaultConstructor [] ∷ r 12 14 12 is.ImplicitCall [] ∷ r 11 27 12 (is.Method bare true true) (codes "f") ∷ r 14 27 14 is.Block [] ∷
      r 15 27 15 is.Labeled (codes "x") ∷ r 16 27 16 is.While [] ∷ r 17 19 17 (is.Literal (token.Word word.True)) [] ∷ r 17 27 18 is.Nest [] ∷
      r 19 27 19 is.Block [] ∷ r 20 27 20 is.Labeled (codes "x") ∷ r 21 27 21 is.While [] ∷ r 22 24 22 (is.Literal (token.Word word.True)) [] ∷
      r 22 27 23 is.Nest [] ∷ r 24 27 24 is.Block [] ∷ r 25 27 25 (is.Break true) (codes "x") ∷ [];
  targets = (13, Declared 7 None) ∷ (26, Ambiguous) ∷ [];
}

-- 57
-- A.java: class A { int f(int a, int a) { return a; } }
abbrev pub two_parameters_of_one_name : Worked
two_parameters_of_one_name = record {
  rows =
      r 0 23 0 is.Program [] ∷ r 0 9 0 is.Unit [] ∷ r 1 5 1 is.Package [] ∷ r 2 5 2 (is.Name kind.Package place.Other true) (codes "lang") ∷
      r 3 5 3 (is.Name kind.Package place.Qualifier false) (codes "java") ∷
      r 1 9 2 (is.Class (modifiers_of (modifier.Public ∷ [])) false) (codes "Object") ∷ r 5 9 5 is.Body [] ∷ r 6 9 6 is.DefaultConstructor [] ∷
      r 7 9 7 is.ImplicitCall [] ∷ r 0 23 1 is.Unit [] ∷ r 9 23 9 (is.Class bare false) (codes "A") ∷ r 10 23 10 is.Body [] ∷
      r 11 14 11 is.DefaultConstructor [] ∷ r 12 14 12 is.ImplicitCall [] ∷ r 11 23 12 (is.Method bare false true) (codes "f") ∷
      r 14 16 14 (is.TypeUse (Some primitive.Int) 0) [] ∷ r 14 18 15 (is.Parameter false 0) (codes "a") ∷
      r 16 18 16 (is.TypeUse (Some primitive.Int) 0) [] ∷ r 14 20 16 (is.Parameter false 0) (codes "a") ∷
      r 18 20 18 (is.TypeUse (Some primitive.Int) 0) [] ∷ r 14 23 18 is.Block [] ∷ r 20 23 20 is.Return [] ∷
      r 21 23 21 (is.Name kind.Variable place.Expression false) (codes "a") ∷ [];
  targets = (13, Declared 7 None) ∷ (22, Ambiguous) ∷ [];
}
