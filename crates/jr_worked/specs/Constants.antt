-- Worked programs. Constants and types of expressions (JLS 15.25, 15.26, 15.28).
use Rattle.std.specs.Prelude.{true, false, [], ◌∷◌, Some, None, codes, pos}
use Rattle.jr_base.specs.declared.kind.Kind.TheVariants as token
use Rattle.jr_base.specs.declared.kind.Keyword.TheVariants as word
use Rattle.jr_base.specs.declared.kind.Symbol.TheVariants as y
use Rattle.jr_tree.specs.declared.tree.Modifier.TheVariants as modifier
use Rattle.jr_tree.specs.declared.tree.Primitive.TheVariants as primitive
use Rattle.jr_tree.specs.declared.label.Label.TheVariants as is
use Rattle.jr_tree.specs.declared.label.NameKind.TheVariants as kind
use Rattle.jr_tree.specs.declared.label.NamePlace.TheVariants as place
use Rattle.jr_tree.specs.Decls.{modifiers_of}
use Rattle.jr_defs.specs.declared.referent.Referent.TheVariants.{Declared}
use Rattle.jr_worked.specs.Tables.{Worked, r, bare}

-- 50
-- A.java: class A { final int x = 1; int f(int y) { switch (y) { case x: return 1; } return 0; } }
abbrev pub a_constant_label : Worked
a_constant_label = record {
  rows =
      r 0 33 0 is.Program [] ∷ r 0 9 0 is.Unit [] ∷ r 1 5 1 is.Package [] ∷ r 2 5 2 (is.Name kind.Package place.Other true) (codes "lang") ∷
      r 3 5 3 (is.Name kind.Package place.Qualifier false) (codes "java") ∷
      r 1 9 2 (is.Class (modifiers_of (modifier.Public ∷ [])) false) (codes "Object") ∷ r 5 9 5 is.Body [] ∷ r 6 9 6 is.DefaultConstructor [] ∷
      r 7 9 7 is.ImplicitCall [] ∷ r 0 33 1 is.Unit [] ∷ r 9 33 9 (is.Class bare false) (codes "A") ∷ r 10 33 10 is.Body [] ∷
      r 11 14 11 is.DefaultConstructor [] ∷ r 12 14 12 is.ImplicitCall [] ∷ r 11 19 12 (is.Fields (modifiers_of (modifier.Final ∷ []))) [] ∷
      r 14 16 14 (is.TypeUse (Some primitive.Int) 0) [] ∷ r 14 19 15 (is.Field (modifiers_of (modifier.Final ∷ [])) 0) (codes "x") ∷
      r 16 19 16 is.Value [] ∷ r 17 19 17 (is.Literal (token.Int (pos 1))) [] ∷ r 11 33 14 (is.Method bare false true) (codes "f") ∷
      r 19 21 19 (is.TypeUse (Some primitive.Int) 0) [] ∷ r 19 23 20 (is.Parameter false 0) (codes "y") ∷
      r 21 23 21 (is.TypeUse (Some primitive.Int) 0) [] ∷ r 19 33 21 is.Block [] ∷ r 23 31 23 is.Switch [] ∷
      r 24 26 24 (is.Name kind.Variable place.Expression false) (codes "y") ∷ r 24 31 25 is.Group [] ∷ r 26 29 26 is.Case [] ∷
      r 27 29 27 (is.Name kind.Variable place.Expression false) (codes "x") ∷ r 26 31 27 is.Return [] ∷ r 29 31 29 (is.Literal (token.Int (pos 1))) [] ∷
      r 23 33 24 is.Return [] ∷ r 31 33 31 (is.Literal (token.Int (pos 0))) [] ∷ [];
  targets = (13, Declared 7 None) ∷ (25, Declared 21 None) ∷ (28, Declared 16 (Some 10)) ∷ [];
}

-- 50
-- A.java: class A { final int x = 1; int f(int y) { switch (y) { case this.x: return 1; } return 0; } }
abbrev pub a_label_through_this : Worked
a_label_through_this = record {
  rows =
      r 0 34 0 is.Program [] ∷ r 0 9 0 is.Unit [] ∷ r 1 5 1 is.Package [] ∷ r 2 5 2 (is.Name kind.Package place.Other true) (codes "lang") ∷
      r 3 5 3 (is.Name kind.Package place.Qualifier false) (codes "java") ∷
      r 1 9 2 (is.Class (modifiers_of (modifier.Public ∷ [])) false) (codes "Object") ∷ r 5 9 5 is.Body [] ∷ r 6 9 6 is.DefaultConstructor [] ∷
      r 7 9 7 is.ImplicitCall [] ∷ r 0 34 1 is.Unit [] ∷ r 9 34 9 (is.Class bare false) (codes "A") ∷ r 10 34 10 is.Body [] ∷
      r 11 14 11 is.DefaultConstructor [] ∷ r 12 14 12 is.ImplicitCall [] ∷ r 11 19 12 (is.Fields (modifiers_of (modifier.Final ∷ []))) [] ∷
      r 14 16 14 (is.TypeUse (Some primitive.Int) 0) [] ∷ r 14 19 15 (is.Field (modifiers_of (modifier.Final ∷ [])) 0) (codes "x") ∷
      r 16 19 16 is.Value [] ∷ r 17 19 17 (is.Literal (token.Int (pos 1))) [] ∷ r 11 34 14 (is.Method bare false true) (codes "f") ∷
      r 19 21 19 (is.TypeUse (Some primitive.Int) 0) [] ∷ r 19 23 20 (is.Parameter false 0) (codes "y") ∷
      r 21 23 21 (is.TypeUse (Some primitive.Int) 0) [] ∷ r 19 34 21 is.Block [] ∷ r 23 32 23 is.Switch [] ∷
      r 24 26 24 (is.Name kind.Variable place.Expression false) (codes "y") ∷ r 24 32 25 is.Group [] ∷ r 26 30 26 is.Case [] ∷
      r 27 30 27 is.Select (codes "x") ∷ r 28 30 28 (is.This false) [] ∷ r 26 32 27 is.Return [] ∷ r 30 32 30 (is.Literal (token.Int (pos 1))) [] ∷
      r 23 34 24 is.Return [] ∷ r 32 34 32 (is.Literal (token.Int (pos 0))) [] ∷ [];
  targets = (13, Declared 7 None) ∷ (25, Declared 21 None) ∷ (28, Declared 16 None) ∷ [];
}

-- 51
-- A.java: class A { final int x = y; final int y = x; }
abbrev pub variables_that_need_each_other : Worked
variables_that_need_each_other = record {
  rows =
      r 0 24 0 is.Program [] ∷ r 0 9 0 is.Unit [] ∷ r 1 5 1 is.Package [] ∷ r 2 5 2 (is.Name kind.Package place.Other true) (codes "lang") ∷
      r 3 5 3 (is.Name kind.Package place.Qualifier false) (codes "java") ∷
      r 1 9 2 (is.Class (modifiers_of (modifier.Public ∷ [])) false) (codes "Object") ∷ r 5 9 5 is.Body [] ∷ r 6 9 6 is.DefaultConstructor [] ∷
      r 7 9 7 is.ImplicitCall [] ∷ r 0 24 1 is.Unit [] ∷ r 9 24 9 (is.Class bare false) (codes "A") ∷ r 10 24 10 is.Body [] ∷
      r 11 14 11 is.DefaultConstructor [] ∷ r 12 14 12 is.ImplicitCall [] ∷ r 11 19 12 (is.Fields (modifiers_of (modifier.Final ∷ []))) [] ∷
      r 14 16 14 (is.TypeUse (Some primitive.Int) 0) [] ∷ r 14 19 15 (is.Field (modifiers_of (modifier.Final ∷ [])) 0) (codes "x") ∷
      r 16 19 16 is.Value [] ∷ r 17 19 17 (is.Name kind.Variable place.Expression false) (codes "y") ∷
      r 11 24 14 (is.Fields (modifiers_of (modifier.Final ∷ []))) [] ∷ r 19 21 19 (is.TypeUse (Some primitive.Int) 0) [] ∷
      r 19 24 20 (is.Field (modifiers_of (modifier.Final ∷ [])) 0) (codes "y") ∷ r 21 24 21 is.Value [] ∷
      r 22 24 22 (is.Name kind.Variable place.Expression false) (codes "x") ∷ [];
  targets = (13, Declared 7 None) ∷ (18, Declared 21 (Some 10)) ∷ (23, Declared 16 (Some 10)) ∷ [];
}

-- 52
-- A.java: class A { static final byte b = 10; static final char c = 'a'; static final int d = true ? b : c; }
abbrev pub a_choice_of_byte_and_char : Worked
a_choice_of_byte_and_char = record {
  rows =
      r 0 32 0 is.Program [] ∷ r 0 9 0 is.Unit [] ∷ r 1 5 1 is.Package [] ∷ r 2 5 2 (is.Name kind.Package place.Other true) (codes "lang") ∷
      r 3 5 3 (is.Name kind.Package place.Qualifier false) (codes "java") ∷
      r 1 9 2 (is.Class (modifiers_of (modifier.Public ∷ [])) false) (codes "Object") ∷ r 5 9 5 is.Body [] ∷ r 6 9 6 is.DefaultConstructor [] ∷
      r 7 9 7 is.ImplicitCall [] ∷ r 0 32 1 is.Unit [] ∷ r 9 32 9 (is.Class bare false) (codes "A") ∷ r 10 32 10 is.Body [] ∷
      r 11 14 11 is.DefaultConstructor [] ∷ r 12 14 12 is.ImplicitCall [] ∷
      r 11 19 12 (is.Fields (modifiers_of (modifier.Static ∷ modifier.Final ∷ []))) [] ∷ r 14 16 14 (is.TypeUse (Some primitive.Byte) 0) [] ∷
      r 14 19 15 (is.Field (modifiers_of (modifier.Static ∷ modifier.Final ∷ [])) 0) (codes "b") ∷ r 16 19 16 is.Value [] ∷
      r 17 19 17 (is.Literal (token.Int (pos 10))) [] ∷ r 11 24 14 (is.Fields (modifiers_of (modifier.Static ∷ modifier.Final ∷ []))) [] ∷
      r 19 21 19 (is.TypeUse (Some primitive.Char) 0) [] ∷ r 19 24 20 (is.Field (modifiers_of (modifier.Static ∷ modifier.Final ∷ [])) 0) (codes "c") ∷
      r 21 24 21 is.Value [] ∷ r 22 24 22 (is.Literal (token.Char 97)) [] ∷
      r 11 32 19 (is.Fields (modifiers_of (modifier.Static ∷ modifier.Final ∷ []))) [] ∷ r 24 26 24 (is.TypeUse (Some primitive.Int) 0) [] ∷
      r 24 32 25 (is.Field (modifiers_of (modifier.Static ∷ modifier.Final ∷ [])) 0) (codes "d") ∷ r 26 32 26 is.Value [] ∷ r 27 32 27 is.Conditional [] ∷
      r 28 30 28 (is.Literal (token.Word word.True)) [] ∷ r 28 31 29 (is.Name kind.Variable place.Expression false) (codes "b") ∷
      r 28 32 30 (is.Name kind.Variable place.Expression false) (codes "c") ∷ [];
  targets = (13, Declared 7 None) ∷ (30, Declared 16 (Some 10)) ∷ (31, Declared 21 (Some 10)) ∷ [];
}

-- 60
-- A.java: class A { void f(Object o) { o += "a"; } }
abbrev pub an_object_is_no_string : Worked
an_object_is_no_string = record {
  rows =
      r 0 27 0 is.Program [] ∷ r 0 13 0 is.Unit [] ∷ r 1 5 1 is.Package [] ∷ r 2 5 2 (is.Name kind.Package place.Other true) (codes "lang") ∷
      r 3 5 3 (is.Name kind.Package place.Qualifier false) (codes "java") ∷
      r 1 9 2 (is.Class (modifiers_of (modifier.Public ∷ [])) false) (codes "Object") ∷ r 5 9 5 is.Body [] ∷ r 6 9 6 is.DefaultConstructor [] ∷
      r 7 9 7 is.ImplicitCall [] ∷ r 1 13 5 (is.Class (modifiers_of (modifier.Public ∷ modifier.Final ∷ [])) false) (codes "String") ∷
      r 9 13 9 is.Body [] ∷ r 10 13 10 is.DefaultConstructor [] ∷ r 11 13 11 is.ImplicitCall [] ∷ r 0 27 1 is.Unit [] ∷
      r 13 27 13 (is.Class bare false) (codes "A") ∷ r 14 27 14 is.Body [] ∷ r 15 18 15 is.DefaultConstructor [] ∷ r 16 18 16 is.ImplicitCall [] ∷
      r 15 27 16 (is.Method bare true true) (codes "f") ∷ r 18 22 18 (is.Parameter false 0) (codes "o") ∷ r 19 22 19 (is.TypeUse None 0) [] ∷
      r 20 22 20 (is.Name kind.Type place.Other false) (codes "Object") ∷ r 18 27 19 is.Block [] ∷ r 22 27 22 is.Eval [] ∷
      r 23 27 23 (is.Assign y.PlusAssign) [] ∷ r 24 26 24 (is.Name kind.Variable place.Expression false) (codes "o") ∷
      r 24 27 25 (is.Literal (token.Str (codes "a"))) [] ∷ [];
  targets = (12, Declared 7 None) ∷ (17, Declared 7 None) ∷ (21, Declared 5 None) ∷ (25, Declared 19 None) ∷ [];
}
