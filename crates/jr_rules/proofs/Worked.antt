-- What the test of the rules on types and static contexts finds in small programs, each behind a package java.lang with Object, String and Throwable.
use Rattle.std.proofs.Common.{◌≡◌, refl, false, [], ◌∷◌, Some, None, codes, pos}
use Rattle.jr_base.specs.declared.kind.Kind.TheVariants as token
use Rattle.jr_base.specs.declared.kind.Keyword.TheVariants as word
use Rattle.jr_base.specs.declared.kind.Symbol.TheVariants as y
use Rattle.jr_tree.specs.declared.tree.Base.TheVariants as base
use Rattle.jr_tree.specs.declared.tree.Primitive.TheVariants as primitive
use Rattle.jr_tree.specs.declared.tree.Modifier.TheVariants as modifier
use Rattle.jr_tree.specs.declared.tree.ResultType.TheVariants as outcome
use Rattle.jr_tree.specs.declared.tree.ThisOrSuper.TheVariants as which
use Rattle.jr_tree.specs.Mirror.Exprs as x
use Rattle.jr_tree.specs.Mirror.Stmts as s
use Rattle.jr_tree.specs.Mirror.Decls as d
use Rattle.jr_tree.specs.Rows.{Rows}
use Rattle.jr_defs.specs.declared.referent.Referent.TheVariants.{Declared}
use Rattle.jr_defs.specs.Referents.{Table}
use Rattle.jr_rules.proofs.Trees.{name, dotted, of_type, of_class, exprs, list_of, block, local, catching, group, groups, field, parameter, members, program, table_of, broken}

-- class A { int x; static int s = s; int f() { return x; } static int g() { return x; } int h() { return A.x; } A(int i) { this(this.x, 1); } A(int i, int j) { this(1); } A(long l) { this(1); } int a = b, b; { b = 1; b++; } }
abbrev contexts : Rows
contexts = program ((d.Class [] (codes "A") None [] (members ((field [] (of_type primitive.Int 0) (codes "x") None) ∷ (field (modifier.Static ∷ []) (of_type primitive.Int 0) (codes "s") (Some (x.Value (x.NameExpr (name (codes "s")))))) ∷ (d.Method [] (outcome.Of (of_type primitive.Int 0)) (codes "f") [] [] (Some (block ((s.Return (Some (x.NameExpr (name (codes "x"))))) ∷ [])))) ∷ (d.Method (modifier.Static ∷ []) (outcome.Of (of_type primitive.Int 0)) (codes "g") [] [] (Some (block ((s.Return (Some (x.NameExpr (name (codes "x"))))) ∷ [])))) ∷ (d.Method [] (outcome.Of (of_type primitive.Int 0)) (codes "h") [] [] (Some (block ((s.Return (Some (x.NameExpr (dotted (codes "A") (codes "x"))))) ∷ [])))) ∷ (d.Constructor [] (codes "A") ((parameter (of_type primitive.Int 0) (codes "i")) ∷ []) [] (block ((s.CtorCall which.This (exprs ((x.Select (x.This None) (codes "x")) ∷ (x.Lit (token.Int (pos 1))) ∷ []))) ∷ []))) ∷ (d.Constructor [] (codes "A") ((parameter (of_type primitive.Int 0) (codes "i2")) ∷ (parameter (of_type primitive.Int 0) (codes "j")) ∷ []) [] (block ((s.CtorCall which.This (exprs ((x.Lit (token.Int (pos 1))) ∷ []))) ∷ []))) ∷ (d.Constructor [] (codes "A") ((parameter (of_type primitive.Long 0) (codes "l")) ∷ []) [] (block ((s.CtorCall which.This (exprs ((x.Lit (token.Int (pos 1))) ∷ []))) ∷ []))) ∷ (field [] (of_type primitive.Int 0) (codes "a") (Some (x.Value (x.NameExpr (name (codes "b")))))) ∷ (field [] (of_type primitive.Int 0) (codes "b") None) ∷ (d.Init false (block ((s.Eval (x.Assign (x.NameExpr (name (codes "b"))) y.Assign (x.Lit (token.Int (pos 1))))) ∷ (s.Eval (x.PostStep (x.NameExpr (name (codes "b"))) y.PlusPlus)) ∷ []))) ∷ []))) ∷ [])

abbrev contexts_table : Table
contexts_table = table_of ((27, Declared 25 (Some 18)) ∷ (32, Declared 22 (Some 18)) ∷ (37, Declared 22 (Some 18)) ∷ (42, Declared 22 None) ∷ (43, Declared 18 None) ∷ (44, Declared 18 None) ∷ (48, Declared 52 None) ∷ (49, Declared 22 None) ∷ (52, Declared 18 None) ∷ (58, Declared 44 None) ∷ (60, Declared 18 None) ∷ (64, Declared 44 None) ∷ (70, Declared 73 (Some 18)) ∷ (78, Declared 73 (Some 18)) ∷ (82, Declared 73 (Some 18)) ∷ [])

read_while_initialized : broken contexts contexts_table 27 ≡ 12 ∷ []
read_while_initialized = refl

instance_member_kept : broken contexts contexts_table 32 ≡ []
instance_member_kept = refl

instance_member_in_static : broken contexts contexts_table 37 ≡ 11 ∷ []
instance_member_in_static = refl

instance_member_behind_type : broken contexts contexts_table 42 ≡ 11 ∷ []
instance_member_behind_type = refl

this_in_call_of_constructor : broken contexts contexts_table 50 ≡ 11 ∷ []
this_in_call_of_constructor = refl

calls_itself : broken contexts contexts_table 44 ≡ 22 ∷ []
calls_itself = refl

calls_itself_too : broken contexts contexts_table 52 ≡ 22 ∷ []
calls_itself_too = refl

calls_into_the_round : broken contexts contexts_table 60 ≡ []
calls_into_the_round = refl

read_before_declared : broken contexts contexts_table 70 ≡ 12 ∷ []
read_before_declared = refl

assigned_before_declared : broken contexts contexts_table 78 ≡ []
assigned_before_declared = refl

read_after_declared : broken contexts contexts_table 81 ≡ []
read_after_declared = refl

-- class A { int x; class I { int y; I(int i) { } I(I j) { this(x); } I(long l) { this(y); } } static Object k() { return new I(1); } Object m() { return new I(1); } static class S { int f() { return x; } } }
abbrev inner : Rows
inner = program ((d.Class [] (codes "A") None [] (members ((field [] (of_type primitive.Int 0) (codes "x") None) ∷ (d.Nested (d.Class [] (codes "I") None [] (members ((field [] (of_type primitive.Int 0) (codes "y") None) ∷ (d.Constructor [] (codes "I") ((parameter (of_type primitive.Int 0) (codes "i")) ∷ []) [] (block [])) ∷ (d.Constructor [] (codes "I") ((parameter (of_class (codes "I") 0) (codes "j")) ∷ []) [] (block ((s.CtorCall which.This (exprs ((x.NameExpr (name (codes "x"))) ∷ []))) ∷ []))) ∷ (d.Constructor [] (codes "I") ((parameter (of_type primitive.Long 0) (codes "l")) ∷ []) [] (block ((s.CtorCall which.This (exprs ((x.NameExpr (name (codes "y"))) ∷ []))) ∷ []))) ∷ [])))) ∷ (d.Method (modifier.Static ∷ []) (outcome.Of (of_class (codes "Object") 0)) (codes "k") [] [] (Some (block ((s.Return (Some (x.New (name (codes "I")) (exprs ((x.Lit (token.Int (pos 1))) ∷ []))))) ∷ [])))) ∷ (d.Method [] (outcome.Of (of_class (codes "Object") 0)) (codes "m") [] [] (Some (block ((s.Return (Some (x.New (name (codes "I")) (exprs ((x.Lit (token.Int (pos 1))) ∷ []))))) ∷ [])))) ∷ (d.Nested (d.Class (modifier.Static ∷ []) (codes "S") None [] (members ((d.Method [] (outcome.Of (of_type primitive.Int 0)) (codes "f") [] [] (Some (block ((s.Return (Some (x.NameExpr (name (codes "x"))))) ∷ [])))) ∷ [])))) ∷ []))) ∷ [])

abbrev inner_table : Table
inner_table = table_of ((21, Declared 7 None) ∷ (30, Declared 25 None) ∷ (31, Declared 7 None) ∷ (35, Declared 25 None) ∷ (38, Declared 25 None) ∷ (40, Declared 30 None) ∷ (41, Declared 24 (Some 18)) ∷ (42, Declared 25 None) ∷ (46, Declared 30 None) ∷ (47, Declared 29 (Some 25)) ∷ (50, Declared 5 None) ∷ (53, Declared 30 (Some 18)) ∷ (54, Declared 25 None) ∷ (58, Declared 5 None) ∷ (61, Declared 30 (Some 18)) ∷ (62, Declared 25 None) ∷ (67, Declared 7 None) ∷ (72, Declared 24 (Some 18)) ∷ [])

outer_member_in_call_of_constructor : broken inner inner_table 41 ≡ []
outer_member_in_call_of_constructor = refl

own_member_in_call_of_constructor : broken inner inner_table 47 ≡ 11 ∷ []
own_member_in_call_of_constructor = refl

inner_created_in_static : broken inner inner_table 53 ≡ 11 ∷ []
inner_created_in_static = refl

inner_created : broken inner inner_table 61 ≡ []
inner_created = refl

instance_member_in_static_class : broken inner inner_table 72 ≡ 11 ∷ []
instance_member_in_static_class = refl

-- class A { void f(Object o, int i, long l, boolean b, int[] a) { o += "a"; l += i; b = i + b == l; i++; 5++; a.length; (A) o; (String) this; o instanceof A; i instanceof A; b ? o : i; b ? this : "a"; b ? o : this; } } (as statements of their own)
abbrev operands : Rows
operands = program ((d.Class [] (codes "A") None [] (members ((d.Method [] outcome.Void (codes "f") ((parameter (of_class (codes "Object") 0) (codes "o")) ∷ (parameter (of_type primitive.Int 0) (codes "i")) ∷ (parameter (of_type primitive.Long 0) (codes "l")) ∷ (parameter (of_type primitive.Boolean 0) (codes "b")) ∷ (parameter (of_type primitive.Int 1) (codes "a")) ∷ []) [] (Some (block ((s.Eval (x.Assign (x.NameExpr (name (codes "o"))) y.PlusAssign (x.Lit (token.Str (codes "a"))))) ∷ (s.Eval (x.Assign (x.NameExpr (name (codes "l"))) y.PlusAssign (x.NameExpr (name (codes "i"))))) ∷ (s.Eval (x.Binary (x.NameExpr (name (codes "i"))) y.Plus (x.NameExpr (name (codes "b"))))) ∷ (s.Eval (x.Binary (x.NameExpr (name (codes "i"))) y.Less (x.NameExpr (name (codes "l"))))) ∷ (s.Eval (x.PostStep (x.NameExpr (name (codes "i"))) y.PlusPlus)) ∷ (s.Eval (x.PostStep (x.Lit (token.Int (pos 5))) y.PlusPlus)) ∷ (s.Eval (x.PostStep (x.Paren (x.NameExpr (name (codes "i")))) y.PlusPlus)) ∷ (s.Eval (x.Cast (of_class (codes "A") 0) (x.NameExpr (name (codes "o"))))) ∷ (s.Eval (x.Cast (of_class (codes "String") 0) (x.This None))) ∷ (s.Eval (x.IsA (x.NameExpr (name (codes "o"))) (of_class (codes "A") 0))) ∷ (s.Eval (x.IsA (x.NameExpr (name (codes "i"))) (of_class (codes "A") 0))) ∷ (s.Eval (x.Cond (x.NameExpr (name (codes "b"))) (x.NameExpr (name (codes "o"))) (x.NameExpr (name (codes "i"))))) ∷ (s.Eval (x.Cond (x.NameExpr (name (codes "b"))) (x.This None) (x.Lit (token.Str (codes "a"))))) ∷ (s.Eval (x.Cond (x.NameExpr (name (codes "b"))) (x.NameExpr (name (codes "o"))) (x.This None))) ∷ (s.Eval (x.Cond (x.NameExpr (name (codes "b"))) (x.NameExpr (name (codes "i"))) (x.NameExpr (name (codes "l"))))) ∷ (s.Eval (x.Cond (x.NameExpr (name (codes "i"))) (x.NameExpr (name (codes "i"))) (x.NameExpr (name (codes "i"))))) ∷ (s.If (x.NameExpr (name (codes "b"))) s.Skip s.no_stmt) ∷ (s.If (x.NameExpr (name (codes "l"))) s.Skip s.no_stmt) ∷ [])))) ∷ []))) ∷ [])

abbrev operands_table : Table
operands_table = table_of ((21, Declared 7 None) ∷ (25, Declared 5 None) ∷ (37, Declared 23 None) ∷ (41, Declared 28 None) ∷ (42, Declared 26 None) ∷ (45, Declared 26 None) ∷ (46, Declared 30 None) ∷ (49, Declared 26 None) ∷ (50, Declared 28 None) ∷ (53, Declared 26 None) ∷ (60, Declared 26 None) ∷ (64, Declared 18 None) ∷ (65, Declared 23 None) ∷ (69, Declared 9 None) ∷ (73, Declared 23 None) ∷ (75, Declared 18 None) ∷ (78, Declared 26 None) ∷ (80, Declared 18 None) ∷ (83, Declared 30 None) ∷ (84, Declared 23 None) ∷ (85, Declared 26 None) ∷ (88, Declared 30 None) ∷ (93, Declared 30 None) ∷ (94, Declared 23 None) ∷ (98, Declared 30 None) ∷ (99, Declared 26 None) ∷ (100, Declared 28 None) ∷ (103, Declared 26 None) ∷ (104, Declared 26 None) ∷ (105, Declared 26 None) ∷ (107, Declared 30 None) ∷ (110, Declared 28 None) ∷ [])

string_added_to_object : broken operands operands_table 36 ≡ 24 ∷ []
string_added_to_object = refl

int_added_to_long : broken operands operands_table 40 ≡ []
int_added_to_long = refl

sum_with_boolean : broken operands operands_table 44 ≡ 24 ∷ []
sum_with_boolean = refl

comparison_kept : broken operands operands_table 48 ≡ []
comparison_kept = refl

variable_stepped : broken operands operands_table 53 ≡ []
variable_stepped = refl

literal_stepped : broken operands operands_table 56 ≡ 26 ∷ []
literal_stepped = refl

parentheses_stepped : broken operands operands_table 59 ≡ []
parentheses_stepped = refl

narrowing_cast : broken operands operands_table 62 ≡ []
narrowing_cast = refl

unrelated_cast : broken operands operands_table 67 ≡ 27 ∷ []
unrelated_cast = refl

object_tested : broken operands operands_table 72 ≡ []
object_tested = refl

int_tested : broken operands operands_table 77 ≡ 27 ∷ []
int_tested = refl

object_or_int : broken operands operands_table 82 ≡ 24 ∷ []
object_or_int = refl

unrelated_branches : broken operands operands_table 87 ≡ 35 ∷ []
unrelated_branches = refl

related_branches : broken operands operands_table 92 ≡ []
related_branches = refl

int_or_long : broken operands operands_table 97 ≡ []
int_or_long = refl

int_as_condition : broken operands operands_table 103 ≡ 28 ∷ []
int_as_condition = refl

boolean_as_condition : broken operands operands_table 107 ≡ []
boolean_as_condition = refl

long_as_condition : broken operands operands_table 110 ≡ 28 ∷ []
long_as_condition = refl

-- class A { byte b = 100, c = 200; int[] a = { 1, 2L }, d = { { 1 } }; void m() { } void n() { m(); for (m(); m(); m()) ; int i = m(); b = i; a[i] = a[2L]; i[0]; new int[i]; new int[2L]; } }
abbrev places : Rows
places = program ((d.Class [] (codes "A") None [] (members ((field [] (of_type primitive.Byte 0) (codes "b") (Some (x.Value (x.Lit (token.Int (pos 100)))))) ∷ (field [] (of_type primitive.Byte 0) (codes "c") (Some (x.Value (x.Lit (token.Int (pos 200)))))) ∷ (field [] (of_type primitive.Int 1) (codes "a") (Some (list_of ((x.Value (x.Lit (token.Int (pos 1)))) ∷ (x.Value (x.Lit (token.Long (pos 2)))) ∷ [])))) ∷ (field [] (of_type primitive.Int 1) (codes "d") (Some (list_of ((list_of ((x.Value (x.Lit (token.Int (pos 1)))) ∷ [])) ∷ [])))) ∷ (d.Method [] outcome.Void (codes "m") [] [] (Some (block []))) ∷ (d.Method [] outcome.Void (codes "n") [] [] (Some (block ((s.Eval (x.Call x.no_receiver (codes "m") (exprs []))) ∷ (s.For (Some (s.Exprs (exprs ((x.Call x.no_receiver (codes "m") (exprs [])) ∷ [])))) (Some (x.Call x.no_receiver (codes "m") (exprs []))) (exprs ((x.Call x.no_receiver (codes "m") (exprs [])) ∷ [])) s.Skip) ∷ (local (of_type primitive.Int 0) (codes "i") (Some (x.Value (x.Call x.no_receiver (codes "m") (exprs []))))) ∷ (s.Eval (x.Assign (x.NameExpr (name (codes "b"))) y.Assign (x.NameExpr (name (codes "i"))))) ∷ (s.Eval (x.Assign (x.NameExpr (name (codes "i"))) y.Assign (x.NameExpr (name (codes "b"))))) ∷ (s.Eval (x.Index (x.NameExpr (name (codes "a"))) (x.NameExpr (name (codes "i"))))) ∷ (s.Eval (x.Index (x.NameExpr (name (codes "a"))) (x.Lit (token.Long (pos 2))))) ∷ (s.Eval (x.Index (x.NameExpr (name (codes "i"))) (x.Lit (token.Int (pos 0))))) ∷ (s.Eval (x.NewArray (base.Primitive primitive.Int) (exprs ((x.NameExpr (name (codes "b"))) ∷ [])) 0 x.no_list)) ∷ (s.Eval (x.NewArray (base.Primitive primitive.Int) (exprs ((x.Lit (token.Long (pos 2))) ∷ [])) 0 x.no_list)) ∷ [])))) ∷ []))) ∷ [])

abbrev places_table : Table
places_table = table_of ((21, Declared 7 None) ∷ (52, Declared 47 (Some 18)) ∷ (55, Declared 47 (Some 18)) ∷ (56, Declared 47 (Some 18)) ∷ (57, Declared 47 (Some 18)) ∷ (63, Declared 47 (Some 18)) ∷ (66, Declared 24 (Some 18)) ∷ (67, Declared 61 None) ∷ (70, Declared 61 None) ∷ (71, Declared 24 (Some 18)) ∷ (74, Declared 34 (Some 18)) ∷ (75, Declared 61 None) ∷ (78, Declared 34 (Some 18)) ∷ (82, Declared 61 None) ∷ (86, Declared 24 (Some 18)) ∷ [])

constant_fits : broken places places_table 26 ≡ []
constant_fits = refl

constant_does_not_fit : broken places places_table 31 ≡ 25 ∷ []
constant_does_not_fit = refl

item_fits : broken places places_table 37 ≡ []
item_fits = refl

item_does_not_fit : broken places places_table 39 ≡ 25 ∷ []
item_does_not_fit = refl

list_for_array : broken places places_table 35 ≡ []
list_for_array = refl

list_for_int : broken places places_table 44 ≡ 33 ∷ []
list_for_int = refl

void_alone : broken places places_table 52 ≡ []
void_alone = refl

void_before_loop : broken places places_table 55 ≡ []
void_before_loop = refl

void_as_condition : broken places places_table 56 ≡ 28 ∷ 30 ∷ []
void_as_condition = refl

void_as_update : broken places places_table 57 ≡ []
void_as_update = refl

void_as_value : broken places places_table 63 ≡ 25 ∷ 30 ∷ []
void_as_value = refl

narrower_place : broken places places_table 67 ≡ 25 ∷ []
narrower_place = refl

wider_place : broken places places_table 71 ≡ []
wider_place = refl

array_indexed : broken places places_table 74 ≡ []
array_indexed = refl

int_as_index : broken places places_table 75 ≡ []
int_as_index = refl

long_as_index : broken places places_table 79 ≡ 33 ∷ []
long_as_index = refl

int_indexed : broken places places_table 82 ≡ 33 ∷ []
int_indexed = refl

byte_as_length : broken places places_table 86 ≡ []
byte_as_length = refl

long_as_length : broken places places_table 89 ≡ 33 ∷ []
long_as_length = refl

-- class A { void f(int i, long l, boolean b) { switch (i) { case 97: case 98: case 'a': case i: default: break; } switch (l) { } while (b) { continue; break; } continue; break; w: while (b) continue w; v: if (b) continue v; throw this; throw null; try { } catch (Throwable e) { } try { } catch (A e) { } } }
abbrev statements : Rows
statements = program ((d.Class [] (codes "A") None [] (members ((d.Method [] outcome.Void (codes "f") ((parameter (of_type primitive.Int 0) (codes "i")) ∷ (parameter (of_type primitive.Long 0) (codes "l")) ∷ (parameter (of_type primitive.Boolean 0) (codes "b")) ∷ []) [] (Some (block ((s.Switch (x.NameExpr (name (codes "i"))) (groups ((group ((s.Case (x.Lit (token.Int (pos 97)))) ∷ (s.Case (x.Lit (token.Int (pos 98)))) ∷ (s.Case (x.Lit (token.Char 97))) ∷ (s.Case (x.NameExpr (name (codes "i")))) ∷ s.Default ∷ []) ((s.Break None) ∷ [])) ∷ []))) ∷ (s.Switch (x.NameExpr (name (codes "l"))) (groups [])) ∷ (s.While (x.NameExpr (name (codes "b"))) (s.Nest (block ((s.Continue None) ∷ [])))) ∷ (s.Continue None) ∷ (s.Break None) ∷ (s.Labeled (codes "w") (s.While (x.NameExpr (name (codes "b"))) (s.Continue (Some (codes "w"))))) ∷ (s.Labeled (codes "v") (s.If (x.NameExpr (name (codes "b"))) (s.Continue (Some (codes "v"))) s.no_stmt)) ∷ (s.Throw (x.This None)) ∷ (s.Throw (x.Lit (token.Word word.Null))) ∷ (catching (block []) (of_class (codes "Throwable") 0) (codes "e") (block [])) ∷ (catching (block []) (of_class (codes "A") 0) (codes "e") (block [])) ∷ [])))) ∷ []))) ∷ [])

abbrev statements_table : Table
statements_table = table_of ((21, Declared 7 None) ∷ (31, Declared 23 None) ∷ (40, Declared 23 None) ∷ (44, Declared 25 None) ∷ (46, Declared 27 None) ∷ (54, Declared 27 None) ∷ (55, Declared 52 None) ∷ (58, Declared 27 None) ∷ (59, Declared 56 None) ∷ (69, Declared 13 None) ∷ (76, Declared 18 None) ∷ [])

case_kept : broken statements statements_table 35 ≡ []
case_kept = refl

case_repeated : broken statements statements_table 37 ≡ 29 ∷ []
case_repeated = refl

case_not_constant : broken statements statements_table 39 ≡ 29 ∷ []
case_not_constant = refl

default_kept : broken statements statements_table 41 ≡ []
default_kept = refl

break_in_switch : broken statements statements_table 42 ≡ []
break_in_switch = refl

switch_on_int : broken statements statements_table 30 ≡ []
switch_on_int = refl

switch_on_long : broken statements statements_table 43 ≡ 29 ∷ []
switch_on_long = refl

continue_in_loop : broken statements statements_table 49 ≡ []
continue_in_loop = refl

continue_in_none : broken statements statements_table 50 ≡ 34 ∷ []
continue_in_none = refl

break_in_none : broken statements statements_table 51 ≡ 34 ∷ []
break_in_none = refl

continue_to_loop : broken statements statements_table 55 ≡ []
continue_to_loop = refl

continue_to_if : broken statements statements_table 59 ≡ 34 ∷ []
continue_to_if = refl

other_class_thrown : broken statements statements_table 60 ≡ 23 ∷ []
other_class_thrown = refl

null_thrown : broken statements statements_table 62 ≡ []
null_thrown = refl

throwable_caught : broken statements statements_table 67 ≡ []
throwable_caught = refl

other_class_caught : broken statements statements_table 74 ≡ 23 ∷ []
other_class_caught = refl

-- abstract class A { abstract int m(); int f() { return 1; } int g() { return; } void h() { return 1; } void k() { return; } byte l() { return 300; } { return; } Object n() { return new A(); } void t() throws A { } void u() throws Throwable { } } class B extends A { int m() { return super.m() + super.f(); } Object o() { return new B(); } }
abbrev returning : Rows
returning = program ((d.Class (modifier.Abstract ∷ []) (codes "A") None [] (members ((d.Method (modifier.Abstract ∷ []) (outcome.Of (of_type primitive.Int 0)) (codes "m") [] [] None) ∷ (d.Method [] (outcome.Of (of_type primitive.Int 0)) (codes "f") [] [] (Some (block ((s.Return (Some (x.Lit (token.Int (pos 1))))) ∷ [])))) ∷ (d.Method [] (outcome.Of (of_type primitive.Int 0)) (codes "g") [] [] (Some (block ((s.Return None) ∷ [])))) ∷ (d.Method [] outcome.Void (codes "h") [] [] (Some (block ((s.Return (Some (x.Lit (token.Int (pos 1))))) ∷ [])))) ∷ (d.Method [] outcome.Void (codes "k") [] [] (Some (block ((s.Return None) ∷ [])))) ∷ (d.Method [] (outcome.Of (of_type primitive.Byte 0)) (codes "l") [] [] (Some (block ((s.Return (Some (x.Lit (token.Int (pos 300))))) ∷ [])))) ∷ (d.Init false (block ((s.Return None) ∷ []))) ∷ (d.Method [] (outcome.Of (of_class (codes "Object") 0)) (codes "n") [] [] (Some (block ((s.Return (Some (x.New (name (codes "A")) (exprs [])))) ∷ [])))) ∷ []))) ∷ (d.Class [] (codes "B") (Some (name (codes "A"))) [] (members ((d.Method [] (outcome.Of (of_type primitive.Int 0)) (codes "m") [] [] (Some (block ((s.Return (Some (x.Binary (x.Call (x.a_receiver x.Super) (codes "m") x.no_exprs) y.Plus (x.Call (x.a_receiver x.Super) (codes "f") x.no_exprs)))) ∷ [])))) ∷ (d.Method [] (outcome.Of (of_class (codes "Object") 0)) (codes "o") [] [] (Some (block ((s.Return (Some (x.New (name (codes "B")) (exprs [])))) ∷ [])))) ∷ (d.Method [] outcome.Void (codes "t") [] ((name (codes "A")) ∷ []) (Some (block []))) ∷ []))) ∷ [])

abbrev returning_table : Table
returning_table = table_of ((21, Declared 7 None) ∷ (50, Declared 5 None) ∷ (53, Declared 20 None) ∷ (54, Declared 18 None) ∷ (56, Declared 18 None) ∷ (59, Declared 20 None) ∷ (65, Declared 22 None) ∷ (66, Declared 24 None) ∷ (69, Declared 5 None) ∷ (72, Declared 58 None) ∷ (73, Declared 55 None) ∷ (75, Declared 18 None) ∷ [])

pub result_kept : broken returning returning_table 27 ≡ []
result_kept = refl

result_missing : broken returning returning_table 32 ≡ 31 ∷ []
result_missing = refl

result_of_void : broken returning returning_table 35 ≡ 31 ∷ []
result_of_void = refl

return_kept : broken returning returning_table 39 ≡ []
return_kept = refl

result_does_not_fit : broken returning returning_table 43 ≡ 31 ∷ []
result_does_not_fit = refl

return_in_initializer : broken returning returning_table 47 ≡ 31 ∷ []
return_in_initializer = refl

abstract_created : broken returning returning_table 53 ≡ 32 ∷ []
abstract_created = refl

abstract_called : broken returning returning_table 65 ≡ 32 ∷ []
abstract_called = refl

concrete_called : broken returning returning_table 66 ≡ []
concrete_called = refl

concrete_created : broken returning returning_table 72 ≡ []
concrete_created = refl

other_class_declared : broken returning returning_table 75 ≡ 23 ∷ []
other_class_declared = refl
