-- What the tests of the rules on names find in small programs, each behind a package java.lang with Object.
use Rattle.std.proofs.Common.{◌≡◌, refl, [], ◌∷◌, Some, None, codes}
use Rattle.jr_tree.specs.declared.tree.Modifier.TheVariants as modifier
use Rattle.jr_tree.specs.declared.tree.ResultType.TheVariants as outcome
use Rattle.jr_tree.specs.declared.tree.Import.TheVariants as import
use Rattle.jr_tree.specs.Mirror.Exprs as x
use Rattle.jr_tree.specs.Mirror.Stmts as s
use Rattle.jr_tree.specs.Mirror.Decls as d
use Rattle.jr_tree.specs.Rows.{Rows, name}
use Rattle.jr_defs.specs.declared.referent.Referent.TheVariants.{Declared, Package}
use Rattle.jr_defs.specs.Referents.{Table}
use Rattle.jr_name_rules.proofs.Trees.{named, int, of_class, parameter, block, local, field, members, program, table_of, broken}

-- package p; class A { int x; int x; int y; void m(int a) { int a; int b; int b; l: l: ; } void m(int c) { } void m(int c, int c) { } A(int a) { } A(int b) { }
-- class A { } class B { } interface B { } } package p; class A { } package p.A; class Z { }
abbrev declarations : Rows
declarations = program ((d.UnitOf (Some (record { name = (named ((codes "p") ∷ [])) })) ([]) ((d.Class [] (codes "A") None ([]) (members ((field [] int (codes "x")) ∷ (field [] int (codes "x")) ∷ (field [] int (codes "y")) ∷ (d.Method [] outcome.Void (codes "m") ((parameter int (codes "a")) ∷ []) [] (Some (block ((local int (codes "a")) ∷ (local int (codes "b")) ∷ (local int (codes "b")) ∷ (s.Labeled (codes "l") (s.Labeled (codes "l") (s.Skip))) ∷ [])))) ∷ (d.Method [] outcome.Void (codes "m") ((parameter int (codes "c")) ∷ []) [] (Some (block ([])))) ∷ (d.Method [] outcome.Void (codes "m") ((parameter int (codes "c")) ∷ (parameter int (codes "c")) ∷ []) [] (Some (block ([])))) ∷ (d.Constructor [] (codes "A") ((parameter int (codes "a")) ∷ []) [] (block ([]))) ∷ (d.Constructor [] (codes "A") ((parameter int (codes "b")) ∷ []) [] (block ([]))) ∷ (d.Nested (d.Class [] (codes "A") None ([]) (members ([])))) ∷ (d.Nested (d.Class [] (codes "B") None ([]) (members ([])))) ∷ (d.Nested (d.Interface [] (codes "B") ([]) (members ([])))) ∷ []))) ∷ [])) ∷ (d.UnitOf (Some (record { name = (named ((codes "p") ∷ [])) })) ([]) ((d.Class [] (codes "A") None ([]) (members ([]))) ∷ [])) ∷ (d.UnitOf (Some (record { name = (named ((codes "p") ∷ (codes "A") ∷ [])) })) ([]) ((d.Class [] (codes "Z") None ([]) (members ([]))) ∷ [])) ∷ [])

abbrev declarations_table : Table
declarations_table = table_of ([])

pub package_named_as_type : broken declarations declarations_table 12 ≡ 2 ∷ []
package_named_as_type = refl

pub first_field : broken declarations declarations_table 16 ≡ []
first_field = refl

pub second_field : broken declarations declarations_table 19 ≡ 3 ∷ []
second_field = refl

pub other_field : broken declarations declarations_table 22 ≡ []
other_field = refl

pub first_method : broken declarations declarations_table 23 ≡ []
first_method = refl

pub local_named_as_parameter : broken declarations declarations_table 29 ≡ 6 ∷ []
local_named_as_parameter = refl

pub first_local : broken declarations declarations_table 32 ≡ []
first_local = refl

pub second_local : broken declarations declarations_table 35 ≡ 6 ∷ []
second_local = refl

pub first_label : broken declarations declarations_table 36 ≡ []
first_label = refl

pub label_in_label : broken declarations declarations_table 37 ≡ 7 ∷ []
label_in_label = refl

pub second_method : broken declarations declarations_table 39 ≡ 4 ∷ []
second_method = refl

pub other_method : broken declarations declarations_table 43 ≡ []
other_method = refl

pub second_parameter : broken declarations declarations_table 46 ≡ 6 ∷ []
second_parameter = refl

pub first_constructor : broken declarations declarations_table 49 ≡ []
first_constructor = refl

pub second_constructor : broken declarations declarations_table 54 ≡ 5 ∷ []
second_constructor = refl

pub type_in_its_name : broken declarations declarations_table 59 ≡ 2 ∷ []
type_in_its_name = refl

pub first_type : broken declarations declarations_table 63 ≡ []
first_type = refl

pub second_type : broken declarations declarations_table 67 ≡ 2 ∷ []
second_type = refl

pub second_top_type : broken declarations declarations_table 72 ≡ 2 ∷ []
second_top_type = refl

pub type_of_package : broken declarations declarations_table 80 ≡ []
type_of_package = refl

-- package p; public class C { public static class S { } public class I { } private int x; protected int y; } public class D extends C { } public final class F { }
-- public interface G { } package r; public class C { } package q; import p.C; import r.C; import p.D.S; import p.F; import p.G; import static p.C.z; import static p.C.S;
-- class S extends F implements G, G { } class H extends G implements C { int m(C c) { return c.x; } }
-- class K extends C { int f(C c) { return c.y; } int g(K k) { return k.y; } } class L extends C.I { }
abbrev imports : Rows
imports = program ((d.UnitOf (Some (record { name = (named ((codes "p") ∷ [])) })) ([]) ((d.Class (modifier.Public ∷ []) (codes "C") None ([]) (members ((d.Nested (d.Class (modifier.Public ∷ modifier.Static ∷ []) (codes "S") None ([]) (members ([])))) ∷ (d.Nested (d.Class (modifier.Public ∷ []) (codes "I") None ([]) (members ([])))) ∷ (field (modifier.Private ∷ []) int (codes "x")) ∷ (field (modifier.Protected ∷ []) int (codes "y")) ∷ []))) ∷ (d.Class (modifier.Public ∷ []) (codes "D") (Some (named ((codes "C") ∷ []))) ([]) (members ([]))) ∷ (d.Class (modifier.Public ∷ modifier.Final ∷ []) (codes "F") None ([]) (members ([]))) ∷ (d.Interface (modifier.Public ∷ []) (codes "G") ([]) (members ([]))) ∷ [])) ∷ (d.UnitOf (Some (record { name = (named ((codes "r") ∷ [])) })) ([]) ((d.Class (modifier.Public ∷ []) (codes "C") None ([]) (members ([]))) ∷ [])) ∷ (d.UnitOf (Some (record { name = (named ((codes "q") ∷ [])) })) ((import.Single (named ((codes "p") ∷ (codes "C") ∷ []))) ∷ (import.Single (named ((codes "r") ∷ (codes "C") ∷ []))) ∷ (import.Single (named ((codes "p") ∷ (codes "D") ∷ (codes "S") ∷ []))) ∷ (import.Single (named ((codes "p") ∷ (codes "F") ∷ []))) ∷ (import.Single (named ((codes "p") ∷ (codes "G") ∷ []))) ∷ (import.StaticSingle (named ((codes "p") ∷ (codes "C") ∷ [])) (codes "z")) ∷ (import.StaticSingle (named ((codes "p") ∷ (codes "C") ∷ [])) (codes "S")) ∷ []) ((d.Class [] (codes "S") (Some (named ((codes "F") ∷ []))) ((named ((codes "G") ∷ [])) ∷ (named ((codes "G") ∷ [])) ∷ []) (members ([]))) ∷ (d.Class [] (codes "H") (Some (named ((codes "G") ∷ []))) ((named ((codes "C") ∷ [])) ∷ []) (members ((d.Method [] (outcome.Of int) (codes "m") ((parameter (of_class (named ((codes "C") ∷ []))) (codes "c")) ∷ []) [] (Some (block ((s.Return (Some (x.NameExpr (named ((codes "c") ∷ (codes "x") ∷ []))))) ∷ [])))) ∷ []))) ∷ (d.Class [] (codes "K") (Some (named ((codes "C") ∷ []))) ([]) (members ((d.Method [] (outcome.Of int) (codes "f") ((parameter (of_class (named ((codes "C") ∷ []))) (codes "c")) ∷ []) [] (Some (block ((s.Return (Some (x.NameExpr (named ((codes "c") ∷ (codes "y") ∷ []))))) ∷ [])))) ∷ (d.Method [] (outcome.Of int) (codes "g") ((parameter (of_class (named ((codes "K") ∷ []))) (codes "k")) ∷ []) [] (Some (block ((s.Return (Some (x.NameExpr (named ((codes "k") ∷ (codes "y") ∷ []))))) ∷ [])))) ∷ []))) ∷ (d.Class [] (codes "L") (Some (named ((codes "C") ∷ (codes "I") ∷ []))) ([]) (members ([]))) ∷ [])) ∷ [])

abbrev imports_table : Table
imports_table = table_of ((31, Declared 12 None) ∷ (52, Declared 12 None) ∷ (53, Package) ∷ (55, Declared 44 None) ∷ (56, Package) ∷ (58, Declared 16 None) ∷ (59, Declared 30 None) ∷ (60, Package) ∷ (62, Declared 35 None) ∷ (63, Package) ∷ (65, Declared 39 None) ∷ (66, Package) ∷ (68, Declared 12 None) ∷ (69, Package) ∷ (71, Declared 12 None) ∷ (72, Package) ∷ (74, Declared 35 None) ∷ (75, Declared 39 None) ∷ (76, Declared 39 None) ∷ (81, Declared 39 None) ∷ (82, Declared 12 None) ∷ (90, Declared 12 None) ∷ (93, Declared 26 None) ∷ (94, Declared 88 None) ∷ (96, Declared 12 None) ∷ (104, Declared 12 None) ∷ (107, Declared 29 None) ∷ (108, Declared 102 None) ∷ (113, Declared 95 None) ∷ (116, Declared 29 None) ∷ (117, Declared 111 None) ∷ (119, Declared 20 None) ∷ (120, Declared 12 None) ∷ [])

pub first_import : broken imports imports_table 52 ≡ []
first_import = refl

pub second_import : broken imports imports_table 55 ≡ 8 ∷ []
second_import = refl

pub import_not_canonical : broken imports imports_table 58 ≡ 8 ∷ 9 ∷ []
import_not_canonical = refl

pub only_import : broken imports imports_table 62 ≡ []
only_import = refl

pub import_of_nothing : broken imports imports_table 67 ≡ 47 ∷ []
import_of_nothing = refl

pub import_beside_type : broken imports imports_table 70 ≡ 47 ∷ []
import_beside_type = refl

pub final_superclass : broken imports imports_table 74 ≡ 13 ∷ []
final_superclass = refl

pub first_interface : broken imports imports_table 75 ≡ []
first_interface = refl

pub second_interface : broken imports imports_table 76 ≡ 13 ∷ []
second_interface = refl

pub interface_as_superclass : broken imports imports_table 81 ≡ 13 ∷ []
interface_as_superclass = refl

pub class_as_interface : broken imports imports_table 82 ≡ 13 ∷ []
class_as_interface = refl

pub private_field : broken imports imports_table 93 ≡ 10 ∷ []
private_field = refl

pub parameter_used : broken imports imports_table 94 ≡ []
parameter_used = refl

pub protected_of_other : broken imports imports_table 107 ≡ 10 ∷ []
protected_of_other = refl

pub protected_of_own : broken imports imports_table 116 ≡ []
protected_of_own = refl

pub inner_superclass : broken imports imports_table 119 ≡ 13 ∷ []
inner_superclass = refl

-- class A { private static class N { int x; } N n; } class B { int f(A a) { return a.n.x; } }
abbrev hidden : Rows
hidden = program (d.UnitOf None [] (
    d.Class [] (codes "A") None [] (members (d.Nested (d.Class (modifier.Private ∷ modifier.Static ∷ []) (codes "N") None [] (members (field [] int (codes "x") ∷ [])))
    ∷ field [] (of_class (named (codes "N" ∷ []))) (codes "n") ∷ []))
    ∷ d.Class [] (codes "B") None [] (members (
    d.Method [] (outcome.Of int) (codes "f") (parameter (of_class (named (codes "A" ∷ []))) (codes "a") ∷ []) [] (Some (block (s.Return (Some (x.NameExpr (named (codes "a" ∷ codes "n" ∷ codes "x" ∷ [])))) ∷ []))) ∷ []))
    ∷ []) ∷ [])

abbrev hidden_table : Table
hidden_table = table_of ((23, Declared 14 None) ∷ (33, Declared 10 None) ∷ (36, Declared 20 None) ∷ (37, Declared 24 None) ∷ (38, Declared 31 None) ∷ [])

field_of_hidden : name hidden 20 ≡ codes "x"
field_of_hidden = refl

pub field_of_hidden_type : broken hidden hidden_table 36 ≡ 10 ∷ []
field_of_hidden_type = refl

pub value_of_hidden_type : broken hidden hidden_table 37 ≡ []
value_of_hidden_type = refl
