-- The programs with a cycle of headers as trees.
use Rattle.std.specs.Prelude.{List, [], ◌∷◌, Some, None, codes}
use Rattle.jr_base.specs.declared.text.Text.{Text}
use Rattle.jr_tree.specs.declared.tree.Modifier.TheVariants as modifier
use Rattle.jr_tree.specs.declared.tree.Import.TheVariants as import
use Rattle.jr_tree.specs.declared.tree.Name.{Name}
use Rattle.jr_tree.specs.Mirror.Decls as d

-- a name with these identifiers
abbrev named : List Text → Name
named parts = record { parts = parts }

-- a class without members, which names this superclass
abbrev class : List Text → Text → d.TypeDecl
class above name = d.Class [] name (Some (named above)) [] d.no_members

-- a static nested class without a superclass or members
abbrev nested : Text → d.Members
nested name = d.more_members (d.Nested (d.Class (modifier.Static ∷ []) name None [] d.no_members)) d.no_members

-- the package java.lang, of which these programs need Object alone
abbrev pub lang : d.CompilationUnit
lang = d.UnitOf (Some (record { name = named (codes "java" ∷ codes "lang" ∷ []) })) [] (d.Class (modifier.Public ∷ []) (codes "Object") None [] d.no_members ∷ [])

-- 53
-- class A extends B { } class B extends A { }
abbrev pub two_classes_extend_each_other : d.CompilationUnit
two_classes_extend_each_other = d.UnitOf None [] (class (codes "B" ∷ []) (codes "A") ∷ class (codes "A" ∷ []) (codes "B") ∷ [])

-- 54
-- p/C.java: package p; public class C extends q.A { }
-- q/A.java: package q; import p.C.*; public class A extends N { }
abbrev pub a_cycle_through_an_import_c : d.CompilationUnit
a_cycle_through_an_import_c = d.UnitOf (Some (record { name = named (codes "p" ∷ []) })) []
    (d.Class (modifier.Public ∷ []) (codes "C") (Some (named (codes "q" ∷ codes "A" ∷ []))) [] d.no_members ∷ [])

abbrev pub a_cycle_through_an_import_a : d.CompilationUnit
a_cycle_through_an_import_a = d.UnitOf (Some (record { name = named (codes "q" ∷ []) })) (import.OnDemand (named (codes "p" ∷ codes "C" ∷ [])) ∷ [])
    (d.Class (modifier.Public ∷ []) (codes "A") (Some (named (codes "N" ∷ []))) [] d.no_members ∷ [])

-- 55
-- class A extends A.B { static class B { } }
abbrev pub a_class_extends_its_member : d.CompilationUnit
a_class_extends_its_member = d.UnitOf None [] (d.Class [] (codes "A") (Some (named (codes "A" ∷ codes "B" ∷ []))) [] (nested (codes "B")) ∷ [])

-- 62
-- class A extends B.C { } class B extends A { static class C { } }
abbrev pub a_cycle_through_a_qualifier : d.CompilationUnit
a_cycle_through_a_qualifier = d.UnitOf None []
    (class (codes "B" ∷ codes "C" ∷ []) (codes "A") ∷ d.Class [] (codes "B") (Some (named (codes "A" ∷ []))) [] (nested (codes "C")) ∷ [])

-- 67
-- class A extends X implements Y { } class X extends X { } interface Y extends A.I { }
abbrev pub a_cycle_through_a_later_name : d.CompilationUnit
a_cycle_through_a_later_name = d.UnitOf None []
    (d.Class [] (codes "A") (Some (named (codes "X" ∷ []))) (named (codes "Y" ∷ []) ∷ []) d.no_members ∷ class (codes "X" ∷ []) (codes "X") ∷
    d.Interface [] (codes "Y") (named (codes "A" ∷ codes "I" ∷ []) ∷ []) d.no_members ∷ [])
