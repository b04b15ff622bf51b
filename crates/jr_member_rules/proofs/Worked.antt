-- What the test of the rules on members finds in small programs, each behind a package java.lang with Object, Throwable and Exception.
use Rattle.std.proofs.Common.{◌≡◌, refl, true, false, [], ◌∷◌, Option, Some, None, codes, pos}
use Rattle.jr_base.specs.declared.kind.Kind.TheVariants as token
use Rattle.jr_tree.specs.declared.tree.Modifier.TheVariants as modifier
use Rattle.jr_tree.specs.declared.tree.ResultType.TheVariants as outcome
use Rattle.jr_tree.specs.declared.tree.Import.TheVariants as import
use Rattle.jr_tree.specs.declared.tree.Name.{Name}
use Rattle.jr_tree.specs.Mirror.Exprs as x
use Rattle.jr_tree.specs.Mirror.Stmts as s
use Rattle.jr_tree.specs.Mirror.Decls as d
use Rattle.jr_base.specs.declared.text.Text.{Text}
use Rattle.jr_tree.specs.Rows.{Rows}
use Rattle.jr_member_rules.specs.Computed.{keeps_members}
use Rattle.jr_member_rules.proofs.Trees.{name, int, empty, method, throwing, field, with_method, program, units, unit_in, table, broken}

abbrev one : Option x.Init
one = Some (x.Value (x.Lit (token.Int (pos 1))))

-- abstract class A { abstract void f(); public void g() { } static void s() { } void i() { } final void z() { } void t() { } void v() throws Exception { } int r() { } }
-- class B extends A { void g() { } void s() { } static void i() { } void z() { } void t() throws Exception { } void v() throws Exception { } void r() { } }
abbrev redefining : Rows
redefining = program (
    d.Class (modifier.Abstract ∷ []) (codes "A") None [] (d.members (
    method (modifier.Abstract ∷ []) outcome.Void (codes "f") None
    ∷ method (modifier.Public ∷ []) outcome.Void (codes "g") empty
    ∷ method (modifier.Static ∷ []) outcome.Void (codes "s") empty
    ∷ method [] outcome.Void (codes "i") empty
    ∷ method (modifier.Final ∷ []) outcome.Void (codes "z") empty
    ∷ method [] outcome.Void (codes "t") empty
    ∷ throwing [] (codes "v") (codes "Exception")
    ∷ method [] (outcome.Of int) (codes "r") empty
    ∷ []))
    ∷ d.Class [] (codes "B") (Some (name (codes "A"))) [] (d.members (
    method [] outcome.Void (codes "g") empty
    ∷ method [] outcome.Void (codes "s") empty
    ∷ method (modifier.Static ∷ []) outcome.Void (codes "i") empty
    ∷ method [] outcome.Void (codes "z") empty
    ∷ throwing [] (codes "t") (codes "Exception")
    ∷ throwing [] (codes "v") (codes "Exception")
    ∷ method [] outcome.Void (codes "r") empty
    ∷ []))
    ∷ [])

redefining_breaks : broken redefining ≡ (codes "B", 14) ∷ (codes "g", 16) ∷ (codes "s", 17) ∷ (codes "i", 17) ∷ (codes "z", 18) ∷ (codes "t", 19) ∷ (codes "r", 15) ∷ []
redefining_breaks = refl

-- class A { static native int r(); static final void z() { } static void t() { } static void v() throws Exception { } }
-- class B extends A { static void r() { } static void z() { } static void t() throws Exception { } static void v() { } }
abbrev hiding : Rows
hiding = program (
    d.Class [] (codes "A") None [] (d.members (
    method (modifier.Static ∷ modifier.Native ∷ []) (outcome.Of int) (codes "r") None
    ∷ method (modifier.Static ∷ modifier.Final ∷ []) outcome.Void (codes "z") empty
    ∷ method (modifier.Static ∷ []) outcome.Void (codes "t") empty
    ∷ throwing (modifier.Static ∷ []) (codes "v") (codes "Exception")
    ∷ []))
    ∷ d.Class [] (codes "B") (Some (name (codes "A"))) [] (d.members (
    method (modifier.Static ∷ []) outcome.Void (codes "r") empty
    ∷ method (modifier.Static ∷ []) outcome.Void (codes "z") empty
    ∷ throwing (modifier.Static ∷ []) (codes "t") (codes "Exception")
    ∷ method (modifier.Static ∷ []) outcome.Void (codes "v") empty
    ∷ []))
    ∷ [])

hiding_breaks : broken hiding ≡ (codes "r", 15) ∷ (codes "z", 18) ∷ (codes "t", 19) ∷ []
hiding_breaks = refl

-- an abstract class with a superclass and an interface, and nothing in it
abbrev between : Text → Text → Text → d.TypeDecl
between part above face = d.Class (modifier.Abstract ∷ []) part (Some (name above)) (name face ∷ []) d.no_members

-- interface I { void f(); } interface J { void s(); } interface K { void t(); }
-- class A { protected void f() { } public static void s() { } public void t() throws Exception { } }
-- abstract class B extends A implements I { } abstract class C extends A implements J { } abstract class D extends A implements K { }
abbrev inheriting : Rows
inheriting = program (
    with_method (codes "I") (method [] outcome.Void (codes "f") None)
    ∷ with_method (codes "J") (method [] outcome.Void (codes "s") None)
    ∷ with_method (codes "K") (method [] outcome.Void (codes "t") None)
    ∷ d.Class [] (codes "A") None [] (d.members (
    method (modifier.Protected ∷ []) outcome.Void (codes "f") empty
    ∷ method (modifier.Public ∷ modifier.Static ∷ []) outcome.Void (codes "s") empty
    ∷ throwing (modifier.Public ∷ []) (codes "t") (codes "Exception")
    ∷ []))
    ∷ between (codes "B") (codes "A") (codes "I")
    ∷ between (codes "C") (codes "A") (codes "J")
    ∷ between (codes "D") (codes "A") (codes "K")
    ∷ [])

inheriting_breaks : broken inheriting ≡ (codes "B", 16) ∷ (codes "C", 17) ∷ (codes "D", 19) ∷ []
inheriting_breaks = refl

-- interface L { void t() throws Exception; } class A { public void t() throws Exception { } } class E extends A implements L { }
-- interface I { void f(); } abstract class F { protected abstract void f(); } abstract class G extends F implements I { }
abbrev agreeing : Rows
agreeing = program (
    with_method (codes "L") (d.Method [] outcome.Void (codes "t") [] (name (codes "Exception") ∷ []) None)
    ∷ d.Class [] (codes "A") None [] (d.members (throwing (modifier.Public ∷ []) (codes "t") (codes "Exception") ∷ []))
    ∷ d.Class [] (codes "E") (Some (name (codes "A"))) (name (codes "L") ∷ []) d.no_members
    ∷ with_method (codes "I") (method [] outcome.Void (codes "f") None)
    ∷ d.Class (modifier.Abstract ∷ []) (codes "F") None [] (d.members (method (modifier.Protected ∷ modifier.Abstract ∷ []) outcome.Void (codes "f") None ∷ []))
    ∷ between (codes "G") (codes "F") (codes "I")
    ∷ [])

agreeing_keeps : keeps_members agreeing (table agreeing) ≡ true
agreeing_keeps = refl

-- a type of a package
abbrev in_package : Text → Text → Name
in_package path part = record { parts = path ∷ (part ∷ []) }

-- package a; public abstract class A { abstract void f(); }
-- package a; public class D extends A { void f() { } }
-- package b; import a.A; import a.D; class B extends A { void f() { } } class C extends D { }
-- package b; import a.A; public abstract class M extends A { void f() { } }
-- package a; import b.M; class E extends M { } class F extends M { void f() { } }
abbrev leaving : Rows
leaving = units (
    unit_in (codes "a") [] (d.Class (modifier.Public ∷ modifier.Abstract ∷ []) (codes "A") None [] (d.members (method (modifier.Abstract ∷ []) outcome.Void (codes "f") None ∷ [])) ∷ [])
    ∷ unit_in (codes "a") [] (d.Class (modifier.Public ∷ []) (codes "D") (Some (name (codes "A"))) [] (d.members (method [] outcome.Void (codes "f") empty ∷ [])) ∷ [])
    ∷ unit_in (codes "b") (import.Single (in_package (codes "a") (codes "A")) ∷ import.Single (in_package (codes "a") (codes "D")) ∷ []) (
    d.Class [] (codes "B") (Some (name (codes "A"))) [] (d.members (method [] outcome.Void (codes "f") empty ∷ []))
    ∷ d.Class [] (codes "C") (Some (name (codes "D"))) [] d.no_members
    ∷ [])
    ∷ unit_in (codes "b") (import.Single (in_package (codes "a") (codes "A")) ∷ []) (
    d.Class (modifier.Public ∷ modifier.Abstract ∷ []) (codes "M") (Some (name (codes "A"))) [] (d.members (method [] outcome.Void (codes "f") empty ∷ []))
    ∷ [])
    ∷ unit_in (codes "a") (import.Single (in_package (codes "b") (codes "M")) ∷ []) (
    d.Class [] (codes "E") (Some (name (codes "M"))) [] d.no_members
    ∷ d.Class [] (codes "F") (Some (name (codes "M"))) [] (d.members (method [] outcome.Void (codes "f") empty ∷ []))
    ∷ [])
    ∷ [])

leaving_breaks : broken leaving ≡ (codes "B", 14) ∷ (codes "E", 14) ∷ []
leaving_breaks = refl

-- package a; public class A { void f() { } }
-- package b; import a.A; public class B extends A { private void f() { } }
-- package a; import b.B; class C extends B { static void f() { } }
abbrev crossing : Rows
crossing = units (
    unit_in (codes "a") [] (d.Class (modifier.Public ∷ []) (codes "A") None [] (d.members (method [] outcome.Void (codes "f") empty ∷ [])) ∷ [])
    ∷ unit_in (codes "b") (import.Single (in_package (codes "a") (codes "A")) ∷ []) (
    d.Class (modifier.Public ∷ []) (codes "B") (Some (name (codes "A"))) [] (d.members (method (modifier.Private ∷ []) outcome.Void (codes "f") empty ∷ []))
    ∷ [])
    ∷ unit_in (codes "a") (import.Single (in_package (codes "b") (codes "B")) ∷ []) (
    d.Class [] (codes "C") (Some (name (codes "B"))) [] (d.members (method (modifier.Static ∷ []) outcome.Void (codes "f") empty ∷ []))
    ∷ [])
    ∷ [])

crossing_breaks : broken crossing ≡ (codes "f", 17) ∷ []
crossing_breaks = refl

-- interface I { int h(); int a; { } } interface J { void h(); } class C { public int h() { } } class D extends C implements J { }
-- abstract class E implements I, J { } class F extends C implements I { }
-- class G { void m(); abstract void n(); O() { } native void p() { } class K { static int q = 1; static final int k = 1; static { } static void w() { } } }
abbrev declaring : Rows
declaring = program (
    d.Interface [] (codes "I") [] (d.members (method [] (outcome.Of int) (codes "h") None ∷ field [] (codes "a") None ∷ d.Init false (s.BlockOf s.no_stmts) ∷ []))
    ∷ d.Interface [] (codes "J") [] (d.members (method [] outcome.Void (codes "h") None ∷ []))
    ∷ d.Class [] (codes "C") None [] (d.members (method (modifier.Public ∷ []) (outcome.Of int) (codes "h") empty ∷ []))
    ∷ d.Class [] (codes "D") (Some (name (codes "C"))) (name (codes "J") ∷ []) d.no_members
    ∷ d.Class (modifier.Abstract ∷ []) (codes "E") None (name (codes "I") ∷ name (codes "J") ∷ []) d.no_members
    ∷ d.Class [] (codes "F") (Some (name (codes "C"))) (name (codes "I") ∷ []) d.no_members
    ∷ d.Class [] (codes "G") None [] (d.members (
    method [] outcome.Void (codes "m") None
    ∷ method (modifier.Abstract ∷ []) outcome.Void (codes "n") None
    ∷ d.Constructor [] (codes "O") [] [] (s.BlockOf s.no_stmts)
    ∷ method (modifier.Native ∷ []) outcome.Void (codes "p") empty
    ∷ d.Nested (d.Class [] (codes "K") None [] (d.members (
    field (modifier.Static ∷ []) (codes "q") one
    ∷ field (modifier.Static ∷ modifier.Final ∷ []) (codes "k") one
    ∷ d.Init true (s.BlockOf s.no_stmts)
    ∷ method (modifier.Static ∷ []) outcome.Void (codes "w") empty
    ∷ [])))
    ∷ []))
    ∷ [])

declaring_breaks : broken declaring ≡ (codes "a", 20) ∷ ([], 20) ∷ (codes "D", 15) ∷ (codes "E", 15) ∷ (codes "G", 14) ∷ (codes "m", 20) ∷ (codes "n", 20) ∷ (codes "O", 20) ∷ (codes "p", 20) ∷ (codes "q", 21)
    ∷ ([], 21) ∷ (codes "w", 21) ∷ []
declaring_breaks = refl

-- interface I { void f(); } abstract class A implements I { abstract int g(); protected void v() throws Exception { } static void s() { } }
-- class B extends A { public void f() { } public int g() { } public void v() { } static void s() { } class K { static final int k = 1; } }
abbrev keeping : Rows
keeping = program (
    d.Interface [] (codes "I") [] (d.members (method [] outcome.Void (codes "f") None ∷ []))
    ∷ d.Class (modifier.Abstract ∷ []) (codes "A") None (name (codes "I") ∷ []) (d.members (
    method (modifier.Abstract ∷ []) (outcome.Of int) (codes "g") None
    ∷ throwing (modifier.Protected ∷ []) (codes "v") (codes "Exception")
    ∷ method (modifier.Static ∷ []) outcome.Void (codes "s") empty
    ∷ []))
    ∷ d.Class [] (codes "B") (Some (name (codes "A"))) [] (d.members (
    method (modifier.Public ∷ []) outcome.Void (codes "f") empty
    ∷ method (modifier.Public ∷ []) (outcome.Of int) (codes "g") empty
    ∷ method (modifier.Public ∷ []) outcome.Void (codes "v") empty
    ∷ method (modifier.Static ∷ []) outcome.Void (codes "s") empty
    ∷ d.Nested (d.Class [] (codes "K") None [] (d.members (field (modifier.Static ∷ modifier.Final ∷ []) (codes "k") one ∷ [])))
    ∷ []))
    ∷ [])

keeping_keeps : keeps_members keeping (table keeping) ≡ true
keeping_keeps = refl
