-- Lookup of calls on the rows of a small program:
-- package java.lang; public class Object { }
-- class A { int x; int f(long a) { return x; } int f(int b) { return f(this.x); } class B extends A { int h() { return super.f(x) + new B().f(1); } } }
use Rattle.std.proofs.Common.{◌≡◌, refl, false, cond, ◌||◌, nat_eq, List, Option, Some, None, [], ◌∷◌, codes, pos}
use Rattle.jr_base.specs.declared.text.Text.{Text}
use Rattle.jr_base.specs.declared.kind.Kind.TheVariants as token
use Rattle.jr_base.specs.declared.kind.Symbol.TheVariants as y
use Rattle.jr_tree.specs.declared.tree.Base.TheVariants as base
use Rattle.jr_tree.specs.declared.tree.TypeUse.{TypeUse}
use Rattle.jr_tree.specs.declared.tree.Primitive.{Primitive}
use Rattle.jr_tree.specs.declared.tree.Primitive.TheVariants as primitive
use Rattle.jr_tree.specs.declared.tree.ResultType.TheVariants as outcome
use Rattle.jr_tree.specs.declared.tree.Param.{Param}
use Rattle.jr_tree.specs.declared.tree.Name.{Name}
use Rattle.jr_tree.specs.Mirror.Exprs as x
use Rattle.jr_tree.specs.Mirror.Stmts as s
use Rattle.jr_tree.specs.Mirror.Decls as d
use Rattle.jr_tree.specs.declared.label.Label.TheVariants as is
use Rattle.jr_tree.specs.Forest.{none, node}
use Rattle.jr_tree.specs.Decls.{unit_labels}
use Rattle.jr_tree.specs.Rows.{Rows, rows_from}
use Rattle.jr_defs.specs.declared.referent.Element.TheVariants as element
use Rattle.jr_defs.specs.Referents.{Table}
use Rattle.jr_defs.specs.Types.{plain, class_type}
use Rattle.jr_defs.specs.declared.referent.Referent.TheVariants.{Declared, Unbound}
use Rattle.jr_defs.proofs.Worked.{lang}
use Rattle.jr_plain.specs.Overloads.{Types}
use Rattle.jr_plain.specs.Lookup.{look}

abbrev of_type : Primitive → TypeUse
of_type w = record { base = base.Primitive w; dims = 0 }

abbrev named : Text → Name
named x = record { parts = x ∷ [] }

abbrev one : x.Expr → x.Exprs
one e = x.more_exprs e x.no_exprs

abbrev returning : x.Expr → Option s.Block
returning e = Some (s.BlockOf (s.more_stmts (s.Return (Some e)) s.no_stmts))

-- int f(parameter) { return result; }
abbrev method : Text → List Param → x.Expr → d.Member
method name parameters result = d.Method [] (outcome.Of (of_type primitive.Int)) name parameters [] (returning result)

abbrev parameter : Primitive → List Param
parameter w = record { is_final = false; ty = of_type w; name = codes "a"; dims = 0 } ∷ []

abbrev class_b : d.TypeDecl
class_b = d.Class [] (codes "B") (Some (named (codes "A"))) [] (d.more_members
    (method (codes "h") [] (x.Binary (x.Call (x.a_receiver x.Super) (codes "f") (one (x.NameExpr (named (codes "x")))))
    y.Plus (x.Call (x.a_receiver (x.Of (x.New (named (codes "B")) x.no_exprs))) (codes "f") (one (x.Lit (token.Int (pos 1))))))) d.no_members)

abbrev class_a : d.TypeDecl
class_a = d.Class [] (codes "A") None [] (d.more_members (d.Field [] (of_type primitive.Int) (s.DeclaratorOf (codes "x") 0 None ∷ []))
    (d.more_members (method (codes "f") (parameter primitive.Long) (x.NameExpr (named (codes "x"))))
    (d.more_members (method (codes "f") (parameter primitive.Int) (x.Call x.no_receiver (codes "f") (one (x.Select (x.This None) (codes "x")))))
    (d.more_members (d.Nested class_b) d.no_members))))

abbrev pub calls : Rows
calls = rows_from 0 0 0 (node is.Program (unit_labels lang (unit_labels (d.UnitOf None [] (class_a ∷ [])) none)) none)

-- B names A, and the creation names B
abbrev table : Table
table n = cond (nat_eq n 34) (Declared 10 None) (cond (nat_eq n 47) (Declared 33 None) Unbound)

-- the types of `this` and `this.x` in A, of x, of the new B and of 1
abbrev type_of : Types
type_of n = cond (nat_eq n 32) (Some (class_type 10)) (cond (nat_eq n 46) (Some (class_type 33)) (cond (nat_eq n 31 || (nat_eq n 44 || nat_eq n 48)) (Some (plain element.Int)) None))

-- of f(long) and f(int), the latter
call_in_a : look calls table type_of 30 ≡ Declared 24 (Some 10)
call_in_a = refl

field_of_this : look calls table type_of 31 ≡ Declared 16 None
field_of_this = refl

call_of_super : look calls table type_of 43 ≡ Declared 24 None
call_of_super = refl

field_of_b : look calls table type_of 44 ≡ Declared 16 (Some 33)
field_of_b = refl

call_on_new : look calls table type_of 45 ≡ Declared 24 None
call_on_new = refl

-- B inherits the member B, so its objects stand in one of B
creation : look calls table type_of 46 ≡ Declared 36 (Some 33)
creation = refl

name_of_b : look calls table type_of 47 ≡ Declared 33 None
name_of_b = refl

implicit_super : look calls table type_of 37 ≡ Declared 12 None
implicit_super = refl
