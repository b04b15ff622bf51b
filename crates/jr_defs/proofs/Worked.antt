-- The rows of a small program, and what the definitions find there:
-- package java.lang; public class Object { }
-- class A { int x; int f(int y) { return x; } class B extends A { int h() { return x + 1; } } }
use Rattle.std.proofs.Common.{◌≡◌, ◌⊎◌, ℕ, ◌+◌, ◌<◌, ◌≤◌, refl, sym, inl, inr, arith, List, [], ◌∷◌, length}
use Rattle.std.specs.Prelude.{Option, Some, None, true, false, codes, pos}
use Rattle.jr_base.specs.declared.kind.Kind.TheVariants as token
use Rattle.jr_base.specs.declared.kind.Symbol.TheVariants as y
use Rattle.jr_tree.specs.declared.tree.Base.TheVariants as base
use Rattle.jr_tree.specs.declared.tree.TypeUse.{TypeUse}
use Rattle.jr_tree.specs.declared.tree.Primitive.TheVariants as primitive
use Rattle.jr_tree.specs.declared.tree.Modifier.TheVariants as modifier
use Rattle.jr_tree.specs.declared.tree.ResultType.TheVariants as outcome
use Rattle.jr_tree.specs.declared.tree.PackageDecl.{PackageDecl}
use Rattle.jr_tree.specs.declared.tree.Param.{Param}
use Rattle.jr_tree.specs.declared.tree.Name.{Name}
use Rattle.jr_tree.specs.Mirror.Exprs as x
use Rattle.jr_tree.specs.Mirror.Stmts as s
use Rattle.jr_tree.specs.Mirror.Decls as d
use Rattle.jr_base.specs.declared.constant.Const.TheVariants as c
use Rattle.jr_tree.specs.declared.label.Label.TheVariants as is
use Rattle.jr_tree.specs.declared.label.NameKind.TheVariants as kind
use Rattle.jr_tree.specs.declared.label.NamePlace.TheVariants as place
use Rattle.jr_tree.specs.declared.label.Role.TheVariants as role
use Rattle.jr_tree.specs.declared.label.Sought.TheVariants as sought
use Rattle.jr_tree.specs.Forest.{none, node}
use Rattle.jr_tree.specs.Decls.{unit_labels}
use Rattle.jr_tree.specs.Rows.{Rows, rows_from, label, name, parent, end, role_at, sought_at}
use Rattle.jr_defs.specs.declared.referent.Element.TheVariants as element
use Rattle.jr_defs.specs.declared.referent.Referent.TheVariants.{Unbound, Declared}
use Rattle.jr_defs.specs.declared.referent.Space.TheVariants as space
use Rattle.jr_defs.specs.Referents.{Table}
use Rattle.jr_defs.specs.Declarations.{Declares, IsObject}
use Rattle.jr_defs.specs.Enclosing.{BodyOf, InBody, DeclaredIn, ConstructorOf}
use Rattle.jr_defs.specs.Packages.{package_of, InUnit, InPackage, SamePackage, TypeOfPackage}
use Rattle.jr_defs.specs.Types.{plain, class_type, TypeAt, HasType, Parameters, ParameterTypes}
use Rattle.jr_defs.specs.Supertypes.{SuperAt, Super}
use Rattle.jr_defs.specs.Members.{MemberOf}
use Rattle.jr_defs.specs.Scope.{within, HasScope, InScope, InParameterScope}
use Rattle.jr_defs.specs.Constants.{ConstantOf, HasConstantForm}
use Rattle.jr_defs.specs.Conversions.{PromotesBoth}
use Rattle.jr_defs.specs.Typing.{TypeOf, BinaryType, LiteralType}

abbrev pub lang : d.CompilationUnit
lang = d.UnitOf (Some (record { name = record { parts = codes "java" ∷ codes "lang" ∷ [] } })) [] (d.Class (modifier.Public ∷ []) (codes "Object") None [] d.no_members ∷ [])

abbrev int_type : TypeUse
int_type = record { base = base.Primitive primitive.Int; dims = 0 }

abbrev x_name : Name
x_name = record { parts = codes "x" ∷ [] }

abbrev param_y : Param
param_y = record { is_final = false; ty = int_type; name = codes "y"; dims = 0 }

abbrev return_x : s.Block
return_x = s.BlockOf (s.more_stmts (s.Return (Some (x.NameExpr x_name))) s.no_stmts)

abbrev return_sum : s.Block
return_sum = s.BlockOf (s.more_stmts (s.Return (Some (x.Binary (x.NameExpr x_name) y.Plus (x.Lit (token.Int (pos 1)))))) s.no_stmts)

abbrev class_b : d.TypeDecl
class_b = d.Class [] (codes "B") (Some (record { parts = codes "A" ∷ [] })) [] (d.more_members (d.Method [] (outcome.Of int_type) (codes "h") [] [] (Some return_sum)) d.no_members)

abbrev pub class_a : d.TypeDecl
class_a = d.Class [] (codes "A") None [] (d.more_members (d.Field [] int_type (s.DeclaratorOf (codes "x") 0 None ∷ []))
    (d.more_members (d.Method [] (outcome.Of int_type) (codes "f") (param_y ∷ []) [] (Some return_x)) (d.more_members (d.Nested class_b) d.no_members)))

abbrev pub p : Rows
p = rows_from 0 0 0 (node is.Program (unit_labels lang (unit_labels (d.UnitOf None [] (class_a ∷ [])) none)) none)

-- A is row 10, its field x row 16, its method f row 17, the use of x in f row 23; B is row 24, its superclass's name row 25, the sum in h
-- row 32 and the use of x there row 33
field_x : label p 16 ≡ is.Field (record { is_public = false; is_protected = false; is_private = false; is_abstract = false; is_static = false; is_final = false; is_native = false }) 0
field_x = refl

use_in_f : label p 23 ≡ is.Name kind.Variable place.Expression false
use_in_f = refl

header_b : label p 25 ≡ is.Name kind.Type place.Superclass false
header_b = refl

use_in_h : label p 34 ≡ is.Name kind.Variable place.Expression false
use_in_h = refl

how_many : length p ≡ 36
how_many = refl

lang_package : package_of p 1 ≡ codes "java" ∷ codes "lang" ∷ []
lang_package = refl

object : IsObject p 5
object = record { type = refl; inside = refl; named = refl }

body_a : BodyOf p 10 11
body_a = record { type = refl; body = refl; inside = refl }

x_of_a : DeclaredIn p 10 16
x_of_a = record { member = tt; inside = body_a }

default_constructor : ConstructorOf p 10 12
default_constructor = record { constructor = refl; inside = body_a }

-- x is in scope in f as a member of A, and y as a parameter
x_in_scope : (t : Table) → InScope p t space.Variable (name p 23) 23 16 (within 10)
x_in_scope t = record {
  scope = HasScope.member (record { body = 11; of_type = body_a; after = omega arith; before = omega arith }) (MemberOf.declared x_of_a);
  declares = record { of_kind = tt; named = refl };
}

y_in_scope : InParameterScope p 19 23
y_in_scope = record { parameter = refl; body = 21; block = refl; beside = refl; from = omega arith; before = omega arith }

-- where the table has A as B's superclass, B inherits x
b_below_a : (t : Table) → t 25 ≡ Declared 10 None → Super p t 24 10
b_below_a t e = record { place = 25; at = SuperAt.class (record { names = tt; inside = refl }) e }

one_unit : InUnit p 9 10
one_unit = record { unit = refl; from = omega arith; before = omega arith }

same_package : SamePackage p 24 16
same_package = record {
  path = [];
  first = record { unit = 9; holds = record { unit = refl; from = omega arith; before = omega arith }; has_path = refl };
  second = record { unit = 9; holds = record { unit = refl; from = omega arith; before = omega arith }; has_path = refl };
}

-- the types of uses, of the sum and of the parameters
x_type : (t : Table) → HasType p t 16 (plain element.Int)
x_type t = HasType.field refl (TypeAt.primitive refl)

use_type : (t : Table) (K : ℕ → Type 0) → t 34 ≡ Declared 16 (Some 24) → TypeOf p t K 34 (plain element.Int)
use_type t K e = TypeOf.variable e tt (x_type t)

sum_type : (t : Table) (K : ℕ → Type 0) → t 34 ≡ Declared 16 (Some 24) → TypeOf p t K 33 (plain element.Int)
sum_type t K e = TypeOf.binary {n = 33} refl (record { at = refl; inside = refl }) (use_type t K e) (record { at = refl; inside = refl }) (TypeOf.literal refl LiteralType.int)
    (BinaryType.sum (PromotesBoth.int tt tt))

parameters_of_f : (t : Table) → Parameters p t 17 (plain element.Int ∷ [])
parameters_of_f t = ParameterTypes.other refl (λ e. cc) (ParameterTypes.parameter refl refl (HasType.parameter refl (TypeAt.primitive refl))
    (ParameterTypes.other refl (λ e. cc) (ParameterTypes.done (λ e. cc))))

-- the literal is the constant 1
one : (t : Table) → ConstantOf p t (HasConstantForm p t) 35 (c.Int (pos 1))
one t = ConstantOf.literal refl refl
