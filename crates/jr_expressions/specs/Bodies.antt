-- The bodies of a core (JLS 8.3, 8.4, 8.6, 8.7, 8.8).
use Rattle.std.specs.Prelude.{◌≡◌, ℕ, ◌+◌, Bool, false, if◌then◌else◌, List, [], ◌∷◌, map, filter, Some, None}
use Rattle.jr_core.specs.declared.bodies.Body.{Body}
use Rattle.jr_core.specs.declared.code.Code.{Code}
use Rattle.jr_core.specs.declared.code.Code.TheVariants as c
use Rattle.jr_tree.specs.declared.label.Label.TheVariants as is
use Rattle.jr_tree.specs.declared.label.Modifiers.{Modifiers}
use Rattle.jr_tree.specs.declared.label.Role.TheVariants as role
use Rattle.jr_tree.specs.Rows.{label, end, role_at}
use Rattle.jr_defs.specs.declared.referent.Element.TheVariants as element
use Rattle.jr_defs.specs.declared.referent.RowType.{RowType}
use Rattle.jr_defs.specs.Modifiers.{written}
use Rattle.jr_defs.specs.Types.{plain}
use Rattle.jr_plain.specs.Enclosing.{children}
use Rattle.jr_plain.specs.Modifiers.{is_static}
use Rattle.jr_plain.specs.Same.{same_role}
use Rattle.jr_plain.specs.Types.{type_of_declared}
use Rattle.jr_codes.specs.Facts.{Facts, type_in}
use Rattle.jr_codes.specs.Making.{Below}
use Rattle.jr_expressions.specs.Names.{this_in}
use Rattle.jr_expressions.specs.Expressions.{codes_of}
use Rattle.jr_expressions.specs.Statements.{Parts, PartsAt, codes}

-- the parameters of a method or constructor, in order
abbrev pub parameters_of : Facts → ℕ → List ℕ
parameters_of f n = filter (λ k. same_role (role_at f.rows k) role.Parameter) (children f.rows n)

-- the field as the place to which its initializer is assigned
abbrev pub field_place : Facts → ℕ → ℕ → Code
field_place f class n = c.FieldAt (if is_static f.rows n then None else Some (this_in f class)) (f.decl n)

-- the assignment of its initializer to a field, if it has one
abbrev pub initialization : Code → Below → List Code
initialization place [] = []
initialization place ((m, value) ∷ all) = c.Eval (c.Assign place None value) ∷ []

-- a callable of this class with these parts below it
abbrev pub callable_with : Facts → ℕ → Bool → RowType → ℕ → Parts → Body
callable_with f n static outcome class below = record {
  decl = f.decl n;
  class = record { 0 = f.decl class };
  is_static = static;
  is_native = (written (label f.rows n)).is_native;
  ty = type_in f outcome;
  constant = None;
  params = map f.decl (parameters_of f n);
  code = codes_of (codes below);
}

-- a method, constructor or initializer with a result of this type, static or not
pub record IsCallable (f : Facts) (n : ℕ) (static : Bool) (outcome : RowType) (b : Body) : Type 0 where
  pub class : ℕ
  pub stands : f.around n ≡ Some class
  pub below : Parts
  pub parts : PartsAt f (Some outcome) (n + 1) (end f.rows n) below
  pub is : b ≡ callable_with f n static outcome class below

-- a field of this class with this type and these parts below it
abbrev pub field_with : Facts → ℕ → RowType → ℕ → Parts → Body
field_with f n ty class below = record {
  decl = f.decl n;
  class = record { 0 = f.decl class };
  is_static = is_static f.rows n;
  is_native = false;
  ty = type_in f ty;
  constant = f.variable n;
  params = [];
  code = initialization (field_place f class n) (codes below);
}

-- a field, with the value that it has where it is a constant variable
pub record IsFieldBody (f : Facts) (n : ℕ) (b : Body) : Type 0 where
  pub class : ℕ
  pub stands : f.around n ≡ Some class
  pub ty : RowType
  pub has : type_of_declared f.rows f.refers n ≡ Some ty
  pub below : Parts
  pub parts : PartsAt f None (n + 1) (end f.rows n) below
  pub is : b ≡ field_with f n ty class below

-- the body that a row declares
pub data BodyAt (f : Facts) (n : ℕ) : Body → Type 0 where
  field : {m : Modifiers} {dims : ℕ} {b : Body} → label f.rows n ≡ is.Field m dims → IsFieldBody f n b → BodyAt f n b
  method : {m : Modifiers} {is_void has_body : Bool} {a : RowType} {b : Body} → label f.rows n ≡ is.Method m is_void has_body → type_of_declared f.rows f.refers n ≡ Some a
      → IsCallable f n (is_static f.rows n) a b → BodyAt f n b
  constructor : {m : Modifiers} {b : Body} → label f.rows n ≡ is.Constructor m → IsCallable f n false (plain element.Void) b → BodyAt f n b
  default : {b : Body} → label f.rows n ≡ is.DefaultConstructor → IsCallable f n false (plain element.Void) b → BodyAt f n b
  initializer : {static : Bool} {b : Body} → label f.rows n ≡ is.Initializer static → IsCallable f n static (plain element.Void) b → BodyAt f n b
