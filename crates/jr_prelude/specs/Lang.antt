-- The unit java.lang as a tree (JLS 7.3, 8): what its text reads as.
use Rattle.std.specs.Prelude.{ℕ, false, List, [], ◌∷◌, map, Option, Some, None, codes}
use Rattle.jr_base.specs.declared.text.Text.{Text}
use Rattle.jr_base.specs.declared.kind.Kind.TheVariants as kind
use Rattle.jr_base.specs.declared.kind.Symbol.TheVariants as y
use Rattle.jr_tree.specs.declared.tree.Name.{Name}
use Rattle.jr_tree.specs.declared.tree.Base.TheVariants as base
use Rattle.jr_tree.specs.declared.tree.TypeUse.{TypeUse}
use Rattle.jr_tree.specs.declared.tree.Primitive.{Primitive}
use Rattle.jr_tree.specs.declared.tree.Primitive.TheVariants as primitive
use Rattle.jr_tree.specs.declared.tree.Param.{Param}
use Rattle.jr_tree.specs.declared.tree.Modifier.{Modifier}
use Rattle.jr_tree.specs.declared.tree.Modifier.TheVariants as m
use Rattle.jr_tree.specs.declared.tree.ResultType.{ResultType}
use Rattle.jr_tree.specs.declared.tree.ResultType.TheVariants as outcome
use Rattle.jr_tree.specs.declared.tree.ThisOrSuper.TheVariants as which
use Rattle.jr_tree.specs.declared.tree.PackageDecl.{PackageDecl}
use Rattle.jr_tree.specs.Mirror.Exprs as x
use Rattle.jr_tree.specs.Mirror.Stmts as s
use Rattle.jr_tree.specs.Mirror.Decls as d
use Rattle.jr_defs.specs.Prelude.{exceptions}

-- ---- names, types and expressions

abbrev pub named : List Text → Name
named parts = record { parts = parts }

-- a simple name
abbrev pub simple : Text → Name
simple name = named (name ∷ [])

abbrev pub type_named : Name → TypeUse
type_named name = record { base = base.Named name; dims = 0 }

abbrev pub string_type : TypeUse
string_type = type_named (simple (codes "String"))

abbrev pub object_type : TypeUse
object_type = type_named (simple (codes "Object"))

abbrev pub primitive_type : Primitive → TypeUse
primitive_type p = record { base = base.Primitive p; dims = 0 }

abbrev pub primitive_result : Primitive → ResultType
primitive_result p = outcome.Of (primitive_type p)

abbrev pub param : TypeUse → Text → Param
param ty name = record { is_final = false; ty = ty; name = name; dims = 0 }

abbrev pub variable : Text → x.Expr
variable name = x.NameExpr (simple name)

abbrev pub this : x.Expr
this = x.This None

-- ---- bodies and members

abbrev pub block : List s.Stmt → s.Block
block all = s.BlockOf (s.stmts all)

abbrev pub returns : x.Expr → Option s.Block
returns value = Some (block (s.Return (Some value) ∷ []))

-- a constructor, and one that takes a message
abbrev pub constructor : Modifier → Text → List Param → List s.Stmt → d.Member
constructor access name params body = d.Constructor (access ∷ []) name params [] (block body)

abbrev pub message_constructor : Text → s.Stmt → d.Member
message_constructor name body = constructor m.Public name (param string_type (codes "m") ∷ []) (body ∷ [])

abbrev pub method : ResultType → Text → List Param → Option s.Block → d.Member
method gives name params body = d.Method (m.Public ∷ []) gives name params [] body

abbrev pub native_method : ResultType → Text → List Param → d.Member
native_method gives name params = d.Method (m.Public ∷ m.Native ∷ []) gives name params [] None

abbrev pub object_param : List Param
object_param = param object_type (codes "o") ∷ []

abbrev pub class : List Modifier → Text → Option Name → List d.Member → d.TypeDecl
class mods name above all = d.Class mods name above [] (d.members all)

-- ---- the classes

abbrev pub object_class : d.TypeDecl
object_class = class (m.Public ∷ []) (codes "Object") None
    (constructor m.Public (codes "Object") [] []
    ∷ method (primitive_result primitive.Boolean) (codes "equals") object_param (returns (x.Binary this y.Equal (variable (codes "o"))))
    ∷ native_method (primitive_result primitive.Int) (codes "hashCode") []
    ∷ method (outcome.Of string_type) (codes "toString") [] (returns (x.Lit (kind.Str (codes "object"))))
    ∷ [])

abbrev pub string_class : d.TypeDecl
string_class = class (m.Public ∷ m.Final ∷ []) (codes "String") None
    (constructor m.Private (codes "String") [] []
    ∷ native_method (primitive_result primitive.Int) (codes "length") []
    ∷ native_method (primitive_result primitive.Char) (codes "charAt") (param (primitive_type primitive.Int) (codes "i") ∷ [])
    ∷ native_method (primitive_result primitive.Boolean) (codes "equals") object_param
    ∷ native_method (primitive_result primitive.Int) (codes "hashCode") []
    ∷ method (outcome.Of string_type) (codes "toString") [] (returns this)
    ∷ [])

abbrev pub print_stream : Name
print_stream = named (codes "java" ∷ codes "io" ∷ codes "PrintStream" ∷ [])

abbrev pub system_class : d.TypeDecl
system_class = class (m.Public ∷ m.Final ∷ []) (codes "System") None
    (d.Field (m.Public ∷ m.Static ∷ m.Final ∷ []) (type_named print_stream) (s.DeclaratorOf (codes "out") 0 (Some (x.Value (x.New print_stream x.no_exprs))) ∷ [])
    ∷ constructor m.Private (codes "System") [] []
    ∷ [])

abbrev pub throwable_class : d.TypeDecl
throwable_class = class (m.Public ∷ []) (codes "Throwable") None
    (d.Field (m.Private ∷ []) string_type (s.DeclaratorOf (codes "message") 0 None ∷ [])
    ∷ constructor m.Public (codes "Throwable") [] []
    ∷ message_constructor (codes "Throwable") (s.Eval (x.Assign (variable (codes "message")) y.Assign (variable (codes "m"))))
    ∷ method (outcome.Of string_type) (codes "getMessage") [] (returns (variable (codes "message")))
    ∷ [])

-- a class of exceptions, below another
abbrev pub thrown_class : List ℕ × List ℕ → d.TypeDecl
thrown_class c = class (m.Public ∷ []) c.0 (Some (simple c.1))
    (constructor m.Public c.0 [] []
    ∷ message_constructor c.0 (s.CtorCall which.Super (x.more_exprs (variable (codes "m")) x.no_exprs))
    ∷ [])

-- java.lang
abbrev pub lang_classes : List d.TypeDecl
lang_classes = object_class ∷ string_class ∷ system_class ∷ throwable_class ∷ map thrown_class exceptions

abbrev pub lang_package_decl : PackageDecl
lang_package_decl = record { name = named (codes "java" ∷ codes "lang" ∷ []) }

abbrev pub lang_unit : d.CompilationUnit
lang_unit = d.UnitOf (Some lang_package_decl) [] lang_classes
