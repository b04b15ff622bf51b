-- The unit java.io as a tree (JLS 7.3, 8): what its text reads as.
use Rattle.std.specs.Prelude.{List, [], ◌∷◌, ◌++◌, map, Some, None, codes}
use Rattle.jr_base.specs.declared.text.Text.{Text}
use Rattle.jr_base.specs.declared.kind.Kind.TheVariants as kind
use Rattle.jr_base.specs.declared.kind.Symbol.TheVariants as y
use Rattle.jr_tree.specs.declared.tree.TypeUse.{TypeUse}
use Rattle.jr_tree.specs.declared.tree.Primitive.TheVariants as primitive
use Rattle.jr_tree.specs.declared.tree.Modifier.TheVariants as m
use Rattle.jr_tree.specs.declared.tree.ResultType.TheVariants as outcome
use Rattle.jr_tree.specs.declared.tree.PackageDecl.{PackageDecl}
use Rattle.jr_tree.specs.declared.tree.Param.{Param}
use Rattle.jr_tree.specs.Mirror.Exprs as x
use Rattle.jr_tree.specs.Mirror.Stmts as s
use Rattle.jr_tree.specs.Mirror.Decls as d
use Rattle.jr_prelude.specs.Lang.{named, object_type, string_type, primitive_type, param, variable, block, class, method, native_method}

-- ---- expressions

abbrev pub text : Text → x.Expr
text units = x.Lit (kind.Str units)

abbrev pub line_end : x.Expr
line_end = text (codes "\n")

abbrev pub plus : x.Expr → x.Expr → x.Expr
plus left right = x.Binary left y.Plus right

-- "" + v
abbrev pub as_text : x.Expr
as_text = plus (text []) (variable (codes "v"))

-- ---- the class

-- a method that prints one expression
abbrev pub prints : Text → List Param → x.Expr → d.Member
prints name params value =
    method outcome.Void name params (Some (block (s.Eval (x.Call x.no_receiver (codes "print") (x.more_exprs value x.no_exprs)) ∷ [])))

abbrev pub value_param : TypeUse → List Param
value_param ty = param ty (codes "v") ∷ []

abbrev pub print_method : TypeUse → d.Member
print_method ty = prints (codes "print") (value_param ty) as_text

abbrev pub println_method : TypeUse → d.Member
println_method ty = prints (codes "println") (value_param ty) (plus as_text line_end)

abbrev pub printed_types : List TypeUse
printed_types = primitive_type primitive.Boolean ∷ primitive_type primitive.Char ∷ primitive_type primitive.Int ∷ primitive_type primitive.Long ∷ object_type ∷ []

abbrev pub print_stream_class : d.TypeDecl
print_stream_class = class (m.Public ∷ []) (codes "PrintStream") None
    (native_method outcome.Void (codes "print") (param string_type (codes "s") ∷ [])
    ∷ map print_method printed_types
    ++ prints (codes "println") [] line_end
    ∷ prints (codes "println") (value_param string_type) (plus (variable (codes "v")) line_end)
    ∷ map println_method printed_types)

-- java.io
abbrev pub io_package_decl : PackageDecl
io_package_decl = record { name = named (codes "java" ∷ codes "io" ∷ []) }

abbrev pub io_unit : d.CompilationUnit
io_unit = d.UnitOf (Some io_package_decl) [] (print_stream_class ∷ [])
