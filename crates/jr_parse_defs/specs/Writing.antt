-- A statement, a declaration or a unit written in front of the tokens that follow it (JLS 7, 8, 9, 14).
use Rattle.std.specs.Prelude.{Bool, true, false, List, [], ◌∷◌, Option, Some, None}
use Rattle.jr_base.specs.declared.text.Text.{Text}
use Rattle.jr_base.specs.declared.kind.Kind.{Kind}
use Rattle.jr_base.specs.declared.kind.Kind.TheVariants as kind
use Rattle.jr_base.specs.declared.kind.Symbol.TheVariants as y
use Rattle.jr_base.specs.declared.kind.Keyword.{Keyword}
use Rattle.jr_base.specs.declared.kind.Keyword.TheVariants as k
use Rattle.jr_tree.specs.declared.tree.Name.{Name}
use Rattle.jr_tree.specs.declared.tree.TypeUse.{TypeUse}
use Rattle.jr_tree.specs.declared.tree.Param.{Param}
use Rattle.jr_tree.specs.declared.tree.Modifier.{Modifier}
use Rattle.jr_tree.specs.declared.tree.ResultType.{ResultType}
use Rattle.jr_tree.specs.declared.tree.ResultType.TheVariants as outcome
use Rattle.jr_tree.specs.declared.tree.PackageDecl.{PackageDecl}
use Rattle.jr_tree.specs.declared.tree.Import.{Import}
use Rattle.jr_tree.specs.declared.tree.Import.TheVariants as import
use Rattle.jr_tree.specs.Words.{modifier_word, which_word}
use Rattle.jr_tree.specs.Mirror.Exprs as x
use Rattle.jr_tree.specs.Mirror.Stmts as s
use Rattle.jr_tree.specs.Mirror.Decls as d
use Rattle.jr_parse_expr.specs.Writing.{write_name, write_brackets, write_type, write_expr, write_exprs, write_init}

-- ---- parts that may be absent

abbrev pub write_if : Bool → Kind → List Kind → List Kind
write_if true token rest = token ∷ rest
write_if false token rest = rest

abbrev pub write_some : {A : Type 0} → (A → List Kind → List Kind) → Option A → List Kind → List Kind
write_some write None rest = rest
write_some write (Some a) rest = write a rest

-- each in order
abbrev pub write_many : {A : Type 0} → (A → List Kind → List Kind) → List A → List Kind → List Kind
write_many write [] rest = rest
write_many write (a ∷ all) rest = write a (write_many write all rest)

-- behind a comma
abbrev pub write_after : {A : Type 0} → (A → List Kind → List Kind) → A → List Kind → List Kind
write_after write a rest = kind.Sym y.Comma ∷ write a rest

-- ---- parts of statements (JLS 8.3, 14.4, 14.11, 14.14.1)

abbrev pub write_assigned : Option x.Init → List Kind → List Kind
write_assigned None rest = rest
write_assigned (Some i) rest = kind.Sym y.Assign ∷ write_init i rest

abbrev pub write_declarator : s.Declarator → List Kind → List Kind
write_declarator (s.DeclaratorOf name dims init) rest = kind.Ident name ∷ write_brackets dims (write_assigned init rest)

-- each behind a comma
abbrev pub write_later : List s.Declarator → List Kind → List Kind
write_later ds rest = write_many (write_after write_declarator) ds rest

abbrev pub write_declarators : List s.Declarator → List Kind → List Kind
write_declarators [] rest = rest
write_declarators (d ∷ ds) rest = write_declarator d (write_later ds rest)

abbrev pub write_locals : Bool → TypeUse → List s.Declarator → List Kind → List Kind
write_locals is_final ty ds rest = write_if is_final (kind.Word k.Final) (write_type ty (write_declarators ds rest))

abbrev pub write_for_init : s.ForInit → List Kind → List Kind
write_for_init (s.Locals is_final ty ds) rest = write_locals is_final ty ds rest
write_for_init (s.Exprs es) rest = write_exprs es rest

abbrev pub write_label : s.SwitchLabel → List Kind → List Kind
write_label (s.Case value) rest = kind.Word k.Case ∷ write_expr value (kind.Sym y.Colon ∷ rest)
write_label s.Default rest = kind.Word k.Default ∷ kind.Sym y.Colon ∷ rest

abbrev pub write_labels : List s.SwitchLabel → List Kind → List Kind
write_labels ls rest = write_many write_label ls rest

abbrev pub write_cond : x.Expr → List Kind → List Kind
write_cond c rest = kind.Sym y.OpenParen ∷ write_expr c (kind.Sym y.CloseParen ∷ rest)

abbrev pub write_ident : Text → List Kind → List Kind
write_ident name rest = kind.Ident name ∷ rest

abbrev pub write_param : Param → List Kind → List Kind
write_param p rest = write_if p.is_final (kind.Word k.Final) (write_type p.ty (kind.Ident p.name ∷ write_brackets p.dims rest))

-- ---- statements (JLS 14)

abbrev mutual
  pub write_stmt : s.Stmt → List Kind → List Kind
  write_stmt (s.Nest b) rest = write_block b rest
  write_stmt (s.Local is_final ty ds) rest = write_locals is_final ty ds (kind.Sym y.Semicolon ∷ rest)
  write_stmt s.Skip rest = kind.Sym y.Semicolon ∷ rest
  write_stmt (s.Do body c) rest = kind.Word k.Do ∷ write_stmt body (kind.Word k.While ∷ write_cond c (kind.Sym y.Semicolon ∷ rest))
  write_stmt (s.While c body) rest = kind.Word k.While ∷ write_cond c (write_stmt body rest)
  write_stmt (s.If c a b) rest = kind.Word k.If ∷ write_cond c (write_stmt a (write_else b rest))
  write_stmt (s.Eval value) rest = write_expr value (kind.Sym y.Semicolon ∷ rest)
  write_stmt (s.For first c update body) rest =
      kind.Word k.For ∷ kind.Sym y.OpenParen ∷ write_some write_for_init first (kind.Sym y.Semicolon ∷ write_some write_expr c (kind.Sym y.Semicolon ∷ write_exprs update (kind.Sym y.CloseParen ∷ write_stmt body rest)))
  write_stmt (s.Switch value gs) rest = kind.Word k.Switch ∷ write_cond value (kind.Sym y.OpenBrace ∷ write_groups gs (kind.Sym y.CloseBrace ∷ rest))
  write_stmt (s.Labeled label body) rest = kind.Ident label ∷ kind.Sym y.Colon ∷ write_stmt body rest
  write_stmt (s.Break label) rest = kind.Word k.Break ∷ write_some write_ident label (kind.Sym y.Semicolon ∷ rest)
  write_stmt (s.Continue label) rest = kind.Word k.Continue ∷ write_some write_ident label (kind.Sym y.Semicolon ∷ rest)
  write_stmt (s.Return value) rest = kind.Word k.Return ∷ write_some write_expr value (kind.Sym y.Semicolon ∷ rest)
  write_stmt (s.Throw value) rest = kind.Word k.Throw ∷ write_expr value (kind.Sym y.Semicolon ∷ rest)
  write_stmt (s.Try body cs last) rest = kind.Word k.Try ∷ write_block body (write_catches cs (write_finally last rest))
  write_stmt (s.CtorCall which args) rest = kind.Word (which_word which) ∷ kind.Sym y.OpenParen ∷ write_exprs args (kind.Sym y.CloseParen ∷ kind.Sym y.Semicolon ∷ rest)

  pub write_else : s.AnyStmt → List Kind → List Kind
  write_else s.no_stmt rest = rest
  write_else (s.a_stmt b) rest = kind.Word k.Else ∷ write_stmt b rest

  pub write_finally : s.AnyBlock → List Kind → List Kind
  write_finally s.no_block rest = rest
  write_finally (s.a_block b) rest = kind.Word k.Finally ∷ write_block b rest

  pub write_block : s.Block → List Kind → List Kind
  write_block (s.BlockOf all) rest = kind.Sym y.OpenBrace ∷ write_stmts all (kind.Sym y.CloseBrace ∷ rest)

  pub write_catch : s.Catch → List Kind → List Kind
  write_catch (s.CatchOf p b) rest = kind.Word k.Catch ∷ kind.Sym y.OpenParen ∷ write_param p (kind.Sym y.CloseParen ∷ write_block b rest)

  pub write_group : s.Group → List Kind → List Kind
  write_group (s.GroupOf labels all) rest = write_labels labels (write_stmts all rest)

  pub write_stmts : s.Stmts → List Kind → List Kind
  write_stmts s.no_stmts rest = rest
  write_stmts (s.more_stmts a all) rest = write_stmt a (write_stmts all rest)

  pub write_groups : s.Groups → List Kind → List Kind
  write_groups s.no_groups rest = rest
  write_groups (s.more_groups g all) rest = write_group g (write_groups all rest)

  pub write_catches : s.Catches → List Kind → List Kind
  write_catches s.no_catches rest = rest
  write_catches (s.more_catches c all) rest = write_catch c (write_catches all rest)

-- ---- parts of declarations (JLS 8, 9)

abbrev pub write_modifier : Modifier → List Kind → List Kind
write_modifier m rest = kind.Word (modifier_word m) ∷ rest

abbrev pub write_modifiers : List Modifier → List Kind → List Kind
write_modifiers ms rest = write_many write_modifier ms rest

-- each behind a comma
abbrev pub write_later_params : List Param → List Kind → List Kind
write_later_params ps rest = write_many (write_after write_param) ps rest

abbrev pub write_params : List Param → List Kind → List Kind
write_params [] rest = kind.Sym y.OpenParen ∷ kind.Sym y.CloseParen ∷ rest
write_params (p ∷ ps) rest = kind.Sym y.OpenParen ∷ write_param p (write_later_params ps (kind.Sym y.CloseParen ∷ rest))

abbrev pub write_later_names : List Name → List Kind → List Kind
write_later_names ns rest = write_many (write_after write_name) ns rest

-- a word and names, or nothing where there is no name
abbrev pub write_names_after : Keyword → List Name → List Kind → List Kind
write_names_after w [] rest = rest
write_names_after w (n ∷ ns) rest = kind.Word w ∷ write_name n (write_later_names ns rest)

abbrev pub write_parent : Option Name → List Kind → List Kind
write_parent None rest = rest
write_parent (Some n) rest = kind.Word k.Extends ∷ write_name n rest

abbrev pub write_result : ResultType → List Kind → List Kind
write_result outcome.Void rest = kind.Word k.Void ∷ rest
write_result (outcome.Of ty) rest = write_type ty rest

-- the body of a method, or a semicolon
abbrev pub write_body : Option s.Block → List Kind → List Kind
write_body None rest = kind.Sym y.Semicolon ∷ rest
write_body (Some b) rest = write_block b rest

-- ---- declarations

abbrev mutual
  pub write_decl : d.TypeDecl → List Kind → List Kind
  write_decl (d.Class mods name parent faces body) rest =
      write_modifiers mods (kind.Word k.Class ∷ kind.Ident name ∷ write_parent parent (write_names_after k.Implements faces (kind.Sym y.OpenBrace ∷ write_members body (kind.Sym y.CloseBrace ∷ rest))))
  write_decl (d.Interface mods name faces body) rest =
      write_modifiers mods (kind.Word k.Interface ∷ kind.Ident name ∷ write_names_after k.Extends faces (kind.Sym y.OpenBrace ∷ write_members body (kind.Sym y.CloseBrace ∷ rest)))
  write_decl d.Empty rest = kind.Sym y.Semicolon ∷ rest

  pub write_member : d.Member → List Kind → List Kind
  write_member (d.Field mods ty ds) rest = write_modifiers mods (write_type ty (write_declarators ds (kind.Sym y.Semicolon ∷ rest)))
  write_member (d.Method mods gives name params thrown body) rest =
      write_modifiers mods (write_result gives (kind.Ident name ∷ write_params params (write_names_after k.Throws thrown (write_body body rest))))
  write_member (d.Constructor mods name params thrown body) rest = write_modifiers mods (kind.Ident name ∷ write_params params (write_names_after k.Throws thrown (write_block body rest)))
  write_member (d.Init is_static body) rest = write_if is_static (kind.Word k.Static) (write_block body rest)
  write_member (d.Nested decl) rest = write_decl decl rest

  pub write_members : d.Members → List Kind → List Kind
  write_members d.no_members rest = rest
  write_members (d.more_members m all) rest = write_member m (write_members all rest)

abbrev pub write_decls : List d.TypeDecl → List Kind → List Kind
write_decls ts rest = write_many write_decl ts rest

-- ---- units (JLS 7.3)

abbrev pub write_package : PackageDecl → List Kind → List Kind
write_package p rest = kind.Word k.Package ∷ write_name p.name (kind.Sym y.Semicolon ∷ rest)

abbrev pub write_import : Import → List Kind → List Kind
write_import (import.Single n) rest = kind.Word k.Import ∷ write_name n (kind.Sym y.Semicolon ∷ rest)
write_import (import.OnDemand n) rest = kind.Word k.Import ∷ write_name n (kind.Sym y.Dot ∷ kind.Sym y.Star ∷ kind.Sym y.Semicolon ∷ rest)
write_import (import.StaticSingle n member) rest = kind.Word k.Import ∷ kind.Word k.Static ∷ write_name n (kind.Sym y.Dot ∷ kind.Ident member ∷ kind.Sym y.Semicolon ∷ rest)

abbrev pub write_imports : List Import → List Kind → List Kind
write_imports all rest = write_many write_import all rest

abbrev pub write_unit : d.CompilationUnit → List Kind → List Kind
write_unit (d.UnitOf package_decl imports types) rest = write_some write_package package_decl (write_imports imports (write_decls types rest))
