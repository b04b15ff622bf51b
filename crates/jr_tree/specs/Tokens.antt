-- The tokens of a tree, in order: each tree is written out as the grammar says (JLS 18).
use Rattle.std.specs.Prelude.{List, [], ◌∷◌, ◌++◌, map, Bool, Option, Some, None}
use Rattle.jr_base.specs.declared.kind.Kind.TheVariants as kind
use Rattle.jr_base.specs.declared.kind.Symbol.TheVariants as y
use Rattle.jr_base.specs.declared.kind.Keyword.TheVariants as k
use Rattle.jr_tree.specs.declared.tree.TypeUse.{TypeUse}
use Rattle.jr_tree.specs.declared.tree.Unit as declared_unit
use Rattle.jr_tree.specs.Words.{Tokens, word, mark, ident, if_some, if_true, joined, parens, in_brackets, in_braces, brackets, name_tokens, base_tokens, type_tokens, param_tokens, params_tokens, which_word, modifiers_tokens, result_tokens, names_after, parent_tokens, package_tokens, import_tokens}
use Rattle.jr_tree.specs.Mirror.Exprs as x
use Rattle.jr_tree.specs.Mirror.Stmts as s
use Rattle.jr_tree.specs.Mirror.Decls as d

-- ---- expressions (JLS 15)

abbrev mutual
  pub expr_tokens : x.Expr → Tokens
  expr_tokens (x.Assign target op value) = expr_tokens target ++ kind.Sym op ∷ expr_tokens value
  expr_tokens (x.Cond c a b) = expr_tokens c ++ kind.Sym y.Question ∷ (expr_tokens a ++ kind.Sym y.Colon ∷ expr_tokens b)
  expr_tokens (x.Binary left op right) = expr_tokens left ++ kind.Sym op ∷ expr_tokens right
  expr_tokens (x.IsA value ty) = expr_tokens value ++ kind.Word k.Instanceof ∷ type_tokens ty
  expr_tokens (x.Unary op value) = kind.Sym op ∷ expr_tokens value
  expr_tokens (x.Cast ty value) = kind.Sym y.OpenParen ∷ (type_tokens ty ++ kind.Sym y.CloseParen ∷ expr_tokens value)
  expr_tokens (x.PreStep op value) = kind.Sym op ∷ expr_tokens value
  expr_tokens (x.PostStep value op) = expr_tokens value ++ mark op
  expr_tokens (x.Lit token) = token ∷ []
  expr_tokens (x.This class) = if_some (λ n. name_tokens n ++ mark y.Dot) class ++ word k.This
  expr_tokens (x.Paren inner) = parens (expr_tokens inner)
  expr_tokens (x.NameExpr name) = name_tokens name
  expr_tokens (x.Select object name) = expr_tokens object ++ kind.Sym y.Dot ∷ ident name
  expr_tokens (x.SuperSelect name) = kind.Word k.Super ∷ kind.Sym y.Dot ∷ ident name
  expr_tokens (x.Index array at) = expr_tokens array ++ in_brackets (expr_tokens at)
  expr_tokens (x.Call object name args) = qualifier_tokens object ++ kind.Ident name ∷ parens (exprs_tokens args)
  expr_tokens (x.New class args) = kind.Word k.New ∷ (name_tokens class ++ parens (exprs_tokens args))
  expr_tokens (x.NewArray base dims more list) = kind.Word k.New ∷ (base_tokens base ++ dims_tokens dims ++ brackets more ++ any_list_tokens list)

  -- the receiver of a call, and its dot
  pub qualifier_tokens : x.AnyReceiver → Tokens
  qualifier_tokens x.no_receiver = []
  qualifier_tokens (x.a_receiver r) = receiver_tokens r ++ mark y.Dot

  pub receiver_tokens : x.Receiver → Tokens
  receiver_tokens (x.Of object) = expr_tokens object
  receiver_tokens (x.OfName name) = name_tokens name
  receiver_tokens x.Super = word k.Super

  -- with commas
  pub exprs_tokens : x.Exprs → Tokens
  exprs_tokens x.no_exprs = []
  exprs_tokens (x.more_exprs e all) = expr_tokens e ++ after_expr all

  pub after_expr : x.Exprs → Tokens
  after_expr x.no_exprs = []
  after_expr (x.more_exprs e all) = kind.Sym y.Comma ∷ (expr_tokens e ++ after_expr all)

  -- each in brackets
  pub dims_tokens : x.Exprs → Tokens
  dims_tokens x.no_exprs = []
  dims_tokens (x.more_exprs e all) = in_brackets (expr_tokens e) ++ dims_tokens all

  pub any_list_tokens : x.AnyList → Tokens
  any_list_tokens x.no_list = []
  any_list_tokens (x.a_list l) = list_tokens l

  pub list_tokens : x.InitList → Tokens
  list_tokens (x.ListOf all is_open_ended) = in_braces (inits_tokens all ++ if_true is_open_ended (mark y.Comma))

  pub init_tokens : x.Init → Tokens
  init_tokens (x.Value value) = expr_tokens value
  init_tokens (x.Listed l) = list_tokens l

  pub inits_tokens : x.Inits → Tokens
  inits_tokens x.no_inits = []
  inits_tokens (x.more_inits i all) = init_tokens i ++ after_init all

  pub after_init : x.Inits → Tokens
  after_init x.no_inits = []
  after_init (x.more_inits i all) = kind.Sym y.Comma ∷ (init_tokens i ++ after_init all)

-- ---- parts of statements (JLS 14.4, 14.11, 14.14.1)

abbrev pub declarator_tokens : s.Declarator → Tokens
declarator_tokens (s.DeclaratorOf name dims init) = kind.Ident name ∷ (brackets dims ++ if_some (λ i. kind.Sym y.Assign ∷ init_tokens i) init)

abbrev pub after_declarator : List s.Declarator → Tokens
after_declarator [] = []
after_declarator (d ∷ ds) = kind.Sym y.Comma ∷ (declarator_tokens d ++ after_declarator ds)

-- with commas
abbrev pub declarators_tokens : List s.Declarator → Tokens
declarators_tokens [] = []
declarators_tokens (d ∷ ds) = declarator_tokens d ++ after_declarator ds

abbrev pub locals_tokens : Bool → TypeUse → List s.Declarator → Tokens
locals_tokens is_final ty ds = if_true is_final (word k.Final) ++ type_tokens ty ++ declarators_tokens ds

abbrev pub for_init_tokens : s.ForInit → Tokens
for_init_tokens (s.Locals is_final ty ds) = locals_tokens is_final ty ds
for_init_tokens (s.Exprs es) = exprs_tokens es

abbrev pub label_tokens : s.SwitchLabel → Tokens
label_tokens (s.Case value) = kind.Word k.Case ∷ (expr_tokens value ++ mark y.Colon)
label_tokens s.Default = kind.Word k.Default ∷ mark y.Colon

abbrev pub labels_tokens : List s.SwitchLabel → Tokens
labels_tokens [] = []
labels_tokens (l ∷ ls) = label_tokens l ++ labels_tokens ls

abbrev pub cond_tokens : x.Expr → Tokens
cond_tokens c = parens (expr_tokens c)

-- what stands before the body of a `for`
abbrev pub header_tokens : Option s.ForInit → Option x.Expr → x.Exprs → Tokens
header_tokens first c update =
    kind.Word k.For ∷ kind.Sym y.OpenParen ∷ (if_some for_init_tokens first ++ kind.Sym y.Semicolon ∷ (if_some expr_tokens c ++ kind.Sym y.Semicolon ∷ (exprs_tokens update ++ mark y.CloseParen)))

-- ---- statements (JLS 14)

abbrev mutual
  pub stmt_tokens : s.Stmt → Tokens
  stmt_tokens (s.Nest b) = block_tokens b
  stmt_tokens (s.Local is_final ty ds) = locals_tokens is_final ty ds ++ mark y.Semicolon
  stmt_tokens s.Skip = mark y.Semicolon
  stmt_tokens (s.Do body c) = kind.Word k.Do ∷ (stmt_tokens body ++ kind.Word k.While ∷ (cond_tokens c ++ mark y.Semicolon))
  stmt_tokens (s.While c body) = kind.Word k.While ∷ (cond_tokens c ++ stmt_tokens body)
  stmt_tokens (s.If c a b) = kind.Word k.If ∷ (cond_tokens c ++ stmt_tokens a ++ else_tokens b)
  stmt_tokens (s.Eval value) = expr_tokens value ++ mark y.Semicolon
  stmt_tokens (s.For first c update body) = header_tokens first c update ++ stmt_tokens body
  stmt_tokens (s.Switch value gs) = kind.Word k.Switch ∷ (cond_tokens value ++ in_braces (groups_tokens gs))
  stmt_tokens (s.Labeled label body) = kind.Ident label ∷ kind.Sym y.Colon ∷ stmt_tokens body
  stmt_tokens (s.Break label) = kind.Word k.Break ∷ (if_some ident label ++ mark y.Semicolon)
  stmt_tokens (s.Continue label) = kind.Word k.Continue ∷ (if_some ident label ++ mark y.Semicolon)
  stmt_tokens (s.Return value) = kind.Word k.Return ∷ (if_some expr_tokens value ++ mark y.Semicolon)
  stmt_tokens (s.Throw value) = kind.Word k.Throw ∷ (expr_tokens value ++ mark y.Semicolon)
  stmt_tokens (s.Try body cs last) = kind.Word k.Try ∷ (block_tokens body ++ catches_tokens cs ++ finally_tokens last)
  stmt_tokens (s.CtorCall which args) = kind.Word (which_word which) ∷ (parens (exprs_tokens args) ++ mark y.Semicolon)

  pub else_tokens : s.AnyStmt → Tokens
  else_tokens s.no_stmt = []
  else_tokens (s.a_stmt b) = kind.Word k.Else ∷ stmt_tokens b

  pub finally_tokens : s.AnyBlock → Tokens
  finally_tokens s.no_block = []
  finally_tokens (s.a_block b) = kind.Word k.Finally ∷ block_tokens b

  pub block_tokens : s.Block → Tokens
  block_tokens (s.BlockOf all) = in_braces (stmts_tokens all)

  pub catch_tokens : s.Catch → Tokens
  catch_tokens (s.CatchOf p b) = kind.Word k.Catch ∷ (parens (param_tokens p) ++ block_tokens b)

  pub group_tokens : s.Group → Tokens
  group_tokens (s.GroupOf labels all) = labels_tokens labels ++ stmts_tokens all

  pub stmts_tokens : s.Stmts → Tokens
  stmts_tokens s.no_stmts = []
  stmts_tokens (s.more_stmts a all) = stmt_tokens a ++ stmts_tokens all

  pub groups_tokens : s.Groups → Tokens
  groups_tokens s.no_groups = []
  groups_tokens (s.more_groups g all) = group_tokens g ++ groups_tokens all

  pub catches_tokens : s.Catches → Tokens
  catches_tokens s.no_catches = []
  catches_tokens (s.more_catches c all) = catch_tokens c ++ catches_tokens all

-- ---- declarations (JLS 8, 9)

-- the body of a method, or a semicolon
abbrev pub body_tokens : Option s.Block → Tokens
body_tokens None = mark y.Semicolon
body_tokens (Some b) = block_tokens b

abbrev mutual
  pub decl_tokens : d.TypeDecl → Tokens
  decl_tokens (d.Class mods name parent faces body) =
      modifiers_tokens mods ++ kind.Word k.Class ∷ kind.Ident name ∷ (parent_tokens parent ++ names_after k.Implements faces ++ in_braces (members_tokens body))
  decl_tokens (d.Interface mods name faces body) =
      modifiers_tokens mods ++ kind.Word k.Interface ∷ kind.Ident name ∷ (names_after k.Extends faces ++ in_braces (members_tokens body))
  decl_tokens d.Empty = mark y.Semicolon

  pub member_tokens : d.Member → Tokens
  member_tokens (d.Field mods ty ds) = modifiers_tokens mods ++ type_tokens ty ++ declarators_tokens ds ++ mark y.Semicolon
  member_tokens (d.Method mods gives name params thrown body) =
      modifiers_tokens mods ++ result_tokens gives ++ kind.Ident name ∷ (params_tokens params ++ names_after k.Throws thrown ++ body_tokens body)
  member_tokens (d.Constructor mods name params thrown body) =
      modifiers_tokens mods ++ kind.Ident name ∷ (params_tokens params ++ names_after k.Throws thrown ++ block_tokens body)
  member_tokens (d.Init is_static body) = if_true is_static (word k.Static) ++ block_tokens body
  member_tokens (d.Nested decl) = decl_tokens decl

  pub members_tokens : d.Members → Tokens
  members_tokens d.no_members = []
  members_tokens (d.more_members m all) = member_tokens m ++ members_tokens all

abbrev pub decls_tokens : List d.TypeDecl → Tokens
decls_tokens [] = []
decls_tokens (t ∷ ts) = decl_tokens t ++ decls_tokens ts

-- ---- units (JLS 7.3)

abbrev pub unit_tokens : d.CompilationUnit → Tokens
unit_tokens (d.UnitOf package_decl imports types) = if_some package_tokens package_decl ++ joined (map import_tokens imports) ++ decls_tokens types

-- the tokens of a unit of the program
abbrev pub tokens_of : declared_unit.Unit → Tokens
tokens_of u = unit_tokens (d.plain_unit u)
