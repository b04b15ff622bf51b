-- Writing in front of a rest is writing out the tokens and then the rest.
use Rattle.std.proofs.Common.{◌≡◌, ◌≤◌, Bool, true, false, List, [], ◌∷◌, ◌++◌, map, length, Option, Some, None, refl, ap, ◌∙◌, append_assoc, length-append, arith}
use Rattle.jr_base.specs.declared.text.Text.{Text}
use Rattle.jr_base.specs.declared.kind.Kind.{Kind}
use Rattle.jr_base.specs.declared.kind.Kind.TheVariants as kind
use Rattle.jr_base.specs.declared.kind.Symbol.TheVariants as y
use Rattle.jr_base.specs.declared.kind.Keyword.{Keyword}
use Rattle.jr_base.specs.declared.kind.Keyword.TheVariants as k
use Rattle.jr_tree.specs.declared.tree.Name.{Name}
use Rattle.jr_tree.specs.declared.tree.TypeUse.{TypeUse}
use Rattle.jr_tree.specs.declared.tree.Param.{Param}
use Rattle.jr_tree.specs.declared.tree.Modifier.{Modifier}
use Rattle.jr_tree.specs.declared.tree.ResultType.{ResultType}
use Rattle.jr_tree.specs.declared.tree.ResultType.TheVariants as outcome
use Rattle.jr_tree.specs.declared.tree.PackageDecl.{PackageDecl}
use Rattle.jr_tree.specs.declared.tree.Import.{Import}
use Rattle.jr_tree.specs.declared.tree.Import.TheVariants as import
use Rattle.jr_tree.specs.Words.{if_some, if_true, ident, joined, after_each, brackets, name_tokens, type_tokens, param_tokens, params_tokens, modifiers_tokens, result_tokens, modifier_word, which_word, names_after, parent_tokens, package_tokens, import_tokens}
use Rattle.jr_tree.specs.Tokens.{expr_tokens, exprs_tokens, init_tokens, declarator_tokens, after_declarator, declarators_tokens, locals_tokens, for_init_tokens, label_tokens, labels_tokens, cond_tokens, stmt_tokens, else_tokens, finally_tokens, block_tokens, catch_tokens, group_tokens, stmts_tokens, groups_tokens, catches_tokens, body_tokens, decl_tokens, member_tokens, members_tokens, decls_tokens, unit_tokens}
use Rattle.jr_tree.specs.Mirror.Exprs as x
use Rattle.jr_tree.specs.Mirror.Stmts as s
use Rattle.jr_tree.specs.Mirror.Decls as d
use Rattle.jr_parse_expr.specs.Writing.{write_name, write_type, write_expr, write_exprs}
use Rattle.jr_parse_expr.proofs.Written.{name_written, brackets_written, type_written, written, exprs_written, init_written}
use Rattle.jr_parse_defs.specs.Writing.{write_if, write_some, write_assigned, write_declarator, write_later, write_declarators, write_locals, write_for_init, write_label, write_labels, write_cond, write_ident, write_param, write_stmt, write_else, write_finally, write_block, write_catch, write_group, write_stmts, write_groups, write_catches, write_modifiers, write_later_params, write_params, write_later_names, write_names_after, write_parent, write_result, write_body, write_decl, write_member, write_members, write_decls, write_package, write_import, write_imports, write_unit}

-- ---- parts

if_written : (b : Bool) (token : Kind) (rest : List Kind) → write_if b token rest ≡ if_true b (token ∷ []) ++ rest
if_written true token rest = refl
if_written false token rest = refl

some_written : {A : Type 0} (write : A → List Kind → List Kind) (tokens : A → List Kind) → ((a : A) (rest : List Kind) → write a rest ≡ tokens a ++ rest) → (o : Option A) (rest : List Kind)
    → write_some write o rest ≡ if_some tokens o ++ rest
some_written write tokens h None rest = refl
some_written write tokens h (Some a) rest = h a rest

assigned_written : (i : Option x.Init) (rest : List Kind) → write_assigned i rest ≡ if_some (λ i. kind.Sym y.Assign ∷ init_tokens i) i ++ rest
assigned_written None rest = refl
assigned_written (Some i) rest = ap (λ ts. kind.Sym y.Assign ∷ ts) (init_written i rest)

pub declarator_written : (d : s.Declarator) (rest : List Kind) → write_declarator d rest ≡ declarator_tokens d ++ rest
declarator_written (s.DeclaratorOf name dims init) rest = simp append_assoc (rw (assigned_written init rest) (ap (λ ts. kind.Ident name ∷ ts) (brackets_written dims _)))

later_written : (ds : List s.Declarator) (rest : List Kind) → write_later ds rest ≡ after_declarator ds ++ rest
later_written [] rest = refl
later_written (d ∷ ds) rest = simp append_assoc (rw (later_written ds rest) (ap (λ ts. kind.Sym y.Comma ∷ ts) (declarator_written d _)))

pub declarators_written : (ds : List s.Declarator) (rest : List Kind) → write_declarators ds rest ≡ declarators_tokens ds ++ rest
declarators_written [] rest = refl
declarators_written (d ∷ ds) rest = simp append_assoc (rw (later_written ds rest) (declarator_written d _))

locals_written : (b : Bool) (ty : TypeUse) (ds : List s.Declarator) (rest : List Kind) → write_locals b ty ds rest ≡ locals_tokens b ty ds ++ rest
locals_written b ty ds rest =
    ap (λ ts. write_if b (kind.Word k.Final) (write_type ty ts)) (declarators_written ds rest)
    ∙ ap (write_if b (kind.Word k.Final)) (type_written ty (declarators_tokens ds ++ rest))
    ∙ if_written b (kind.Word k.Final) (type_tokens ty ++ (declarators_tokens ds ++ rest))
    ∙ simp append_assoc refl

pub for_init_written : (i : s.ForInit) (rest : List Kind) → write_for_init i rest ≡ for_init_tokens i ++ rest
for_init_written (s.Locals b ty ds) rest = locals_written b ty ds rest
for_init_written (s.Exprs es) rest = exprs_written es rest

pub label_written : (l : s.SwitchLabel) (rest : List Kind) → write_label l rest ≡ label_tokens l ++ rest
label_written (s.Case value) rest = simp append_assoc (ap (λ ts. kind.Word k.Case ∷ ts) (written value (kind.Sym y.Colon ∷ rest)))
label_written s.Default rest = refl

labels_written : (ls : List s.SwitchLabel) (rest : List Kind) → write_labels ls rest ≡ labels_tokens ls ++ rest
labels_written [] rest = refl
labels_written (l ∷ ls) rest = simp append_assoc (rw (labels_written ls rest) (label_written l _))

pub cond_written : (c : x.Expr) (rest : List Kind) → write_cond c rest ≡ cond_tokens c ++ rest
cond_written c rest = simp append_assoc (ap (λ ts. kind.Sym y.OpenParen ∷ ts) (written c (kind.Sym y.CloseParen ∷ rest)))

ident_written : (l : Option Text) (rest : List Kind) → write_some write_ident l rest ≡ if_some ident l ++ rest
ident_written None rest = refl
ident_written (Some l) rest = refl

pub param_written : (p : Param) (rest : List Kind) → write_param p rest ≡ param_tokens p ++ rest
param_written p rest =
    ap (λ ts. write_if p.is_final (kind.Word k.Final) (write_type p.ty (kind.Ident p.name ∷ ts))) (brackets_written p.dims rest)
    ∙ ap (write_if p.is_final (kind.Word k.Final)) (type_written p.ty (kind.Ident p.name ∷ (brackets p.dims ++ rest)))
    ∙ if_written p.is_final (kind.Word k.Final) (type_tokens p.ty ++ kind.Ident p.name ∷ (brackets p.dims ++ rest))
    ∙ simp append_assoc refl

-- ---- statements

mutual
  pub stmt_written : (a : s.Stmt) (rest : List Kind) → write_stmt a rest ≡ stmt_tokens a ++ rest
  stmt_written (s.Nest b) rest = block_written b rest
  stmt_written (s.Local b ty ds) rest = locals_written b ty ds (kind.Sym y.Semicolon ∷ rest) ∙ simp append_assoc refl
  stmt_written s.Skip rest = refl
  stmt_written (s.Do body c) rest =
      ap (λ ts. kind.Word k.Do ∷ write_stmt body (kind.Word k.While ∷ ts)) (cond_written c (kind.Sym y.Semicolon ∷ rest))
      ∙ ap (λ ts. kind.Word k.Do ∷ ts) (stmt_written body (kind.Word k.While ∷ (cond_tokens c ++ kind.Sym y.Semicolon ∷ rest)))
      ∙ simp append_assoc refl
  stmt_written (s.While c body) rest =
      ap (λ ts. kind.Word k.While ∷ write_cond c ts) (stmt_written body rest)
      ∙ ap (λ ts. kind.Word k.While ∷ ts) (cond_written c (stmt_tokens body ++ rest))
      ∙ simp append_assoc refl
  stmt_written (s.If c a b) rest =
      ap (λ ts. kind.Word k.If ∷ write_cond c (write_stmt a ts)) (else_written b rest)
      ∙ ap (λ ts. kind.Word k.If ∷ write_cond c ts) (stmt_written a (else_tokens b ++ rest))
      ∙ ap (λ ts. kind.Word k.If ∷ ts) (cond_written c (stmt_tokens a ++ (else_tokens b ++ rest)))
      ∙ simp append_assoc refl
  stmt_written (s.Eval value) rest = written value (kind.Sym y.Semicolon ∷ rest) ∙ simp append_assoc refl
  stmt_written (s.For first c update body) rest =
      let a = stmt_tokens body ++ rest in
      let b = exprs_tokens update ++ kind.Sym y.CloseParen ∷ a in
      let e = if_some expr_tokens c ++ kind.Sym y.Semicolon ∷ b in
      ap (λ ts. kind.Word k.For ∷ kind.Sym y.OpenParen ∷ write_some write_for_init first (kind.Sym y.Semicolon ∷ write_some write_expr c (kind.Sym y.Semicolon ∷ write_exprs update (kind.Sym y.CloseParen ∷ ts)))) (stmt_written body rest)
      ∙ ap (λ ts. kind.Word k.For ∷ kind.Sym y.OpenParen ∷ write_some write_for_init first (kind.Sym y.Semicolon ∷ write_some write_expr c (kind.Sym y.Semicolon ∷ ts))) (exprs_written update (kind.Sym y.CloseParen ∷ a))
      ∙ ap (λ ts. kind.Word k.For ∷ kind.Sym y.OpenParen ∷ write_some write_for_init first (kind.Sym y.Semicolon ∷ ts)) (some_written write_expr expr_tokens written c (kind.Sym y.Semicolon ∷ b))
      ∙ ap (λ ts. kind.Word k.For ∷ kind.Sym y.OpenParen ∷ ts) (some_written write_for_init for_init_tokens for_init_written first (kind.Sym y.Semicolon ∷ e))
      ∙ simp append_assoc refl
  stmt_written (s.Switch value gs) rest =
      ap (λ ts. kind.Word k.Switch ∷ write_cond value (kind.Sym y.OpenBrace ∷ ts)) (groups_written gs (kind.Sym y.CloseBrace ∷ rest))
      ∙ ap (λ ts. kind.Word k.Switch ∷ ts) (cond_written value (kind.Sym y.OpenBrace ∷ (groups_tokens gs ++ kind.Sym y.CloseBrace ∷ rest)))
      ∙ simp append_assoc refl
  stmt_written (s.Labeled label body) rest = ap (λ ts. kind.Ident label ∷ kind.Sym y.Colon ∷ ts) (stmt_written body rest)
  stmt_written (s.Break label) rest = ap (λ ts. kind.Word k.Break ∷ ts) (ident_written label (kind.Sym y.Semicolon ∷ rest)) ∙ simp append_assoc refl
  stmt_written (s.Continue label) rest = ap (λ ts. kind.Word k.Continue ∷ ts) (ident_written label (kind.Sym y.Semicolon ∷ rest)) ∙ simp append_assoc refl
  stmt_written (s.Return value) rest = ap (λ ts. kind.Word k.Return ∷ ts) (some_written write_expr expr_tokens written value (kind.Sym y.Semicolon ∷ rest)) ∙ simp append_assoc refl
  stmt_written (s.Throw value) rest = ap (λ ts. kind.Word k.Throw ∷ ts) (written value (kind.Sym y.Semicolon ∷ rest)) ∙ simp append_assoc refl
  stmt_written (s.Try body cs last) rest =
      ap (λ ts. kind.Word k.Try ∷ write_block body (write_catches cs ts)) (finally_written last rest)
      ∙ ap (λ ts. kind.Word k.Try ∷ write_block body ts) (catches_written cs (finally_tokens last ++ rest))
      ∙ ap (λ ts. kind.Word k.Try ∷ ts) (block_written body (catches_tokens cs ++ (finally_tokens last ++ rest)))
      ∙ simp append_assoc refl
  stmt_written (s.CtorCall which args) rest =
      ap (λ ts. kind.Word (which_word which) ∷ kind.Sym y.OpenParen ∷ ts) (exprs_written args (kind.Sym y.CloseParen ∷ kind.Sym y.Semicolon ∷ rest)) ∙ simp append_assoc refl

  else_written : (b : s.AnyStmt) (rest : List Kind) → write_else b rest ≡ else_tokens b ++ rest
  else_written s.no_stmt rest = refl
  else_written (s.a_stmt b) rest = ap (λ ts. kind.Word k.Else ∷ ts) (stmt_written b rest)

  finally_written : (b : s.AnyBlock) (rest : List Kind) → write_finally b rest ≡ finally_tokens b ++ rest
  finally_written s.no_block rest = refl
  finally_written (s.a_block b) rest = ap (λ ts. kind.Word k.Finally ∷ ts) (block_written b rest)

  pub block_written : (b : s.Block) (rest : List Kind) → write_block b rest ≡ block_tokens b ++ rest
  block_written (s.BlockOf all) rest = ap (λ ts. kind.Sym y.OpenBrace ∷ ts) (stmts_written all (kind.Sym y.CloseBrace ∷ rest)) ∙ simp append_assoc refl

  pub catch_written : (c : s.Catch) (rest : List Kind) → write_catch c rest ≡ catch_tokens c ++ rest
  catch_written (s.CatchOf p b) rest =
      ap (λ ts. kind.Word k.Catch ∷ kind.Sym y.OpenParen ∷ write_param p (kind.Sym y.CloseParen ∷ ts)) (block_written b rest)
      ∙ ap (λ ts. kind.Word k.Catch ∷ kind.Sym y.OpenParen ∷ ts) (param_written p (kind.Sym y.CloseParen ∷ (block_tokens b ++ rest)))
      ∙ simp append_assoc refl

  pub group_written : (g : s.Group) (rest : List Kind) → write_group g rest ≡ group_tokens g ++ rest
  group_written (s.GroupOf labels all) rest = ap (write_labels labels) (stmts_written all rest) ∙ labels_written labels (stmts_tokens all ++ rest) ∙ simp append_assoc refl

  pub stmts_written : (all : s.Stmts) (rest : List Kind) → write_stmts all rest ≡ stmts_tokens all ++ rest
  stmts_written s.no_stmts rest = refl
  stmts_written (s.more_stmts a all) rest = ap (write_stmt a) (stmts_written all rest) ∙ stmt_written a (stmts_tokens all ++ rest) ∙ simp append_assoc refl

  pub groups_written : (all : s.Groups) (rest : List Kind) → write_groups all rest ≡ groups_tokens all ++ rest
  groups_written s.no_groups rest = refl
  groups_written (s.more_groups g all) rest = ap (write_group g) (groups_written all rest) ∙ group_written g (groups_tokens all ++ rest) ∙ simp append_assoc refl

  pub catches_written : (all : s.Catches) (rest : List Kind) → write_catches all rest ≡ catches_tokens all ++ rest
  catches_written s.no_catches rest = refl
  catches_written (s.more_catches c all) rest = ap (write_catch c) (catches_written all rest) ∙ catch_written c (catches_tokens all ++ rest) ∙ simp append_assoc refl

-- ---- parts of declarations

pub modifiers_written : (ms : List Modifier) (rest : List Kind) → write_modifiers ms rest ≡ modifiers_tokens ms ++ rest
modifiers_written [] rest = refl
modifiers_written (m ∷ ms) rest = ap (λ ts. kind.Word (modifier_word m) ∷ ts) (modifiers_written ms rest)

later_params_written : (ps : List Param) (rest : List Kind) → write_later_params ps rest ≡ after_each y.Comma (map param_tokens ps) ++ rest
later_params_written [] rest = refl
later_params_written (p ∷ ps) rest =
    ap (λ ts. kind.Sym y.Comma ∷ write_param p ts) (later_params_written ps rest) ∙ ap (λ ts. kind.Sym y.Comma ∷ ts) (param_written p _) ∙ simp append_assoc refl

pub params_written : (ps : List Param) (rest : List Kind) → write_params ps rest ≡ params_tokens ps ++ rest
params_written [] rest = refl
params_written (p ∷ ps) rest =
    ap (λ ts. kind.Sym y.OpenParen ∷ write_param p ts) (later_params_written ps (kind.Sym y.CloseParen ∷ rest)) ∙ ap (λ ts. kind.Sym y.OpenParen ∷ ts) (param_written p _) ∙ simp append_assoc refl

later_names_written : (ns : List Name) (rest : List Kind) → write_later_names ns rest ≡ after_each y.Comma (map name_tokens ns) ++ rest
later_names_written [] rest = refl
later_names_written (n ∷ ns) rest =
    ap (λ ts. kind.Sym y.Comma ∷ write_name n ts) (later_names_written ns rest) ∙ ap (λ ts. kind.Sym y.Comma ∷ ts) (name_written n _) ∙ simp append_assoc refl

pub names_after_written : (w : Keyword) (ns : List Name) (rest : List Kind) → write_names_after w ns rest ≡ names_after w ns ++ rest
names_after_written w [] rest = refl
names_after_written w (n ∷ ns) rest =
    ap (λ ts. kind.Word w ∷ write_name n ts) (later_names_written ns rest) ∙ ap (λ ts. kind.Word w ∷ ts) (name_written n _) ∙ simp append_assoc refl

pub parent_written : (p : Option Name) (rest : List Kind) → write_parent p rest ≡ parent_tokens p ++ rest
parent_written None rest = refl
parent_written (Some n) rest = ap (λ ts. kind.Word k.Extends ∷ ts) (name_written n rest)

pub result_written : (r : ResultType) (rest : List Kind) → write_result r rest ≡ result_tokens r ++ rest
result_written outcome.Void rest = refl
result_written (outcome.Of ty) rest = type_written ty rest

body_written : (b : Option s.Block) (rest : List Kind) → write_body b rest ≡ body_tokens b ++ rest
body_written None rest = refl
body_written (Some b) rest = block_written b rest

-- ---- declarations

mutual
  pub decl_written : (t : d.TypeDecl) (rest : List Kind) → write_decl t rest ≡ decl_tokens t ++ rest
  decl_written (d.Class mods name parent faces body) rest =
      let a = members_tokens body ++ kind.Sym y.CloseBrace ∷ rest in
      let b = names_after k.Implements faces ++ kind.Sym y.OpenBrace ∷ a in
      ap (λ ts. write_modifiers mods (kind.Word k.Class ∷ kind.Ident name ∷ write_parent parent (write_names_after k.Implements faces (kind.Sym y.OpenBrace ∷ ts)))) (members_written body (kind.Sym y.CloseBrace ∷ rest))
      ∙ ap (λ ts. write_modifiers mods (kind.Word k.Class ∷ kind.Ident name ∷ write_parent parent ts)) (names_after_written k.Implements faces (kind.Sym y.OpenBrace ∷ a))
      ∙ ap (λ ts. write_modifiers mods (kind.Word k.Class ∷ kind.Ident name ∷ ts)) (parent_written parent b)
      ∙ modifiers_written mods _
      ∙ simp append_assoc refl
  decl_written (d.Interface mods name faces body) rest =
      let a = members_tokens body ++ kind.Sym y.CloseBrace ∷ rest in
      ap (λ ts. write_modifiers mods (kind.Word k.Interface ∷ kind.Ident name ∷ write_names_after k.Extends faces (kind.Sym y.OpenBrace ∷ ts))) (members_written body (kind.Sym y.CloseBrace ∷ rest))
      ∙ ap (λ ts. write_modifiers mods (kind.Word k.Interface ∷ kind.Ident name ∷ ts)) (names_after_written k.Extends faces (kind.Sym y.OpenBrace ∷ a))
      ∙ modifiers_written mods _
      ∙ simp append_assoc refl
  decl_written d.Empty rest = refl

  pub member_written : (m : d.Member) (rest : List Kind) → write_member m rest ≡ member_tokens m ++ rest
  member_written (d.Field mods ty ds) rest =
      ap (λ ts. write_modifiers mods (write_type ty ts)) (declarators_written ds (kind.Sym y.Semicolon ∷ rest))
      ∙ ap (write_modifiers mods) (type_written ty _)
      ∙ modifiers_written mods _
      ∙ simp append_assoc refl
  member_written (d.Method mods gives name params thrown body) rest =
      let a = body_tokens body ++ rest in
      let b = names_after k.Throws thrown ++ a in
      ap (λ ts. write_modifiers mods (write_result gives (kind.Ident name ∷ write_params params (write_names_after k.Throws thrown ts)))) (body_written body rest)
      ∙ ap (λ ts. write_modifiers mods (write_result gives (kind.Ident name ∷ write_params params ts))) (names_after_written k.Throws thrown a)
      ∙ ap (λ ts. write_modifiers mods (write_result gives (kind.Ident name ∷ ts))) (params_written params b)
      ∙ ap (write_modifiers mods) (result_written gives _)
      ∙ modifiers_written mods _
      ∙ simp append_assoc refl
  member_written (d.Constructor mods name params thrown body) rest =
      let a = block_tokens body ++ rest in
      let b = names_after k.Throws thrown ++ a in
      ap (λ ts. write_modifiers mods (kind.Ident name ∷ write_params params (write_names_after k.Throws thrown ts))) (block_written body rest)
      ∙ ap (λ ts. write_modifiers mods (kind.Ident name ∷ write_params params ts)) (names_after_written k.Throws thrown a)
      ∙ ap (λ ts. write_modifiers mods (kind.Ident name ∷ ts)) (params_written params b)
      ∙ modifiers_written mods _
      ∙ simp append_assoc refl
  member_written (d.Init is_static body) rest = ap (write_if is_static (kind.Word k.Static)) (block_written body rest) ∙ if_written is_static (kind.Word k.Static) (block_tokens body ++ rest) ∙ simp append_assoc refl
  member_written (d.Nested decl) rest = decl_written decl rest

  pub members_written : (all : d.Members) (rest : List Kind) → write_members all rest ≡ members_tokens all ++ rest
  members_written d.no_members rest = refl
  members_written (d.more_members m all) rest = ap (write_member m) (members_written all rest) ∙ member_written m (members_tokens all ++ rest) ∙ simp append_assoc refl

decls_written : (all : List d.TypeDecl) (rest : List Kind) → write_decls all rest ≡ decls_tokens all ++ rest
decls_written [] rest = refl
decls_written (t ∷ ts) rest = ap (write_decl t) (decls_written ts rest) ∙ decl_written t (decls_tokens ts ++ rest) ∙ simp append_assoc refl

-- ---- units

pub package_written : (p : PackageDecl) (rest : List Kind) → write_package p rest ≡ package_tokens p ++ rest
package_written p rest = ap (λ ts. kind.Word k.Package ∷ ts) (name_written p.name (kind.Sym y.Semicolon ∷ rest)) ∙ simp append_assoc refl

pub import_written : (i : Import) (rest : List Kind) → write_import i rest ≡ import_tokens i ++ rest
import_written (import.Single n) rest = ap (λ ts. kind.Word k.Import ∷ ts) (name_written n (kind.Sym y.Semicolon ∷ rest)) ∙ simp append_assoc refl
import_written (import.OnDemand n) rest = ap (λ ts. kind.Word k.Import ∷ ts) (name_written n (kind.Sym y.Dot ∷ kind.Sym y.Star ∷ kind.Sym y.Semicolon ∷ rest)) ∙ simp append_assoc refl
import_written (import.StaticSingle n member) rest =
    ap (λ ts. kind.Word k.Import ∷ kind.Word k.Static ∷ ts) (name_written n (kind.Sym y.Dot ∷ kind.Ident member ∷ kind.Sym y.Semicolon ∷ rest)) ∙ simp append_assoc refl

imports_written : (all : List Import) (rest : List Kind) → write_imports all rest ≡ joined (map import_tokens all) ++ rest
imports_written [] rest = refl
imports_written (i ∷ all) rest = ap (write_import i) (imports_written all rest) ∙ import_written i _ ∙ simp append_assoc refl

pub unit_written : (u : d.CompilationUnit) (rest : List Kind) → write_unit u rest ≡ unit_tokens u ++ rest
unit_written (d.UnitOf package_decl imports types) rest =
    ap (λ ts. write_some write_package package_decl (write_imports imports ts)) (decls_written types rest)
    ∙ ap (write_some write_package package_decl) (imports_written imports (decls_tokens types ++ rest))
    ∙ some_written write_package package_tokens package_written package_decl _
    ∙ simp append_assoc refl

-- ---- what follows

pub longer_by : (tokens rest ts : List Kind) → ts ≡ tokens ++ rest → length rest ≤ length ts
longer_by tokens rest ts h = rw (h, length-append) (omega arith)
