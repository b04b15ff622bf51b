-- Reading declarations and units (JLS 7, 8, 9). Each reader takes no token that no tree allows there.
use Rattle.std.specs.Prelude.{ℕ, zero, suc, Bool, true, false, if◌then◌else◌, List, [], ◌∷◌, ◌++◌, length, Option, Some, None, Ok}
use Rattle.jr_base.specs.declared.text.Text.{Text}
use Rattle.jr_base.specs.declared.kind.Kind.{Kind}
use Rattle.jr_base.specs.declared.kind.Kind.TheVariants as kind
use Rattle.jr_base.specs.declared.kind.Symbol.TheVariants as y
use Rattle.jr_base.specs.declared.kind.Keyword.{Keyword}
use Rattle.jr_base.specs.declared.kind.Keyword.TheVariants as k
use Rattle.jr_tree.specs.declared.tree.Name.{Name}
use Rattle.jr_tree.specs.declared.tree.Base.TheVariants as base
use Rattle.jr_tree.specs.declared.tree.TypeUse.{TypeUse}
use Rattle.jr_tree.specs.declared.tree.Param.{Param}
use Rattle.jr_tree.specs.declared.tree.Primitive.{Primitive}
use Rattle.jr_tree.specs.declared.tree.Modifier.{Modifier}
use Rattle.jr_tree.specs.declared.tree.Modifier.TheVariants as modifier
use Rattle.jr_tree.specs.declared.tree.ResultType.{ResultType}
use Rattle.jr_tree.specs.declared.tree.ResultType.TheVariants as outcome
use Rattle.jr_tree.specs.declared.tree.PackageDecl.{PackageDecl}
use Rattle.jr_tree.specs.declared.tree.Import.{Import}
use Rattle.jr_tree.specs.declared.tree.Import.TheVariants as import
use Rattle.jr_tree.specs.Mirror.Stmts as s
use Rattle.jr_tree.specs.Mirror.Decls as d
use Rattle.jr_parse_laws.specs.Parsers.{Outcome, Parser, ◌>>=◌, ◌>>◌, and_then, pure, refuse, expect, expect_word, identifier, many, commas, is_at, is_at_word}
use Rattle.jr_parse_starts.specs.Starts.{no_level, within, next_is}
use Rattle.jr_parse_expr.specs.Names.{name_of, type_of, dims, name, name_after, primitive_kind, type_use}
use Rattle.jr_parse_expr.specs.Exprs.{next_token, skipping, any_commas}
use Rattle.jr_parse_defs.specs.Begins.{modifier_kind, starts_modifier, starts_decl, starts_member, starts_param, is_import}
use Rattle.jr_parse_defs.specs.Stmts.{declarators_after, param, body, ctor_body}

-- ---- modifiers and lists of names

abbrev pub modifier_by : Option Modifier → Kind → Parser Modifier
modifier_by (Some m) token = pure m
modifier_by None token = λ ts. refuse (token ∷ ts)

unfoldable pub modifiers : Parser (List Modifier)
modifiers = many starts_modifier (next_token (λ token. modifier_by (modifier_kind token) token))

-- names with commas behind a word, if it stands here
abbrev pub names_after : Keyword → Parser (List Name)
names_after w ts = if is_at_word w ts then skipping (commas name) ts else Ok ([], ts)

abbrev pub parent : Parser (Option Name)
parent ts = if is_at_word k.Extends ts then skipping (name >>= (λ n. pure (Some n))) ts else Ok (None, ts)

-- behind a method's or a constructor's name
abbrev pub params : Parser (List Param)
params = do
  expect y.OpenParen
  all ← any_commas starts_param param
  expect y.CloseParen
  pure all

-- ---- declarations of types and members

-- inner reads a member, and nested a declaration of a type behind its modifiers, of at most room levels
module _ (room : ℕ) (inner : Parser d.Member) where
  abbrev pub members : Parser d.Members
  members = do
    expect y.OpenBrace
    all ← many starts_member inner
    expect y.CloseBrace
    pure (d.members all)

  unfoldable pub class_decl : List Modifier → Parser d.TypeDecl
  class_decl mods = do
    n ← identifier
    above ← parent
    faces ← names_after k.Implements
    all ← members
    pure (d.Class mods n above faces all)

  unfoldable pub interface_decl : List Modifier → Parser d.TypeDecl
  interface_decl mods = do
    n ← identifier
    faces ← names_after k.Extends
    all ← members
    pure (d.Interface mods n faces all)

  -- behind the modifiers
  abbrev pub type_decl_by : List Modifier → Kind → Parser d.TypeDecl
  type_decl_by mods (kind.Word k.Class) = class_decl mods
  type_decl_by mods (kind.Word k.Interface) = interface_decl mods
  type_decl_by [] (kind.Sym y.Semicolon) = pure d.Empty
  type_decl_by mods token = λ ts. refuse (token ∷ ts)

  unfoldable pub type_decl : List Modifier → Parser d.TypeDecl
  type_decl mods = next_token (type_decl_by mods)

module _ (room : ℕ) (nested : List Modifier → Parser d.TypeDecl) where
  abbrev pub method_body : Parser (Option s.Block)
  method_body ts = if is_at y.Semicolon ts then skipping (pure None) ts else and_then (body room ts) (λ b. pure (Some b))

  unfoldable pub method : List Modifier → ResultType → Text → Parser d.Member
  method mods gives n = do
    ps ← params
    thrown ← names_after k.Throws
    b ← method_body
    pure (d.Method mods gives n ps thrown b)

  unfoldable pub constructor : List Modifier → Text → Parser d.Member
  constructor mods n = do
    ps ← params
    thrown ← names_after k.Throws
    b ← ctor_body room
    pure (d.Constructor mods n ps thrown b)

  unfoldable pub field : List Modifier → TypeUse → Text → Parser d.Member
  field mods ty n = do
    ds ← declarators_after room n
    expect y.Semicolon
    pure (d.Field mods ty ds)

  -- behind a type
  unfoldable pub typed : List Modifier → TypeUse → Parser d.Member
  typed mods ty = identifier >>= (λ n ts. if is_at y.OpenParen ts then method mods (outcome.Of ty) n ts else field mods ty n ts)

  -- behind an identifier, which is a constructor's or begins a type
  unfoldable pub identified : List Modifier → Text → Parser d.Member
  identified mods head ts =
      if is_at y.OpenParen ts then constructor mods head ts
      else (name_after head >>= (λ n. dims >>= (λ pairs. typed mods (type_of (base.Named n) pairs)))) ts

  abbrev pub is_static : List Modifier → Bool
  is_static (modifier.Static ∷ []) = true
  is_static _ = false

  abbrev pub initializer_block : Bool → Parser d.Member
  initializer_block static = body room >>= (λ b. pure (d.Init static b))

  abbrev pub braced : List Modifier → Parser d.Member
  braced [] = initializer_block false
  braced mods = λ ts. if is_static mods then initializer_block true ts else refuse ts

  abbrev pub member_type : List Modifier → Option Primitive → Kind → Parser d.Member
  member_type mods None token = refuse
  member_type mods (Some p) token = type_use >>= typed mods

  -- a declaration of a type is one level below
  abbrev pub nested_decl : List Modifier → Parser d.Member
  nested_decl mods = next_token (λ token us. within 1 room token (λ ts. and_then (nested mods (token ∷ ts)) (λ t. pure (d.Nested t))) us)

  abbrev pub member_by : List Modifier → Kind → Parser d.Member
  member_by mods (kind.Sym y.OpenBrace) = braced mods
  member_by [] (kind.Sym y.Semicolon) = nested_decl []
  member_by mods (kind.Word k.Class) = nested_decl mods
  member_by mods (kind.Word k.Interface) = nested_decl mods
  member_by mods (kind.Word k.Void) = skipping (identifier >>= method mods outcome.Void)
  member_by mods (kind.Ident head) = skipping (identified mods head)
  member_by mods token = member_type mods (primitive_kind token) token

  abbrev pub after_modifiers : List Modifier → Parser d.Member
  after_modifiers mods [] = refuse []
  after_modifiers mods (token ∷ ts) = member_by mods token (token ∷ ts)

  unfoldable pub member_of : Parser d.Member
  member_of = modifiers >>= after_modifiers

-- ---- of at most so many levels

unfoldable mutual
  pub member : ℕ → Parser d.Member
  member zero = no_level starts_member
  member (suc room) = member_of room (decl room)

  -- behind the modifiers
  pub decl : ℕ → List Modifier → Parser d.TypeDecl
  decl zero mods = no_level starts_decl
  decl (suc room) mods = type_decl room (member room) mods

-- ---- units (JLS 7.3)

abbrev pub package_of : Name → PackageDecl
package_of n = record { name = n }

abbrev pub package_decl : Parser (Option PackageDecl)
package_decl ts =
    if is_at_word k.Package ts then skipping (name >>= (λ n. expect y.Semicolon >> pure (Some (package_of n)))) ts else Ok (None, ts)

-- the identifiers of a name, the last one apart, and whether a star stands behind them
abbrev mutual
  pub imported_from : ℕ → List Text → Text → Parser Import
  imported_from zero before last ts = refuse ts
  imported_from (suc turns) before last (kind.Sym y.Dot ∷ ts) = imported_behind turns before last ts
  imported_from (suc turns) before last (kind.Sym y.Semicolon ∷ ts) = Ok (import.Single (name_of (before ++ last ∷ [])), ts)
  imported_from (suc turns) before last ts = refuse ts

  pub imported_behind : ℕ → List Text → Text → Parser Import
  imported_behind turns before last (kind.Ident n ∷ ts) = imported_from turns (before ++ last ∷ []) n ts
  imported_behind turns before last (kind.Sym y.Star ∷ ts) = (expect y.Semicolon >> pure (import.OnDemand (name_of (before ++ last ∷ [])))) ts
  imported_behind turns before last ts = refuse ts

-- a static import names a member of a type
abbrev pub static_from : ℕ → List Text → Text → Parser Import
static_from zero before last ts = refuse ts
static_from (suc turns) before last ts =
    if is_at y.Dot ts then skipping (identifier >>= (λ n. static_from turns (before ++ last ∷ []) n)) ts
    else static_end before last ts
  where
    static_end : List Text → Text → Parser Import
    static_end [] last = refuse
    static_end (part ∷ parts) last = expect y.Semicolon >> pure (import.StaticSingle (name_of (part ∷ parts)) last)

unfoldable pub import_decl : Parser Import
import_decl = expect_word k.Import >> (λ ts.
    if is_at_word k.Static ts
    then skipping (identifier >>= (λ head us. static_from (length us) [] head us)) ts
    else (identifier >>= (λ head us. imported_from (length us) [] head us)) ts)

-- all the tokens
abbrev pub ended : d.CompilationUnit → List Kind → Outcome d.CompilationUnit
ended u [] = Ok (u, [])
ended u (token ∷ ts) = refuse (token ∷ ts)

unfoldable pub unit : ℕ → Parser d.CompilationUnit
unit room = do
  p ← package_decl
  imports ← many (next_is is_import) import_decl
  types ← many starts_decl (modifiers >>= decl room)
  ended (d.UnitOf p imports types)
