-- Members and declarations by how they begin: the same readers as those by the token, over fewer cases (JLS 7, 8, 9).
use Rattle.std.specs.Prelude.{ℕ, Bool, true, false, if◌then◌else◌, List, [], ◌∷◌, drop, Option, Some, None}
use Rattle.jr_base.specs.declared.kind.Kind.{Kind}
use Rattle.jr_base.specs.declared.kind.Kind.TheVariants as kind
use Rattle.jr_base.specs.declared.kind.Symbol.TheVariants as y
use Rattle.jr_base.specs.declared.kind.Keyword.{Keyword}
use Rattle.jr_base.specs.declared.kind.Keyword.TheVariants as k
use Rattle.jr_tree.specs.declared.tree.Modifier.{Modifier}
use Rattle.jr_tree.specs.declared.tree.Modifier.TheVariants as modifier
use Rattle.jr_tree.specs.declared.tree.ResultType.TheVariants as outcome
use Rattle.jr_tree.specs.Mirror.Decls as d
use Rattle.jr_parse_laws.specs.Parsers.{Parser, ◌>>=◌, pure, refuse, identifier}
use Rattle.jr_parse_starts.specs.Starts.{over}
use Rattle.jr_parse_expr.specs.Names.{type_use}
use Rattle.jr_parse_defs.specs.Begins.{modifier_kind}
use Rattle.jr_parse_defs.specs.Decls.{modifiers, decl, class_decl, interface_decl, initializer_block, method, identified, typed}
use Rattle.jr_parse.specs.declared.begin.MemberStart.{MemberStart}
use Rattle.jr_parse.specs.declared.begin.MemberStart.TheVariants as start
use Rattle.jr_parse.specs.declared.begin.DeclStart.{DeclStart}
use Rattle.jr_parse.specs.declared.begin.DeclStart.TheVariants as begin

-- past the next token
abbrev pub behind : {A : Type 0} → Parser A → Parser A
behind p ts = p (drop 1 ts)

abbrev pub modifier_at : List Kind → Option Modifier
modifier_at [] = None
modifier_at (token ∷ ts) = modifier_kind token

-- ---- declarations of types

abbrev pub decl_start : Kind → Option DeclStart
decl_start (kind.Sym y.Semicolon) = Some begin.Semicolon
decl_start (kind.Word k.Class) = Some begin.Class
decl_start (kind.Word k.Interface) = Some begin.Interface
decl_start _ = None

abbrev pub decl_start_at : List Kind → Option DeclStart
decl_start_at [] = None
decl_start_at (token ∷ ts) = decl_start token

-- whether there are no modifiers
abbrev pub is_bare : List Modifier → Bool
is_bare [] = true
is_bare (m ∷ mods) = false

-- a semicolon, which has no modifiers (JLS 7.6)
abbrev pub empty_decl : List Modifier → Parser d.TypeDecl
empty_decl mods ts = if is_bare mods then behind (pure d.Empty) ts else refuse ts

module _ (room : ℕ) (inner : Parser d.Member) where
  abbrev pub begun_decl : List Modifier → Option DeclStart → Parser d.TypeDecl
  begun_decl mods None = refuse
  begun_decl mods (Some begin.Class) = behind (class_decl room inner mods)
  begun_decl mods (Some begin.Interface) = behind (interface_decl room inner mods)
  begun_decl mods (Some begin.Semicolon) = empty_decl mods

  abbrev pub new_decl : List Modifier → Parser d.TypeDecl
  new_decl mods ts = begun_decl mods (decl_start_at ts) ts

-- ---- members

abbrev pub member_start_of : Keyword → Option MemberStart
member_start_of k.Void = Some start.Void
member_start_of k.Boolean = Some start.Primitive
member_start_of k.Byte = Some start.Primitive
member_start_of k.Short = Some start.Primitive
member_start_of k.Char = Some start.Primitive
member_start_of k.Int = Some start.Primitive
member_start_of k.Long = Some start.Primitive
member_start_of _ = None

abbrev pub member_start : Kind → Option MemberStart
member_start (kind.Ident name) = Some start.Name
member_start (kind.Sym y.OpenBrace) = Some start.Brace
member_start (kind.Word w) = member_start_of w
member_start _ = None

abbrev pub member_start_at : List Kind → Option MemberStart
member_start_at [] = None
member_start_at (token ∷ ts) = member_start token

-- whether a declaration of a type goes on behind the modifiers
abbrev pub is_nested : List Modifier → Option DeclStart → Bool
is_nested mods None = false
is_nested mods (Some begin.Class) = true
is_nested mods (Some begin.Interface) = true
is_nested mods (Some begin.Semicolon) = is_bare mods

abbrev pub is_static : List Modifier → Bool
is_static (modifier.Static ∷ []) = true
is_static _ = false

module _ (room : ℕ) (nested_decl : List Modifier → Parser d.TypeDecl) where
  -- an initializer has no modifier but `static` (JLS 8.6, 8.7)
  abbrev pub braced : List Modifier → Parser d.Member
  braced mods ts = if is_bare mods then initializer_block room nested_decl false ts else (if is_static mods then initializer_block room nested_decl true ts else refuse ts)

  abbrev pub void_method : List Modifier → Parser d.Member
  void_method mods = identifier >>= method room nested_decl mods outcome.Void

  abbrev pub begun_member : List Modifier → Option MemberStart → Parser d.Member
  begun_member mods None = refuse
  begun_member mods (Some start.Brace) = braced mods
  begun_member mods (Some start.Void) = behind (void_method mods)
  begun_member mods (Some start.Name) = identifier >>= identified room nested_decl mods
  begun_member mods (Some start.Primitive) = type_use >>= typed room nested_decl mods

  -- a member that is no type
  abbrev pub own_member : List Modifier → Parser d.Member
  own_member mods ts = begun_member mods (member_start_at ts) ts

  -- a declaration of a type is one level below
  abbrev pub nested : List Modifier → Parser d.Member
  nested mods = over 1 room (nested_decl mods >>= (λ t. pure (d.Nested t)))

  abbrev pub new_member : List Modifier → Parser d.Member
  new_member mods ts = if is_nested mods (decl_start_at ts) then nested mods ts else own_member mods ts

-- ---- declarations of types with their modifiers

abbrev pub whole_decl : ℕ → Parser d.TypeDecl
whole_decl room = modifiers >>= decl room
