-- Which tokens begin statements, members and declarations (JLS 7, 8, 9, 14).
use Rattle.std.specs.Prelude.{Bool, true, false, ◌||◌, Option, Some, None}
use Rattle.jr_base.specs.declared.kind.Kind.{Kind}
use Rattle.jr_base.specs.declared.kind.Kind.TheVariants as kind
use Rattle.jr_base.specs.declared.kind.Symbol.TheVariants as y
use Rattle.jr_base.specs.declared.kind.Keyword.{Keyword}
use Rattle.jr_base.specs.declared.kind.Keyword.TheVariants as k
use Rattle.jr_tree.specs.declared.tree.Modifier.{Modifier}
use Rattle.jr_tree.specs.declared.tree.Modifier.TheVariants as modifier
use Rattle.jr_parse_expr.specs.Names.{primitive_of}
use Rattle.jr_parse_starts.specs.Starts.{next_is, begins_effect}

abbrev pub some : {A : Type 0} → Option A → Bool
some None = false
some (Some a) = true

abbrev pub stmt_word : Keyword → Bool
stmt_word k.Do = true
stmt_word k.While = true
stmt_word k.If = true
stmt_word k.For = true
stmt_word k.Switch = true
stmt_word k.Break = true
stmt_word k.Continue = true
stmt_word k.Return = true
stmt_word k.Throw = true
stmt_word k.Try = true
stmt_word _ = false

-- a statement that may be a part of another (JLS 14.5)
abbrev pub begins_stmt : Kind → Bool
begins_stmt (kind.Sym y.OpenBrace) = true
begins_stmt (kind.Sym y.Semicolon) = true
begins_stmt (kind.Word w) = stmt_word w || begins_effect (kind.Word w)
begins_stmt token = begins_effect token

abbrev pub begins_local : Kind → Bool
begins_local (kind.Word k.Final) = true
begins_local (kind.Word w) = some (primitive_of w)
begins_local _ = false

-- one that stands directly in a block or a group (JLS 14.2)
abbrev pub begins_block_stmt : Kind → Bool
begins_block_stmt token = begins_stmt token || begins_local token

abbrev pub starts_stmt : Option Kind → Bool
starts_stmt = next_is begins_stmt

abbrev pub starts_block_stmt : Option Kind → Bool
starts_block_stmt = next_is begins_block_stmt

abbrev pub begins_label : Kind → Bool
begins_label (kind.Word k.Case) = true
begins_label (kind.Word k.Default) = true
begins_label _ = false

abbrev pub starts_label : Option Kind → Bool
starts_label = next_is begins_label

abbrev pub is_catch : Kind → Bool
is_catch (kind.Word k.Catch) = true
is_catch _ = false

abbrev pub is_import : Kind → Bool
is_import (kind.Word k.Import) = true
is_import _ = false

abbrev pub modifier_of : Keyword → Option Modifier
modifier_of k.Public = Some modifier.Public
modifier_of k.Protected = Some modifier.Protected
modifier_of k.Private = Some modifier.Private
modifier_of k.Abstract = Some modifier.Abstract
modifier_of k.Static = Some modifier.Static
modifier_of k.Final = Some modifier.Final
modifier_of k.Native = Some modifier.Native
modifier_of _ = None

abbrev pub modifier_kind : Kind → Option Modifier
modifier_kind (kind.Word w) = modifier_of w
modifier_kind _ = None

abbrev pub starts_modifier : Option Kind → Bool
starts_modifier = next_is (λ token. some (modifier_kind token))

abbrev pub begins_decl : Kind → Bool
begins_decl (kind.Sym y.Semicolon) = true
begins_decl (kind.Word k.Class) = true
begins_decl (kind.Word k.Interface) = true
begins_decl token = some (modifier_kind token)

abbrev pub starts_decl : Option Kind → Bool
starts_decl = next_is begins_decl

abbrev pub begins_member : Kind → Bool
begins_member (kind.Sym y.OpenBrace) = true
begins_member (kind.Ident name) = true
begins_member (kind.Word k.Void) = true
begins_member (kind.Word w) = some (primitive_of w) || begins_decl (kind.Word w)
begins_member token = begins_decl token

abbrev pub starts_member : Option Kind → Bool
starts_member = next_is begins_member

-- a parameter (JLS 8.4.1)
abbrev pub begins_param : Kind → Bool
begins_param (kind.Ident name) = true
begins_param token = begins_local token

abbrev pub starts_param : Option Kind → Bool
starts_param = next_is begins_param
