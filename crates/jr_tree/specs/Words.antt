-- Tokens of what holds no expression: words, symbols, names and types.
use Rattle.std.specs.Prelude.{ℕ, zero, suc, List, [], ◌∷◌, ◌++◌, map, Bool, true, false, Option, Some, None}
use Rattle.jr_base.specs.declared.text.Text.{Text}
use Rattle.jr_base.specs.declared.kind.Kind.{Kind}
use Rattle.jr_base.specs.declared.kind.Kind.TheVariants as kind
use Rattle.jr_base.specs.declared.kind.Symbol.{Symbol}
use Rattle.jr_base.specs.declared.kind.Symbol.TheVariants as y
use Rattle.jr_base.specs.declared.kind.Keyword.{Keyword}
use Rattle.jr_base.specs.declared.kind.Keyword.TheVariants as k
use Rattle.jr_tree.specs.declared.tree.Name.{Name}
use Rattle.jr_tree.specs.declared.tree.Primitive.{Primitive}
use Rattle.jr_tree.specs.declared.tree.Primitive.TheVariants as primitive
use Rattle.jr_tree.specs.declared.tree.Base.{Base}
use Rattle.jr_tree.specs.declared.tree.Base.TheVariants as base
use Rattle.jr_tree.specs.declared.tree.TypeUse.{TypeUse}
use Rattle.jr_tree.specs.declared.tree.Param.{Param}
use Rattle.jr_tree.specs.declared.tree.ThisOrSuper.{ThisOrSuper}
use Rattle.jr_tree.specs.declared.tree.ThisOrSuper.TheVariants as which
use Rattle.jr_tree.specs.declared.tree.Modifier.{Modifier}
use Rattle.jr_tree.specs.declared.tree.Modifier.TheVariants as modifier
use Rattle.jr_tree.specs.declared.tree.ResultType.{ResultType}
use Rattle.jr_tree.specs.declared.tree.ResultType.TheVariants as outcome
use Rattle.jr_tree.specs.declared.tree.PackageDecl.{PackageDecl}
use Rattle.jr_tree.specs.declared.tree.Import.{Import}
use Rattle.jr_tree.specs.declared.tree.Import.TheVariants as import

abbrev pub Tokens : Type 0
Tokens = List Kind

abbrev pub word : Keyword → Tokens
word w = kind.Word w ∷ []

abbrev pub mark : Symbol → Tokens
mark m = kind.Sym m ∷ []

abbrev pub ident : Text → Tokens
ident name = kind.Ident name ∷ []

-- ---- parts that may be absent, and lists

abbrev pub if_some : {A : Type 0} → (A → Tokens) → Option A → Tokens
if_some f None = []
if_some f (Some x) = f x

abbrev pub if_true : Bool → Tokens → Tokens
if_true true ts = ts
if_true false ts = []

abbrev pub joined : List Tokens → Tokens
joined [] = []
joined (part ∷ parts) = part ++ joined parts

-- a mark before each part
abbrev pub after_each : Symbol → List Tokens → Tokens
after_each m [] = []
after_each m (part ∷ parts) = kind.Sym m ∷ (part ++ after_each m parts)

-- a mark between two parts
abbrev pub between : Symbol → List Tokens → Tokens
between m [] = []
between m (part ∷ parts) = part ++ after_each m parts

abbrev pub parens : Tokens → Tokens
parens ts = kind.Sym y.OpenParen ∷ (ts ++ mark y.CloseParen)

abbrev pub in_brackets : Tokens → Tokens
in_brackets ts = kind.Sym y.OpenBracket ∷ (ts ++ mark y.CloseBracket)

abbrev pub in_braces : Tokens → Tokens
in_braces ts = kind.Sym y.OpenBrace ∷ (ts ++ mark y.CloseBrace)

-- pairs of brackets
abbrev pub brackets : ℕ → Tokens
brackets zero = []
brackets (suc n) = kind.Sym y.OpenBracket ∷ kind.Sym y.CloseBracket ∷ brackets n

-- ---- names and types (JLS 4, 6.2)

abbrev pub name_tokens : Name → Tokens
name_tokens n = between y.Dot (map ident n.parts)

abbrev pub primitive_word : Primitive → Keyword
primitive_word primitive.Boolean = k.Boolean
primitive_word primitive.Byte = k.Byte
primitive_word primitive.Short = k.Short
primitive_word primitive.Char = k.Char
primitive_word primitive.Int = k.Int
primitive_word primitive.Long = k.Long

abbrev pub base_tokens : Base → Tokens
base_tokens (base.Primitive p) = word (primitive_word p)
base_tokens (base.Named n) = name_tokens n

abbrev pub type_tokens : TypeUse → Tokens
type_tokens t = base_tokens t.base ++ brackets t.dims

-- ---- parts of statements and declarations

abbrev pub param_tokens : Param → Tokens
param_tokens p = if_true p.is_final (word k.Final) ++ type_tokens p.ty ++ kind.Ident p.name ∷ brackets p.dims

-- in parentheses, with commas (JLS 8.4.1)
abbrev pub params_tokens : List Param → Tokens
params_tokens ps = parens (between y.Comma (map param_tokens ps))

abbrev pub which_word : ThisOrSuper → Keyword
which_word which.This = k.This
which_word which.Super = k.Super

abbrev pub modifier_word : Modifier → Keyword
modifier_word modifier.Public = k.Public
modifier_word modifier.Protected = k.Protected
modifier_word modifier.Private = k.Private
modifier_word modifier.Abstract = k.Abstract
modifier_word modifier.Static = k.Static
modifier_word modifier.Final = k.Final
modifier_word modifier.Native = k.Native

abbrev pub modifiers_tokens : List Modifier → Tokens
modifiers_tokens ms = map (λ m. kind.Word (modifier_word m)) ms

abbrev pub result_tokens : ResultType → Tokens
result_tokens outcome.Void = word k.Void
result_tokens (outcome.Of ty) = type_tokens ty

-- a word and names with commas, or nothing where there is no name
abbrev pub names_after : Keyword → List Name → Tokens
names_after w [] = []
names_after w (n ∷ ns) = kind.Word w ∷ between y.Comma (map name_tokens (n ∷ ns))

abbrev pub parent_tokens : Option Name → Tokens
parent_tokens None = []
parent_tokens (Some n) = kind.Word k.Extends ∷ name_tokens n

-- ---- package and imports (JLS 7.4, 7.5)

abbrev pub package_tokens : PackageDecl → Tokens
package_tokens p = kind.Word k.Package ∷ (name_tokens p.name ++ mark y.Semicolon)

abbrev pub import_tokens : Import → Tokens
import_tokens (import.Single n) = kind.Word k.Import ∷ (name_tokens n ++ mark y.Semicolon)
import_tokens (import.OnDemand n) = kind.Word k.Import ∷ (name_tokens n ++ kind.Sym y.Dot ∷ kind.Sym y.Star ∷ mark y.Semicolon)
import_tokens (import.StaticSingle n member) = kind.Word k.Import ∷ kind.Word k.Static ∷ (name_tokens n ++ kind.Sym y.Dot ∷ kind.Ident member ∷ mark y.Semicolon)
