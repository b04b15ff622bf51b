-- Reading names, types and pairs of brackets (JLS 4, 6.2).
use Rattle.std.specs.Prelude.{ℕ, zero, suc, ◌+◌, Bool, if◌then◌else◌, List, [], ◌∷◌, ◌++◌, length, Option, Some, None, Ok}
use Rattle.jr_base.specs.declared.text.Text.{Text}
use Rattle.jr_base.specs.declared.kind.Kind.{Kind}
use Rattle.jr_base.specs.declared.kind.Kind.TheVariants as kind
use Rattle.jr_base.specs.declared.kind.Symbol.TheVariants as y
use Rattle.jr_base.specs.declared.kind.Keyword.{Keyword}
use Rattle.jr_base.specs.declared.kind.Keyword.TheVariants as k
use Rattle.jr_tree.specs.declared.tree.Name.{Name}
use Rattle.jr_tree.specs.declared.tree.Primitive.{Primitive}
use Rattle.jr_tree.specs.declared.tree.Primitive.TheVariants as primitive
use Rattle.jr_tree.specs.declared.tree.Base.{Base}
use Rattle.jr_tree.specs.declared.tree.Base.TheVariants as base
use Rattle.jr_tree.specs.declared.tree.TypeUse.{TypeUse}
use Rattle.jr_parse_laws.specs.Parsers.{Outcome, Parser, ◌>>=◌, ◌>>◌, and_then, pure, refuse, deep, expect, identifier, many, begins_with, with_front}

abbrev pub name_of : List Text → Name
name_of parts = record { parts = parts }

abbrev pub type_of : Base → ℕ → TypeUse
type_of element dims = record { base = element; dims = dims }

-- pairs of brackets
abbrev pub pairs : Parser (List (Unit {0}))
pairs = many (begins_with y.OpenBracket) (expect y.OpenBracket >> expect y.CloseBracket)

-- so many, and those that are still to be read
abbrev pub counted : ℕ → Outcome (List (Unit {0})) → Outcome ℕ
counted n read = and_then read (λ all rest. Ok (n + length all, rest))

-- how many pairs of brackets follow
unfoldable pub dims : Parser ℕ
dims ts = counted 0 (pairs ts)

-- identifiers behind dots
abbrev pub parts : Parser (List Text)
parts = many (begins_with y.Dot) (expect y.Dot >> identifier)

abbrev pub named_all : Outcome (List Text) → Outcome Name
named_all read = and_then read (λ all rest. Ok (name_of all, rest))

-- a name, behind its first identifier
unfoldable pub name_after : Text → Parser Name
name_after head ts = named_all (with_front (head ∷ []) (parts ts))

abbrev pub name : Parser Name
name = identifier >>= name_after

abbrev pub primitive_of : Keyword → Option Primitive
primitive_of k.Boolean = Some primitive.Boolean
primitive_of k.Byte = Some primitive.Byte
primitive_of k.Short = Some primitive.Short
primitive_of k.Char = Some primitive.Char
primitive_of k.Int = Some primitive.Int
primitive_of k.Long = Some primitive.Long
primitive_of _ = None

abbrev pub primitive_kind : Kind → Option Primitive
primitive_kind (kind.Word w) = primitive_of w
primitive_kind _ = None

abbrev pub primitive_at : List Kind → Option Primitive
primitive_at [] = None
primitive_at (token ∷ ts) = primitive_kind token

abbrev pub base_by : Option Primitive → List Kind → Outcome Base
base_by None ts = (name >>= (λ n. pure (base.Named n))) ts
base_by (Some p) [] = refuse []
base_by (Some p) (token ∷ ts) = Ok (base.Primitive p, ts)

unfoldable pub element : Parser Base
element ts = base_by (primitive_at ts) ts

unfoldable pub type_use : Parser TypeUse
type_use = do
  b ← element
  pairs ← dims
  pure (type_of b pairs)

-- ---- a name at the head of an expression: it may end in `this`, and the last identifier may be a method's

pub data Dotted : Type 0 where
  -- the identifiers, the last one apart
  Plain : List Text → Text → Dotted
  -- and `this` behind them
  Enclosing : List Text → Text → Dotted

abbrev mutual
  pub dotted_from : Bool → ℕ → List Text → Text → Parser Dotted
  dotted_from has_level zero before last ts = Ok (Plain before last, ts)
  dotted_from has_level (suc turns) before last (kind.Sym y.Dot ∷ ts) = dotted_behind has_level turns before last ts
  dotted_from has_level (suc turns) before last ts = Ok (Plain before last, ts)

  pub dotted_behind : Bool → ℕ → List Text → Text → Parser Dotted
  dotted_behind has_level turns before last (kind.Ident name ∷ ts) = dotted_from has_level turns (before ++ last ∷ []) name ts
  dotted_behind has_level turns before last (kind.Word k.This ∷ ts) = if has_level then Ok (Enclosing before last, ts) else deep (kind.Word k.This ∷ ts)
  dotted_behind has_level turns before last ts = refuse ts

-- behind the last identifier so far; `this` makes an expression, for which a level is left or not
unfoldable pub dotted : Bool → List Text → Text → Parser Dotted
dotted has_level before last ts = dotted_from has_level (length ts) before last ts
