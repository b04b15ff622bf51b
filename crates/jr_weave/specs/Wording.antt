-- What is written at a place of a text.
use Rattle.std.specs.Prelude.{ℕ, zero, suc, Bool, if◌then◌else◌, List, [], ◌∷◌, ◌++◌, codes}
use Rattle.jr_tree.specs.Rows.{Rows, name}
use Rattle.jr_defs.specs.declared.referent.Element.{Element}
use Rattle.jr_defs.specs.declared.referent.Element.TheVariants as element
use Rattle.jr_shapes.specs.declared.spelling.Shape.{Shape}
use Rattle.jr_shapes.specs.declared.spelling.Shape.TheVariants as shape
use Rattle.jr_shapes.specs.declared.spelling.Suffix.{Suffix}
use Rattle.jr_shapes.specs.declared.spelling.TypeName.{TypeName}
use Rattle.jr_shapes.specs.Names.{package_names, suffix}
use Rattle.jr_weave.specs.declared.piece.Wording.{Wording}
use Rattle.jr_weave.specs.declared.piece.Wording.TheVariants as wording

-- ---- names

-- the identifiers of rows, each with a dot behind it; that of the last row comes first
abbrev pub with_dots : Rows → List ℕ → List ℕ
with_dots p [] = []
with_dots p (n ∷ rest) = with_dots p rest ++ (name p n ++ codes ".")

-- the identifiers of rows with dots between them; that of the last row comes first
abbrev pub dotted : Rows → List ℕ → List ℕ
dotted p [] = []
dotted p (n ∷ rest) = with_dots p rest ++ name p n

-- the last identifiers of the name of a type (JLS 6.7)
abbrev pub suffix_text : Rows → Suffix → List ℕ
suffix_text p s = dotted p (suffix p s.count s.of)

-- the word of a primitive type
abbrev pub word_of : Element → List ℕ
word_of element.Boolean = codes "boolean"
word_of element.Byte = codes "byte"
word_of element.Short = codes "short"
word_of element.Char = codes "char"
word_of element.Int = codes "int"
word_of element.Long = codes "long"
word_of _ = []

abbrev pub element_text : Rows → ℕ → Element → List ℕ
element_text p count (element.Class c) = suffix_text p (record { of = c; count = count })
element_text p count e = word_of e

-- so many pairs of brackets
abbrev pub brackets : ℕ → List ℕ
brackets zero = []
brackets (suc n) = brackets n ++ codes "[]"

abbrev pub type_text : Rows → TypeName → List ℕ
type_text p ty = element_text p ty.count ty.element ++ brackets ty.dims

-- ---- references

-- (S)
abbrev pub cast : Rows → Suffix → List ℕ
cast p s = codes "(" ++ (suffix_text p s ++ codes ")")

-- ((S)this)
abbrev pub cast_this : Rows → Suffix → List ℕ
cast_this p s = codes "(" ++ (cast p s ++ codes "this)")

-- ((S)T.this)
abbrev pub cast_outer : Rows → Suffix → Suffix → List ℕ
cast_outer p s outer = codes "(" ++ (cast p s ++ (suffix_text p outer ++ codes ".this)"))

-- what stands before the dot in a shape that has it (JLS 15.8.3, 15.8.4, 15.11, 15.12)
abbrev pub before_dot : Rows → Shape → List ℕ
before_dot p shape.This = codes "this"
before_dot p shape.Super = codes "super"
before_dot p (shape.Outer outer) = suffix_text p outer ++ codes ".this"
before_dot p (shape.CastThis s) = cast_this p s
before_dot p (shape.CastOuter s outer) = cast_outer p s outer
before_dot p (shape.Type s) = suffix_text p s
before_dot p _ = []

abbrev pub selected : Rows → Shape → ℕ → List ℕ
selected p s n = before_dot p s ++ (codes "." ++ name p n)

-- a reference by its shape, whose last identifier is that of a row
abbrev pub shape_text : Rows → Shape → ℕ → List ℕ
shape_text p (shape.Named s) n = suffix_text p s
shape_text p shape.Bare n = name p n
shape_text p s n = selected p s n

-- ---- what is written at a place

-- what is no atom stands in parentheses behind a cast (JLS 15.16)
abbrev pub open_paren : Bool → List ℕ
open_paren is_atom = if is_atom then [] else codes "("

abbrev pub close_parens : Bool → List ℕ
close_parens has_two = if has_two then codes "))" else codes ")"

abbrev pub text_of : Rows → Wording → List ℕ
text_of p (wording.Identifier n) = name p n
text_of p (wording.Package c) = dotted p (package_names p c)
text_of p (wording.Shaped s n) = shape_text p s n
text_of p (wording.CastThis s) = cast_this p s
text_of p (wording.OpenReceiver s is_atom) = codes "(" ++ (cast p s ++ open_paren is_atom)
text_of p (wording.OpenArgument ty is_atom) = codes "(" ++ (type_text p ty ++ (codes ")" ++ open_paren is_atom))
text_of p (wording.Close has_two) = close_parens has_two
