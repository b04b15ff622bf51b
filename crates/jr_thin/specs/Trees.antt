-- A class of static int methods as a tree, and the tree written out in tokens (JLS 8.1, 8.4, 14.4, 14.17, 15.18.2).
use Rattle.std.specs.Prelude.{◌≡◌, ℕ, ℤ, List, [], ◌∷◌, ◌++◌, map}
use Rattle.jr_base.specs.declared.kind.Kind.{Kind}
use Rattle.jr_base.specs.declared.kind.Kind.TheVariants as kind
use Rattle.jr_base.specs.declared.kind.Keyword.TheVariants as keyword
use Rattle.jr_base.specs.declared.kind.Symbol.TheVariants as symbol
use Rattle.jr_base.specs.declared.token.Token.{Token}
use Rattle.jr_base.specs.Reading.{Lex}

-- an int literal or a simple name
pub data Operand : Type 0 where
  Literal : ℤ → Operand
  Name : List ℕ → Operand

-- operands joined by `+`
pub record Sum : Type 0 where
  pub first : Operand
  pub others : List Operand

-- `int x = e;` or `return e;`
pub data Statement : Type 0 where
  Local : List ℕ → Sum → Statement
  Return : Sum → Statement

-- `static int f(int a, ..) { .. }`
pub record Method : Type 0 where
  pub name : List ℕ
  pub params : List (List ℕ)
  pub body : List Statement

-- `class A { .. }`
pub record ThinClass : Type 0 where
  pub name : List ℕ
  pub methods : List Method

abbrev pub operand_tokens : Operand → List Kind
operand_tokens (Literal n) = kind.Int n ∷ []
operand_tokens (Name x) = kind.Ident x ∷ []

abbrev pub others_tokens : List Operand → List Kind
others_tokens [] = []
others_tokens (t ∷ ts) = kind.Sym symbol.Plus ∷ operand_tokens t ++ others_tokens ts

abbrev pub sum_tokens : Sum → List Kind
sum_tokens e = operand_tokens e.first ++ others_tokens e.others

abbrev pub statement_tokens : Statement → List Kind
statement_tokens (Local x e) = (kind.Word keyword.Int ∷ kind.Ident x ∷ kind.Sym symbol.Assign ∷ sum_tokens e) ++ kind.Sym symbol.Semicolon ∷ []
statement_tokens (Return e) = (kind.Word keyword.Return ∷ sum_tokens e) ++ kind.Sym symbol.Semicolon ∷ []

-- the parameters after the first
abbrev pub later_params : List (List ℕ) → List Kind
later_params [] = []
later_params (x ∷ xs) = kind.Sym symbol.Comma ∷ kind.Word keyword.Int ∷ kind.Ident x ∷ later_params xs

abbrev pub params_tokens : List (List ℕ) → List Kind
params_tokens [] = []
params_tokens (x ∷ xs) = kind.Word keyword.Int ∷ kind.Ident x ∷ later_params xs

abbrev pub body_tokens : List Statement → List Kind
body_tokens [] = []
body_tokens (s ∷ ss) = statement_tokens s ++ body_tokens ss

abbrev pub method_tokens : Method → List Kind
method_tokens m =
    (kind.Word keyword.Static ∷ kind.Word keyword.Int ∷ kind.Ident m.name ∷ kind.Sym symbol.OpenParen ∷ params_tokens m.params)
    ++ ((kind.Sym symbol.CloseParen ∷ kind.Sym symbol.OpenBrace ∷ body_tokens m.body) ++ kind.Sym symbol.CloseBrace ∷ [])

abbrev pub methods_tokens : List Method → List Kind
methods_tokens [] = []
methods_tokens (m ∷ ms) = method_tokens m ++ methods_tokens ms

-- the tokens of the class
abbrev pub tokens_of : ThinClass → List Kind
tokens_of c = (kind.Word keyword.Class ∷ kind.Ident c.name ∷ kind.Sym symbol.OpenBrace ∷ methods_tokens c.methods) ++ kind.Sym symbol.CloseBrace ∷ []

abbrev pub kinds_of : List Token → List Kind
kinds_of = map (λ token. token.kind)

-- the bytes have these tokens, and the tokens are those of the class
pub record ReadsThin (bytes : List ℕ) (tokens : List Token) (tree : ThinClass) : Type 0 where
  pub lex : Lex bytes tokens
  pub written : kinds_of tokens ≡ tokens_of tree
