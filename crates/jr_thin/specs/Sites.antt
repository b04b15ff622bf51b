-- What each token of a class is to the names of its locals and parameters.
use Rattle.std.specs.Prelude.{ℕ, ◌+◌, ◌*◌, List, [], ◌∷◌, ◌++◌, length, replicate, slice_index_or}
use Rattle.jr_thin.specs.declared.sites.Site.{Site}
use Rattle.jr_thin.specs.declared.sites.Role.TheVariants.{Plain, Param, Local, Use}
use Rattle.jr_thin.specs.Trees.{Operand, Sum, Statement, Method, ThinClass}
use Rattle.jr_thin.specs.Trees as tree

-- a token that is no name of a local or parameter
abbrev pub plain : Site
plain = record { role = Plain; method = 0; node = 0; text = [] }

abbrev pub plains : ℕ → List Site
plains n = replicate n plain

abbrev pub site_at : List Site → ℕ → Site
site_at sites i = slice_index_or sites i plain

-- Nodes are numbered in preorder: a class is Unit, TypeDecl and its members. Below, `node` is the number of the first node.

-- a literal is one node, a name two: the expression and the Name in it
abbrev pub operand_nodes : Operand → ℕ
operand_nodes (tree.Literal n) = 1
operand_nodes (tree.Name x) = 2

abbrev pub others_nodes : List Operand → ℕ
others_nodes [] = 0
others_nodes (t ∷ ts) = operand_nodes t + others_nodes ts

-- the operators come first, since `a + b + c` is `(a + b) + c`
abbrev pub sum_nodes : Sum → ℕ
sum_nodes e = length e.others + (operand_nodes e.first + others_nodes e.others)

abbrev pub operand_sites : ℕ → ℕ → Operand → List Site
operand_sites method node (tree.Literal n) = plain ∷ []
operand_sites method node (tree.Name x) = record { role = Use; method = method; node = node + 1; text = x } ∷ []

abbrev pub others_sites : ℕ → ℕ → List Operand → List Site
others_sites method node [] = []
others_sites method node (t ∷ ts) = plain ∷ operand_sites method node t ++ others_sites method (node + operand_nodes t) ts

abbrev pub sum_sites : ℕ → ℕ → Sum → List Site
sum_sites method node e =
    let first = node + length e.others in
    operand_sites method first e.first ++ others_sites method (first + operand_nodes e.first) e.others

-- a local is Stmt, TypeUse, Declarator and Init, and then its initializer; it is named by its Declarator
abbrev pub statement_nodes : Statement → ℕ
statement_nodes (tree.Local x e) = 4 + sum_nodes e
statement_nodes (tree.Return e) = 1 + sum_nodes e

abbrev pub statement_sites : ℕ → ℕ → Statement → List Site
statement_sites method node (tree.Local x e) =
    (plain ∷ record { role = Local; method = method; node = node + 2; text = x } ∷ plain ∷ sum_sites method (node + 4) e) ++ plain ∷ []
statement_sites method node (tree.Return e) = (plain ∷ sum_sites method (node + 1) e) ++ plain ∷ []

abbrev pub body_nodes : List Statement → ℕ
body_nodes [] = 0
body_nodes (s ∷ ss) = statement_nodes s + body_nodes ss

abbrev pub body_sites : ℕ → ℕ → List Statement → List Site
body_sites method node [] = []
body_sites method node (s ∷ ss) = statement_sites method node s ++ body_sites method (node + statement_nodes s) ss

-- a parameter is Param and TypeUse, and is named by its Param
abbrev pub param_site : ℕ → ℕ → List ℕ → Site
param_site method node x = record { role = Param; method = method; node = node; text = x }

abbrev pub later_sites : ℕ → ℕ → List (List ℕ) → List Site
later_sites method node [] = []
later_sites method node (x ∷ xs) = plain ∷ plain ∷ param_site method node x ∷ later_sites method (node + 2) xs

abbrev pub params_sites : ℕ → ℕ → List (List ℕ) → List Site
params_sites method node [] = []
params_sites method node (x ∷ xs) = plain ∷ param_site method node x ∷ later_sites method (node + 2) xs

-- a method is Member and TypeUse, its parameters, Block and its statements
abbrev pub method_nodes : Method → ℕ
method_nodes m = 3 + (2 * length m.params + body_nodes m.body)

abbrev pub method_sites : ℕ → ℕ → Method → List Site
method_sites method node m =
    (plain ∷ plain ∷ plain ∷ plain ∷ params_sites method (node + 2) m.params)
    ++ ((plain ∷ plain ∷ body_sites method (node + (3 + 2 * length m.params)) m.body) ++ plain ∷ [])

abbrev pub methods_sites : ℕ → ℕ → List Method → List Site
methods_sites method node [] = []
methods_sites method node (m ∷ ms) = method_sites method node m ++ methods_sites (method + 1) (node + method_nodes m) ms

-- what each token of the class is
abbrev pub sites_of : ThinClass → List Site
sites_of c = (plain ∷ plain ∷ plain ∷ methods_sites 0 2 c.methods) ++ plain ∷ []
