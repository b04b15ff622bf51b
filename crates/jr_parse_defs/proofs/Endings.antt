-- What begins a statement, and what may follow one.
use Rattle.std.proofs.Common.{◌≡◌, true, false, not, List, [], ◌∷◌, Option, Some, None, refl}
use Rattle.std.proofs.lemmas.Bool.{or_right}
use Rattle.jr_base.specs.declared.text.Text.{Text}
use Rattle.jr_base.specs.declared.kind.Kind.{Kind}
use Rattle.jr_base.specs.declared.kind.Kind.TheVariants as kind
use Rattle.jr_base.specs.declared.kind.Symbol.TheVariants as y
use Rattle.jr_base.specs.declared.kind.Keyword.TheVariants as k
use Rattle.jr_tree.specs.declared.tree.Base.{Base}
use Rattle.jr_tree.specs.declared.tree.Base.TheVariants as base
use Rattle.jr_tree.specs.declared.tree.TypeUse.{TypeUse}
use Rattle.jr_tree.specs.declared.tree.Primitive.TheVariants as primitive
use Rattle.jr_tree.specs.Shape.{is_empty, takes_else, IsBase, IsTypeUse, IsShapedStmt}
use Rattle.jr_tree.specs.Mirror.Stmts as s
use Rattle.jr_parse_laws.specs.Parsers.{first, is_at_word}
use Rattle.jr_parse_starts.specs.Starts.{begins_effect, next_is, starts_effect}
use Rattle.jr_parse_expr.specs.Writing.{write_all, write_base, write_brackets, write_type}
use Rattle.jr_parse_defs.specs.Begins.{stmt_word, begins_stmt, begins_local, starts_stmt, starts_block_stmt, starts_label, is_catch}
use Rattle.jr_parse_defs.specs.Writing.{write_declarators, write_stmt}
use Rattle.jr_parse_defs.specs.Follow.{is_else, is_finally, StmtEnds}
use Rattle.jr_parse_defs.proofs.Expressions.{effect_starts}

-- ---- what may follow

pub ends_by : (a : s.Stmt) (o : Option Kind) → next_is is_catch o ≡ false → next_is is_finally o ≡ false → (takes_else a ≡ true → next_is is_else o ≡ false) → StmtEnds a o
ends_by (s.While c body) o g f h = ends_by body o g f h
ends_by (s.If c a s.no_stmt) o g f h = (ends_by a o g f (λ t. h refl), h refl)
ends_by (s.If c a (s.a_stmt b)) o g f h = ends_by b o g f h
ends_by (s.For first c update body) o g f h = ends_by body o g f h
ends_by (s.Labeled label body) o g f h = ends_by body o g f h
ends_by (s.Try body cs s.no_block) o g f h = (g, f)
ends_by a o g f h = tt

pub no_else_after : (a : s.Stmt) (o : Option Kind) → StmtEnds a o → takes_else a ≡ true → next_is is_else o ≡ false
no_else_after (s.While c body) o e h = no_else_after body o e h
no_else_after (s.If c a s.no_stmt) o e h = e.1
no_else_after (s.If c a (s.a_stmt b)) o e h = no_else_after b o e h
no_else_after (s.For first c update body) o e h = no_else_after body o e h
no_else_after (s.Labeled label body) o e h = no_else_after body o e h
no_else_after a o e h = absurd (cc)

-- a token that goes on with no statement
pub record Calm (o : Option Kind) : Type 0 where
  pub no_catch : next_is is_catch o ≡ false
  pub no_finally : next_is is_finally o ≡ false
  pub no_else : next_is is_else o ≡ false

pub calm_ends : (a : s.Stmt) (o : Option Kind) → Calm o → StmtEnds a o
calm_ends a o c = ends_by a o c.no_catch c.no_finally (λ t. c.no_else)

pub calm_stmt : (o : Option Kind) → starts_block_stmt o ≡ true → Calm o
calm_stmt None h = record { no_catch = refl; no_finally = refl; no_else = refl }
calm_stmt (Some (kind.Word k.Else)) h = absurd (cc)
calm_stmt (Some (kind.Word k.Catch)) h = absurd (cc)
calm_stmt (Some (kind.Word k.Finally)) h = absurd (cc)
calm_stmt (Some token) h = record { no_catch = refl; no_finally = refl; no_else = refl }

pub calm_label : (o : Option Kind) → starts_label o ≡ true → Calm o
calm_label None h = record { no_catch = refl; no_finally = refl; no_else = refl }
calm_label (Some (kind.Word k.Else)) h = absurd (cc)
calm_label (Some (kind.Word k.Catch)) h = absurd (cc)
calm_label (Some (kind.Word k.Finally)) h = absurd (cc)
calm_label (Some token) h = record { no_catch = refl; no_finally = refl; no_else = refl }

pub stmt_no_label : (o : Option Kind) → starts_block_stmt o ≡ true → starts_label o ≡ false
stmt_no_label None h = refl
stmt_no_label (Some (kind.Word k.Case)) h = absurd (cc)
stmt_no_label (Some (kind.Word k.Default)) h = absurd (cc)
stmt_no_label (Some token) h = refl

pub label_no_stmt : (o : Option Kind) → starts_label o ≡ true → starts_block_stmt o ≡ false
label_no_stmt None h = refl
label_no_stmt (Some (kind.Word k.Case)) h = refl
label_no_stmt (Some (kind.Word k.Default)) h = refl
label_no_stmt (Some token) h = absurd (cc)

pub else_at : (ts : List Kind) → next_is is_else (first ts) ≡ false → is_at_word k.Else ts ≡ false
else_at [] h = refl
else_at (kind.Word k.Else ∷ ts) h = absurd (cc)
else_at (token ∷ ts) h = refl

pub else_here : (ts : List Kind) → is_at_word k.Else ts ≡ false → next_is is_else (first ts) ≡ false
else_here [] h = refl
else_here (kind.Word k.Else ∷ ts) h = absurd (cc)
else_here (token ∷ ts) h = refl

pub finally_at : (ts : List Kind) → next_is is_finally (first ts) ≡ false → is_at_word k.Finally ts ≡ false
finally_at [] h = refl
finally_at (kind.Word k.Finally ∷ ts) h = absurd (cc)
finally_at (token ∷ ts) h = refl

pub finally_here : (ts : List Kind) → is_at_word k.Finally ts ≡ false → next_is is_finally (first ts) ≡ false
finally_here [] h = refl
finally_here (kind.Word k.Finally ∷ ts) h = absurd (cc)
finally_here (token ∷ ts) h = refl

-- ---- what begins one

stmt_by_effect : (token : Kind) → begins_effect token ≡ true → begins_stmt token ≡ true
stmt_by_effect (kind.Sym y.OpenBrace) h = refl
stmt_by_effect (kind.Sym y.Semicolon) h = refl
stmt_by_effect (kind.Word w) h = or_right (stmt_word w) (begins_effect (kind.Word w)) h
stmt_by_effect token h = h

stmt_first : (o : Option Kind) → starts_effect o ≡ true → starts_stmt o ≡ true
stmt_first None h = absurd (cc)
stmt_first (Some token) h = stmt_by_effect token h

block_first : (o : Option Kind) → starts_stmt o ≡ true → starts_block_stmt o ≡ true
block_first None h = absurd (cc)
block_first (Some token) h = rw h refl

pub type_starts : (t : TypeUse) (ts : List Kind) → IsTypeUse t → starts_block_stmt (first (write_type t ts)) ≡ true
type_starts t ts is = of_base t.base is where
  of_name : (all : List Text) (us : List Kind) → not (is_empty all) ≡ true → starts_block_stmt (first (write_all all us)) ≡ true
  of_name [] us h = absurd (cc)
  of_name (part ∷ all) us h = refl

  of_base : (b : Base) → IsBase b → starts_block_stmt (first (write_base b (write_brackets t.dims ts))) ≡ true
  of_base (base.Named n) h = of_name n.parts (write_brackets t.dims ts) h
  of_base (base.Primitive primitive.Boolean) h = refl
  of_base (base.Primitive primitive.Byte) h = refl
  of_base (base.Primitive primitive.Short) h = refl
  of_base (base.Primitive primitive.Char) h = refl
  of_base (base.Primitive primitive.Int) h = refl
  of_base (base.Primitive primitive.Long) h = refl

block_begins : (b : s.Block) (rest : List Kind) → starts_block_stmt (first (write_stmt (s.Nest b) rest)) ≡ true
block_begins (s.BlockOf all) rest = refl

pub stmt_starts : (a : s.Stmt) (rest : List Kind) → IsShapedStmt a → starts_block_stmt (first (write_stmt a rest)) ≡ true
stmt_starts (s.Nest b) rest h = block_begins b rest
stmt_starts (s.Local true ty ds) rest h = refl
stmt_starts (s.Local false ty ds) rest h = type_starts ty (write_declarators ds (kind.Sym y.Semicolon ∷ rest)) h.0
stmt_starts (s.Eval value) rest h = block_first _ (stmt_first _ (effect_starts value (kind.Sym y.Semicolon ∷ rest) h))
stmt_starts (s.CtorCall which args) rest h = absurd h
stmt_starts a rest h = refl

-- what begins an expression begins no declaration of variables
pub no_local_effect : (token : Kind) → begins_effect token ≡ true → begins_local token ≡ false
no_local_effect (kind.Word k.Final) h = absurd (cc)
no_local_effect (kind.Word k.Boolean) h = absurd (cc)
no_local_effect (kind.Word k.Byte) h = absurd (cc)
no_local_effect (kind.Word k.Short) h = absurd (cc)
no_local_effect (kind.Word k.Char) h = absurd (cc)
no_local_effect (kind.Word k.Int) h = absurd (cc)
no_local_effect (kind.Word k.Long) h = absurd (cc)
no_local_effect token h = refl
