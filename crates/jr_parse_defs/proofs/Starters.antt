-- Statements that begin with each token, and what is written in front.
use Rattle.std.proofs.Common.{◌≡◌, ℕ, ◌≤◌, Bool, true, false, not, ◌||◌, List, [], ◌∷◌, Option, Some, None, Err, refl, inl, inr}
use Rattle.std.specs.Prelude.{IsTrue}
use Rattle.jr_base.specs.declared.text.Text.{Text}
use Rattle.jr_base.specs.declared.kind.Kind.{Kind}
use Rattle.jr_base.specs.declared.kind.Kind.TheVariants as kind
use Rattle.jr_base.specs.declared.kind.Symbol.{Symbol}
use Rattle.jr_base.specs.declared.kind.Symbol.TheVariants as y
use Rattle.jr_base.specs.declared.kind.Keyword.{Keyword}
use Rattle.jr_base.specs.declared.kind.Keyword.TheVariants as k
use Rattle.jr_tree.specs.declared.tree.Primitive.{Primitive}
use Rattle.jr_tree.specs.declared.tree.Primitive.TheVariants as primitive
use Rattle.jr_tree.specs.declared.tree.Base.TheVariants as base
use Rattle.jr_tree.specs.declared.tree.Param.{Param}
use Rattle.jr_tree.specs.Shape.{is_local, IsShapedStmt}
use Rattle.jr_tree.specs.Depth.{stmt_depth}
use Rattle.jr_tree.specs.Tokens.{for_init_tokens, stmt_tokens, stmts_tokens, block_tokens, catch_tokens, label_tokens, group_tokens, groups_tokens}
use Rattle.jr_tree.specs.Words.{primitive_word, param_tokens}
use Rattle.jr_tree.specs.Mirror.Exprs as x
use Rattle.jr_tree.specs.Mirror.Stmts as s
use Rattle.jr_parse_laws.specs.declared.fault.Fault.{Fault}
use Rattle.jr_parse_laws.specs.Parsers.{Parser}
use Rattle.jr_parse_laws.proofs.Stops.{Leading, leading_nothing}
use Rattle.jr_parse_starts.specs.Starts.{begins_effect}
use Rattle.jr_parse_expr.specs.Names.{name_of, type_of}
use Rattle.jr_parse_expr.specs.Writing.{write_all}
use Rattle.jr_parse_expr.proofs.NameGrowths.{leading_name}
use Rattle.jr_parse_expr.proofs.Growths.{Growing, leading_tokens, leading_one, sample}
use Rattle.jr_parse_expr.proofs.PartGrowths.{NoLevel}
use Rattle.jr_parse_defs.specs.Begins.{begins_stmt, begins_local}
use Rattle.jr_parse_defs.specs.Writing.{write_some, write_for_init, write_label, write_cond, write_param, write_stmt, write_stmts, write_block, write_catch, write_group, write_groups}
use Rattle.jr_parse_defs.proofs.Written.{for_init_written, stmt_written, stmts_written, block_written, catch_written, label_written, param_written, group_written, groups_written}
use Rattle.jr_parse_defs.proofs.Named.{not_local}
use Rattle.jr_parse_defs.proofs.Grows.{Low, either}
use Rattle.jr_parse_defs.proofs.PartGrows.{sample_whole, effect_starter, a_type, variable}
use Rattle.jr_parse_defs.proofs.StmtNears.{starts_some}

-- ---- statements and what begins them

abbrev pub StmtShape : Bool → s.Stmt → Type 0
StmtShape declares a = IsShapedStmt a × IsTrue (declares || not (is_local a))

abbrev pub Statement : Bool → ℕ → List Kind → Fault × List Kind → Type 0
Statement declares room ts stop = Growing (Low (StmtShape declares) stmt_depth) write_stmt room ts stop

pub record GrowsStmt (room : ℕ) (declares : Bool) (read : Parser s.Stmt) : Type 0 where
  pub grow : 1 ≤ room → (ts : List Kind) (stop : Fault × List Kind) → read ts ≡ Err stop → Statement declares room ts stop
  pub none : room ≤ 0 → (ts : List Kind) (stop : Fault × List Kind) → read ts ≡ Err stop → NoLevel (starts_some declares) ts stop

-- a statement that begins with the token
pub record StmtStarter (declares : Bool) (token : Kind) : Type 0 where
  pub tree : s.Stmt
  pub is : StmtShape declares tree
  pub more : List Kind → List Kind
  pub spelled : (z : List Kind) → write_stmt tree z ≡ token ∷ more z

abbrev pub empty : s.Block
empty = s.BlockOf s.no_stmts

abbrev pub semi : List Kind → List Kind
semi z = kind.Sym y.Semicolon ∷ z

abbrev pub test : List Kind → List Kind
test z = write_cond sample z

pub effect_stmt : (declares : Bool) (token : Kind) → begins_effect token ≡ true → StmtStarter declares token
effect_stmt declares token h = let e = effect_starter token h in record { tree = s.Eval e.tree; is = (e.is, not_local declares); more = λ z. e.more (semi z); spelled = λ z. e.spelled (semi z) }

of_primitive : (p : Primitive) → StmtStarter true (kind.Word (primitive_word p))
of_primitive p = record { tree = s.Local false (type_of (base.Primitive p) 0) (variable ∷ []); is = ((tt, refl, (tt, tt)), refl); more = λ z. kind.Ident [] ∷ semi z; spelled = λ z. refl }

primitive_stmt : (w : Keyword) → begins_local (kind.Word w) ≡ true → StmtStarter true (kind.Word w)
primitive_stmt k.Final h = record { tree = s.Local true a_type (variable ∷ []); is = ((refl, refl, (tt, tt)), refl); more = λ z. kind.Ident [] ∷ kind.Ident [] ∷ semi z; spelled = λ z. refl }
primitive_stmt k.Boolean h = of_primitive primitive.Boolean
primitive_stmt k.Byte h = of_primitive primitive.Byte
primitive_stmt k.Short h = of_primitive primitive.Short
primitive_stmt k.Char h = of_primitive primitive.Char
primitive_stmt k.Int h = of_primitive primitive.Int
primitive_stmt k.Long h = of_primitive primitive.Long
primitive_stmt w h = absurd (cc)

local_stmt : (token : Kind) → begins_local token ≡ true → StmtStarter true token
local_stmt (kind.Word w) h = primitive_stmt w h
local_stmt token h = absurd (cc)

pub some_stmt : (declares : Bool) (token : Kind) → begins_stmt token ≡ true → StmtStarter declares token
some_stmt declares (kind.Sym y.OpenBrace) h = record { tree = s.Nest empty; is = (tt, not_local declares); more = λ z. kind.Sym y.CloseBrace ∷ z; spelled = λ z. refl }
some_stmt declares (kind.Sym y.Semicolon) h = record { tree = s.Skip; is = (tt, not_local declares); more = λ z. z; spelled = λ z. refl }
some_stmt declares (kind.Word k.Do) h = record { tree = s.Do s.Skip sample; is = ((refl, tt, sample_whole), not_local declares); more = λ z. semi (kind.Word k.While ∷ test (semi z)); spelled = λ z. refl }
some_stmt declares (kind.Word k.While) h = record { tree = s.While sample s.Skip; is = ((sample_whole, refl, tt), not_local declares); more = λ z. test (semi z); spelled = λ z. refl }
some_stmt declares (kind.Word k.If) h = record { tree = s.If sample s.Skip s.no_stmt; is = ((sample_whole, refl, tt, tt), not_local declares); more = λ z. test (semi z); spelled = λ z. refl }
some_stmt declares (kind.Word k.For) h = record {
  tree = s.For None None x.no_exprs s.Skip;
  is = ((tt, tt, tt, refl, tt), not_local declares);
  more = λ z. kind.Sym y.OpenParen ∷ semi (semi (kind.Sym y.CloseParen ∷ semi z));
  spelled = λ z. refl;
}
some_stmt declares (kind.Word k.Switch) h = record { tree = s.Switch sample s.no_groups; is = ((sample_whole, tt), not_local declares); more = λ z. test (kind.Sym y.OpenBrace ∷ kind.Sym y.CloseBrace ∷ z); spelled = λ z. refl }
some_stmt declares (kind.Word k.Break) h = record { tree = s.Break None; is = (tt, not_local declares); more = semi; spelled = λ z. refl }
some_stmt declares (kind.Word k.Continue) h = record { tree = s.Continue None; is = (tt, not_local declares); more = semi; spelled = λ z. refl }
some_stmt declares (kind.Word k.Return) h = record { tree = s.Return None; is = (tt, not_local declares); more = semi; spelled = λ z. refl }
some_stmt declares (kind.Word k.Throw) h = record { tree = s.Throw sample; is = (sample_whole, not_local declares); more = λ z. kind.Word k.This ∷ semi z; spelled = λ z. refl }
some_stmt declares (kind.Word k.Try) h = record {
  tree = s.Try empty s.no_catches (s.a_block empty);
  is = ((tt, tt, tt, refl), not_local declares);
  more = λ z. kind.Sym y.OpenBrace ∷ kind.Sym y.CloseBrace ∷ kind.Word k.Finally ∷ kind.Sym y.OpenBrace ∷ kind.Sym y.CloseBrace ∷ z;
  spelled = λ z. refl;
}
some_stmt declares token h = effect_stmt declares token h

pub stmt_starter : (declares : Bool) (token : Kind) → starts_some declares (Some token) ≡ true → StmtStarter declares token
stmt_starter false token h = some_stmt false token h
stmt_starter true token h =
    elim (either (begins_stmt token) (begins_local token) h) [
      | inl t ↦ some_stmt true token t
      | inr t ↦ local_stmt token t
    ]

-- ---- leading statements

pub leading_stmt : (a : s.Stmt) → Leading (write_stmt a)
leading_stmt a = leading_tokens (write_stmt a) (stmt_tokens a) (stmt_written a)

pub leading_block : (b : s.Block) → Leading (write_block b)
leading_block b = leading_tokens (write_block b) (block_tokens b) (block_written b)

pub leading_stmts : (all : s.Stmts) → Leading (write_stmts all)
leading_stmts all = leading_tokens (write_stmts all) (stmts_tokens all) (stmts_written all)

pub leading_catch : (c : s.Catch) → Leading (write_catch c)
leading_catch c = leading_tokens (write_catch c) (catch_tokens c) (catch_written c)

pub leading_param : (p : Param) → Leading (write_param p)
leading_param p = leading_tokens (write_param p) (param_tokens p) (param_written p)

pub leading_label : (l : s.SwitchLabel) → Leading (write_label l)
leading_label l = leading_tokens (write_label l) (label_tokens l) (label_written l)

pub leading_group : (g : s.Group) → Leading (write_group g)
leading_group g = leading_tokens (write_group g) (group_tokens g) (group_written g)

pub leading_groups : (gs : s.Groups) → Leading (write_groups gs)
leading_groups gs = leading_tokens (write_groups gs) (groups_tokens gs) (groups_written gs)

pub leading_first : (i : s.ForInit) → Leading (write_for_init i)
leading_first i = leading_tokens (write_for_init i) (for_init_tokens i) (for_init_written i)

pub leading_some : {A : Type 0} (write : A → List Kind → List Kind) → ((a : A) → Leading (write a)) → (o : Option A) → Leading (write_some write o)
leading_some write each None = leading_nothing
leading_some write each (Some a) = each a

pub leading_word : (w : Keyword) → Leading (λ z. kind.Word w ∷ z)
leading_word w = leading_one (kind.Word w)

pub leading_symbol : (z : Symbol) → Leading (λ ts. kind.Sym z ∷ ts)
leading_symbol z = leading_one (kind.Sym z)

pub leading_names : (all : List Text) → Leading (write_all all)
leading_names all = leading_name (name_of all)
