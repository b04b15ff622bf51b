-- Statements by how they begin: the same readers as those by the token, over fewer cases.
use Rattle.std.specs.Prelude.{ℕ, Bool, true, false, ◌&&◌, if◌then◌else◌, List, [], ◌∷◌, drop, Option, Some, None}
use Rattle.jr_base.specs.declared.kind.Kind.{Kind}
use Rattle.jr_base.specs.declared.kind.Kind.TheVariants as kind
use Rattle.jr_base.specs.declared.kind.Symbol.{Symbol}
use Rattle.jr_base.specs.declared.kind.Symbol.TheVariants as y
use Rattle.jr_base.specs.declared.kind.Keyword.{Keyword}
use Rattle.jr_base.specs.declared.kind.Keyword.TheVariants as k
use Rattle.jr_tree.specs.Mirror.Stmts as s
use Rattle.jr_parse_laws.specs.Parsers.{Parser, ◌>>=◌, pure, refuse, first, identifier}
use Rattle.jr_parse_starts.specs.Starts.{starts_effect, next_is, over}
use Rattle.jr_parse_expr.specs.Names.{type_use, dotted}
use Rattle.jr_parse_expr.specs.Exprs.{Nothing}
use Rattle.jr_parse_defs.specs.Begins.{begins_local}
use Rattle.jr_parse_defs.specs.Stmts as rule
use Rattle.jr_parse_defs.specs.Stmts.{finality, has_this}
use Rattle.jr_parse_stmt.specs.declared.start.PartWord.{PartWord}
use Rattle.jr_parse_stmt.specs.declared.start.PartWord.TheVariants as part
use Rattle.jr_parse_stmt.specs.declared.start.StmtStart.{StmtStart}
use Rattle.jr_parse_stmt.specs.declared.start.StmtStart.TheVariants as start

abbrev pub symbol_start : Symbol → StmtStart
symbol_start y.OpenBrace = start.Block
symbol_start y.Semicolon = start.Skip
symbol_start _ = start.Other

abbrev pub word_start : Keyword → StmtStart
word_start k.Do = start.Part part.Do
word_start k.While = start.Part part.While
word_start k.If = start.Part part.If
word_start k.For = start.Part part.For
word_start k.Switch = start.Part part.Switch
word_start k.Throw = start.Part part.Throw
word_start k.Break = start.Break
word_start k.Continue = start.Continue
word_start k.Return = start.Return
word_start k.Try = start.Try
word_start _ = start.Other

abbrev pub kind_start : Kind → StmtStart
kind_start (kind.Ident head) = start.Name
kind_start (kind.Sym s) = symbol_start s
kind_start (kind.Word w) = word_start w
kind_start _ = start.Other

abbrev pub start_at : List Kind → Option StmtStart
start_at [] = None
start_at (token ∷ ts) = Some (kind_start token)

-- past the next token
abbrev pub behind : {A : Type 0} → Parser A → Parser A
behind p ts = p (drop 1 ts)

module _ (room : ℕ) (inner : Parser s.Stmt) (outer : Parser s.Stmt) where
  -- behind the word
  abbrev pub parted : PartWord → Parser s.Stmt
  parted part.Do = rule.do_stmt room inner outer
  parted part.While = rule.while_stmt room inner outer
  parted part.If = rule.if_stmt room inner outer
  parted part.For = rule.for_stmt room inner outer
  parted part.Switch = rule.switch_stmt room inner outer
  parted part.Throw = rule.throw_stmt room inner outer

  -- at an identifier
  abbrev pub from_name : Bool → Parser s.Stmt
  from_name declares = identifier >>= (λ head. dotted (has_this room) [] head >>= rule.named room inner outer declares)

  abbrev pub name_begun : Bool → Parser s.Stmt
  name_begun true = from_name true
  name_begun false = over 1 room (from_name false)

  -- at a token that begins a declaration of variables or an expression, if a statement at all
  abbrev pub other_begun : Bool → Parser s.Stmt
  other_begun declares ts =
      if declares && next_is begins_local (first ts) then (finality >>= (λ is_final. type_use >>= rule.local room inner outer is_final)) ts
      else (if starts_effect (first ts) then over 1 room (rule.evaluated room inner outer Nothing) ts else refuse ts)

  -- at the token that a statement begins with
  abbrev pub begun : Bool → StmtStart → Parser s.Stmt
  begun declares start.Block = rule.block room inner outer >>= (λ b. pure (s.Nest b))
  begun declares start.Skip = behind (pure s.Skip)
  begun declares (start.Part word) = over 1 room (behind (parted word))
  begun declares start.Break = behind (rule.break_stmt room inner outer)
  begun declares start.Continue = behind (rule.continue_stmt room inner outer)
  begun declares start.Return = behind (rule.return_stmt room inner outer)
  begun declares start.Try = behind (rule.try_stmt room inner outer)
  begun declares start.Name = name_begun declares
  begun declares start.Other = other_begun declares

  abbrev pub begun_by : Bool → Option StmtStart → Parser s.Stmt
  begun_by declares None = refuse
  begun_by declares (Some begin) = begun declares begin
