-- Where reading a block or the handlers of a `try` stops, what stands before begins one.
use Rattle.std.proofs.Common.{◌≡◌, ℕ, ◌≤◌, true, false, List, [], ◌∷◌, Err, refl, sym, ◌∙◌, subst, inl, inr, arith}
use Rattle.std.proofs.lemmas.Bool.{cases_lt, true≢false}
use Rattle.std.specs.List.{AllByRecursion}
use Rattle.jr_base.specs.declared.kind.Kind.{Kind}
use Rattle.jr_base.specs.declared.kind.Kind.TheVariants as kind
use Rattle.jr_base.specs.declared.kind.Symbol.TheVariants as y
use Rattle.jr_base.specs.declared.kind.Keyword.TheVariants as k
use Rattle.jr_tree.specs.Shape.{IsShapedStmt, AreShapedStmts, IsShapedBlock, IsShapedCatch, AreShapedCatches}
use Rattle.jr_tree.specs.Depth.{deepest, stmt_depth, stmts_depth, block_depth, catch_depth, catches_depth}
use Rattle.jr_tree.specs.Mirror.Stmts as s
use Rattle.jr_parse_laws.specs.declared.fault.Fault.{Fault}
use Rattle.jr_parse_laws.specs.Parsers.{Parser, first, many}
use Rattle.jr_parse_laws.proofs.Outcomes.{ok_err}
use Rattle.jr_parse_laws.proofs.Stops.{leading_nothing}
use Rattle.jr_parse_starts.specs.Starts.{next_is}
use Rattle.jr_parse_expr.proofs.Growths.{Growing, leading_then}
use Rattle.jr_parse_expr.proofs.PartGrowths.{NoLevel, Deep, Refused}
use Rattle.jr_parse_defs.specs.Begins.{starts_block_stmt, is_catch}
use Rattle.jr_parse_defs.specs.Stmts as reader
use Rattle.jr_parse_defs.specs.Writing.{write_many, write_param, write_stmt, write_stmts, write_block, write_catch, write_catches}
use Rattle.jr_parse_defs.specs.Follow.{IsStmt}
use Rattle.jr_parse_defs.proofs.Lists.{asunder}
use Rattle.jr_parse_defs.proofs.Variables.{param_sound}
use Rattle.jr_parse_defs.proofs.Named.{ReadsOne}
use Rattle.jr_parse_defs.proofs.Blocks as blocks
use Rattle.jr_parse_defs.proofs.Blocks.{stmts_sound, block_sound, catches_sound, stmts_many, catches_many}
use Rattle.jr_parse_defs.proofs.Grows.{Low, part, gone, deeps, on, last, symbol_on, word_on, ends_with, many_grow, one_of, shaped_append}
use Rattle.jr_parse_defs.proofs.PartGrows.{a_type, param_grow}
use Rattle.jr_parse_defs.proofs.Starters.{GrowsStmt, empty, leading_catch, leading_param, leading_stmt, leading_stmts, leading_symbol, leading_word, stmt_starter}

-- ---- blocks

module _ (r : ℕ) (inner outer : Parser s.Stmt) (most : ℕ) (outers : ReadsOne most true outer) (grow_out : GrowsStmt most true outer) where
  abbrev Listed : List Kind → Fault × List Kind → Type 0
  Listed ts stop = Growing (Low (AllByRecursion IsShapedStmt) (deepest stmt_depth)) (write_many write_stmt) most ts stop

  depths : (all : List s.Stmt) → AllByRecursion (IsStmt most true) all → deepest stmt_depth all ≤ most
  depths [] are = omega arith
  depths (a ∷ all) are = let l = are.0.low in let m = depths all are.1 in omega arith

  no_stmt : (us : List Kind) (stop : Fault × List Kind) → starts_block_stmt (first us) ≡ true → NoLevel starts_block_stmt us stop → Listed us stop
  no_stmt us stop starts (Refused f e) = absurd (true≢false (sym starts ∙ f))
  no_stmt [] stop starts (Deep f e) = absurd (cc)
  no_stmt (token ∷ us) stop starts (Deep f e) =
      let a = stmt_starter true token starts in deeps e leading_nothing [] (λ z. z) (λ z. refl) tt (omega arith) (a.tree ∷ []) a.more a.spelled (a.is.0, tt)

  one_stmt : (us : List Kind) (stop : Fault × List Kind) → starts_block_stmt (first us) ≡ true → outer us ≡ Err stop → Listed us stop
  one_stmt us stop starts e =
      elim (cases_lt 0 most) [
        | inl some ↦ one_of {Shape = IsShapedStmt} (λ a is. (is, tt)) (part leading_nothing (λ a. a) (λ z. z) (λ a z. refl) (λ a is. is.0) (λ a l. l) (grow_out.grow some us stop e))
        | inr none ↦ no_stmt us stop starts (grow_out.none none us stop e)
      ]

  pub stmts_grow : (ts : List Kind) (stop : Fault × List Kind) → reader.stmts r inner outer ts ≡ Err stop → Listed ts stop
  unfolding reader.stmts
  stmts_grow ts stop h =
      many_grow stmt_depth starts_block_stmt outer refl (IsStmt most true) write_stmt (blocks.stmts_item r inner outer most outers) (blocks.stmt_longer most) most leading_stmt (shaped_append (λ a is. is.shaped)) depths ts stop h (λ us starts e. one_stmt us stop starts e)

  pub as_stmts : (all : List s.Stmt) → AllByRecursion IsShapedStmt all → AreShapedStmts (s.stmts all)
  as_stmts [] h = tt
  as_stmts (a ∷ all) h = (h.0, as_stmts all h.1)

  pub low_stmts : (all : List s.Stmt) → deepest stmt_depth all ≤ most → stmts_depth (s.stmts all) ≤ most
  low_stmts [] l = omega arith
  low_stmts (a ∷ all) l = let m = low_stmts all (omega arith) in omega arith

  pub all_stmts_grow : (ts : List Kind) (stop : Fault × List Kind) → reader.stmts r inner outer ts ≡ Err stop → Growing (Low AreShapedStmts stmts_depth) write_stmts most ts stop
  all_stmts_grow ts stop h = part leading_nothing s.stmts (λ z. z) (λ all z. sym (stmts_many all z)) as_stmts low_stmts (stmts_grow ts stop h)

  pub block_grow : (ts : List Kind) (stop : Fault × List Kind) → reader.block r inner outer ts ≡ Err stop → Growing (Low IsShapedBlock block_depth) write_block most ts stop
  unfolding reader.block
  block_grow ts stop h =
      symbol_on y.OpenBrace ts (λ ts. Growing (Low IsShapedBlock block_depth) write_block most ts stop) h
      (λ g. gone g leading_nothing empty (λ z. kind.Sym y.OpenBrace ∷ kind.Sym y.CloseBrace ∷ z) (λ z. refl) tt (omega arith))
      (λ u us d. on d
      (λ e. part (leading_symbol y.OpenBrace) s.BlockOf (λ z. kind.Sym y.CloseBrace ∷ z) (λ all z. refl) (λ all is. is) (λ all l. l) (all_stmts_grow us stop e))
      (λ all vs e d.
      let found = stmts_sound r inner outer most outers us (all, vs) e in
      subst (λ us. Growing (Low IsShapedBlock block_depth) write_block most (kind.Sym y.OpenBrace ∷ us) stop) (sym found.written)
      (gone (ends_with y.CloseBrace vs d (λ u us d. ok_err d)) (leading_then (leading_symbol y.OpenBrace) (leading_stmts (s.stmts all))) (s.BlockOf (s.stmts all)) (λ z. kind.Sym y.CloseBrace ∷ z) (λ z. refl) found.shaped found.low)))

  -- ---- handlers

  catch_grow : (ts : List Kind) (stop : Fault × List Kind) → reader.catch_clause r inner outer ts ≡ Err stop → Growing (Low IsShapedCatch catch_depth) write_catch most ts stop
  unfolding reader.catch_clause
  catch_grow ts stop h =
      let a_param = reader.param_of false a_type [] 0 in
      let end : List Kind → List Kind = λ z. kind.Sym y.CloseParen ∷ kind.Sym y.OpenBrace ∷ kind.Sym y.CloseBrace ∷ z in
      word_on k.Catch ts (λ ts. Growing (Low IsShapedCatch catch_depth) write_catch most ts stop) h
      (λ g. gone g leading_nothing (s.CatchOf a_param empty) (λ z. kind.Word k.Catch ∷ kind.Sym y.OpenParen ∷ write_param a_param (end z)) (λ z. refl) (refl, tt) (omega arith))
      (λ u us d. symbol_on y.OpenParen us (λ us. Growing (Low IsShapedCatch catch_depth) write_catch most (kind.Word k.Catch ∷ us) stop) d
      (λ g. gone g (leading_word k.Catch) (s.CatchOf a_param empty) (λ z. kind.Sym y.OpenParen ∷ write_param a_param (end z)) (λ z. refl) (refl, tt) (omega arith))
      (λ u us d.
      let into = leading_then (leading_word k.Catch) (leading_symbol y.OpenParen) in
      on d (λ e. part into (λ p. s.CatchOf p empty) end (λ p z. refl) (λ p is. (is, tt)) (λ p l. omega arith) (param_grow most us stop e))
      (λ p vs e d.
      let found = param_sound us (p, vs) e in
      let named = leading_then into (leading_param p) in
      subst (λ us. Growing (Low IsShapedCatch catch_depth) write_catch most (kind.Word k.Catch ∷ kind.Sym y.OpenParen ∷ us) stop) (sym found.1)
      (symbol_on y.CloseParen vs (λ vs. Growing (Low IsShapedCatch catch_depth) write_catch most (kind.Word k.Catch ∷ kind.Sym y.OpenParen ∷ write_param p vs) stop) d
      (λ g. gone g named (s.CatchOf p empty) end (λ z. refl) (found.0, tt) (omega arith))
      (λ u ws d. part (leading_then named (leading_symbol y.CloseParen)) (λ b. s.CatchOf p b) (λ z. z) (λ b z. refl) (λ b is. (found.0, is)) (λ b l. l) (block_grow ws stop (last d (λ b us d. ok_err d))))))))

  as_catches : (all : List s.Catch) → AllByRecursion IsShapedCatch all → AreShapedCatches (s.catches all)
  as_catches [] h = tt
  as_catches (a ∷ all) h = (h.0, as_catches all h.1)

  low_catches : (all : List s.Catch) → deepest catch_depth all ≤ most → catches_depth (s.catches all) ≤ most
  low_catches [] l = omega arith
  low_catches (a ∷ all) l = let m = low_catches all (omega arith) in omega arith

  pub catches_grow : (ts : List Kind) (stop : Fault × List Kind) → many (next_is is_catch) (reader.catch_clause r inner outer) ts ≡ Err stop → Growing (Low AreShapedCatches catches_depth) write_catches most ts stop
  catches_grow ts stop h =
      part leading_nothing s.catches (λ z. z) (λ all z. sym (catches_many r inner outer most outers all z)) as_catches low_catches
      (many_grow catch_depth (next_is is_catch) (reader.catch_clause r inner outer) refl (blocks.FitsCatch r inner outer most outers) write_catch (blocks.catch_sound r inner outer most outers) (blocks.catch_longer r inner outer most outers) most leading_catch
      (shaped_append (λ c is. is.0)) (λ all are. (asunder IsShapedCatch catch_depth most all are).1) ts stop h (λ us starts e. one_of {Shape = IsShapedCatch} (λ a is. (is, tt)) (catch_grow us stop e)))
