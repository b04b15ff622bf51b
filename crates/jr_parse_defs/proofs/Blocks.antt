-- Reading blocks, groups and handlers is exact in both directions.
use Rattle.std.proofs.Common.{◌≡◌, ℕ, suc, ◌≤◌, true, false, List, [], ◌∷◌, ◌++◌, length, Some, Ok, refl, ap, ◌∙◌, subst, length-append, arith}
use Rattle.std.specs.List.{AllByRecursion}
use Rattle.jr_base.specs.declared.kind.Kind.{Kind}
use Rattle.jr_base.specs.declared.kind.Kind.TheVariants as kind
use Rattle.jr_base.specs.declared.kind.Symbol.TheVariants as y
use Rattle.jr_base.specs.declared.kind.Keyword.TheVariants as k
use Rattle.jr_tree.specs.Shape.{IsShapedStmt, IsShapedBlock, IsShapedCatch, AreShapedStmts, AreShapedCatches}
use Rattle.jr_tree.specs.Depth.{stmts_depth, block_depth, catch_depth, catches_depth}
use Rattle.jr_tree.specs.Tokens.{stmt_tokens, catch_tokens}
use Rattle.jr_tree.specs.Mirror.Stmts as s
use Rattle.jr_parse_laws.specs.Parsers.{Parser, first, many}
use Rattle.jr_parse_laws.proofs.Outcomes.{bind_ok, ok_is}
use Rattle.jr_parse_starts.specs.Starts.{next_is}
use Rattle.jr_parse_defs.specs.Begins.{starts_block_stmt, is_catch}
use Rattle.jr_parse_defs.specs.Stmts as reader
use Rattle.jr_parse_defs.specs.Writing.{write_many, write_param, write_stmt, write_block, write_stmts, write_catch, write_catches}
use Rattle.jr_parse_defs.specs.Follow.{IsStmt}
use Rattle.jr_parse_defs.proofs.Written.{stmt_written, catch_written, longer_by}
use Rattle.jr_parse_defs.proofs.Tokens.{eats, eats_word}
use Rattle.jr_parse_defs.proofs.Lists.{Sound, list_read, list_sound, one_more, no_more}
use Rattle.jr_parse_defs.proofs.Variables.{param_read, param_sound}
use Rattle.jr_parse_defs.proofs.Endings.{Calm, calm_ends, calm_stmt, stmt_starts}
use Rattle.jr_parse_defs.proofs.Named.{ReadsOne}

-- ---- statements as a list

abbrev pub listed : s.Stmts → List s.Stmt
listed s.no_stmts = []
listed (s.more_stmts a all) = a ∷ listed all

pub stmts_listed : (all : s.Stmts) → s.stmts (listed all) ≡ all
stmts_listed s.no_stmts = refl
stmts_listed (s.more_stmts a all) = ap (s.more_stmts a) (stmts_listed all)

stmts_fit : (room : ℕ) (all : s.Stmts) → AreShapedStmts all → stmts_depth all ≤ room → AllByRecursion (IsStmt room true) (listed all)
stmts_fit room s.no_stmts h low = tt
stmts_fit room (s.more_stmts a all) h low = (record { shaped = h.0; allowed = refl; low = omega arith }, stmts_fit room all h.1 (omega arith))

fit_stmts : (room : ℕ) (all : List s.Stmt) → AllByRecursion (IsStmt room true) all → AreShapedStmts (s.stmts all) × (stmts_depth (s.stmts all) ≤ room)
fit_stmts room [] h = (tt, omega arith)
fit_stmts room (a ∷ all) h =
    let more = fit_stmts room all h.1 in
    let low = h.0.low in
    let others : stmts_depth (s.stmts all) ≤ room = more.1 in
    ((h.0.shaped, more.0), omega arith)

many_stmts : (all : s.Stmts) (rest : List Kind) → write_stmts all rest ≡ write_many write_stmt (listed all) rest
many_stmts s.no_stmts rest = refl
many_stmts (s.more_stmts a all) rest = ap (write_stmt a) (many_stmts all rest)

pub stmts_many : (all : List s.Stmt) (rest : List Kind) → write_many write_stmt all rest ≡ write_stmts (s.stmts all) rest
stmts_many [] rest = refl
stmts_many (a ∷ all) rest = ap (write_stmt a) (stmts_many all rest)

pub longer_first : (tokens rest ts : List Kind) (token : Kind) → ts ≡ tokens ++ rest → first tokens ≡ Some token → suc (length rest) ≤ length ts
longer_first [] rest ts token h g = absurd (cc)
longer_first (t ∷ tokens) rest ts token h g = let l = longer_by tokens rest (tokens ++ rest) refl in rw h (omega arith)

-- ---- a statement takes a token

stmt_token : (a : s.Stmt) → IsShapedStmt a → 1 ≤ length (stmt_tokens a)
stmt_token a h = go (stmt_tokens a) (stmt_written a []) where
  go : (tokens : List Kind) → write_stmt a [] ≡ tokens ++ [] → 1 ≤ length tokens
  go [] e = absurd (let starts = stmt_starts a [] h in let none : starts_block_stmt (first (write_stmt a [])) ≡ false = ap (λ ts. starts_block_stmt (first ts)) e in cc)
  go (t ∷ tokens) e = omega arith

pub stmt_longer : (room : ℕ) (a : s.Stmt) (rest : List Kind) → IsStmt room true a → suc (length rest) ≤ length (write_stmt a rest)
stmt_longer room a rest is =
    let one = stmt_token a is.shaped in
    rw (stmt_written a rest, length-append) (omega arith)

-- ---- blocks

module _ (room : ℕ) (inner outer : Parser s.Stmt) (most : ℕ) (reads : ReadsOne most true outer) where
  pub stmts_item : Sound (IsStmt most true) write_stmt outer
  stmts_item ts r h = let found = reads.sound ts r h in (found.is, found.written)

  pub stmts_read : (all : s.Stmts) (rest : List Kind) → AreShapedStmts all → stmts_depth all ≤ most → starts_block_stmt (first rest) ≡ false → Calm (first rest)
      → reader.stmts room inner outer (write_stmts all rest) ≡ Ok (listed all, rest)
  unfolding reader.stmts
  stmts_read all rest h low over calm =
      ap (many starts_block_stmt outer) (many_stmts all rest)
      ∙ list_read starts_block_stmt outer refl (IsStmt most true) write_stmt stmts_item (stmt_longer most) Calm calm_stmt (λ a rest is. stmt_starts a rest is.shaped)
      (λ a rest is c. reads.complete a rest is (calm_ends a (first rest) c)) (listed all) rest (stmts_fit most all h low) over calm

  pub record StmtsFound (write : s.Stmts → List Kind → List Kind) (ts : List Kind) (r : List s.Stmt × List Kind) : Type 0 where
    pub shaped : AreShapedStmts (s.stmts r.0)
    pub low : stmts_depth (s.stmts r.0) ≤ most
    pub written : ts ≡ write (s.stmts r.0) r.1
    pub over : starts_block_stmt (first r.1) ≡ false

  pub stmts_sound : (ts : List Kind) (r : List s.Stmt × List Kind) → reader.stmts room inner outer ts ≡ Ok r → StmtsFound write_stmts ts r
  unfolding reader.stmts
  stmts_sound ts r h =
      let found = list_sound starts_block_stmt outer refl (IsStmt most true) write_stmt stmts_item (stmt_longer most) ts r h in
      let fit = fit_stmts most r.0 found.are in
      record { shaped = fit.0; low = fit.1; written = found.written ∙ stmts_many r.0 r.1; over = found.ended }

  pub block_read : (b : s.Block) (rest : List Kind) → IsShapedBlock b → block_depth b ≤ most → reader.block room inner outer (write_block b rest) ≡ Ok (b, rest)
  unfolding reader.block
  block_read (s.BlockOf all) rest h low =
      rw (stmts_read all (kind.Sym y.CloseBrace ∷ rest) h low refl (record { no_catch = refl; no_finally = refl; no_else = refl })) (ap (λ all. Ok (s.BlockOf all, rest)) (stmts_listed all))

  pub record BlockFound (ts : List Kind) (r : s.Block × List Kind) : Type 0 where
    pub shaped : IsShapedBlock r.0
    pub low : block_depth r.0 ≤ most
    pub written : ts ≡ write_block r.0 r.1

  pub block_sound : (ts : List Kind) (r : s.Block × List Kind) → reader.block room inner outer ts ≡ Ok r → BlockFound ts r
  unfolding reader.block
  block_sound ts r h =
      let a = eats y.OpenBrace ts _ r h in
      let all = bind_ok (reader.stmts room inner outer a.rest) _ r a.more in
      let found = stmts_sound a.rest all.0 all.1 in
      let b = eats y.CloseBrace all.0.1 _ r all.2 in
      subst (BlockFound ts) (ok_is b.more)
      (record { shaped = found.shaped; low = found.low; written = a.written ∙ ap (λ us. kind.Sym y.OpenBrace ∷ us) (found.written ∙ ap (write_stmts (s.stmts all.0.0)) b.written) })

  -- ---- handlers

  abbrev pub FitsCatch : s.Catch → Type 0
  FitsCatch c = IsShapedCatch c × (catch_depth c ≤ most)

  catch_read : (c : s.Catch) (rest : List Kind) → FitsCatch c → reader.catch_clause room inner outer (write_catch c rest) ≡ Ok (c, rest)
  unfolding reader.catch_clause
  catch_read (s.CatchOf p b) rest is = rw (param_read p (kind.Sym y.CloseParen ∷ write_block b rest) is.0.0 refl, block_read b rest is.0.1 is.1) refl

  pub catch_sound : Sound FitsCatch write_catch (reader.catch_clause room inner outer)
  unfolding reader.catch_clause
  catch_sound ts r h =
      let a = eats_word k.Catch ts _ r h in
      let b = eats y.OpenParen a.rest _ r a.more in
      let p = bind_ok (reader.param b.rest) _ r b.more in
      let is_param = param_sound b.rest p.0 p.1 in
      let c = eats y.CloseParen p.0.1 _ r p.2 in
      let e = bind_ok (reader.block room inner outer c.rest) _ r c.more in
      let found = block_sound c.rest e.0 e.1 in
      subst (λ (r : s.Catch × List Kind). FitsCatch r.0 × (ts ≡ write_catch r.0 r.1)) (ok_is e.2) (
        ((is_param.0, found.shaped), found.low),
        a.written
            ∙ ap (λ us. kind.Word k.Catch ∷ us)
            (b.written ∙ ap (λ us. kind.Sym y.OpenParen ∷ us) (is_param.1 ∙ ap (write_param p.0.0) (c.written ∙ ap (λ us. kind.Sym y.CloseParen ∷ us) found.written))),
      )

  pub catch_longer : (c : s.Catch) (rest : List Kind) → FitsCatch c → suc (length rest) ≤ length (write_catch c rest)
  catch_longer (s.CatchOf p b) rest is = longer_first (catch_tokens (s.CatchOf p b)) rest (write_catch (s.CatchOf p b) rest) (kind.Word k.Catch) (catch_written (s.CatchOf p b) rest) refl

  abbrev listed_catches : s.Catches → List s.Catch
  listed_catches s.no_catches = []
  listed_catches (s.more_catches c all) = c ∷ listed_catches all

  pub catches_read : (all : s.Catches) (rest : List Kind) → AreShapedCatches all → catches_depth all ≤ most → next_is is_catch (first rest) ≡ false
      → (all' : List s.Catch) × (s.catches all' ≡ all) × (many (next_is is_catch) (reader.catch_clause room inner outer) (write_catches all rest) ≡ Ok (all', rest))
  catches_read s.no_catches rest h low over = ([], refl, no_more (next_is is_catch) (reader.catch_clause room inner outer) refl FitsCatch write_catch catch_sound catch_longer rest over)
  catches_read (s.more_catches (s.CatchOf p b) all) rest h low over =
      let c = s.CatchOf p b in
      let more = catches_read all rest h.1 (omega arith) over in
      let ts = write_catches all rest in (
        c ∷ more.0,
        ap (s.more_catches c) more.1,
        one_more (next_is is_catch) (reader.catch_clause room inner outer) refl FitsCatch write_catch catch_sound catch_longer c (write_catch c ts) ts more.0 rest refl (catch_read c ts (h.0, omega arith)) more.2,
      )

  fit_catches : (all : List s.Catch) → AllByRecursion FitsCatch all → AreShapedCatches (s.catches all) × (catches_depth (s.catches all) ≤ most)
  fit_catches [] h = (tt, omega arith)
  fit_catches (c ∷ all) h =
      let more = fit_catches all h.1 in
      let low : catch_depth c ≤ most = h.0.1 in
      let others : catches_depth (s.catches all) ≤ most = more.1 in
      ((h.0.0, more.0), omega arith)

  pub catches_many : (all : List s.Catch) (rest : List Kind) → write_many write_catch all rest ≡ write_catches (s.catches all) rest
  catches_many [] rest = refl
  catches_many (c ∷ all) rest = ap (write_catch c) (catches_many all rest)

  pub record CatchesFound (ts : List Kind) (r : List s.Catch × List Kind) : Type 0 where
    pub shaped : AreShapedCatches (s.catches r.0)
    pub low : catches_depth (s.catches r.0) ≤ most
    pub written : ts ≡ write_catches (s.catches r.0) r.1
    pub over : next_is is_catch (first r.1) ≡ false

  pub catches_sound : (ts : List Kind) (r : List s.Catch × List Kind) → many (next_is is_catch) (reader.catch_clause room inner outer) ts ≡ Ok r → CatchesFound ts r
  catches_sound ts r h =
      let found = list_sound (next_is is_catch) (reader.catch_clause room inner outer) refl FitsCatch write_catch catch_sound catch_longer ts r h in
      let fit = fit_catches r.0 found.are in
      record { shaped = fit.0; low = fit.1; written = found.written ∙ catches_many r.0 r.1; over = found.ended }
