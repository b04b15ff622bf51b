-- Where reading a statement stops, what stands before begins one.
use Rattle.std.proofs.Common.{◌≡◌, ℕ, zero, suc, ◌≤◌, max, Bool, true, false, not, ◌&&◌, cond, ltb, List, [], ◌∷◌, Option, Some, None, Ok, Err, refl, sym, ap, ◌∙◌, subst, inl, inr, arith}
use Rattle.std.proofs.lemmas.Bool.{cases_lt, and_parts, true≢false}
use Rattle.std.specs.Prelude.{IfSome, IsTrue}
use Rattle.std.specs.Option.{option_map_or}
use Rattle.jr_base.specs.declared.text.Text.{Text}
use Rattle.jr_base.specs.declared.kind.Kind.{Kind}
use Rattle.jr_base.specs.declared.kind.Kind.TheVariants as kind
use Rattle.jr_base.specs.declared.kind.Symbol.TheVariants as y
use Rattle.jr_base.specs.declared.kind.Keyword.TheVariants as k
use Rattle.jr_tree.specs.Shape.{is_local, has_catch, IsWholeExpr, AreStatementExprs, IsShapedForInit, IsShapedStmt, IsShapedBlock, AreShapedCatches}
use Rattle.jr_tree.specs.Depth.{expr_depth, exprs_depth, for_init_depth, stmt_depth, block_depth, catches_depth, groups_depth}
use Rattle.jr_tree.specs.Tokens.{catches_tokens}
use Rattle.jr_tree.specs.Mirror.Exprs as x
use Rattle.jr_tree.specs.Mirror.Stmts as s
use Rattle.jr_parse_laws.specs.declared.fault.Fault.{Fault}
use Rattle.jr_parse_laws.specs.declared.fault.Fault.TheVariants.{NoTree, TooDeep}
use Rattle.jr_parse_laws.specs.Parsers.{Outcome, Parser, and_then, first, pure, expect, optional, ◌>>=◌, ◌>>◌}
use Rattle.jr_parse_laws.proofs.Outcomes.{ok_err, err_is}
use Rattle.jr_parse_laws.proofs.Stops.{Leading, leading_nothing}
use Rattle.jr_parse_starts.specs.Starts.{begins_effect, starts_expr, starts_effect}
use Rattle.jr_parse_expr.specs.Names.{type_use}
use Rattle.jr_parse_expr.specs.Exprs.{Nothing, any_commas, expr, effect}
use Rattle.jr_parse_expr.specs.Writing.{write_expr, write_exprs}
use Rattle.jr_parse_expr.proofs.Growths.{Growing, leading_tokens, leading_then, leading_one, leading_expr, sample}
use Rattle.jr_parse_expr.proofs.PartGrowths.{NoLevel, Deep, Refused}
use Rattle.jr_parse_expr.proofs.AllGrowths.{no_level_is}
use Rattle.jr_parse_defs.specs.Begins.{begins_stmt, begins_local, starts_block_stmt, starts_stmt}
use Rattle.jr_parse_defs.specs.Stmts as reader
use Rattle.jr_parse_defs.specs.Writing.{write_some, write_for_init, write_cond, write_ident, write_stmt, write_block, write_catches}
use Rattle.jr_parse_defs.specs.Follow.{StmtEnds}
use Rattle.jr_parse_defs.proofs.Written.{catches_written}
use Rattle.jr_parse_defs.proofs.Expressions.{whole_sound, condition_sound, any_sound, updates_sound}
use Rattle.jr_parse_defs.proofs.Named.{ReadsOne, not_local}
use Rattle.jr_parse_defs.proofs.Blocks.{block_sound, catches_sound}
use Rattle.jr_parse_defs.proofs.Groups.{groups_sound}
use Rattle.jr_parse_defs.proofs.Headers.{first_sound}
use Rattle.jr_parse_defs.proofs.Statements.{label_name_sound, takes_none, stmt_reads}
use Rattle.jr_parse_defs.proofs.Grows.{Low, part, gone, deeps, on, last, symbol_on, word_on, ends_with, choose, at_word, forces}
use Rattle.jr_parse_defs.proofs.PartGrows.{leading_cond, leading_exprs, leading_typed, sample_whole, whole_starter, whole_grow, condition_grow, no_whole, effect_grow, Typed, typed_grow, any_grow, updates_grow}
use Rattle.jr_parse_defs.proofs.Starters.{GrowsStmt, Statement, StmtShape, effect_stmt, empty, leading_block, leading_first, leading_groups, leading_some, leading_stmt, leading_symbol, leading_word, semi, some_stmt, test}
use Rattle.jr_parse_defs.proofs.BlockGrows.{block_grow, catches_grow}
use Rattle.jr_parse_defs.proofs.NamedGrows.{eval_part, evaluated_grow, local_part, from_name_grow}
use Rattle.jr_parse_defs.proofs.HeaderGrows.{first_grow}
use Rattle.jr_parse_defs.proofs.GroupGrows.{groups_grow}

-- ---- depths

pub suc_le : (a r : ℕ) → a ≤ r → suc a ≤ suc r
suc_le a r l = omega arith

pub zero_le : (r : ℕ) → 0 ≤ r
zero_le r = omega arith

for_low : (i o u b r : ℕ) → i ≤ r → o ≤ r → u ≤ r → b ≤ r → suc (max i (max o (max u b))) ≤ suc r
for_low i o u b r l m n k = omega arith

-- ---- one level

module _ (room : ℕ) (inner outer : Parser s.Stmt) (reads : ReadsOne room false inner) (outers : ReadsOne room true outer) (grow_in : GrowsStmt room false inner) (grow_out : GrowsStmt room true outer) where
  abbrev Goal : Bool → List Kind → Fault × List Kind → Type 0
  Goal declares ts stop = Statement declares (suc room) ts stop

  -- ---- with a word in front, where there is a level

  do_grow : 1 ≤ room → (declares : Bool) (ts : List Kind) (stop : Fault × List Kind) → reader.do_stmt room inner outer ts ≡ Err stop → Goal declares (kind.Word k.Do ∷ ts) stop
  unfolding reader.do_stmt
  do_grow some declares ts stop h =
      let last_test : List Kind → List Kind = λ z. kind.Word k.While ∷ test (semi z) in
      on h (λ e. part (leading_word k.Do) (λ a. s.Do a sample) last_test (λ a z. refl) (λ a is. ((is.1, is.0, sample_whole), not_local declares)) (λ a l. omega arith) (grow_in.grow some ts stop e))
      (λ a us e d.
      let body = reads.sound ts (a, us) e in
      let low = body.is.low in
      let into = leading_then (leading_word k.Do) (leading_stmt a) in
      subst (λ ts. Goal declares (kind.Word k.Do ∷ ts) stop) (sym body.written)
      (word_on k.While us (λ us. Goal declares (kind.Word k.Do ∷ write_stmt a us) stop) d
      (λ g. gone g into (s.Do a sample) last_test (λ z. refl) ((body.is.allowed, body.is.shaped, sample_whole), not_local declares) (omega arith))
      (λ u us d. on d
      (λ e. part (leading_then into (leading_word k.While)) (λ c. s.Do a c) semi (λ c z. refl) (λ c is. ((body.is.allowed, body.is.shaped, is), not_local declares)) (λ c l. omega arith) (condition_grow room some us stop e))
      (λ c vs e d.
      let found = condition_sound room us (c, vs) e in
      let low_test = found.low in
      subst (λ us. Goal declares (kind.Word k.Do ∷ write_stmt a (kind.Word k.While ∷ us)) stop) (sym found.written)
      (gone (ends_with y.Semicolon vs d (λ u us d. ok_err d)) (leading_then into (leading_then (leading_word k.While) (leading_cond c))) (s.Do a c) semi (λ z. refl) ((body.is.allowed, body.is.shaped, found.is), not_local declares) (omega arith))))))

  while_grow : 1 ≤ room → (declares : Bool) (ts : List Kind) (stop : Fault × List Kind) → reader.while_stmt room inner outer ts ≡ Err stop → Goal declares (kind.Word k.While ∷ ts) stop
  unfolding reader.while_stmt
  while_grow some declares ts stop h =
      on h (λ e. part (leading_word k.While) (λ c. s.While c s.Skip) semi (λ c z. refl) (λ c is. ((is, refl, tt), not_local declares)) (λ c l. omega arith) (condition_grow room some ts stop e))
      (λ c us e d.
      let found = condition_sound room ts (c, us) e in
      let low = found.low in
      subst (λ ts. Goal declares (kind.Word k.While ∷ ts) stop) (sym found.written)
      (part (leading_then (leading_word k.While) (leading_cond c)) (λ a. s.While c a) (λ z. z) (λ a z. refl) (λ a is. ((found.is, is.1, is.0), not_local declares)) (λ a l. omega arith) (grow_in.grow some us stop (last d (λ a us d. ok_err d)))))

  if_grow : 1 ≤ room → (declares : Bool) (ts : List Kind) (stop : Fault × List Kind) → reader.if_stmt room inner outer ts ≡ Err stop → Goal declares (kind.Word k.If ∷ ts) stop
  unfolding reader.if_stmt
  if_grow some declares ts stop h =
      on h (λ e. part (leading_word k.If) (λ c. s.If c s.Skip s.no_stmt) semi (λ c z. refl) (λ c is. ((is, refl, tt, tt), not_local declares)) (λ c l. omega arith) (condition_grow room some ts stop e))
      (λ c us e d.
      let found = condition_sound room ts (c, us) e in
      let low = found.low in
      let into = leading_then (leading_word k.If) (leading_cond c) in
      subst (λ ts. Goal declares (kind.Word k.If ∷ ts) stop) (sym found.written)
      (on d (λ e. part into (λ a. s.If c a s.no_stmt) (λ z. z) (λ a z. refl) (λ a is. ((found.is, is.1, is.0, tt), not_local declares)) (λ a l. omega arith) (grow_in.grow some us stop e))
      (λ a vs e d.
      let body = reads.sound us (a, vs) e in
      subst (λ us. Goal declares (kind.Word k.If ∷ write_cond c us) stop) (sym body.written) (else_grow c found.is low a body.is.shaped body.is.allowed body.is.low vs body.ended (last d (λ b us d. ok_err d)))))) where
        else_grow : (c : x.Expr) → IsWholeExpr c → expr_depth c ≤ room → (a : s.Stmt) → IsShapedStmt a → IsTrue (not (is_local a)) → stmt_depth a ≤ room → (vs : List Kind) → StmtEnds a (first vs) → reader.otherwise room inner outer vs ≡ Err stop
            → Goal declares (kind.Word k.If ∷ write_cond c (write_stmt a vs)) stop
        else_grow c is low a shaped allowed low_a [] ended e = absurd (ok_err e)
        else_grow c is low a shaped allowed low_a (kind.Word k.Else ∷ vs) ended e =
            let into = leading_then (leading_word k.If) (leading_then (leading_cond c) (leading_then (leading_stmt a) (leading_word k.Else))) in
            part into (λ b. s.If c a (s.a_stmt b)) (λ z. z) (λ b z. refl) (λ b is_b. ((is, allowed, shaped, (takes_none room inner outer reads outers a vs ended, is_b.1, is_b.0)), not_local declares)) (λ b l. omega arith)
            (grow_in.grow some vs stop (last e (λ b us d. ok_err d)))
        else_grow c is low a shaped allowed low_a (token ∷ vs) ended e = absurd (ok_err e)

  label_ok : (ts : List Kind) (stop : Fault × List Kind) → reader.label ts ≡ Err stop → ⊥
  label_ok [] stop h = ok_err h
  label_ok (kind.Ident n ∷ ts) stop h = ok_err h
  label_ok (token ∷ ts) stop h = ok_err h

  leading_ident : (l : Option Text) → Leading (write_some write_ident l)
  leading_ident l = leading_some write_ident (λ n. leading_one (kind.Ident n)) l

  break_grow : (declares : Bool) (ts : List Kind) (stop : Fault × List Kind) → reader.break_stmt room inner outer ts ≡ Err stop → Goal declares (kind.Word k.Break ∷ ts) stop
  break_grow declares ts stop h =
      on h (λ e. absurd (label_ok ts stop e))
      (λ l us e d.
      subst (λ ts. Goal declares (kind.Word k.Break ∷ ts) stop) (sym (label_name_sound ts (l, us) e))
      (gone (ends_with y.Semicolon us d (λ u us d. ok_err d)) (leading_then (leading_word k.Break) (leading_ident l)) (s.Break l) semi (λ z. refl) (tt, not_local declares) (omega arith)))

  continue_grow : (declares : Bool) (ts : List Kind) (stop : Fault × List Kind) → reader.continue_stmt room inner outer ts ≡ Err stop → Goal declares (kind.Word k.Continue ∷ ts) stop
  continue_grow declares ts stop h =
      on h (λ e. absurd (label_ok ts stop e))
      (λ l us e d.
      subst (λ ts. Goal declares (kind.Word k.Continue ∷ ts) stop) (sym (label_name_sound ts (l, us) e))
      (gone (ends_with y.Semicolon us d (λ u us d. ok_err d)) (leading_then (leading_word k.Continue) (leading_ident l)) (s.Continue l) semi (λ z. refl) (tt, not_local declares) (omega arith)))

  no_value : (declares : Bool) (ts : List Kind) (stop : Fault × List Kind) → starts_expr (first ts) ≡ true → NoLevel starts_expr ts stop → Goal declares (kind.Word k.Return ∷ ts) stop
  no_value declares ts stop starts (Refused f e) = absurd (true≢false (sym starts ∙ f))
  no_value declares [] stop starts (Deep f e) = absurd (cc)
  no_value declares (token ∷ ts) stop starts (Deep f e) =
      let a = whole_starter token starts in
      deeps e (leading_word k.Return) (s.Return None) semi (λ z. refl) (tt, not_local declares) (omega arith) (s.Return (Some a.tree)) (λ z. a.more (semi z)) (λ z. ap (λ ts. kind.Word k.Return ∷ ts) (a.spelled (semi z))) (a.is, not_local declares)

  return_grow : (declares : Bool) (ts : List Kind) (stop : Fault × List Kind) → reader.return_stmt room inner outer ts ≡ Err stop → Goal declares (kind.Word k.Return ∷ ts) stop
  return_grow declares ts stop h =
      on h
      (λ e. choose (starts_expr (first ts)) e
      (λ t g.
      let i = last g (λ v us d. ok_err d) in
      elim (cases_lt 0 room) [
        | inl some ↦ part (leading_word k.Return) (λ v. s.Return (Some v)) semi (λ v z. refl) (λ v is. (is, not_local declares)) (λ v l. suc_le (expr_depth v) room l) (whole_grow room some ts stop i)
        | inr none ↦ no_value declares ts stop t (no_whole room none ts stop i)
      ])
      (λ f g. absurd (ok_err g)))
      (λ v us e d.
      let found = any_sound room ts (v, us) e in
      let low = found.low in
      subst (λ ts. Goal declares (kind.Word k.Return ∷ ts) stop) (sym found.written)
      (gone (ends_with y.Semicolon us d (λ u us d. ok_err d)) (leading_then (leading_word k.Return) (leading_some write_expr leading_expr v)) (s.Return v) semi (λ z. refl) (found.is, not_local declares) (omega arith)))

  throw_grow : 1 ≤ room → (declares : Bool) (ts : List Kind) (stop : Fault × List Kind) → reader.throw_stmt room inner outer ts ≡ Err stop → Goal declares (kind.Word k.Throw ∷ ts) stop
  throw_grow some declares ts stop h =
      on h (λ e. part (leading_word k.Throw) (λ v. s.Throw v) semi (λ v z. refl) (λ v is. (is, not_local declares)) (λ v l. omega arith) (whole_grow room some ts stop e))
      (λ v us e d.
      let found = whole_sound room ts (v, us) e in
      let low = found.low in
      subst (λ ts. Goal declares (kind.Word k.Throw ∷ ts) stop) (sym found.written)
      (gone (ends_with y.Semicolon us d (λ u us d. ok_err d)) (leading_then (leading_word k.Throw) (leading_expr v)) (s.Throw v) semi (λ z. refl) (found.is, not_local declares) (omega arith)))

  -- ---- for

  abbrev close : List Kind → List Kind
  close z = kind.Sym y.CloseParen ∷ semi z

  abbrev header : Option s.ForInit → List Kind → List Kind
  header i z = kind.Word k.For ∷ kind.Sym y.OpenParen ∷ write_some write_for_init i (semi z)

  leading_header : (i : Option s.ForInit) → Leading (header i)
  leading_header i = leading_then (leading_word k.For) (leading_then (leading_symbol y.OpenParen) (leading_then (leading_some write_for_init leading_first i) (leading_symbol y.Semicolon)))

  module _ (some : 1 ≤ room) (declares : Bool) (i : Option s.ForInit) (init : IfSome i IsShapedForInit) (low_init : option_map_or for_init_depth i 0 ≤ room) where
    for_is : (o : Option x.Expr) (u : x.Exprs) (b : s.Stmt) → IfSome o IsWholeExpr → AreStatementExprs u → StmtShape false b → StmtShape declares (s.For i o u b)
    for_is o u b is_o is_u is_b = ((init, is_o, is_u, is_b.1, is_b.0), not_local declares)

    for_depth : (o : Option x.Expr) (u : x.Exprs) (b : s.Stmt) → option_map_or expr_depth o 0 ≤ room → exprs_depth u ≤ room → stmt_depth b ≤ room → stmt_depth (s.For i o u b) ≤ suc room
    for_depth o u b l m n = for_low (option_map_or for_init_depth i 0) (option_map_or expr_depth o 0) (exprs_depth u) (stmt_depth b) room low_init l m n

    body_grow : (o : Option x.Expr) (u : x.Exprs) (us : List Kind) (stop : Fault × List Kind) → IfSome o IsWholeExpr → option_map_or expr_depth o 0 ≤ room → AreStatementExprs u → exprs_depth u ≤ room → inner us ≡ Err stop
        → Goal declares (header i (write_some write_expr o (semi (write_exprs u (kind.Sym y.CloseParen ∷ us))))) stop
    body_grow o u us stop is_o low_o is_u low_u e =
        part (leading_then (leading_header i) (leading_then (leading_some write_expr leading_expr o) (leading_then (leading_symbol y.Semicolon) (leading_then (leading_exprs u) (leading_symbol y.CloseParen))))) (λ b. s.For i o u b) (λ z. z) (λ b z. refl)
        (λ b is. for_is o u b is_o is_u is) (λ b l. for_depth o u b low_o low_u l) (grow_in.grow some us stop e)

    update_grow : (o : Option x.Expr) (us : List Kind) (stop : Fault × List Kind) → IfSome o IsWholeExpr → option_map_or expr_depth o 0 ≤ room
        → and_then (any_commas starts_effect (effect room Nothing) us) (λ update ts. and_then (expect y.CloseParen ts) (λ u ts. and_then (inner ts) (λ body ts. Ok (s.For i o (x.exprs update) body, ts)))) ≡ Err stop
        → Goal declares (header i (write_some write_expr o (semi us))) stop
    update_grow o us stop is_o low_o h =
        let into = leading_then (leading_header i) (leading_then (leading_some write_expr leading_expr o) (leading_symbol y.Semicolon)) in
        on h (λ e. part into (λ u. s.For i o u s.Skip) close (λ u z. refl) (λ u is. for_is o u s.Skip is_o is (tt, refl)) (λ u l. for_depth o u s.Skip low_o l some) (updates_grow room some us stop e))
        (λ update vs e d.
        let found = updates_sound room us (update, vs) e in
        subst (λ us. Goal declares (header i (write_some write_expr o (semi us))) stop) (sym found.written)
        (symbol_on y.CloseParen vs (λ vs. Goal declares (header i (write_some write_expr o (semi (write_exprs (x.exprs update) vs)))) stop) d
        (λ g. gone g (leading_then into (leading_exprs (x.exprs update))) (s.For i o (x.exprs update) s.Skip) close (λ z. refl) (for_is o (x.exprs update) s.Skip is_o found.is (tt, refl)) (for_depth o (x.exprs update) s.Skip low_o found.low some))
        (λ u ws d. body_grow o (x.exprs update) ws stop is_o low_o found.is found.low (last d (λ b us d. ok_err d)))))

    tests_grow : (us : List Kind) (stop : Fault × List Kind)
        → and_then (optional starts_expr (expr room Nothing 0) us) (λ c ts. and_then (expect y.Semicolon ts) (λ u ts. and_then (any_commas starts_effect (effect room Nothing) ts)
        (λ update ts. and_then (expect y.CloseParen ts) (λ u ts. and_then (inner ts) (λ body ts. Ok (s.For i c (x.exprs update) body, ts)))))) ≡ Err stop → Goal declares (header i us) stop
    tests_grow us stop h =
        on h (λ e. part (leading_header i) (λ c. s.For i (Some c) x.no_exprs s.Skip) (λ z. semi (close z)) (λ c z. refl) (λ c is. for_is (Some c) x.no_exprs s.Skip is tt (tt, refl)) (λ c l. for_depth (Some c) x.no_exprs s.Skip l (zero_le room) some)
        (any_grow room some us stop e))
        (λ c vs e d.
        let found = any_sound room us (c, vs) e in
        subst (λ us. Goal declares (header i us) stop) (sym found.written)
        (symbol_on y.Semicolon vs (λ vs. Goal declares (header i (write_some write_expr c vs)) stop) d
        (λ g. gone g (leading_then (leading_header i) (leading_some write_expr leading_expr c)) (s.For i c x.no_exprs s.Skip) (λ z. semi (close z)) (λ z. refl) (for_is c x.no_exprs s.Skip found.is tt (tt, refl)) (for_depth c x.no_exprs s.Skip found.low (zero_le room) some))
        (λ u ws d. update_grow c ws stop found.is found.low d)))

  for_grow : 1 ≤ room → (declares : Bool) (ts : List Kind) (stop : Fault × List Kind) → reader.for_stmt room inner outer ts ≡ Err stop → Goal declares (kind.Word k.For ∷ ts) stop
  unfolding reader.for_stmt
  for_grow some declares ts stop h =
      symbol_on y.OpenParen ts (λ ts. Goal declares (kind.Word k.For ∷ ts) stop) h
      (λ g. gone g (leading_word k.For) (s.For None None x.no_exprs s.Skip) (λ z. kind.Sym y.OpenParen ∷ semi (semi (close z))) (λ z. refl) ((tt, tt, tt, refl, tt), not_local declares) (for_low 0 0 0 1 room (zero_le room) (zero_le room) (zero_le room) some))
      (λ u us d.
      let into = leading_then (leading_word k.For) (leading_symbol y.OpenParen) in
      on d
      (λ e. part into (λ i. s.For (Some i) None x.no_exprs s.Skip) (λ z. semi (semi (close z))) (λ i z. refl) (λ i is. ((is, tt, tt, refl, tt), not_local declares)) (λ i l. for_low (for_init_depth i) 0 0 1 room l (zero_le room) (zero_le room) some) (first_grow room inner outer some us stop e))
      (λ i vs e d.
      let init = first_sound room inner outer us (i, vs) e in
      subst (λ us. Goal declares (kind.Word k.For ∷ kind.Sym y.OpenParen ∷ us) stop) (sym init.written)
      (symbol_on y.Semicolon vs (λ vs. Goal declares (kind.Word k.For ∷ kind.Sym y.OpenParen ∷ write_some write_for_init i vs) stop) d
      (λ g. gone g (leading_then into (leading_some write_for_init leading_first i)) (s.For i None x.no_exprs s.Skip) (λ z. semi (semi (close z))) (λ z. refl) ((init.shaped, tt, tt, refl, tt), not_local declares)
      (for_low (option_map_or for_init_depth i 0) 0 0 1 room init.low (zero_le room) (zero_le room) some))
      (λ u us d. tests_grow some declares i init.shaped init.low us stop d))))

  -- ---- switch

  switch_grow : 1 ≤ room → (declares : Bool) (ts : List Kind) (stop : Fault × List Kind) → reader.switch_stmt room inner outer ts ≡ Err stop → Goal declares (kind.Word k.Switch ∷ ts) stop
  unfolding reader.switch_stmt
  switch_grow some declares ts stop h =
      let braces : List Kind → List Kind = λ z. kind.Sym y.OpenBrace ∷ kind.Sym y.CloseBrace ∷ z in
      on h (λ e. part (leading_word k.Switch) (λ v. s.Switch v s.no_groups) braces (λ v z. refl) (λ v is. ((is, tt), not_local declares)) (λ v l. omega arith) (condition_grow room some ts stop e))
      (λ v us e d.
      let found = condition_sound room ts (v, us) e in
      let low = found.low in
      let into = leading_then (leading_word k.Switch) (leading_cond v) in
      subst (λ ts. Goal declares (kind.Word k.Switch ∷ ts) stop) (sym found.written)
      (symbol_on y.OpenBrace us (λ us. Goal declares (kind.Word k.Switch ∷ write_cond v us) stop) d
      (λ g. gone g into (s.Switch v s.no_groups) braces (λ z. refl) ((found.is, tt), not_local declares) (omega arith))
      (λ u us d. on d
      (λ e. part (leading_then into (leading_symbol y.OpenBrace)) (λ gs. s.Switch v gs) (λ z. kind.Sym y.CloseBrace ∷ z) (λ gs z. refl) (λ gs is. ((found.is, is), not_local declares)) (λ gs l. omega arith) (groups_grow room inner outer outers grow_out some us stop e))
      (λ gs vs e d.
      let all = groups_sound room inner outer outers us (gs, vs) e in
      let low_all : groups_depth (s.groups gs) ≤ room = all.low in
      subst (λ us. Goal declares (kind.Word k.Switch ∷ write_cond v (kind.Sym y.OpenBrace ∷ us)) stop) (sym all.written)
      (gone (ends_with y.CloseBrace vs d (λ u us d. ok_err d)) (leading_then into (leading_then (leading_symbol y.OpenBrace) (leading_groups (s.groups gs)))) (s.Switch v (s.groups gs)) (λ z. kind.Sym y.CloseBrace ∷ z) (λ z. refl)
      ((found.is, all.shaped), not_local declares) (omega arith))))))

  -- ---- try

  abbrev braces : List Kind → List Kind
  braces z = kind.Sym y.OpenBrace ∷ kind.Sym y.CloseBrace ∷ z

  block_here : (ts : List Kind) (stop : Fault × List Kind) → reader.block room inner outer ts ≡ Err stop → Growing (Low IsShapedBlock block_depth) write_block room ts stop
  block_here ts stop h = block_grow room inner outer room outers grow_out ts stop h

  leading_catches : (cs : s.Catches) → Leading (write_catches cs)
  leading_catches cs = leading_tokens (write_catches cs) (catches_tokens cs) (catches_written cs)

  last_grow : (declares : Bool) (b : s.Block) (cs : s.Catches) → IsShapedBlock b → block_depth b ≤ room → AreShapedCatches cs → catches_depth cs ≤ room → (us : List Kind) (stop : Fault × List Kind)
      → and_then (reader.block room inner outer us) (λ b ts. Ok (s.a_block b, ts)) ≡ Err stop → Goal declares (kind.Word k.Try ∷ write_block b (write_catches cs (kind.Word k.Finally ∷ us))) stop
  last_grow declares b cs is low are low_cs us stop h =
      part (leading_then (leading_word k.Try) (leading_then (leading_block b) (leading_then (leading_catches cs) (leading_word k.Finally)))) (λ l. s.Try b cs (s.a_block l)) (λ z. z) (λ l z. refl)
      (λ l is_l. ((is, are, is_l, not_local (has_catch cs)), not_local declares)) (λ l n. omega arith) (block_here us stop (last h (λ b us d. ok_err d)))

  finally_grow : (declares : Bool) (b : s.Block) (cs : List s.Catch) → IsShapedBlock b → block_depth b ≤ room → AreShapedCatches (s.catches cs) → catches_depth (s.catches cs) ≤ room → (us : List Kind) (stop : Fault × List Kind)
      → reader.finally_part room inner outer cs us ≡ Err stop → Goal declares (kind.Word k.Try ∷ write_block b (write_catches (s.catches cs) us)) stop
  finally_grow declares b [] is low are low_cs us stop h =
      word_on k.Finally us (λ us. Goal declares (kind.Word k.Try ∷ write_block b us) stop) h
      (λ g. gone g (leading_then (leading_word k.Try) (leading_block b)) (s.Try b s.no_catches (s.a_block empty)) (λ z. kind.Word k.Finally ∷ braces z) (λ z. refl) ((is, tt, tt, refl), not_local declares) (omega arith))
      (λ u vs d. last_grow declares b s.no_catches is low tt low_cs vs stop d)
  finally_grow declares b (c ∷ cs) is low are low_cs us stop h =
      at_word k.Finally us (λ us. Goal declares (kind.Word k.Try ∷ write_block b (write_catches (s.catches (c ∷ cs)) us)) stop) h
      (λ vs g. last_grow declares b (s.catches (c ∷ cs)) is low are low_cs vs stop g)
      (λ f g. absurd (ok_err g))

  try_grow : (declares : Bool) (ts : List Kind) (stop : Fault × List Kind) → reader.try_stmt room inner outer ts ≡ Err stop → Goal declares (kind.Word k.Try ∷ ts) stop
  unfolding reader.try_stmt
  try_grow declares ts stop h =
      on h
      (λ e. part (leading_word k.Try) (λ b. s.Try b s.no_catches (s.a_block empty)) (λ z. kind.Word k.Finally ∷ braces z) (λ b z. refl) (λ b is. ((is, tt, tt, refl), not_local declares)) (λ b l. omega arith) (block_here ts stop e))
      (λ b us e d.
      let body = block_sound room inner outer room outers ts (b, us) e in
      let low = body.low in
      subst (λ ts. Goal declares (kind.Word k.Try ∷ ts) stop) (sym body.written)
      (on d
      (λ e. part (leading_then (leading_word k.Try) (leading_block b)) (λ cs. s.Try b cs (s.a_block empty)) (λ z. kind.Word k.Finally ∷ braces z) (λ cs z. refl) (λ cs is. ((body.shaped, is, tt, not_local (has_catch cs)), not_local declares))
      (λ cs l. omega arith) (catches_grow room inner outer room outers grow_out us stop e))
      (λ cs vs e d.
      let found = catches_sound room inner outer room outers us (cs, vs) e in
      subst (λ us. Goal declares (kind.Word k.Try ∷ write_block b us) stop) (sym found.written)
      (finally_grow declares b cs body.shaped body.low found.shaped found.low vs stop (last d (λ l us d. ok_err d))))))

  -- ---- by the first token

  forced_grow : (declares : Bool) (token : Kind) (ts : List Kind) (stop : Fault × List Kind) (o : Outcome s.Stmt) → begins_stmt token ≡ true → cond (ltb room 1) (Err (TooDeep, token ∷ ts)) o ≡ Err stop
      → (1 ≤ room → o ≡ Err stop → Goal declares (token ∷ ts) stop) → Goal declares (token ∷ ts) stop
  forced_grow declares token ts stop o starts h one =
      forces room 1 token ts h (λ f e. let a = some_stmt declares token starts in deeps e leading_nothing s.Skip semi (λ z. refl) (tt, not_local declares) (omega arith) a.tree a.more a.spelled a.is) one

  abbrev with_type : Parser s.Stmt
  with_type = reader.finality >>= (λ is_final. type_use >>= reader.local room inner outer is_final)

  with_type_grow : (ts : List Kind) (stop : Fault × List Kind) → with_type ts ≡ Err stop → Goal true ts stop
  with_type_grow ts stop h =
      local_part room inner outer grow_in (typed_grow room (λ b t ds. expect y.Semicolon >> pure (s.Local b t ds)) ts stop h
      (λ b t ds us is are same d. subst (λ ts. Typed room ts stop) (sym same) (gone (ends_with y.Semicolon us d (λ u us d. ok_err d)) (leading_typed (b, t, ds)) (b, t, ds) (λ z. z) (λ z. refl) (is, (are.0, are.1)) are.2)))

  typed_goal : (declares : Bool) (ts : List Kind) (stop : Fault × List Kind) → declares ≡ true → with_type ts ≡ Err stop → Goal declares ts stop
  typed_goal true ts stop may h = with_type_grow ts stop h
  typed_goal false ts stop may h = absurd (cc)

  other_grow : (declares : Bool) (token : Kind) (ts : List Kind) (stop : Fault × List Kind)
      → cond (declares && begins_local token) (with_type (token ∷ ts)) (cond (begins_effect token) (cond (ltb room 1) (Err (TooDeep, token ∷ ts)) (reader.evaluated room inner outer Nothing (token ∷ ts))) (Err (NoTree, token ∷ ts))) ≡ Err stop
      → Goal declares (token ∷ ts) stop
  other_grow declares token ts stop h =
      choose (declares && begins_local token) h
      (λ t g. typed_goal declares (token ∷ ts) stop (and_parts declares (begins_local token) t).0 g)
      (λ f g. choose (begins_effect token) g
      (λ t i. forces room 1 token ts i
      (λ f e. let a = effect_stmt declares token t in deeps e leading_nothing s.Skip semi (λ z. refl) (tt, not_local declares) (omega arith) a.tree a.more a.spelled a.is)
      (λ some j. evaluated_grow room inner outer grow_in declares Nothing (token ∷ ts) stop tt j (λ e. eval_part room inner outer grow_in declares (effect_grow room Nothing some (token ∷ ts) stop tt e))))
      (λ f i. gone (err_is i) leading_nothing s.Skip semi (λ z. refl) (tt, not_local declares) (omega arith)))

  level_grow : (declares : Bool) (ts : List Kind) (stop : Fault × List Kind) → reader.stmt_of room inner outer declares ts ≡ Err stop → Goal declares ts stop
  unfolding reader.stmt_of
  level_grow declares [] stop h = gone (err_is h) leading_nothing s.Skip semi (λ z. refl) (tt, not_local declares) (omega arith)
  level_grow declares (kind.Sym y.OpenBrace ∷ ts) stop h =
      part leading_nothing s.Nest (λ z. z) (λ b z. refl) (λ b is. (is, not_local declares)) (λ b l. omega arith) (block_here (kind.Sym y.OpenBrace ∷ ts) stop (last h (λ b us d. ok_err d)))
  level_grow declares (kind.Sym y.Semicolon ∷ ts) stop h = absurd (ok_err h)
  level_grow declares (kind.Word k.Do ∷ ts) stop h = forced_grow declares (kind.Word k.Do) ts stop _ refl h (λ some g. do_grow some declares ts stop g)
  level_grow declares (kind.Word k.While ∷ ts) stop h = forced_grow declares (kind.Word k.While) ts stop _ refl h (λ some g. while_grow some declares ts stop g)
  level_grow declares (kind.Word k.If ∷ ts) stop h = forced_grow declares (kind.Word k.If) ts stop _ refl h (λ some g. if_grow some declares ts stop g)
  level_grow declares (kind.Word k.For ∷ ts) stop h = forced_grow declares (kind.Word k.For) ts stop _ refl h (λ some g. for_grow some declares ts stop g)
  level_grow declares (kind.Word k.Switch ∷ ts) stop h = forced_grow declares (kind.Word k.Switch) ts stop _ refl h (λ some g. switch_grow some declares ts stop g)
  level_grow declares (kind.Word k.Throw ∷ ts) stop h = forced_grow declares (kind.Word k.Throw) ts stop _ refl h (λ some g. throw_grow some declares ts stop g)
  level_grow declares (kind.Word k.Break ∷ ts) stop h = break_grow declares ts stop h
  level_grow declares (kind.Word k.Continue ∷ ts) stop h = continue_grow declares ts stop h
  level_grow declares (kind.Word k.Return ∷ ts) stop h = return_grow declares ts stop h
  level_grow declares (kind.Word k.Try ∷ ts) stop h = try_grow declares ts stop h
  level_grow true (kind.Ident head ∷ ts) stop h = from_name_grow room inner outer grow_in true head ts stop (λ f. absurd (cc)) h
  level_grow false (kind.Ident head ∷ ts) stop h = forced_grow false (kind.Ident head) ts stop _ refl h (λ some g. from_name_grow room inner outer grow_in false head ts stop (λ f. some) g)
  level_grow declares (token ∷ ts) stop h = other_grow declares token ts stop h

-- ---- of any number of levels

pub stmt_grow : (room : ℕ) (declares : Bool) → GrowsStmt room declares (reader.stmt room declares)
unfolding reader.stmt
stmt_grow zero true = record {
  grow = λ some. absurd (omega arith);
  none = λ none ts stop h. no_level_is starts_block_stmt ts stop h;
}
stmt_grow zero false = record {
  grow = λ some. absurd (omega arith);
  none = λ none ts stop h. no_level_is starts_stmt ts stop h;
}
stmt_grow (suc room) declares =
    let reads = stmt_reads room false in
    let outers = stmt_reads room true in
    let grow_in = stmt_grow room false in
    let grow_out = stmt_grow room true in
    record {
      grow = λ some ts stop h. level_grow room (reader.stmt room false) (reader.stmt room true) reads outers grow_in grow_out declares ts stop h;
      none = λ none. absurd (omega arith);
    }

pub body_grow_at : (room : ℕ) (ts : List Kind) (stop : Fault × List Kind) → reader.body room ts ≡ Err stop → Growing (Low IsShapedBlock block_depth) write_block room ts stop
body_grow_at room ts stop h = block_grow room (reader.stmt room false) (reader.stmt room true) room (stmt_reads room true) (stmt_grow room true) ts stop h
