-- Reading a statement is exact in both directions.
use Rattle.std.proofs.Common.{◌≡◌, ℕ, zero, suc, ◌≤◌, Bool, true, false, not, ◌&&◌, ◌||◌, cond, ltb, List, [], ◌∷◌, Option, Some, None, Ok, Err, refl, sym, ap, ◌∙◌, subst, inl, inr, le-ltb, arith}
use Rattle.std.proofs.lemmas.Bool.{cases_Bool, not-true, not_from_false, and_parts, true≢false}
use Rattle.jr_base.specs.declared.text.Text.{Text}
use Rattle.jr_base.specs.declared.kind.Kind.{Kind}
use Rattle.jr_base.specs.declared.kind.Kind.TheVariants as kind
use Rattle.jr_base.specs.declared.kind.Symbol.TheVariants as y
use Rattle.jr_base.specs.declared.kind.Keyword.TheVariants as k
use Rattle.jr_tree.specs.declared.tree.Base.{Base}
use Rattle.jr_tree.specs.declared.tree.Base.TheVariants as base
use Rattle.jr_tree.specs.declared.tree.Primitive.TheVariants as primitive
use Rattle.jr_tree.specs.declared.tree.TypeUse.{TypeUse}
use Rattle.jr_tree.specs.Shape.{is_empty, is_local, takes_else, has_catch, has_block, IsBase, IsTypeUse, IsStatementExpr, IsShapedStmt, IsShapedElse, IsShapedFinally}
use Rattle.jr_tree.specs.Depth.{expr_depth, exprs_depth, stmt_depth, any_stmt_depth, any_block_depth, catches_depth, groups_depth}
use Rattle.jr_tree.specs.Mirror.Exprs as x
use Rattle.jr_tree.specs.Mirror.Stmts as s
use Rattle.jr_parse_laws.specs.Parsers.{Parser, Outcome, and_then, first, is_at_word, many, optional}
use Rattle.jr_parse_laws.specs.declared.fault.Fault.TheVariants.{NoTree, TooDeep}
use Rattle.jr_parse_laws.proofs.Outcomes.{bind_ok, chosen, ok_is, err_ok}
use Rattle.jr_parse_starts.specs.Starts.{begins_effect, starts_expr, starts_effect, next_is}
use Rattle.jr_parse_expr.specs.Names.{name_of, type_of, type_use, dotted}
use Rattle.jr_parse_expr.specs.Exprs.{Nothing, expr, effect, any_commas}
use Rattle.jr_parse_expr.specs.Writing.{write_all, write_brackets, write_type, write_expr, write_exprs}
use Rattle.jr_parse_expr.proofs.NameReads.{dotted_sound, type_sound}
use Rattle.jr_parse_expr.proofs.Asked.{exprs_listed, depth_pos}
use Rattle.jr_parse_expr.proofs.ExprReads.{no_level_err}
use Rattle.jr_parse_defs.specs.Begins.{begins_local, starts_stmt, starts_block_stmt, starts_label, is_catch}
use Rattle.jr_parse_defs.specs.Stmts as reader
use Rattle.jr_parse_defs.specs.Writing.{write_some, write_if, write_ident, write_declarators, write_for_init, write_cond, write_stmt, write_else, write_finally, write_block, write_catches, write_groups}
use Rattle.jr_parse_defs.specs.Follow.{StmtEnds, IsStmt}
use Rattle.jr_parse_defs.specs.Laws.{IsStmtRead}
use Rattle.jr_parse_defs.proofs.Tokens.{eats, eats_word, skipped_word, within_sound}
use Rattle.jr_parse_defs.proofs.Variables.{AreVariables, finality_read, finality_sound}
use Rattle.jr_parse_defs.proofs.Expressions.{whole, whole_sound, closes_semicolon, condition_read, condition_sound, any_read, any_sound, plain, effect_starts, updates_read, updates_sound}
use Rattle.jr_parse_defs.proofs.Endings.{ends_by, no_else_after, else_at, else_here, finally_at, finally_here, no_local_effect}
use Rattle.jr_parse_defs.proofs.Named.{ReadsOne, not_local, evaluated_sound, local_read, local_sound, named_sound, named_read, label_read, named_local_read}
use Rattle.jr_parse_defs.proofs.Blocks.{block_read, block_sound, catches_read, catches_sound}
use Rattle.jr_parse_defs.proofs.Groups.{groups_listed, groups_read, groups_sound}
use Rattle.jr_parse_defs.proofs.Headers.{type_of_variables, first_read, first_sound}

label_name_read : (l : Option Text) (rest : List Kind) → reader.label (write_some write_ident l (kind.Sym y.Semicolon ∷ rest)) ≡ Ok (l, kind.Sym y.Semicolon ∷ rest)
label_name_read None rest = refl
label_name_read (Some l) rest = refl

pub label_name_sound : (ts : List Kind) (r : Option Text × List Kind) → reader.label ts ≡ Ok r → ts ≡ write_some write_ident r.0 r.1
label_name_sound [] r h = ap (λ (r : Option Text × List Kind). write_some write_ident r.0 r.1) (ok_is h)
label_name_sound (kind.Ident name ∷ ts) r h = ap (λ (r : Option Text × List Kind). write_some write_ident r.0 r.1) (ok_is h)
label_name_sound (token ∷ ts) r h = ap (λ (r : Option Text × List Kind). write_some write_ident r.0 r.1) (ok_is h)

module _ (room : ℕ) (inner outer : Parser s.Stmt) (reads : ReadsOne room false inner) (outers : ReadsOne room true outer) where
  abbrev Read : Bool → List Kind → s.Stmt × List Kind → Type 0
  Read = IsStmtRead (suc room)

  abbrev semi : List Kind → List Kind
  semi rest = kind.Sym y.Semicolon ∷ rest

  -- ---- do, while and if

  do_read : (body : s.Stmt) (c : x.Expr) (rest : List Kind) → IsShapedStmt (s.Do body c) → stmt_depth (s.Do body c) ≤ suc room
      → reader.do_stmt room inner outer (write_stmt body (kind.Word k.While ∷ write_cond c (semi rest))) ≡ Ok (s.Do body c, rest)
  unfolding reader.do_stmt
  do_read body c rest h low =
      let ts = kind.Word k.While ∷ write_cond c (semi rest) in
      rw (reads.complete body ts (record { shaped = h.1; allowed = h.0; low = omega arith }) (ends_by body (first ts) refl refl (λ t. refl)), condition_read room c (semi rest) h.2 (omega arith)) refl

  do_sound : (declares : Bool) (ts : List Kind) (r : s.Stmt × List Kind) → reader.do_stmt room inner outer ts ≡ Ok r → Read declares (kind.Word k.Do ∷ ts) r
  unfolding reader.do_stmt
  do_sound declares ts r h =
      let a = bind_ok (inner ts) _ r h in
      let body = reads.sound ts a.0 a.1 in
      let w = eats_word k.While a.0.1 _ r a.2 in
      let c = bind_ok (reader.condition room w.rest) _ r w.more in
      let test = condition_sound room w.rest c.0 c.1 in
      let e = eats y.Semicolon c.0.1 _ r c.2 in
      let low = body.is.low in
      let low_test = test.low in
      subst (Read declares (kind.Word k.Do ∷ ts)) (ok_is e.more)
      (record {
        is = record { shaped = (body.is.allowed, body.is.shaped, test.is); allowed = not_local declares; low = omega arith };
        written = ap (λ us. kind.Word k.Do ∷ us) (body.written ∙ ap (write_stmt a.0.0) (w.written ∙ ap (λ us. kind.Word k.While ∷ us) (test.written ∙ ap (write_cond c.0.0) e.written)));
        ended = tt;
      })

  while_read : (c : x.Expr) (body : s.Stmt) (rest : List Kind) → IsShapedStmt (s.While c body) → stmt_depth (s.While c body) ≤ suc room → StmtEnds body (first rest)
      → reader.while_stmt room inner outer (write_cond c (write_stmt body rest)) ≡ Ok (s.While c body, rest)
  unfolding reader.while_stmt
  while_read c body rest h low ended =
      rw (condition_read room c (write_stmt body rest) h.0 (omega arith), reads.complete body rest (record { shaped = h.2; allowed = h.1; low = omega arith }) ended) refl

  while_sound : (declares : Bool) (ts : List Kind) (r : s.Stmt × List Kind) → reader.while_stmt room inner outer ts ≡ Ok r → Read declares (kind.Word k.While ∷ ts) r
  unfolding reader.while_stmt
  while_sound declares ts r h =
      let c = bind_ok (reader.condition room ts) _ r h in
      let test = condition_sound room ts c.0 c.1 in
      let a = bind_ok (inner c.0.1) _ r c.2 in
      let body = reads.sound c.0.1 a.0 a.1 in
      let low = body.is.low in
      let low_test = test.low in
      subst (Read declares (kind.Word k.While ∷ ts)) (ok_is a.2)
      (record {
        is = record { shaped = (test.is, body.is.allowed, body.is.shaped); allowed = not_local declares; low = omega arith };
        written = ap (λ us. kind.Word k.While ∷ us) (test.written ∙ ap (write_cond c.0.0) body.written);
        ended = body.ended;
      })

  if_read : (c : x.Expr) (a : s.Stmt) (b : s.AnyStmt) (rest : List Kind) → IsShapedStmt (s.If c a b) → stmt_depth (s.If c a b) ≤ suc room → StmtEnds (s.If c a b) (first rest)
      → reader.if_stmt room inner outer (write_cond c (write_stmt a (write_else b rest))) ≡ Ok (s.If c a b, rest)
  unfolding reader.if_stmt
  if_read c a s.no_stmt rest h low ended =
      rw (condition_read room c (write_stmt a rest) h.0 (omega arith), reads.complete a rest (record { shaped = h.2; allowed = h.1; low = omega arith }) ended.0, else_at rest ended.1) refl
  if_read c a (s.a_stmt b) rest h low ended =
      let ts = kind.Word k.Else ∷ write_stmt b rest in
      rw (
        condition_read room c (write_stmt a ts) h.0 (omega arith),
        reads.complete a ts (record { shaped = h.2; allowed = h.1; low = omega arith }) (ends_by a (first ts) refl refl (λ t. absurd (true≢false (sym t ∙ not-true _ h.3.0)))),
        reads.complete b rest (record { shaped = h.3.2; allowed = h.3.1; low = omega arith }) ended,
      ) refl

  record ElseFound (a : s.Stmt) (ts : List Kind) (r : s.AnyStmt × List Kind) : Type 0 where
    shaped : IsShapedElse (takes_else a) r.0
    low : any_stmt_depth r.0 ≤ room
    written : ts ≡ write_else r.0 r.1
    ended : (c : x.Expr) → StmtEnds (s.If c a r.0) (first r.1)

  pub takes_none : (a : s.Stmt) (us : List Kind) → StmtEnds a (Some (kind.Word k.Else)) → not (takes_else a) ≡ true
  takes_none a us ended =
      elim (cases_Bool (takes_else a)) [
        | inl t ↦ absurd (let h = no_else_after a (Some (kind.Word k.Else)) ended t in cc)
        | inr f ↦ not_from_false _ f
      ]

  else_sound : (a : s.Stmt) (ts : List Kind) (r : s.AnyStmt × List Kind) → StmtEnds a (first ts) → reader.otherwise room inner outer ts ≡ Ok r → ElseFound a ts r
  else_sound a ts r ended h =
      elim (chosen (is_at_word k.Else ts) _ _ _ h) [
        | inl t ↦
            (let u = skipped_word k.Else _ ts r t.0 t.1 in
            let b = bind_ok (inner u.0) _ r u.2 in
            let found = reads.sound u.0 b.0 b.1 in
            subst (ElseFound a ts) (ok_is b.2)
            (record {
              shaped = (takes_none a u.0 (subst (λ (ts : List Kind). StmtEnds a (first ts)) u.1 ended), found.is.allowed, found.is.shaped);
              low = found.is.low;
              written = u.1 ∙ ap (λ us. kind.Word k.Else ∷ us) found.written;
              ended = λ c. found.ended;
            }))
        | inr t ↦ subst (ElseFound a ts) (ok_is t.1) (record { shaped = tt; low = omega arith; written = refl; ended = λ c. (ended, else_here ts t.0) })
      ]

  if_sound : (declares : Bool) (ts : List Kind) (r : s.Stmt × List Kind) → reader.if_stmt room inner outer ts ≡ Ok r → Read declares (kind.Word k.If ∷ ts) r
  unfolding reader.if_stmt
  if_sound declares ts r h =
      let c = bind_ok (reader.condition room ts) _ r h in
      let test = condition_sound room ts c.0 c.1 in
      let a = bind_ok (inner c.0.1) _ r c.2 in
      let body = reads.sound c.0.1 a.0 a.1 in
      let b = bind_ok (reader.otherwise room inner outer a.0.1) _ r a.2 in
      let other = else_sound a.0.0 a.0.1 b.0 body.ended b.1 in
      let low = body.is.low in
      let low_test = test.low in
      let low_other = other.low in
      subst (Read declares (kind.Word k.If ∷ ts)) (ok_is b.2)
      (record {
        is = record { shaped = (test.is, body.is.allowed, body.is.shaped, other.shaped); allowed = not_local declares; low = omega arith };
        written = ap (λ us. kind.Word k.If ∷ us) (test.written ∙ ap (write_cond c.0.0) (body.written ∙ ap (write_stmt a.0.0) other.written));
        ended = other.ended c.0.0;
      })

  -- ---- jumps

  break_sound : (declares : Bool) (ts : List Kind) (r : s.Stmt × List Kind) → reader.break_stmt room inner outer ts ≡ Ok r → Read declares (kind.Word k.Break ∷ ts) r
  break_sound declares ts r h =
      let l = bind_ok (reader.label ts) _ r h in
      let e = eats y.Semicolon l.0.1 _ r l.2 in
      subst (Read declares (kind.Word k.Break ∷ ts)) (ok_is e.more)
      (record {
        is = record { shaped = tt; allowed = not_local declares; low = omega arith };
        written = ap (λ us. kind.Word k.Break ∷ us) (label_name_sound ts l.0 l.1 ∙ ap (write_some write_ident l.0.0) e.written);
        ended = tt;
      })

  continue_sound : (declares : Bool) (ts : List Kind) (r : s.Stmt × List Kind) → reader.continue_stmt room inner outer ts ≡ Ok r → Read declares (kind.Word k.Continue ∷ ts) r
  continue_sound declares ts r h =
      let l = bind_ok (reader.label ts) _ r h in
      let e = eats y.Semicolon l.0.1 _ r l.2 in
      subst (Read declares (kind.Word k.Continue ∷ ts)) (ok_is e.more)
      (record {
        is = record { shaped = tt; allowed = not_local declares; low = omega arith };
        written = ap (λ us. kind.Word k.Continue ∷ us) (label_name_sound ts l.0 l.1 ∙ ap (write_some write_ident l.0.0) e.written);
        ended = tt;
      })

  return_sound : (declares : Bool) (ts : List Kind) (r : s.Stmt × List Kind) → reader.return_stmt room inner outer ts ≡ Ok r → Read declares (kind.Word k.Return ∷ ts) r
  return_sound declares ts r h =
      let v = bind_ok (optional starts_expr (expr room Nothing 0) ts) _ r h in
      let found = any_sound room ts v.0 v.1 in
      let e = eats y.Semicolon v.0.1 _ r v.2 in
      let low = found.low in
      subst (Read declares (kind.Word k.Return ∷ ts)) (ok_is e.more)
      (record {
        is = record { shaped = found.is; allowed = not_local declares; low = omega arith };
        written = ap (λ us. kind.Word k.Return ∷ us) (found.written ∙ ap (write_some write_expr v.0.0) e.written);
        ended = tt;
      })

  throw_sound : (declares : Bool) (ts : List Kind) (r : s.Stmt × List Kind) → reader.throw_stmt room inner outer ts ≡ Ok r → Read declares (kind.Word k.Throw ∷ ts) r
  throw_sound declares ts r h =
      let v = bind_ok (expr room Nothing 0 ts) _ r h in
      let found = whole_sound room ts v.0 v.1 in
      let e = eats y.Semicolon v.0.1 _ r v.2 in
      let low = found.low in
      subst (Read declares (kind.Word k.Throw ∷ ts)) (ok_is e.more)
      (record {
        is = record { shaped = found.is; allowed = not_local declares; low = omega arith };
        written = ap (λ us. kind.Word k.Throw ∷ us) (found.written ∙ ap (write_expr v.0.0) e.written);
        ended = tt;
      })

  -- ---- for

  for_read : (i : Option s.ForInit) (c : Option x.Expr) (update : x.Exprs) (body : s.Stmt) (rest : List Kind) → IsShapedStmt (s.For i c update body) → stmt_depth (s.For i c update body) ≤ suc room → StmtEnds body (first rest)
      → reader.for_stmt room inner outer (kind.Sym y.OpenParen ∷ write_some write_for_init i (semi (write_some write_expr c (semi (write_exprs update (kind.Sym y.CloseParen ∷ write_stmt body rest))))))
      ≡ Ok (s.For i c update body, rest)
  unfolding reader.for_stmt
  for_read i c update body rest h low ended =
      let ts = write_stmt body rest in
      let us = write_exprs update (kind.Sym y.CloseParen ∷ ts) in
      rw (
        first_read room inner outer i (write_some write_expr c (semi us)) h.0 (omega arith),
        any_read room c us h.1 (omega arith),
        updates_read room update ts h.2 (omega arith),
        reads.complete body rest (record { shaped = h.4; allowed = h.3; low = omega arith }) ended,
      ) (ap (λ update. Ok (s.For i c update body, rest)) (exprs_listed update))

  for_sound : (declares : Bool) (ts : List Kind) (r : s.Stmt × List Kind) → reader.for_stmt room inner outer ts ≡ Ok r → Read declares (kind.Word k.For ∷ ts) r
  unfolding reader.for_stmt
  for_sound declares ts r h =
      let p = eats y.OpenParen ts _ r h in
      let i = bind_ok (reader.for_first room inner outer p.rest) _ r p.more in
      let init = first_sound room inner outer p.rest i.0 i.1 in
      let e = eats y.Semicolon i.0.1 _ r i.2 in
      let c = bind_ok (optional starts_expr (expr room Nothing 0) e.rest) _ r e.more in
      let test = any_sound room e.rest c.0 c.1 in
      let f = eats y.Semicolon c.0.1 _ r c.2 in
      let u = bind_ok (any_commas starts_effect (effect room Nothing) f.rest) _ r f.more in
      let update = updates_sound room f.rest u.0 u.1 in
      let q = eats y.CloseParen u.0.1 _ r u.2 in
      let a = bind_ok (inner q.rest) _ r q.more in
      let body = reads.sound q.rest a.0 a.1 in
      let low_init = init.low in
      let low_test = test.low in
      let low_update : exprs_depth (x.exprs u.0.0) ≤ room = update.low in
      let low = body.is.low in
      subst (Read declares (kind.Word k.For ∷ ts)) (ok_is a.2)
      (record {
        is = record { shaped = (init.shaped, test.is, update.is, body.is.allowed, body.is.shaped); allowed = not_local declares; low = omega arith };
        written = ap (λ us. kind.Word k.For ∷ us)
            (p.written
            ∙ ap (λ us. kind.Sym y.OpenParen ∷ us)
            (init.written
            ∙ ap (write_some write_for_init i.0.0)
            (e.written
            ∙ ap (λ us. semi us)
            (test.written
            ∙ ap (write_some write_expr c.0.0)
            (f.written ∙ ap (λ us. semi us) (update.written ∙ ap (write_exprs (x.exprs u.0.0)) (q.written ∙ ap (λ us. kind.Sym y.CloseParen ∷ us) body.written)))))));
        ended = body.ended;
      })

  -- ---- switch and try

  switch_read : (value : x.Expr) (gs : s.Groups) (rest : List Kind) → IsShapedStmt (s.Switch value gs) → stmt_depth (s.Switch value gs) ≤ suc room
      → reader.switch_stmt room inner outer (write_cond value (kind.Sym y.OpenBrace ∷ write_groups gs (kind.Sym y.CloseBrace ∷ rest))) ≡ Ok (s.Switch value gs, rest)
  unfolding reader.switch_stmt
  switch_read value gs rest h low =
      rw (condition_read room value (kind.Sym y.OpenBrace ∷ write_groups gs (kind.Sym y.CloseBrace ∷ rest)) h.0 (omega arith), groups_read room inner outer outers gs rest h.1 (omega arith))
      (ap (λ gs. Ok (s.Switch value gs, rest)) (groups_listed room inner outer outers gs))

  switch_sound : (declares : Bool) (ts : List Kind) (r : s.Stmt × List Kind) → reader.switch_stmt room inner outer ts ≡ Ok r → Read declares (kind.Word k.Switch ∷ ts) r
  unfolding reader.switch_stmt
  switch_sound declares ts r h =
      let c = bind_ok (reader.condition room ts) _ r h in
      let value = condition_sound room ts c.0 c.1 in
      let a = eats y.OpenBrace c.0.1 _ r c.2 in
      let g = bind_ok (many starts_label (reader.group room inner outer) a.rest) _ r a.more in
      let found = groups_sound room inner outer outers a.rest g.0 g.1 in
      let b = eats y.CloseBrace g.0.1 _ r g.2 in
      let low = value.low in
      let low_groups : groups_depth (s.groups g.0.0) ≤ room = found.low in
      subst (Read declares (kind.Word k.Switch ∷ ts)) (ok_is b.more)
      (record {
        is = record { shaped = (value.is, found.shaped); allowed = not_local declares; low = omega arith };
        written = ap (λ us. kind.Word k.Switch ∷ us) (value.written ∙ ap (write_cond c.0.0) (a.written ∙ ap (λ us. kind.Sym y.OpenBrace ∷ us) (found.written ∙ ap (write_groups (s.groups g.0.0)) b.written)));
        ended = tt;
      })

  no_catch_after : (last : s.AnyBlock) (cs : s.Catches) (b : s.Block) (rest : List Kind) → StmtEnds (s.Try b cs last) (first rest) → next_is is_catch (first (write_finally last rest)) ≡ false
  no_catch_after s.no_block cs b rest ended = ended.0
  no_catch_after (s.a_block last) cs b rest ended = refl

  finally_read : (last : s.AnyBlock) (cs : List s.Catch) (b : s.Block) (rest : List Kind) → IsShapedFinally last → any_block_depth last ≤ room → has_catch (s.catches cs) || has_block last ≡ true
      → StmtEnds (s.Try b (s.catches cs) last) (first rest) → reader.finally_part room inner outer cs (write_finally last rest) ≡ Ok (last, rest)
  finally_read s.no_block [] b rest h low one ended = absurd (cc)
  finally_read s.no_block (c ∷ cs) b rest h low one ended = rw (finally_at rest ended.1) refl
  finally_read (s.a_block last) [] b rest h low one ended = rw (block_read room inner outer room outers last rest h low) refl
  finally_read (s.a_block last) (c ∷ cs) b rest h low one ended = rw (block_read room inner outer room outers last rest h low) refl

  try_read : (b : s.Block) (cs : s.Catches) (last : s.AnyBlock) (rest : List Kind) → IsShapedStmt (s.Try b cs last) → stmt_depth (s.Try b cs last) ≤ suc room → StmtEnds (s.Try b cs last) (first rest)
      → reader.try_stmt room inner outer (write_block b (write_catches cs (write_finally last rest))) ≡ Ok (s.Try b cs last, rest)
  unfolding reader.try_stmt
  try_read b cs last rest h low ended =
      let all = catches_read room inner outer room outers cs (write_finally last rest) h.1 (omega arith) (no_catch_after last cs b rest ended) in
      let end = finally_read last all.0 b rest h.2 (omega arith) (subst (λ cs. has_catch cs || has_block last ≡ true) (sym all.1) h.3) (subst (λ cs. StmtEnds (s.Try b cs last) (first rest)) (sym all.1) ended) in
      rw (block_read room inner outer room outers b (write_catches cs (write_finally last rest)) h.0 (omega arith), all.2, end) (ap (λ cs. Ok (s.Try b cs last, rest)) all.1)

  record FinallyFound (cs : s.Catches) (ts : List Kind) (r : s.AnyBlock × List Kind) : Type 0 where
    shaped : IsShapedFinally r.0
    some : has_catch cs || has_block r.0 ≡ true
    low : any_block_depth r.0 ≤ room
    written : ts ≡ write_finally r.0 r.1
    ended : (b : s.Block) → StmtEnds (s.Try b cs r.0) (first r.1)

  finally_sound : (cs : List s.Catch) (ts : List Kind) (r : s.AnyBlock × List Kind) → next_is is_catch (first ts) ≡ false → reader.finally_part room inner outer cs ts ≡ Ok r → FinallyFound (s.catches cs) ts r
  finally_sound [] ts r over h =
      let w = eats_word k.Finally ts _ r h in
      let b = bind_ok (reader.block room inner outer w.rest) _ r w.more in
      let found = block_sound room inner outer room outers w.rest b.0 b.1 in
      subst (FinallyFound s.no_catches ts) (ok_is b.2)
      (record { shaped = found.shaped; some = refl; low = found.low; written = w.written ∙ ap (λ us. kind.Word k.Finally ∷ us) found.written; ended = λ b. tt })
  finally_sound (c ∷ cs) ts r over h =
      elim (chosen (is_at_word k.Finally ts) _ _ _ h) [
        | inl t ↦
            (let u = skipped_word k.Finally _ ts r t.0 t.1 in
            let b = bind_ok (reader.block room inner outer u.0) _ r u.2 in
            let found = block_sound room inner outer room outers u.0 b.0 b.1 in
            subst (FinallyFound (s.catches (c ∷ cs)) ts) (ok_is b.2)
            (record { shaped = found.shaped; some = refl; low = found.low; written = u.1 ∙ ap (λ us. kind.Word k.Finally ∷ us) found.written; ended = λ b. tt }))
        | inr t ↦ subst (FinallyFound (s.catches (c ∷ cs)) ts) (ok_is t.1) (record { shaped = tt; some = refl; low = omega arith; written = refl; ended = λ b. (over, finally_here ts t.0) })
      ]

  pub try_sound : (declares : Bool) (ts : List Kind) (r : s.Stmt × List Kind) → reader.try_stmt room inner outer ts ≡ Ok r → Read declares (kind.Word k.Try ∷ ts) r
  unfolding reader.try_stmt
  try_sound declares ts r h =
      let b = bind_ok (reader.block room inner outer ts) _ r h in
      let body = block_sound room inner outer room outers ts b.0 b.1 in
      let c = bind_ok (many (next_is is_catch) (reader.catch_clause room inner outer) b.0.1) _ r b.2 in
      let handlers = catches_sound room inner outer room outers b.0.1 c.0 c.1 in
      let f = bind_ok (reader.finally_part room inner outer c.0.0 c.0.1) _ r c.2 in
      let last = finally_sound c.0.0 c.0.1 f.0 handlers.over f.1 in
      let low = body.low in
      let low_handlers : catches_depth (s.catches c.0.0) ≤ room = handlers.low in
      let low_last = last.low in
      subst (Read declares (kind.Word k.Try ∷ ts)) (ok_is f.2)
      (record {
        is = record { shaped = (body.shaped, handlers.shaped, last.shaped, last.some); allowed = not_local declares; low = omega arith };
        written = ap (λ us. kind.Word k.Try ∷ us) (body.written ∙ ap (write_block b.0.0) (handlers.written ∙ ap (write_catches (s.catches c.0.0)) last.written));
        ended = last.ended b.0.0;
      })

  -- ---- by the first token

  nest_sound : (declares : Bool) (ts : List Kind) (r : s.Stmt × List Kind) → and_then (reader.block room inner outer ts) (λ b ts. Ok (s.Nest b, ts)) ≡ Ok r → Read declares ts r
  nest_sound declares ts r h =
      let b = bind_ok (reader.block room inner outer ts) _ r h in
      let found = block_sound room inner outer room outers ts b.0 b.1 in
      let low = found.low in
      subst (Read declares ts) (ok_is b.2) (record { is = record { shaped = found.shaped; allowed = not_local declares; low = omega arith }; written = found.written; ended = tt })

  -- with variables of a type that begins with a word
  abbrev typed : List Kind → Outcome s.Stmt
  typed ts = and_then (reader.finality ts) (λ b ts. and_then (type_use ts) (λ t ts. reader.local room inner outer b t ts))

  typed_sound : (declares : Bool) (ts : List Kind) (r : s.Stmt × List Kind) → declares ≡ true → typed ts ≡ Ok r → Read declares ts r
  typed_sound declares ts r may h =
      let f = bind_ok (reader.finality ts) _ r h in
      let t = bind_ok (type_use f.0.1) _ r f.2 in
      let found = type_sound f.0.1 t.0 t.1 in
      let made = local_sound room inner outer declares f.0.0 t.0.0 t.0.1 r may found.is t.2 in
      subst (λ ts. Read declares ts r) (sym (finality_sound ts f.0 f.1 ∙ ap (write_if f.0.0 (kind.Word k.Final)) found.written)) made

  -- with an expression that begins with no name
  abbrev effected : Kind → List Kind → Outcome s.Stmt
  effected token ts = cond (ltb room 1) (Err (TooDeep, token ∷ ts)) (reader.evaluated room inner outer Nothing (token ∷ ts))

  abbrev other : Bool → Kind → List Kind → Outcome s.Stmt
  other declares token ts = cond (declares && begins_local token) (typed (token ∷ ts)) (cond (begins_effect token) (effected token ts) (Err (NoTree, token ∷ ts)))

  other_sound : (declares : Bool) (token : Kind) (ts : List Kind) (r : s.Stmt × List Kind) → other declares token ts ≡ Ok r → Read declares (token ∷ ts) r
  other_sound declares token ts r h =
      elim (chosen (declares && begins_local token) _ _ _ h) [
        | inl t ↦ typed_sound declares (token ∷ ts) r (and_parts declares (begins_local token) t.0).0 t.1
        | inr t ↦
            elim (chosen (begins_effect token) _ _ _ t.1) [
              | inl u ↦ evaluated_sound room inner outer declares Nothing (token ∷ ts) r tt (within_sound room 1 _ _ r u.1)
              | inr u ↦ absurd (err_ok u.1)
            ]
      ]

  from_name : (declares b : Bool) (head : Text) (ts : List Kind) (r : s.Stmt × List Kind) → and_then (dotted b [] head ts) (reader.named room inner outer declares) ≡ Ok r → Read declares (kind.Ident head ∷ ts) r
  from_name declares b head ts r h =
      let d = bind_ok (dotted b [] head ts) (reader.named room inner outer declares) r h in
      let found = dotted_sound b [] head ts d.0 d.1 in
      subst (λ ts. Read declares ts r) (sym found.written) (named_sound room inner outer reads declares d.0.0 d.0.1 r found.ended d.2)

  pub level_sound : (declares : Bool) (ts : List Kind) (r : s.Stmt × List Kind) → reader.stmt_of room inner outer declares ts ≡ Ok r → Read declares ts r
  unfolding reader.stmt_of
  level_sound declares [] r h = absurd (err_ok h)
  level_sound declares (kind.Sym y.OpenBrace ∷ ts) r h = nest_sound declares (kind.Sym y.OpenBrace ∷ ts) r h
  level_sound declares (kind.Sym y.Semicolon ∷ ts) r h =
      subst (Read declares (kind.Sym y.Semicolon ∷ ts)) (ok_is h) (record { is = record { shaped = tt; allowed = not_local declares; low = omega arith }; written = refl; ended = tt })
  level_sound declares (kind.Word k.Do ∷ ts) r h = do_sound declares ts r (within_sound room 1 _ _ r h)
  level_sound declares (kind.Word k.While ∷ ts) r h = while_sound declares ts r (within_sound room 1 _ _ r h)
  level_sound declares (kind.Word k.If ∷ ts) r h = if_sound declares ts r (within_sound room 1 _ _ r h)
  level_sound declares (kind.Word k.For ∷ ts) r h = for_sound declares ts r (within_sound room 1 _ _ r h)
  level_sound declares (kind.Word k.Switch ∷ ts) r h = switch_sound declares ts r (within_sound room 1 _ _ r h)
  level_sound declares (kind.Word k.Throw ∷ ts) r h = throw_sound declares ts r (within_sound room 1 _ _ r h)
  level_sound declares (kind.Word k.Break ∷ ts) r h = break_sound declares ts r h
  level_sound declares (kind.Word k.Continue ∷ ts) r h = continue_sound declares ts r h
  level_sound declares (kind.Word k.Return ∷ ts) r h = return_sound declares ts r h
  level_sound declares (kind.Word k.Try ∷ ts) r h = try_sound declares ts r h
  level_sound true (kind.Ident head ∷ ts) r h = from_name true _ head ts r h
  level_sound false (kind.Ident head ∷ ts) r h = from_name false _ head ts r (within_sound room 1 _ _ r h)
  level_sound declares (token ∷ ts) r h = other_sound declares token ts r h

-- ---- what is written is read

module _ (room : ℕ) (inner outer : Parser s.Stmt) (reads : ReadsOne room false inner) (outers : ReadsOne room true outer) where
  abbrev stmt_here : Bool → Parser s.Stmt
  stmt_here = reader.stmt_of room inner outer

  abbrev typed_here : List Kind → Outcome s.Stmt
  typed_here ts = and_then (reader.finality ts) (λ b ts. and_then (type_use ts) (λ t ts. reader.local room inner outer b t ts))

  typed_read : (t : TypeUse) (ds : List s.Declarator) (rest : List Kind) → IsTypeUse t → AreVariables room ds → typed_here (write_type t (write_declarators ds (kind.Sym y.Semicolon ∷ rest))) ≡ Ok (s.Local false t ds, rest)
  typed_read t ds rest is are =
      rw (
        finality_read false t (write_declarators ds (kind.Sym y.Semicolon ∷ rest)) is,
        type_of_variables room t ds (kind.Sym y.Semicolon ∷ rest) is are,
        local_read room inner outer false t ds rest are,
      ) refl

  final_read : (t : TypeUse) (ds : List s.Declarator) (rest : List Kind) → IsTypeUse t → AreVariables room ds → stmt_here true (write_stmt (s.Local true t ds) rest) ≡ Ok (s.Local true t ds, rest)
  unfolding reader.stmt_of
  final_read t ds rest is are = rw (type_of_variables room t ds (kind.Sym y.Semicolon ∷ rest) is are, local_read room inner outer true t ds rest are) refl

  name_local_read : (all : List Text) (pairs : ℕ) (ds : List s.Declarator) (rest : List Kind) → not (is_empty all) ≡ true → AreVariables room ds
      → stmt_here true (write_all all (write_brackets pairs (write_declarators ds (kind.Sym y.Semicolon ∷ rest)))) ≡ Ok (s.Local false (type_of (base.Named (name_of all)) pairs) ds, rest)
  unfolding reader.stmt_of
  name_local_read [] pairs ds rest some are = absurd (cc)
  name_local_read (head ∷ all) pairs ds rest some are = named_local_read room inner outer _ head all pairs ds rest are

  based_read : (b : Base) (pairs : ℕ) (ds : List s.Declarator) (rest : List Kind) → IsBase b → AreVariables room ds
      → stmt_here true (write_stmt (s.Local false (type_of b pairs) ds) rest) ≡ Ok (s.Local false (type_of b pairs) ds, rest)
  unfolding reader.stmt_of
  based_read (base.Primitive primitive.Boolean) pairs ds rest is are = typed_read (type_of (base.Primitive primitive.Boolean) pairs) ds rest is are
  based_read (base.Primitive primitive.Byte) pairs ds rest is are = typed_read (type_of (base.Primitive primitive.Byte) pairs) ds rest is are
  based_read (base.Primitive primitive.Short) pairs ds rest is are = typed_read (type_of (base.Primitive primitive.Short) pairs) ds rest is are
  based_read (base.Primitive primitive.Char) pairs ds rest is are = typed_read (type_of (base.Primitive primitive.Char) pairs) ds rest is are
  based_read (base.Primitive primitive.Int) pairs ds rest is are = typed_read (type_of (base.Primitive primitive.Int) pairs) ds rest is are
  based_read (base.Primitive primitive.Long) pairs ds rest is are = typed_read (type_of (base.Primitive primitive.Long) pairs) ds rest is are
  based_read (base.Named n) pairs ds rest is are = name_local_read n.parts pairs ds rest is are

  -- where an expression begins with no name
  abbrev effected_here : Kind → List Kind → Outcome s.Stmt
  effected_here token ts = cond (ltb room 1) (Err (TooDeep, token ∷ ts)) (reader.evaluated room inner outer Nothing (token ∷ ts))

  effect_token : (declares : Bool) (token : Kind) (ts : List Kind) → begins_effect token ≡ true
      → cond (declares && begins_local token) (typed_here (token ∷ ts)) (cond (begins_effect token) (effected_here token ts) (Err (NoTree, token ∷ ts))) ≡ effected_here token ts
  effect_token declares token ts h =
      ap (λ b. cond b (typed_here (token ∷ ts)) (cond (begins_effect token) (effected_here token ts) (Err (NoTree, token ∷ ts)))) (never declares (begins_local token) (no_local_effect token h))
      ∙ ap (λ b. cond b (effected_here token ts) (Err (NoTree, token ∷ ts))) h where
        never : (a b : Bool) → b ≡ false → a && b ≡ false
        never true b h = h
        never false b h = refl

-- an expression
module _ (room : ℕ) (inner outer : Parser s.Stmt) (reads : ReadsOne (suc room) false inner) (outers : ReadsOne (suc room) true outer) where
  abbrev read_here : Bool → Parser s.Stmt
  read_here = reader.stmt_of (suc room) inner outer

  other_read : (declares : Bool) (token : Kind) (us : List Kind) (e : x.Expr) (rest : List Kind) → begins_effect token ≡ true → effect (suc room) Nothing (token ∷ us) ≡ Ok (e, kind.Sym y.Semicolon ∷ rest)
      → cond (declares && begins_local token) (typed_here (suc room) inner outer reads outers (token ∷ us)) (cond (begins_effect token) (effected_here (suc room) inner outer reads outers token us) (Err (NoTree, token ∷ us))) ≡ Ok (s.Eval e, rest)
  other_read declares token us e rest starts h = effect_token (suc room) inner outer reads outers declares token us starts ∙ rw (le-ltb (suc room) 1 (omega arith), h) refl

  from_tokens : (declares : Bool) (ts : List Kind) (e : x.Expr) (rest : List Kind) → IsStatementExpr e → expr_depth e ≤ suc room → ts ≡ write_expr e (kind.Sym y.Semicolon ∷ rest) → starts_effect (first ts) ≡ true
      → effect (suc room) Nothing ts ≡ Ok (e, kind.Sym y.Semicolon ∷ rest) → read_here declares ts ≡ Ok (s.Eval e, rest)
  unfolding reader.stmt_of
  from_tokens declares [] e rest is low same starts h = absurd (cc)
  from_tokens true (kind.Ident head ∷ us) e rest is low same starts h = named_read room inner outer reads true head us e rest is low same
  from_tokens false (kind.Ident head ∷ us) e rest is low same starts h = rw (le-ltb (suc room) 1 (omega arith)) (named_read room inner outer reads false head us e rest is low same)
  from_tokens declares (kind.Sym y.OpenBrace ∷ us) e rest is low same starts h = absurd (cc)
  from_tokens declares (kind.Sym y.Semicolon ∷ us) e rest is low same starts h = absurd (cc)
  from_tokens declares (kind.Word k.Do ∷ us) e rest is low same starts h = absurd (cc)
  from_tokens declares (kind.Word k.While ∷ us) e rest is low same starts h = absurd (cc)
  from_tokens declares (kind.Word k.If ∷ us) e rest is low same starts h = absurd (cc)
  from_tokens declares (kind.Word k.For ∷ us) e rest is low same starts h = absurd (cc)
  from_tokens declares (kind.Word k.Switch ∷ us) e rest is low same starts h = absurd (cc)
  from_tokens declares (kind.Word k.Throw ∷ us) e rest is low same starts h = absurd (cc)
  from_tokens declares (kind.Word k.Break ∷ us) e rest is low same starts h = absurd (cc)
  from_tokens declares (kind.Word k.Continue ∷ us) e rest is low same starts h = absurd (cc)
  from_tokens declares (kind.Word k.Return ∷ us) e rest is low same starts h = absurd (cc)
  from_tokens declares (kind.Word k.Try ∷ us) e rest is low same starts h = absurd (cc)
  from_tokens declares (token ∷ us) e rest is low same starts h = other_read declares token us e rest starts h

  pub eval_read : (declares : Bool) (e : x.Expr) (rest : List Kind) → IsStatementExpr e → expr_depth e ≤ suc room → read_here declares (write_stmt (s.Eval e) rest) ≡ Ok (s.Eval e, rest)
  eval_read declares e rest is low =
      from_tokens declares (write_expr e (kind.Sym y.Semicolon ∷ rest)) e rest is low refl (effect_starts e (kind.Sym y.Semicolon ∷ rest) is) (plain (suc room) e (kind.Sym y.Semicolon ∷ rest) is low closes_semicolon)

-- a block
module _ (room : ℕ) (inner outer : Parser s.Stmt) (reads : ReadsOne room false inner) (outers : ReadsOne room true outer) where
  nest_read : (declares : Bool) (b : s.Block) (rest : List Kind) → IsShapedStmt (s.Nest b) → stmt_depth (s.Nest b) ≤ suc room → reader.stmt_of room inner outer declares (write_block b rest) ≡ Ok (s.Nest b, rest)
  unfolding reader.stmt_of
  nest_read declares (s.BlockOf all) rest h low = rw (block_read room inner outer room outers (s.BlockOf all) rest h (omega arith)) refl

stmt_depth_pos : (a : s.Stmt) → 1 ≤ stmt_depth a
stmt_depth_pos s.Skip = omega arith
stmt_depth_pos a = omega arith

label_any : (room : ℕ) (inner outer : Parser s.Stmt) (reads : ReadsOne room false inner) → (declares : Bool) (label : Text) (body : s.Stmt) (rest : List Kind) → IsStmt room false body → StmtEnds body (first rest)
    → reader.stmt_of room inner outer declares (kind.Ident label ∷ kind.Sym y.Colon ∷ write_stmt body rest) ≡ Ok (s.Labeled label body, rest)
unfolding reader.stmt_of
label_any zero inner outer reads declares label body rest is ended = absurd (let l = is.low in let p = stmt_depth_pos body in omega arith)
label_any (suc room) inner outer reads true label body rest is ended = label_read room inner outer reads true label body rest is ended
label_any (suc room) inner outer reads false label body rest is ended = rw (le-ltb (suc room) 1 (omega arith)) (label_read room inner outer reads false label body rest is ended)

eval_any : (room : ℕ) (inner outer : Parser s.Stmt) (reads : ReadsOne room false inner) (outers : ReadsOne room true outer) → (declares : Bool) (e : x.Expr) (rest : List Kind) → IsStatementExpr e → expr_depth e ≤ room
    → reader.stmt_of room inner outer declares (write_stmt (s.Eval e) rest) ≡ Ok (s.Eval e, rest)
eval_any zero inner outer reads outers declares e rest is low = absurd (let p = depth_pos e in omega arith)
eval_any (suc room) inner outer reads outers declares e rest is low = eval_read room inner outer reads outers declares e rest is low

module _ (room : ℕ) (inner outer : Parser s.Stmt) (reads : ReadsOne room false inner) (outers : ReadsOne room true outer) where
  level_by : (declares : Bool) (a : s.Stmt) (rest : List Kind) → IsShapedStmt a → declares || not (is_local a) ≡ true → stmt_depth a ≤ suc room → StmtEnds a (first rest)
      → reader.stmt_of room inner outer declares (write_stmt a rest) ≡ Ok (a, rest)
  unfolding reader.stmt_of
  level_by declares (s.Nest b) rest h may low ended = nest_read room inner outer reads outers declares b rest h low
  level_by true (s.Local true t ds) rest h may low ended = final_read room inner outer reads outers t ds rest h.0 (h.1, h.2, omega arith)
  level_by true (s.Local false t ds) rest h may low ended = based_read room inner outer reads outers t.base t.dims ds rest h.0 (h.1, h.2, omega arith)
  level_by false (s.Local b t ds) rest h may low ended = absurd (cc)
  level_by declares s.Skip rest h may low ended = refl
  level_by declares (s.Do body c) rest h may low ended = let p = depth_pos c in rw (le-ltb room 1 (omega arith)) (do_read room inner outer reads outers body c rest h low)
  level_by declares (s.While c body) rest h may low ended = let p = depth_pos c in rw (le-ltb room 1 (omega arith)) (while_read room inner outer reads outers c body rest h low ended)
  level_by declares (s.If c a b) rest h may low ended = let p = depth_pos c in rw (le-ltb room 1 (omega arith)) (if_read room inner outer reads outers c a b rest h low ended)
  level_by declares (s.Eval value) rest h may low ended = eval_any room inner outer reads outers declares value rest h (omega arith)
  level_by declares (s.For i c update body) rest h may low ended =
      let p = stmt_depth_pos body in rw (le-ltb room 1 (omega arith)) (for_read room inner outer reads outers i c update body rest h low ended)
  level_by declares (s.Switch value gs) rest h may low ended = let p = depth_pos value in rw (le-ltb room 1 (omega arith)) (switch_read room inner outer reads outers value gs rest h low)
  level_by declares (s.Labeled label body) rest h may low ended = label_any room inner outer reads declares label body rest (record { shaped = h.1; allowed = h.0; low = omega arith }) ended
  level_by declares (s.Break label) rest h may low ended = rw (label_name_read label rest) refl
  level_by declares (s.Continue label) rest h may low ended = rw (label_name_read label rest) refl
  level_by declares (s.Return value) rest h may low ended = rw (any_read room value rest h (omega arith)) refl
  level_by declares (s.Throw value) rest h may low ended =
      let p = depth_pos value in rw (le-ltb room 1 (omega arith), whole room value (kind.Sym y.Semicolon ∷ rest) h (omega arith) closes_semicolon) refl
  level_by declares (s.Try b cs last) rest h may low ended = try_read room inner outer reads outers b cs last rest h low ended
  level_by declares (s.CtorCall which args) rest h may low ended = absurd h

-- ---- at each number of levels

pub stmt_reads : (room : ℕ) (declares : Bool) → ReadsOne room declares (reader.stmt room declares)
unfolding reader.stmt
stmt_reads zero true = record {
  complete = λ a rest is ended. absurd (let l = is.low in let p = stmt_depth_pos a in omega arith);
  sound = λ ts r h. absurd (no_level_err starts_block_stmt ts r h);
}
stmt_reads zero false = record {
  complete = λ a rest is ended. absurd (let l = is.low in let p = stmt_depth_pos a in omega arith);
  sound = λ ts r h. absurd (no_level_err starts_stmt ts r h);
}
stmt_reads (suc room) declares =
    let reads = stmt_reads room false in
    let outers = stmt_reads room true in
    record {
      complete = λ a rest is ended. level_by room (reader.stmt room false) (reader.stmt room true) reads outers declares a rest is.shaped is.allowed is.low ended;
      sound = λ ts r h. level_sound room (reader.stmt room false) (reader.stmt room true) reads outers declares ts r h;
    }
