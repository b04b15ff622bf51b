-- Reading arguments and sizes is exact in both directions.
use Rattle.std.proofs.Common.{◌≡◌, ℕ, zero, suc, ◌≤◌, true, false, List, [], ◌∷◌, length, Ok, refl, sym, ap, ◌∙◌, subst, inl, inr, arith}
use Rattle.std.proofs.lemmas.Bool.{not-true}
use Rattle.jr_base.specs.declared.kind.Kind.{Kind}
use Rattle.jr_base.specs.declared.kind.Kind.TheVariants as kind
use Rattle.jr_base.specs.declared.kind.Symbol.TheVariants as y
use Rattle.jr_tree.specs.Shape.{AreShapedExprs}
use Rattle.jr_tree.specs.Depth.{exprs_depth}
use Rattle.jr_tree.specs.Mirror.Exprs as x
use Rattle.jr_parse_laws.specs.Parsers.{Parser, first, is_at, is_symbol, begins_with, expect, many, after_comma, commas, pure, ◌>>=◌}
use Rattle.jr_parse_laws.proofs.Outcomes.{bind_ok, chosen, ok_is, is_symbol_is}
use Rattle.jr_parse_laws.proofs.Exact.{expect_sound}
use Rattle.jr_parse_laws.proofs.Lists.{many_over, many_turn, Shortens}
use Rattle.jr_parse_laws.proofs.Turns.{at_first, behind_shortens}
use Rattle.jr_parse_starts.specs.Starts.{starts_expr}
use Rattle.jr_parse_expr.specs.Names.{dims}
use Rattle.jr_parse_expr.specs.Exprs.{Lead, Nothing, skipping, any_commas, arguments, sizes_from, sizes}
use Rattle.jr_parse_expr.specs.Writing.{write_expr, write_exprs, write_others, write_dims, write_brackets}
use Rattle.jr_parse_expr.specs.Follow.{IsExpr}
use Rattle.jr_parse_expr.proofs.Written.{longer}
use Rattle.jr_parse_expr.proofs.Beginnings.{begins_any}
use Rattle.jr_parse_expr.proofs.Followers.{Closes, ends_before}
use Rattle.jr_parse_expr.proofs.Repeats.{AreAll, write_each, many_sound}
use Rattle.jr_parse_expr.proofs.NameReads.{behind_sound, dims_read, dims_sound}
use Rattle.jr_parse_expr.proofs.Asked.{ReadsExprs, listed, starts_no_bracket, found_keeps, inner_keeps}

module _ (room : ℕ) (inner : Lead → ℕ → Parser x.Expr) (list : Parser x.InitList) (reads : ReadsExprs room inner) where
  -- an expression that is wanted whole, before what goes on with nothing
  pub whole_read : (e : x.Expr) (rest : List Kind) → IsExpr room 0 e → Closes (first rest) → inner Nothing 0 (write_expr e rest) ≡ Ok (e, rest)
  whole_read e rest is closes = reads.complete 0 e rest is (ends_before 0 e (first rest) is.shaped closes)

  -- ---- arguments

  pub closes_others : (all : x.Exprs) (rest : List Kind) → Closes (first (write_others all (kind.Sym y.CloseParen ∷ rest)))
  closes_others x.no_exprs rest = record { cast = refl; none = refl }
  closes_others (x.more_exprs e all) rest = record { cast = refl; none = refl }

  pub shortens : Shortens (after_comma (inner Nothing 0))
  shortens = behind_shortens y.Comma (inner Nothing 0) (inner_keeps room inner reads)

  others_read : (all : x.Exprs) (rest : List Kind) → AreShapedExprs all → exprs_depth all ≤ room
      → many (begins_with y.Comma) (after_comma (inner Nothing 0)) (write_others all (kind.Sym y.CloseParen ∷ rest)) ≡ Ok (listed all, kind.Sym y.CloseParen ∷ rest)
  others_read x.no_exprs rest s low = many_over (begins_with y.Comma) (after_comma (inner Nothing 0)) (kind.Sym y.CloseParen ∷ rest) refl
  others_read (x.more_exprs e all) rest s low =
      let ts = write_others all (kind.Sym y.CloseParen ∷ rest) in
      many_turn (begins_with y.Comma) (after_comma (inner Nothing 0)) refl shortens (kind.Sym y.Comma ∷ write_expr e ts) refl
      ∙ rw (whole_read e ts (record { shaped = s.1; fits = s.0; low = omega arith }) (closes_others all rest), others_read all rest s.2 (omega arith)) refl

  pub arguments_read : (all : x.Exprs) (rest : List Kind) → AreShapedExprs all → exprs_depth all ≤ room
      → arguments room inner list (write_exprs all (kind.Sym y.CloseParen ∷ rest)) ≡ Ok (listed all, rest)
  unfolding arguments
  arguments_read x.no_exprs rest s low = refl
  arguments_read (x.more_exprs e all) rest s low =
      let ts = write_others all (kind.Sym y.CloseParen ∷ rest) in
      rw (
        begins_any e ts s.1 (not-true _ s.0.1),
        whole_read e ts (record { shaped = s.1; fits = s.0; low = omega arith }) (closes_others all rest),
        others_read all rest s.2 (omega arith),
      ) refl

  pub record ArgumentsFound (write : x.Exprs → List Kind → List Kind) (ts : List Kind) (r : List x.Expr × List Kind) : Type 0 where
    pub shaped : AreShapedExprs (x.exprs r.0)
    pub low : exprs_depth (x.exprs r.0) ≤ room
    pub written : ts ≡ write (x.exprs r.0) r.1

  abbrev pub write_item : x.Expr → List Kind → List Kind
  write_item e rest = kind.Sym y.Comma ∷ write_expr e rest

  pub item_sound : (ts : List Kind) (r : x.Expr × List Kind) → after_comma (inner Nothing 0) ts ≡ Ok r → IsExpr room 0 r.0 × (ts ≡ write_item r.0 r.1)
  item_sound ts r h =
      let b = behind_sound y.Comma (inner Nothing 0) ts r h in
      let f = reads.sound 0 b.0 r (omega arith) b.2 in
      (f.is, b.1 ∙ ap (λ us. kind.Sym y.Comma ∷ us) f.written)

  abbrev Items : List x.Expr → Type 0
  Items = AreAll (begins_with y.Comma) (after_comma (inner Nothing 0)) refl shortens (IsExpr room 0) write_item item_sound

  abbrev write_items : List x.Expr → List Kind → List Kind
  write_items = write_each (begins_with y.Comma) (after_comma (inner Nothing 0)) refl shortens (IsExpr room 0) write_item item_sound

  items_shaped : (all : List x.Expr) → Items all → AreShapedExprs (x.exprs all) × (exprs_depth (x.exprs all) ≤ room)
  items_shaped [] are = (tt, omega arith)
  items_shaped (e ∷ all) are =
      let others = items_shaped all are.1 in
      let low = are.0.low in
      let more : exprs_depth (x.exprs all) ≤ room = others.1 in
      ((are.0.fits, are.0.shaped, others.0), omega arith)

  items_written : (all : List x.Expr) (rest : List Kind) → write_items all rest ≡ write_others (x.exprs all) rest
  items_written [] rest = refl
  items_written (e ∷ all) rest = ap (λ ts. kind.Sym y.Comma ∷ write_expr e ts) (items_written all rest)

  commas_sound : (ts : List Kind) (r : List x.Expr × List Kind) → commas (inner Nothing 0) ts ≡ Ok r → ArgumentsFound write_exprs ts r
  commas_sound ts r h =
      let a = bind_ok (inner Nothing 0 ts) _ r h in
      let one = reads.sound 0 ts a.0 (omega arith) a.1 in
      let b = bind_ok (many (begins_with y.Comma) (after_comma (inner Nothing 0)) a.0.1) _ r a.2 in
      let others = many_sound (begins_with y.Comma) (after_comma (inner Nothing 0)) refl shortens (IsExpr room 0) write_item item_sound a.0.1 b.0 b.1 in
      let shaped = items_shaped b.0.0 others.are in
      let more : exprs_depth (x.exprs b.0.0) ≤ room = shaped.1 in
      let low = one.is.low in
      subst (ArgumentsFound write_exprs ts) (ok_is b.2)
      (record {
        shaped = (one.is.fits, one.is.shaped, shaped.0);
        low = omega arith;
        written = one.written ∙ ap (write_expr a.0.0) (others.written ∙ items_written b.0.0 b.0.1);
      })

  pub any_sound : (ts : List Kind) (r : List x.Expr × List Kind) → any_commas starts_expr (inner Nothing 0) ts ≡ Ok r → ArgumentsFound write_exprs ts r
  any_sound ts r h =
      elim (chosen (starts_expr (first ts)) _ _ _ h) [
        | inl t ↦ commas_sound ts r t.1
        | inr t ↦ subst (ArgumentsFound write_exprs ts) (ok_is t.1) (record { shaped = tt; low = omega arith; written = refl })
      ]

  abbrev pub write_closed : x.Exprs → List Kind → List Kind
  write_closed all rest = write_exprs all (kind.Sym y.CloseParen ∷ rest)

  pub arguments_sound : (ts : List Kind) (r : List x.Expr × List Kind) → arguments room inner list ts ≡ Ok r → ArgumentsFound write_closed ts r
  unfolding arguments
  arguments_sound ts r h =
      let a = bind_ok (any_commas starts_expr (inner Nothing 0) ts) _ r h in
      let found = any_sound ts a.0 a.1 in
      let b = bind_ok (expect y.CloseParen a.0.1) _ r a.2 in
      subst (ArgumentsFound write_closed ts) (ok_is b.2)
      (record { shaped = found.shaped; low = found.low; written = found.written ∙ ap (write_exprs (x.exprs a.0.0)) (expect_sound y.CloseParen a.0.1 b.0 b.1) })

  -- ---- sizes of an array

  abbrev pub write_sizes : x.Exprs → ℕ → List Kind → List Kind
  write_sizes all more rest = write_dims all (write_brackets more rest)

  from_read : (turns : ℕ) (all : x.Exprs) (more : ℕ) (rest : List Kind) → length (write_sizes all more rest) ≤ turns → AreShapedExprs all → exprs_depth all ≤ room → begins_with y.OpenBracket (first rest) ≡ false
      → sizes_from room inner list turns (write_sizes all more rest) ≡ Ok ((listed all, more), rest)
  from_read zero x.no_exprs zero rest l s low h = refl
  from_read zero x.no_exprs (suc more) rest l s low h = absurd (omega arith)
  from_read zero (x.more_exprs e all) more rest l s low h = absurd (omega arith)
  from_read (suc turns) x.no_exprs zero rest l s low h = let g : is_at y.OpenBracket rest ≡ false = sym (at_first y.OpenBracket rest) ∙ h in rw g refl
  from_read (suc turns) x.no_exprs (suc more) rest l s low h = rw (dims_read more rest h) refl
  from_read (suc turns) (x.more_exprs e all) more rest l s low h =
      let ts = write_sizes all more rest in
      let us = write_expr e (kind.Sym y.CloseBracket ∷ ts) in
      let long = longer e (kind.Sym y.CloseBracket ∷ ts) in
      rw (
        starts_no_bracket us (begins_any e (kind.Sym y.CloseBracket ∷ ts) s.1 (not-true _ s.0.1)),
        whole_read e (kind.Sym y.CloseBracket ∷ ts) (record { shaped = s.1; fits = s.0; low = omega arith }) (record { cast = refl; none = refl }),
        from_read turns all more rest (omega arith) s.2 (omega arith) h,
      ) refl

  pub sizes_read : (all : x.Exprs) (more : ℕ) (rest : List Kind) → AreShapedExprs all → exprs_depth all ≤ room → begins_with y.OpenBracket (first rest) ≡ false
      → sizes room inner list (write_sizes all more rest) ≡ Ok ((listed all, more), rest)
  unfolding sizes
  sizes_read all more rest s low h = from_read (length (write_sizes all more rest)) all more rest (omega arith) s low h

  pub record SizesFound (ts : List Kind) (r : (List x.Expr × ℕ) × List Kind) : Type 0 where
    pub shaped : AreShapedExprs (x.exprs r.0.0)
    pub low : exprs_depth (x.exprs r.0.0) ≤ room
    pub written : ts ≡ write_sizes (x.exprs r.0.0) r.0.1 r.1
    pub ended : begins_with y.OpenBracket (first r.1) ≡ false

  empty_sound : (ts : List Kind) (r : (List x.Expr × ℕ) × List Kind) → is_at y.CloseBracket ts ≡ true → skipping (dims >>= (λ more. pure (([], suc more)))) ts ≡ Ok r
      → SizesFound (kind.Sym y.OpenBracket ∷ ts) r
  empty_sound [] r q h = absurd (cc)
  empty_sound (token ∷ ts) r q h =
      let n = bind_ok (dims ts) _ r h in
      let found = dims_sound ts n.0 n.1 in
      subst (SizesFound (kind.Sym y.OpenBracket ∷ token ∷ ts)) (ok_is n.2)
      (record {
        shaped = tt;
        low = omega arith;
        written = ap (λ token. kind.Sym y.OpenBracket ∷ token ∷ ts) (is_symbol_is y.CloseBracket token q) ∙ ap (λ us. kind.Sym y.OpenBracket ∷ kind.Sym y.CloseBracket ∷ us) found.0;
        ended = found.1;
      })

  from_sound : (turns : ℕ) (ts : List Kind) (r : (List x.Expr × ℕ) × List Kind) → length ts ≤ turns → sizes_from room inner list turns ts ≡ Ok r → SizesFound ts r
  from_sound zero [] r l h = subst (SizesFound []) (ok_is h) (record { shaped = tt; low = omega arith; written = refl; ended = refl })
  from_sound zero (token ∷ ts) r l h = absurd (omega arith)
  from_sound (suc turns) [] r l h = subst (SizesFound []) (ok_is h) (record { shaped = tt; low = omega arith; written = refl; ended = refl })
  from_sound (suc turns) (token ∷ ts) r l h =
      elim (chosen (is_symbol y.OpenBracket token) _ _ _ h) [
        | inl t ↦
            subst (λ token. SizesFound (token ∷ ts) r) (sym (is_symbol_is y.OpenBracket token t.0))
            (elim (chosen (is_at y.CloseBracket ts) _ _ _ t.1) [
              | inl q ↦ empty_sound ts r q.0 q.1
              | inr q ↦
                  (let e = bind_ok (inner Nothing 0 ts) _ r q.1 in
                  let one = reads.sound 0 ts e.0 (omega arith) e.1 in
                  let b = bind_ok (expect y.CloseBracket e.0.1) _ r e.2 in
                  let closed = expect_sound y.CloseBracket e.0.1 b.0 b.1 in
                  let c = bind_ok (sizes_from room inner list turns b.0.1) _ r b.2 in
                  let long = found_keeps one in
                  let same_closed = ap (λ (ts : List Kind). length ts) closed in
                  let others = from_sound turns b.0.1 c.0 (omega arith) c.1 in
                  let more : exprs_depth (x.exprs c.0.0.0) ≤ room = others.low in
                  let low = one.is.low in
                  subst (SizesFound (kind.Sym y.OpenBracket ∷ ts)) (ok_is c.2)
                  (record {
                    shaped = (one.is.fits, one.is.shaped, others.shaped);
                    low = omega arith;
                    written = ap (λ us. kind.Sym y.OpenBracket ∷ us) (one.written ∙ ap (write_expr e.0.0) (closed ∙ ap (λ us. kind.Sym y.CloseBracket ∷ us) others.written));
                    ended = others.ended;
                  }))
            ])
        | inr t ↦ subst (SizesFound (token ∷ ts)) (ok_is t.1) (record { shaped = tt; low = omega arith; written = refl; ended = t.0 })
      ]

  pub sizes_sound : (ts : List Kind) (r : (List x.Expr × ℕ) × List Kind) → sizes room inner list ts ≡ Ok r → SizesFound ts r
  unfolding sizes
  sizes_sound ts r h = from_sound (length ts) ts r (omega arith) h
