-- Reading an expression that stands as a statement is exact in both directions: it reads what is read with no regard to the level round a tree that is no statement.
use Rattle.std.proofs.Common.{◌≡◌, ℕ, zero, suc, ◌<◌, ◌≤◌, max, Bool, true, false, not, ◌&&◌, cond, ltb, List, [], ◌∷◌, ◌++◌, length, Option, Some, None, Ok, Err, refl, sym, ap, ◌∙◌, subst, inl, inr, arith}
use Rattle.std.proofs.lemmas.Bool.{cases_Bool, and_parts, le-ltb, lt-ltb, ltb-false, ltb-true, true≢false}
use Rattle.jr_base.specs.declared.text.Text.{Text}
use Rattle.jr_base.specs.declared.kind.Kind.{Kind}
use Rattle.jr_base.specs.declared.kind.Kind.TheVariants as kind
use Rattle.jr_base.specs.declared.kind.Symbol.{Symbol}
use Rattle.jr_base.specs.declared.kind.Symbol.TheVariants as y
use Rattle.jr_base.specs.declared.kind.Keyword.TheVariants as k
use Rattle.jr_tree.specs.declared.tree.Name.{Name}
use Rattle.jr_tree.specs.declared.tree.Primitive.{Primitive}
use Rattle.jr_tree.specs.declared.tree.Base.{Base}
use Rattle.jr_tree.specs.declared.tree.Base.TheVariants as base
use Rattle.jr_tree.specs.Levels.{is_assignment, is_step}
use Rattle.jr_tree.specs.Shape.{is_target, is_statement, is_new_array}
use Rattle.jr_tree.specs.Depth.{expr_depth, exprs_depth, list_depth}
use Rattle.jr_tree.specs.Mirror.Exprs as x
use Rattle.jr_parse_laws.specs.declared.fault.Fault.TheVariants.{NoTree, TooDeep}
use Rattle.jr_parse_laws.specs.Parsers.{Outcome, Parser, and_then, first, symbol_of, symbol_at, is_at, is_symbol, deep, expect, pure, ◌>>=◌, ◌>>◌}
use Rattle.jr_parse_laws.proofs.Outcomes.{bind_ok, chosen, ok_is, err_ok, some_is}
use Rattle.jr_parse_starts.specs.Starts.{is_plain_literal, within}
use Rattle.jr_parse_expr.specs.Names.{name, primitive_at, dims, Dotted, Plain, Enclosing, dotted_from, dotted}
use Rattle.jr_parse_expr.specs.Exprs as reader
use Rattle.jr_parse_expr.specs.Exprs.{Lead, Nothing, Named, Indexed, This, Super, next_token, below, expr, list, goes_on, effect}
use Rattle.jr_parse_expr.specs.Writing.{write_lead, write_expr}
use Rattle.jr_parse_expr.specs.Follow.{is_tight, EffectEnds, IsEffect, IsLed}
use Rattle.jr_parse_expr.specs.Laws.{IsEffectRead}
use Rattle.jr_parse_expr.proofs.Free.{free_operand, free_effects, free_effect}
use Rattle.jr_parse_expr.proofs.FreeReads.{free_complete, free_sound}
use Rattle.jr_parse_expr.proofs.Loops.{Turned, Stayed, Went, turned}
use Rattle.jr_parse_expr.proofs.Asked.{ReadsExprs, ReadsLists, depth_pos, list_depth_pos}
use Rattle.jr_parse_expr.proofs.ExprReads.{chain_of, all_read}

none_some : {A : Type 0} {a : A} → None ≡ Some a → ⊥
none_some e = cc

some_none : {A : Type 0} {a : A} → Some a ≡ None → ⊥
some_none e = cc

pub below_le : (room : ℕ) → below room ≤ room
below_le zero = omega arith
below_le (suc room) = omega arith

pub to_below : (n room : ℕ) → suc n ≤ room → n ≤ below room
to_below n zero h = absurd (omega arith)
to_below n (suc room) h = omega arith

pub above : (n room : ℕ) → suc n ≤ below room → suc (suc n) ≤ room
above n zero h = absurd (omega arith)
above n (suc room) h = omega arith

-- what is no statement has at most so many levels
abbrev pub Low : ℕ → x.Expr → Type 0
Low room e = is_statement e ≡ false → expr_depth e ≤ room

-- ---- a new array, in other levels

module _ (room : ℕ) (inner : Lead → ℕ → Parser x.Expr) (list : Parser x.InitList) (room' : ℕ) (inner' : Lead → ℕ → Parser x.Expr) (list' : Parser x.InitList) (most : ℕ)
    (one : (ts : List Kind) (r : x.Expr × List Kind) → expr_depth r.0 ≤ most → inner Nothing 0 ts ≡ Ok r → inner' Nothing 0 ts ≡ Ok r)
    (all : (ts : List Kind) (r : x.InitList × List Kind) → list_depth r.0 ≤ most → list ts ≡ Ok r → list' ts ≡ Ok r) where
  sizes_move : (turns : ℕ) (ts : List Kind) (r : (List x.Expr × ℕ) × List Kind) → exprs_depth (x.exprs r.0.0) ≤ most → reader.sizes_from room inner list turns ts ≡ Ok r → reader.sizes_from room' inner' list' turns ts ≡ Ok r
  sizes_move zero ts r low h = h
  sizes_move (suc turns) [] r low h = h
  sizes_move (suc turns) (token ∷ ts) r low h =
      elim (chosen (is_symbol y.OpenBracket token) _ _ _ h) [
        | inr t ↦ rw t.0 t.1
        | inl t ↦
            (elim (chosen (is_at y.CloseBracket ts) _ _ _ t.1) [
              | inl q ↦ rw (t.0, q.0) q.1
              | inr q ↦
                  (let a = bind_ok (inner Nothing 0 ts) _ r q.1 in
                  let b = bind_ok (expect y.CloseBracket a.0.1) _ r a.2 in
                  let c = bind_ok (reader.sizes_from room inner list turns b.0.1) _ r b.2 in
                  let l : exprs_depth (x.exprs (a.0.0 ∷ c.0.0.0)) ≤ most = subst (λ (r : (List x.Expr × ℕ) × List Kind). exprs_depth (x.exprs r.0.0) ≤ most) (sym (ok_is c.2)) low in
                  rw (t.0, q.0, one ts a.0 (omega arith) a.1, b.1, sizes_move turns b.0.1 c.0 (omega arith) c.1) c.2)
            ])
      ]

  sized_move : (b : Base) (ts : List Kind) (r : x.Expr × List Kind) → Low (suc most) r.0 → reader.sized room inner list b ts ≡ Ok r → reader.sized room' inner' list' b ts ≡ Ok r
  unfolding reader.sized reader.sizes
  sized_move b ts r low h =
      let a = bind_ok (inner Nothing 0 ts) _ r h in
      let c = bind_ok (expect y.CloseBracket a.0.1) _ r a.2 in
      let d = bind_ok (reader.sizes_from room inner list (length c.0.1) c.0.1) _ r c.2 in
      let l : expr_depth (x.NewArray b (x.more_exprs a.0.0 (x.exprs d.0.0.0)) d.0.0.1 x.no_list) ≤ suc most = subst (λ (r : x.Expr × List Kind). Low (suc most) r.0) (sym (ok_is d.2)) low refl in
      rw (one ts a.0 (omega arith) a.1, c.1, sizes_move (length c.0.1) c.0.1 d.0 (omega arith) d.1) d.2

  unsized_move : (b : Base) (ts : List Kind) (r : x.Expr × List Kind) → Low (suc most) r.0 → reader.unsized room inner list b ts ≡ Ok r → reader.unsized room' inner' list' b ts ≡ Ok r
  unfolding reader.unsized
  unsized_move b ts r low h =
      let a = bind_ok (dims ts) _ r h in
      let c = bind_ok (list a.0.1) _ r a.2 in
      let l : expr_depth (x.NewArray b x.no_exprs (suc a.0.0) (x.a_list c.0.0)) ≤ suc most = subst (λ (r : x.Expr × List Kind). Low (suc most) r.0) (sym (ok_is c.2)) low refl in
      rw (a.1, all a.0.1 c.0 (omega arith) c.1) c.2

  array_move : (b : Base) (ts : List Kind) (r : x.Expr × List Kind) → Low (suc most) r.0 → reader.array room inner list b ts ≡ Ok r → reader.array room' inner' list' b ts ≡ Ok r
  unfolding reader.array
  array_move b [] r low h = sized_move b [] r low h
  array_move b (token ∷ ts) r low h =
      elim (chosen (is_symbol y.CloseBracket token) _ _ _ h) [
        | inl t ↦ rw t.0 (unsized_move b ts r low t.1)
        | inr t ↦ rw t.0 (sized_move b (token ∷ ts) r low t.1)
      ]

  within_move : (b : Base) (token : Kind) (ts : List Kind) (r : x.Expr × List Kind) → Low (suc most) r.0 → (1 ≤ room → 1 ≤ room') → within 1 room token (reader.array room inner list b) ts ≡ Ok r → within 1 room' token (reader.array room' inner' list' b) ts ≡ Ok r
  within_move b token ts r low some h =
      elim (chosen (ltb room 1) _ _ _ h) [
        | inl t ↦ absurd (err_ok t.1)
        | inr t ↦ rw (le-ltb room' 1 (some (ltb-false room 1 t.0))) (array_move b ts r low t.1)
      ]

  bracket_move : (b : Base) (token : Kind) (ts : List Kind) (r : x.Expr × List Kind) → Low (suc most) r.0 → (1 ≤ room → 1 ≤ room') → within 1 room token (expect y.OpenBracket >> reader.array room inner list b) ts ≡ Ok r
      → within 1 room' token (expect y.OpenBracket >> reader.array room' inner' list' b) ts ≡ Ok r
  bracket_move b token ts r low some h =
      elim (chosen (ltb room 1) _ _ _ h) [
        | inl t ↦ absurd (err_ok t.1)
        | inr t ↦
            (let a = bind_ok (expect y.OpenBracket ts) _ r t.1 in
            rw (le-ltb room' 1 (some (ltb-false room 1 t.0)), a.1) (array_move b a.0.1 r low a.2))
      ]

-- ---- a name at the head

dotted_up : (b : Bool) (turns : ℕ) (before : List Text) (last : Text) (ts : List Kind) (r : Dotted × List Kind) → dotted_from b turns before last ts ≡ Ok r → dotted_from true turns before last ts ≡ Ok r
dotted_up true turns before last ts r h = h
dotted_up false zero before last ts r h = h
dotted_up false (suc turns) before last [] r h = h
dotted_up false (suc turns) before last (kind.Sym y.Dot ∷ []) r h = h
dotted_up false (suc turns) before last (kind.Sym y.Dot ∷ kind.Ident part ∷ ts) r h = dotted_up false turns (before ++ last ∷ []) part ts r h
dotted_up false (suc turns) before last (kind.Sym y.Dot ∷ kind.Word k.This ∷ ts) r h = absurd (err_ok h)
dotted_up false (suc turns) before last (kind.Sym y.Dot ∷ token ∷ ts) r h = h
dotted_up false (suc turns) before last (token ∷ ts) r h = h

abbrev pub is_plain : Dotted → Bool
is_plain (Plain before last) = true
is_plain (Enclosing before last) = false

dotted_down : (turns : ℕ) (before : List Text) (last : Text) (ts : List Kind) (r : Dotted × List Kind) → is_plain r.0 ≡ true → dotted_from true turns before last ts ≡ Ok r → dotted_from false turns before last ts ≡ Ok r
dotted_down zero before last ts r p h = h
dotted_down (suc turns) before last [] r p h = h
dotted_down (suc turns) before last (kind.Sym y.Dot ∷ []) r p h = h
dotted_down (suc turns) before last (kind.Sym y.Dot ∷ kind.Ident part ∷ ts) r p h = dotted_down turns (before ++ last ∷ []) part ts r p h
dotted_down (suc turns) before last (kind.Sym y.Dot ∷ kind.Word k.This ∷ ts) r p h =
    absurd (true≢false (sym p ∙ ap is_plain (sym (ap (λ (r : Dotted × List Kind). r.0) (ok_is h)))))
dotted_down (suc turns) before last (kind.Sym y.Dot ∷ token ∷ ts) r p h = h
dotted_down (suc turns) before last (token ∷ ts) r p h = h

pub plain_dotted : (before : List Text) (last : Text) (ts : List Kind) (r : Dotted × List Kind) → is_plain r.0 ≡ true → dotted true before last ts ≡ Ok r → dotted false before last ts ≡ Ok r
unfolding dotted
plain_dotted before last ts r p h = dotted_down (length ts) before last ts r p h

pub any_dotted : (b : Bool) (before : List Text) (last : Text) (ts : List Kind) (r : Dotted × List Kind) → dotted b before last ts ≡ Ok r → dotted true before last ts ≡ Ok r
unfolding dotted
any_dotted b before last ts r h = dotted_up b (length ts) before last ts r h

-- ---- both ways

module _ (room : ℕ) (inner : Lead → ℕ → Parser x.Expr) (list : Parser x.InitList) (under : Lead → ℕ → Parser x.Expr) (under_list : Parser x.InitList)
    (reads : ReadsExprs room inner) (lists : ReadsLists room list) (low_reads : ReadsExprs (below room) under) (low_lists : ReadsLists (below room) under_list) where
  expr_up : (ts : List Kind) (r : x.Expr × List Kind) → under Nothing 0 ts ≡ Ok r → inner Nothing 0 ts ≡ Ok r
  expr_up ts r h =
      let found = low_reads.sound 0 ts r (omega arith) h in
      let l = found.is.low in
      let b = below_le room in
      ap (inner Nothing 0) found.written ∙ reads.complete 0 r.0 r.1 (record { shaped = found.is.shaped; fits = found.is.fits; low = omega arith }) found.ended

  expr_down : (ts : List Kind) (r : x.Expr × List Kind) → expr_depth r.0 ≤ below room → inner Nothing 0 ts ≡ Ok r → under Nothing 0 ts ≡ Ok r
  expr_down ts r l h =
      let found = reads.sound 0 ts r (omega arith) h in
      ap (under Nothing 0) found.written ∙ low_reads.complete 0 r.0 r.1 (record { shaped = found.is.shaped; fits = found.is.fits; low = l }) found.ended

  list_up : (ts : List Kind) (r : x.InitList × List Kind) → under_list ts ≡ Ok r → list ts ≡ Ok r
  list_up ts r h =
      let found = low_lists.sound ts r h in
      let l = found.low in
      let b = below_le room in
      ap list found.written ∙ lists.complete r.0 r.1 found.shaped (omega arith)

  list_down : (ts : List Kind) (r : x.InitList × List Kind) → list_depth r.0 ≤ below room → list ts ≡ Ok r → under_list ts ≡ Ok r
  list_down ts r l h = let found = lists.sound ts r h in ap under_list found.written ∙ low_lists.complete r.0 r.1 found.shaped l

  -- ---- creations

  low_suc : (e : x.Expr) → Low room e → Low (suc (below room)) e
  low_suc e low f = go room (low f) where
    go : (n : ℕ) → expr_depth e ≤ n → expr_depth e ≤ suc (below n)
    go zero l = omega arith
    go (suc n) l = l

  any_low : (e : x.Expr) → Low (suc (expr_depth e)) e
  any_low e f = omega arith

  created_up : (n : Name) (ts : List Kind) (r : x.Expr × List Kind) → next_token (reader.effect_created_by room inner list under under_list n) ts ≡ Ok r → next_token (reader.created_by room inner list n) ts ≡ Ok r
  created_up n [] r h = h
  created_up n (kind.Sym y.OpenBracket ∷ ts) r h =
      within_move (below room) under under_list room inner list (expr_depth r.0) (λ ts r l h. expr_up ts r h) (λ ts r l h. list_up ts r h) (base.Named n) (kind.Sym y.OpenBracket) ts r (any_low r.0) (λ some. let b = below_le room in omega arith) h
  created_up n (token ∷ ts) r h = h

  some_below : 2 ≤ room → 1 ≤ below room
  some_below h = to_below 1 room h

  -- an array has two levels
  sized_two : (b : Base) (ts : List Kind) (r : x.Expr × List Kind) → reader.sized room inner list b ts ≡ Ok r → Low room r.0 → 2 ≤ room
  unfolding reader.sized
  sized_two b ts r h low =
      let a = bind_ok (inner Nothing 0 ts) _ r h in
      let c = bind_ok (expect y.CloseBracket a.0.1) _ r a.2 in
      let d = bind_ok (reader.sizes room inner list c.0.1) _ r c.2 in
      let l : expr_depth (x.NewArray b (x.more_exprs a.0.0 (x.exprs d.0.0.0)) d.0.0.1 x.no_list) ≤ room = subst (λ (r : x.Expr × List Kind). Low room r.0) (sym (ok_is d.2)) low refl in
      let p = depth_pos a.0.0 in
      omega arith

  unsized_two : (b : Base) (ts : List Kind) (r : x.Expr × List Kind) → reader.unsized room inner list b ts ≡ Ok r → Low room r.0 → 2 ≤ room
  unfolding reader.unsized
  unsized_two b ts r h low =
      let a = bind_ok (dims ts) _ r h in
      let c = bind_ok (list a.0.1) _ r a.2 in
      let l : expr_depth (x.NewArray b x.no_exprs (suc a.0.0) (x.a_list c.0.0)) ≤ room = subst (λ (r : x.Expr × List Kind). Low room r.0) (sym (ok_is c.2)) low refl in
      let p = list_depth_pos c.0.0 in
      omega arith

  array_two : (b : Base) (ts : List Kind) (r : x.Expr × List Kind) → reader.array room inner list b ts ≡ Ok r → Low room r.0 → 2 ≤ room
  unfolding reader.array
  array_two b [] r h low = sized_two b [] r h low
  array_two b (token ∷ ts) r h low =
      elim (chosen (is_symbol y.CloseBracket token) _ _ _ h) [
        | inl t ↦ unsized_two b ts r t.1 low
        | inr t ↦ sized_two b (token ∷ ts) r t.1 low
      ]

  created_down : (n : Name) (ts : List Kind) (r : x.Expr × List Kind) → Low room r.0 → next_token (reader.created_by room inner list n) ts ≡ Ok r → next_token (reader.effect_created_by room inner list under under_list n) ts ≡ Ok r
  created_down n [] r low h = h
  created_down n (kind.Sym y.OpenBracket ∷ ts) r low h =
      elim (chosen (ltb room 1) _ _ _ h) [
        | inl t ↦ absurd (err_ok t.1)
        | inr t ↦
            within_move room inner list (below room) under under_list (below room) expr_down list_down (base.Named n) (kind.Sym y.OpenBracket) ts r (low_suc r.0 low) (λ some. some_below (array_two (base.Named n) ts r t.1 low)) h
      ]
  created_down n (token ∷ ts) r low h = h

  creation_up_by : (o : Option Primitive) (ts : List Kind) (r : x.Expr × List Kind) → reader.effect_creation_by room inner list under under_list o ts ≡ Ok r → reader.creation_by room inner list o ts ≡ Ok r
  creation_up_by None ts r h = let a = bind_ok (name ts) _ r h in ap (λ o. and_then o (λ n. next_token (reader.created_by room inner list n))) a.1 ∙ created_up a.0.0 a.0.1 r a.2
  creation_up_by (Some p) [] r h = h
  creation_up_by (Some p) (token ∷ ts) r h =
      bracket_move (below room) under under_list room inner list (expr_depth r.0) (λ ts r l h. expr_up ts r h) (λ ts r l h. list_up ts r h) (base.Primitive p) token ts r (any_low r.0) (λ some. let b = below_le room in omega arith) h

  creation_down_by : (o : Option Primitive) (ts : List Kind) (r : x.Expr × List Kind) → Low room r.0 → reader.creation_by room inner list o ts ≡ Ok r → reader.effect_creation_by room inner list under under_list o ts ≡ Ok r
  creation_down_by None ts r low h = let a = bind_ok (name ts) _ r h in ap (λ o. and_then o (λ n. next_token (reader.effect_created_by room inner list under under_list n))) a.1 ∙ created_down a.0.0 a.0.1 r low a.2
  creation_down_by (Some p) [] r low h = h
  creation_down_by (Some p) (token ∷ ts) r low h =
      elim (chosen (ltb room 1) _ _ _ h) [
        | inl t ↦ absurd (err_ok t.1)
        | inr t ↦
            (let a = bind_ok (expect y.OpenBracket ts) _ r t.1 in
            bracket_move room inner list (below room) under under_list (below room) expr_down list_down (base.Primitive p) token ts r (low_suc r.0 low) (λ some. some_below (array_two (base.Primitive p) a.0.1 r a.2 low)) h)
      ]

  -- ---- what stands in front

  named_up : (b : Bool) (head : Text) (ts : List Kind) (r : x.Expr × List Kind) → and_then (dotted b [] head ts) (reader.after_dotted room inner list) ≡ Ok r → and_then (dotted true [] head ts) (reader.after_dotted room inner list) ≡ Ok r
  unfolding dotted
  named_up b head ts r h =
      let a = bind_ok (dotted_from b (length ts) [] head ts) _ r h in
      ap (λ o. and_then o (reader.after_dotted room inner list)) (dotted_up b (length ts) [] head ts a.0 a.1) ∙ a.2

  plain_if : (d : Dotted) (us : List Kind) (r : x.Expr × List Kind) → room ≤ 0 → Low room r.0 → reader.after_dotted room inner list d us ≡ Ok r → is_plain d ≡ true
  unfolding reader.after_dotted
  plain_if (Plain before last) us r none low h = refl
  plain_if (Enclosing before last) us r none low h =
      absurd (let l : 1 ≤ room = subst (λ (r : x.Expr × List Kind). Low room r.0) (sym (ok_is h)) low refl in omega arith)

  named_down : (b : Bool) (head : Text) (ts : List Kind) (r : x.Expr × List Kind) → ltb room 1 ≡ b → Low room r.0 → and_then (dotted true [] head ts) (reader.after_dotted room inner list) ≡ Ok r
      → and_then (dotted (not b) [] head ts) (reader.after_dotted room inner list) ≡ Ok r
  unfolding dotted
  named_down false head ts r e low h = h
  named_down true head ts r e low h =
      let none : room < 1 = ltb-true room 1 e in
      let a = bind_ok (dotted_from true (length ts) [] head ts) _ r h in
      ap (λ o. and_then o (reader.after_dotted room inner list)) (dotted_down (length ts) [] head ts a.0 (plain_if a.0.0 a.0.1 r (omega arith) low a.2) a.1) ∙ a.2

  plain_up : (token : Kind) (ts : List Kind) (r : x.Expr × List Kind) → cond {A = Outcome x.Expr} (is_plain_literal token) (within 1 room token (pure (x.Lit token)) ts) (Err (NoTree, token ∷ ts)) ≡ Ok r
      → cond {A = Outcome x.Expr} (is_plain_literal token) (Ok (x.Lit token, ts)) (Err (NoTree, token ∷ ts)) ≡ Ok r
  plain_up token ts r h =
      elim (chosen (is_plain_literal token) _ _ _ h) [
        | inr t ↦ absurd (err_ok t.1)
        | inl t ↦
            (elim (chosen (ltb room 1) _ _ _ t.1) [
              | inl q ↦ absurd (err_ok q.1)
              | inr q ↦ rw t.0 q.1
            ])
      ]

  plain_down : (token : Kind) (ts : List Kind) (r : x.Expr × List Kind) → Low room r.0 → cond {A = Outcome x.Expr} (is_plain_literal token) (Ok (x.Lit token, ts)) (Err (NoTree, token ∷ ts)) ≡ Ok r
      → cond {A = Outcome x.Expr} (is_plain_literal token) (within 1 room token (pure (x.Lit token)) ts) (Err (NoTree, token ∷ ts)) ≡ Ok r
  plain_down token ts r low h =
      elim (chosen (is_plain_literal token) _ _ _ h) [
        | inr t ↦ absurd (err_ok t.1)
        | inl t ↦
            (let l : 1 ≤ room = subst (λ (r : x.Expr × List Kind). Low room r.0) (sym (ok_is t.1)) low refl in
            rw (t.0, le-ltb room 1 l) t.1)
      ]

  paren_up : (ts : List Kind) (r : x.Expr × List Kind) → within 2 room (kind.Sym y.OpenParen) (under Nothing 0 >>= reader.closed) ts ≡ Ok r → within 1 room (kind.Sym y.OpenParen) (inner Nothing 0 >>= reader.closed) ts ≡ Ok r
  paren_up ts r h =
      elim (chosen (ltb room 2) _ _ _ h) [
        | inl t ↦ absurd (err_ok t.1)
        | inr t ↦
            (let some = ltb-false room 2 t.0 in
            let a = bind_ok (under Nothing 0 ts) _ r t.1 in
            rw (le-ltb room 1 (omega arith), expr_up ts a.0 a.1) a.2)
      ]

  paren_down : (ts : List Kind) (r : x.Expr × List Kind) → Low room r.0 → within 1 room (kind.Sym y.OpenParen) (inner Nothing 0 >>= reader.closed) ts ≡ Ok r → within 2 room (kind.Sym y.OpenParen) (under Nothing 0 >>= reader.closed) ts ≡ Ok r
  paren_down ts r low h =
      elim (chosen (ltb room 1) _ _ _ h) [
        | inl t ↦ absurd (err_ok t.1)
        | inr t ↦
            (let a = bind_ok (inner Nothing 0 ts) _ r t.1 in
            let b = bind_ok (expect y.CloseParen a.0.1) _ r a.2 in
            let l : suc (expr_depth a.0.0) ≤ room = subst (λ (r : x.Expr × List Kind). Low room r.0) (sym (ok_is b.2)) low refl in
            let p = depth_pos a.0.0 in
            rw (le-ltb room 2 (omega arith), expr_down ts a.0 (to_below (expr_depth a.0.0) room l) a.1) a.2)
      ]

  this_up : (ts : List Kind) (r : x.Expr × List Kind) → within 1 room (kind.Word k.This) (pure (x.This None)) ts ≡ Ok r → ◌≡◌ {A = Outcome x.Expr} (Ok (x.This None, ts)) (Ok r)
  this_up ts r h =
      elim (chosen (ltb room 1) _ _ _ h) [
        | inl t ↦ absurd (err_ok t.1)
        | inr t ↦ t.1
      ]

  bracket_up : (n : Name) (ts : List Kind) (r : x.Expr × List Kind) → reader.after_bracket (below room) under under_list n ts ≡ Ok r → reader.after_bracket room inner list n ts ≡ Ok r
  unfolding reader.after_bracket
  bracket_up n ts r h = let a = bind_ok (under Nothing 0 ts) _ r h in rw (expr_up ts a.0 a.1) a.2

  bracket_down : (n : Name) (ts : List Kind) (r : x.Expr × List Kind) → Low room r.0 → reader.after_bracket room inner list n ts ≡ Ok r → reader.after_bracket (below room) under under_list n ts ≡ Ok r
  unfolding reader.after_bracket
  bracket_down n ts r low h =
      let a = bind_ok (inner Nothing 0 ts) _ r h in
      let b = bind_ok (expect y.CloseBracket a.0.1) _ r a.2 in
      let l : expr_depth (x.Index (x.NameExpr n) a.0.0) ≤ room = subst (λ (r : x.Expr × List Kind). Low room r.0) (sym (ok_is b.2)) low refl in
      rw (expr_down ts a.0 (to_below (expr_depth a.0.0) room (omega arith)) a.1) a.2

  first_up : (ts : List Kind) (r : x.Expr × List Kind) → reader.effect_operand room inner list under under_list Nothing ts ≡ Ok r → free_operand room inner list Nothing ts ≡ Ok r
  unfolding reader.creation
  first_up [] r h = h
  first_up (kind.Ident head ∷ ts) r h = named_up (not (ltb room 1)) head ts r h
  first_up (kind.Word k.This ∷ ts) r h = this_up ts r h
  first_up (kind.Word k.Super ∷ ts) r h = h
  first_up (kind.Word k.New ∷ ts) r h = creation_up_by (primitive_at ts) ts r h
  first_up (kind.Sym y.OpenParen ∷ ts) r h = paren_up ts r h
  first_up (kind.Sym s ∷ ts) r h = h
  first_up (token ∷ ts) r h = plain_up token ts r h

  first_down : (ts : List Kind) (r : x.Expr × List Kind) → Low room r.0 → free_operand room inner list Nothing ts ≡ Ok r → reader.effect_operand room inner list under under_list Nothing ts ≡ Ok r
  unfolding reader.creation
  first_down [] r low h = h
  first_down (kind.Ident head ∷ ts) r low h = named_down (ltb room 1) head ts r refl low h
  first_down (kind.Word k.This ∷ ts) r low h =
      let l : 1 ≤ room = subst (λ (r : x.Expr × List Kind). Low room r.0) (sym (ok_is h)) low refl in
      rw (le-ltb room 1 l) h
  first_down (kind.Word k.Super ∷ ts) r low h = h
  first_down (kind.Word k.New ∷ ts) r low h = creation_down_by (primitive_at ts) ts r low h
  first_down (kind.Sym y.OpenParen ∷ ts) r low h = paren_down ts r low h
  first_down (kind.Sym s ∷ ts) r low h = h
  first_down (token ∷ ts) r low h = plain_down token ts r low h

  pub operand_up : (lead : Lead) (ts : List Kind) (r : x.Expr × List Kind) → reader.effect_operand room inner list under under_list lead ts ≡ Ok r → free_operand room inner list lead ts ≡ Ok r
  operand_up Nothing ts r h = first_up ts r h
  operand_up (Named d) ts r h = h
  operand_up (Indexed n) ts r h = bracket_up n ts r h
  operand_up This ts r h = h
  operand_up Super ts r h = h

  operand_down : (lead : Lead) (ts : List Kind) (r : x.Expr × List Kind) → Low room r.0 → free_operand room inner list lead ts ≡ Ok r → reader.effect_operand room inner list under under_list lead ts ≡ Ok r
  operand_down Nothing ts r low h = first_down ts r low h
  operand_down (Named d) ts r low h = h
  operand_down (Indexed n) ts r low h = bracket_down n ts r low h
  operand_down This ts r low h = h
  operand_down Super ts r low h = h

  -- ---- what stands behind an operand

  abbrev suffix : x.Expr → Option Symbol → Option (Parser x.Expr)
  suffix = reader.suffix room inner list

  abbrev effect_suffix : x.Expr → Option Symbol → Option (Parser x.Expr)
  effect_suffix = reader.effect_suffix room inner list under under_list

  -- a part that is taken as it is elsewhere
  pub record Taken (read : Option (Parser x.Expr)) (us : List Kind) (r : x.Expr × List Kind) : Type 0 where
    pub p : Parser x.Expr
    pub here : read ≡ Some p
    pub same : p us ≡ Ok r

  pub take_up : (left : x.Expr) (o : Option Symbol) (p : Parser x.Expr) (us : List Kind) (r : x.Expr × List Kind) → effect_suffix left o ≡ Some p → p us ≡ Ok r → Taken (suffix left o) us r
  take_up left None p us r here h = absurd (none_some here)
  take_up left (Some y.OpenBracket) p us r here h =
      elim (chosen (is_tight left 14 && not (is_new_array left)) _ _ _ here) [
        | inr t ↦ absurd (none_some t.1)
        | inl t ↦
            (elim (chosen (ltb room (suc (expr_depth left))) _ _ _ (ap (λ (p : Parser x.Expr). p us) (some_is t.1) ∙ h)) [
              | inl q ↦ absurd (err_ok q.1)
              | inr q ↦
                  (let a = bind_ok (under Nothing 0 us) _ r q.1 in
                  record { p = reader.indexed room inner list left; here = rw t.0 refl; same = rw (expr_up us a.0 a.1) a.2 })
            ])
      ]
  take_up left (Some s) p us r here h = record { p = p; here = here; same = h }

  take_down : (left : x.Expr) (o : Option Symbol) (p : Parser x.Expr) (us : List Kind) (r : x.Expr × List Kind) → Low room r.0 → suffix left o ≡ Some p → p us ≡ Ok r → Taken (effect_suffix left o) us r
  take_down left None p us r low here h = absurd (none_some here)
  take_down left (Some y.OpenBracket) p us r low here h =
      elim (chosen (is_tight left 14 && not (is_new_array left)) _ _ _ here) [
        | inr t ↦ absurd (none_some t.1)
        | inl t ↦
            (let g : reader.indexed room inner list left us ≡ Ok r = ap (λ (p : Parser x.Expr). p us) (some_is t.1) ∙ h in
            let a = bind_ok (inner Nothing 0 us) _ r g in
            let b = bind_ok (expect y.CloseBracket a.0.1) _ r a.2 in
            let l : expr_depth (x.Index left a.0.0) ≤ room = subst (λ (r : x.Expr × List Kind). Low room r.0) (sym (ok_is b.2)) low refl in
            record {
              p = within (suc (expr_depth left)) room (kind.Sym y.OpenBracket) (reader.indexed (below room) under under_list left);
              here = rw t.0 refl;
              same = rw (le-ltb room (suc (expr_depth left)) (omega arith), expr_down us a.0 (to_below (expr_depth a.0.0) room (omega arith)) a.1) a.2;
            })
      ]
  take_down left (Some s) p us r low here h = record { p = p; here = here; same = h }

  none_up : (left : x.Expr) (o : Option Symbol) → effect_suffix left o ≡ None → suffix left o ≡ None
  none_up left None h = refl
  none_up left (Some y.OpenBracket) h =
      elim (chosen (is_tight left 14 && not (is_new_array left)) _ _ _ h) [
        | inl t ↦ absurd (some_none t.1)
        | inr t ↦ rw t.0 refl
      ]
  none_up left (Some s) h = h

  pub none_down : (left : x.Expr) (o : Option Symbol) → suffix left o ≡ None → effect_suffix left o ≡ None
  none_down left None h = refl
  none_down left (Some y.OpenBracket) h =
      elim (chosen (is_tight left 14 && not (is_new_array left)) _ _ _ h) [
        | inl t ↦ absurd (some_none t.1)
        | inr t ↦ rw t.0 refl
      ]
  none_down left (Some s) h = h

  abbrev suffixes_from : ℕ → x.Expr → Parser x.Expr
  suffixes_from = reader.suffixes_from room inner list

  abbrev effect_suffixes_from : ℕ → x.Expr → Parser x.Expr
  effect_suffixes_from = reader.effect_suffixes_from room inner list under under_list

  chain_up : (turns : ℕ) (left : x.Expr) (ts : List Kind) (r : x.Expr × List Kind) → effect_suffixes_from turns left ts ≡ Ok r → suffixes_from turns left ts ≡ Ok r
  chain_up zero left ts r h =
      elim (turned room inner list left (effect_suffix left (symbol_at ts)) (λ e. deep) ts r h) [
        | Stayed none same ↦ rw (none_up left (symbol_at ts) none) (ap Ok same)
        | Went p token us here shape low went ↦ absurd (let b = bind_ok (p us) (λ e. deep) r went in err_ok b.2)
      ]
  chain_up (suc turns) left ts r h =
      elim (turned room inner list left (effect_suffix left (symbol_at ts)) (effect_suffixes_from turns) ts r h) [
        | Stayed none same ↦ rw (none_up left (symbol_at ts) none) (ap Ok same)
        | Went p token us here shape low went ↦
            (let b = bind_ok (p us) (effect_suffixes_from turns) r went in
            let t = take_up left (symbol_of token) p us b.0 (subst (λ ts. effect_suffix left (symbol_at ts) ≡ Some p) shape here) b.1 in
            subst (λ ts. suffixes_from (suc turns) left ts ≡ Ok r) (sym shape) (rw (t.here, le-ltb room (expr_depth left) low, t.same) (chain_up turns b.0.0 b.0.1 r b.2)))
      ]

  low_before : (turns : ℕ) (left : x.Expr) (ts : List Kind) (r : x.Expr × List Kind) → Low room r.0 → suffixes_from turns left ts ≡ Ok r → Low room left
  low_before zero left ts r low h =
      elim (turned room inner list left (suffix left (symbol_at ts)) (λ e. deep) ts r h) [
        | Stayed none same ↦ subst (λ (r : x.Expr × List Kind). Low room r.0) (sym same) low
        | Went p token us here shape l went ↦ λ f. l
      ]
  low_before (suc turns) left ts r low h =
      elim (turned room inner list left (suffix left (symbol_at ts)) (suffixes_from turns) ts r h) [
        | Stayed none same ↦ subst (λ (r : x.Expr × List Kind). Low room r.0) (sym same) low
        | Went p token us here shape l went ↦ λ f. l
      ]

  chain_down : (turns : ℕ) (left : x.Expr) (ts : List Kind) (r : x.Expr × List Kind) → Low room r.0 → suffixes_from turns left ts ≡ Ok r → effect_suffixes_from turns left ts ≡ Ok r
  chain_down zero left ts r low h =
      elim (turned room inner list left (suffix left (symbol_at ts)) (λ e. deep) ts r h) [
        | Stayed none same ↦ rw (none_down left (symbol_at ts) none) (ap Ok same)
        | Went p token us here shape l went ↦ absurd (let b = bind_ok (p us) (λ e. deep) r went in err_ok b.2)
      ]
  chain_down (suc turns) left ts r low h =
      elim (turned room inner list left (suffix left (symbol_at ts)) (suffixes_from turns) ts r h) [
        | Stayed none same ↦ rw (none_down left (symbol_at ts) none) (ap Ok same)
        | Went p token us here shape l went ↦
            (let b = bind_ok (p us) (suffixes_from turns) r went in
            let t = take_down left (symbol_of token) p us b.0 (low_before turns b.0.0 b.0.1 r low b.2) (subst (λ ts. suffix left (symbol_at ts) ≡ Some p) shape here) b.1 in
            subst (λ ts. effect_suffixes_from (suc turns) left ts ≡ Ok r) (sym shape) (rw (t.here, le-ltb room (expr_depth left) l, t.same) (chain_down turns b.0.0 b.0.1 r low b.2)))
      ]

  -- what the statement ends with has room for a level round it
  alone_low : (left : x.Expr) (ts : List Kind) (r : x.Expr × List Kind) → cond {A = Outcome x.Expr} (is_statement left) (Ok (left, ts)) (Err (NoTree, ts)) ≡ Ok r → Low room left
  alone_low left ts r h f = absurd (err_ok (rw f at h))

  end_low : (left : x.Expr) (o : Option Symbol) (ts : List Kind) (r : x.Expr × List Kind) → reader.effect_end_by room inner list left o ts ≡ Ok r → Low room left
  end_low left None ts r h = alone_low left ts r h
  end_low left (Some op) ts r h =
      elim (chosen (is_assignment op && is_target left) _ _ _ h) [
        | inr t ↦ alone_low left ts r t.1
        | inl t ↦
            (elim (chosen (ltb room (expr_depth left)) _ _ _ t.1) [
              | inl q ↦ absurd (err_ok q.1)
              | inr q ↦ λ f. ltb-false room (expr_depth left) q.0
            ])
      ]

  effects_up : (lead : Lead) (ts : List Kind) (r : x.Expr × List Kind) → reader.effects room inner list under under_list lead ts ≡ Ok r → free_effects room inner list lead ts ≡ Ok r
  unfolding reader.effects free_effects reader.effect_suffixes reader.suffixes
  effects_up lead ts r h =
      let b = bind_ok (and_then (reader.effect_operand room inner list under under_list lead ts) (effect_suffixes_from (suc room))) _ r h in
      let a = bind_ok (reader.effect_operand room inner list under under_list lead ts) _ b.0 b.1 in
      ap (λ o. and_then (and_then o (suffixes_from (suc room))) (reader.effect_end room inner list)) (operand_up lead ts a.0 a.1)
      ∙ ap (λ o. and_then o (reader.effect_end room inner list)) (chain_up (suc room) a.0.0 a.0.1 b.0 a.2)
      ∙ b.2

  effects_down : (lead : Lead) (ts : List Kind) (r : x.Expr × List Kind) → free_effects room inner list lead ts ≡ Ok r → reader.effects room inner list under under_list lead ts ≡ Ok r
  unfolding reader.effects free_effects reader.effect_suffixes reader.suffixes reader.effect_end
  effects_down lead ts r h =
      let b = bind_ok (and_then (free_operand room inner list lead ts) (suffixes_from (suc room))) _ r h in
      let a = bind_ok (free_operand room inner list lead ts) _ b.0 b.1 in
      let low = end_low b.0.0 (symbol_at b.0.1) b.0.1 r b.2 in
      ap (λ o. and_then (and_then o (effect_suffixes_from (suc room))) (reader.effect_end room inner list)) (operand_down lead ts a.0 (low_before (suc room) a.0.0 a.0.1 b.0 low a.2) a.1)
      ∙ ap (λ o. and_then o (reader.effect_end room inner list)) (chain_down (suc room) a.0.0 a.0.1 b.0 low a.2)
      ∙ b.2

-- ---- the laws

to_free : (room : ℕ) (lead : Lead) (ts : List Kind) (r : x.Expr × List Kind) → effect room lead ts ≡ Ok r → free_effect room lead ts ≡ Ok r
unfolding effect free_effect
to_free zero lead ts r h = h
to_free (suc room) lead ts r h =
    let all = all_read room in
    let low = all_read (below room) in
    effects_up room (expr room) (list room) (expr (below room)) (list (below room)) all.exprs all.lists low.exprs low.lists lead ts r h

from_free : (room : ℕ) (lead : Lead) (ts : List Kind) (r : x.Expr × List Kind) → free_effect room lead ts ≡ Ok r → effect room lead ts ≡ Ok r
unfolding effect free_effect
from_free zero lead ts r h = h
from_free (suc room) lead ts r h =
    let all = all_read room in
    let low = all_read (below room) in
    effects_down room (expr room) (list room) (expr (below room)) (list (below room)) all.exprs all.lists low.exprs low.lists lead ts r h

pub effect_complete : (room : ℕ) (lead : Lead) (e : x.Expr) (rest ts : List Kind) → IsEffect room e → EffectEnds e (first rest) → IsLed lead (first ts) → write_lead lead ts ≡ write_expr e rest
    → effect room lead ts ≡ Ok (e, rest)
effect_complete room lead e rest ts is ended led same = from_free room lead ts (e, rest) (free_complete room lead e rest ts is ended led same)

pub effect_sound : (room : ℕ) (lead : Lead) (ts : List Kind) (r : x.Expr × List Kind) → IsLed lead (first ts) → effect room lead ts ≡ Ok r → IsEffectRead room (write_lead lead ts) r
effect_sound room lead ts r led h = free_sound room lead ts r led (to_free room lead ts r h)

-- ---- a name at the head may have been read before

pub effect_flagged : (room : ℕ) (head : Text) (ts : List Kind) → effect (suc room) Nothing (kind.Ident head ∷ ts) ≡ and_then (dotted (not (ltb room 1)) [] head ts) (λ d. effect (suc room) (Named d))
unfolding effect reader.effects
effect_flagged room head ts =
    chain_of (dotted (not (ltb room 1)) [] head ts) (reader.after_dotted room (expr room) (list room)) (reader.effect_suffixes room (expr room) (list room) (expr (below room)) (list (below room)))
    (reader.effect_end room (expr room) (list room))

pub effect_named : (room : ℕ) (head : Text) (ts : List Kind) (r : x.Expr × List Kind) → effect (suc room) Nothing (kind.Ident head ∷ ts) ≡ Ok r → and_then (dotted true [] head ts) (λ d. effect (suc room) (Named d)) ≡ Ok r
effect_named room head ts r h =
    let d = bind_ok (dotted (not (ltb room 1)) [] head ts) (λ d. effect (suc room) (Named d)) r (sym (effect_flagged room head ts) ∙ h) in
    ap (λ o. and_then o (λ d. effect (suc room) (Named d))) (any_dotted (not (ltb room 1)) [] head ts d.0 d.1) ∙ d.2
