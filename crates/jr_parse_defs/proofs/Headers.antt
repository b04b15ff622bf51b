-- Reading the header of a `for` is exact in both directions.
use Rattle.std.proofs.Common.{◌≡◌, ℕ, zero, suc, ◌≤◌, Bool, true, false, not, cond, List, [], ◌∷◌, ◌++◌, Option, Some, None, Ok, refl, sym, ap, ◌∙◌, subst, inl, inr, arith}
use Rattle.std.specs.Prelude.{IfSome}
use Rattle.std.specs.Option.{option_map_or}
use Rattle.jr_base.specs.declared.text.Text.{Text}
use Rattle.jr_base.specs.declared.kind.Kind.{Kind}
use Rattle.jr_base.specs.declared.kind.Kind.TheVariants as kind
use Rattle.jr_base.specs.declared.kind.Symbol.TheVariants as y
use Rattle.jr_base.specs.declared.kind.Keyword.TheVariants as k
use Rattle.jr_tree.specs.declared.tree.Name.{Name}
use Rattle.jr_tree.specs.declared.tree.Base.{Base}
use Rattle.jr_tree.specs.declared.tree.Base.TheVariants as base
use Rattle.jr_tree.specs.declared.tree.Primitive.TheVariants as primitive
use Rattle.jr_tree.specs.declared.tree.TypeUse.{TypeUse}
use Rattle.jr_tree.specs.Shape.{is_empty, IsBase, IsTypeUse, IsStatementExpr, AreStatementExprs, IsShapedForInit}
use Rattle.jr_tree.specs.Depth.{expr_depth, exprs_depth, for_init_depth}
use Rattle.jr_tree.specs.Mirror.Exprs as x
use Rattle.jr_tree.specs.Mirror.Stmts as s
use Rattle.jr_parse_laws.specs.Parsers.{Parser, Outcome, and_then, first, is_at, begins_with, many, after_comma}
use Rattle.jr_parse_laws.proofs.Outcomes.{bind_ok, chosen, ok_is}
use Rattle.jr_parse_starts.specs.Starts.{begins_effect, starts_effect}
use Rattle.jr_parse_expr.specs.Names.{name_of, type_of, dims, type_use, Dotted, Plain, Enclosing, dotted}
use Rattle.jr_parse_expr.specs.Exprs.{Lead, Nothing, Named, Indexed, effect}
use Rattle.jr_parse_expr.specs.Writing.{write_all, write_brackets, write_type, write_expr, write_others, write_dotted, write_lead}
use Rattle.jr_parse_expr.specs.Follow.{IsLed}
use Rattle.jr_parse_expr.proofs.NameReads.{dims_read, dims_sound, dotted_name, dotted_sound, DottedEnds, has_parts, type_sound}
use Rattle.jr_parse_expr.proofs.Asked.{exprs_listed, depth_pos}
use Rattle.jr_parse_defs.specs.Begins.{begins_local}
use Rattle.jr_parse_defs.specs.Stmts as reader
use Rattle.jr_parse_defs.specs.Writing.{write_some, write_for_init, write_if, write_declarators}
use Rattle.jr_parse_defs.proofs.Tokens.{skipped}
use Rattle.jr_parse_defs.proofs.Variables.{AreVariables, declarators_read, declarators_sound, finality_read, finality_sound, type_before}
use Rattle.jr_parse_defs.proofs.Expressions.{closes_semicolon, led, plain, effect_starts, found_effect, later_read, later_found, closes_others}
use Rattle.jr_parse_defs.proofs.Endings.{no_local_effect}
use Rattle.jr_parse_defs.proofs.Named.{write_locals_front, no_name, no_close, name_first}

-- a type before variables
pub type_of_variables : (room : ℕ) (t : TypeUse) (ds : List s.Declarator) (rest : List Kind) → IsTypeUse t → AreVariables room ds → type_use (write_type t (write_declarators ds rest)) ≡ Ok (t, write_declarators ds rest)
type_of_variables room t [] rest is are = absurd (let h = are.0 in cc)
type_of_variables room t (s.DeclaratorOf v p i ∷ ds) rest is are = type_before t v _ is

module _ (room : ℕ) (inner outer : Parser s.Stmt) where
  abbrev semi : List Kind → List Kind
  semi rest = kind.Sym y.Semicolon ∷ rest

  abbrev all_effects : x.Expr → x.Exprs → s.ForInit
  all_effects e es = s.Exprs (x.more_exprs e es)

  -- a first expression, read with what was read of it
  effects_by : (lead : Lead) (ts : List Kind) (e : x.Expr) (es : x.Exprs) (rest : List Kind) → effect room lead ts ≡ Ok (e, write_others es (semi rest)) → AreStatementExprs es → exprs_depth es ≤ room
      → reader.first_effects room inner outer lead ts ≡ Ok (all_effects e es, semi rest)
  effects_by lead ts e es rest h is low = rw (h, later_read room es (semi rest) is low refl closes_semicolon) (ap (λ es. Ok (all_effects e es, semi rest)) (exprs_listed es))

  locals_by : (b : Bool) (t : TypeUse) (ds : List s.Declarator) (rest : List Kind) → AreVariables room ds → reader.locals room inner outer b t (write_declarators ds (semi rest)) ≡ Ok (s.Locals b t ds, semi rest)
  locals_by b t ds rest are = rw (declarators_read room ds rest are) refl

  -- ---- what was read

  pub record InitFound (ts : List Kind) (r : s.ForInit × List Kind) : Type 0 where
    pub shaped : IsShapedForInit r.0
    pub low : for_init_depth r.0 ≤ room
    pub written : ts ≡ write_for_init r.0 r.1

  effects_sound : (lead : Lead) (ts : List Kind) (r : s.ForInit × List Kind) → IsLed lead (first ts) → reader.first_effects room inner outer lead ts ≡ Ok r → InitFound (write_lead lead ts) r
  effects_sound lead ts r fits h =
      let e = bind_ok (effect room lead ts) _ r h in
      let one = found_effect room lead ts e.0 fits e.1 in
      let all = bind_ok (many (begins_with y.Comma) (after_comma (effect room Nothing)) e.0.1) _ r e.2 in
      let others = later_found room e.0.1 all.0 all.1 in
      let low = one.low in
      let low_others : exprs_depth (x.exprs all.0.0) ≤ room = others.low in
      subst (InitFound (write_lead lead ts)) (ok_is all.2) (record { shaped = (refl, (one.is, others.is)); low = omega arith; written = one.written ∙ ap (write_expr e.0.0) others.written })

  locals_sound : (b : Bool) (t : TypeUse) (ts : List Kind) (r : s.ForInit × List Kind) → IsTypeUse t → reader.locals room inner outer b t ts ≡ Ok r → InitFound (write_locals_front b t ts) r
  locals_sound b t ts r is h =
      let ds = bind_ok (reader.declarators room ts) _ r h in
      let found = declarators_sound room ts ds.0 ds.1 in
      subst (InitFound (write_locals_front b t ts)) (ok_is ds.2)
      (record { shaped = (is, found.are.0, found.are.1); low = found.are.2; written = ap (write_locals_front b t) found.written })

  bracketed_sound : (before : List Text) (last : Text) (ts : List Kind) (r : s.ForInit × List Kind) → reader.first_bracketed room inner outer before last ts ≡ Ok r
      → InitFound (write_all (before ++ last ∷ []) (kind.Sym y.OpenBracket ∷ ts)) r
  bracketed_sound before last ts r h =
      elim (chosen (is_at y.CloseBracket ts) _ _ _ h) [
        | inl t ↦
            (let a = skipped y.CloseBracket _ ts r t.0 t.1 in
            let n = bind_ok (dims a.0) _ r a.2 in
            let found = dims_sound a.0 n.0 n.1 in
            let made = locals_sound false (type_of (base.Named (name_of (before ++ last ∷ []))) (suc n.0.0)) n.0.1 r (has_parts before last) n.2 in
            subst (λ ts. InitFound (write_all (before ++ last ∷ []) (kind.Sym y.OpenBracket ∷ ts)) r) (sym (a.1 ∙ ap (λ us. kind.Sym y.CloseBracket ∷ us) found.0)) made)
        | inr t ↦ effects_sound (Indexed (name_of (before ++ last ∷ []))) ts r (has_parts before last) t.1
      ]

  named_sound : (d : Dotted) (ts : List Kind) (r : s.ForInit × List Kind) → DottedEnds d (first ts) → reader.first_named room inner outer d ts ≡ Ok r → InitFound (write_dotted d ts) r
  unfolding reader.first_named
  named_sound (Enclosing before last) ts r ended h = effects_sound (Named (Enclosing before last)) ts r tt h
  named_sound (Plain before last) [] r ended h = effects_sound (Named (Plain before last)) [] r ended h
  named_sound (Plain before last) (kind.Ident variable ∷ ts) r ended h = locals_sound false (type_of (base.Named (name_of (before ++ last ∷ []))) 0) (kind.Ident variable ∷ ts) r (has_parts before last) h
  named_sound (Plain before last) (kind.Sym y.OpenBracket ∷ ts) r ended h = bracketed_sound before last ts r h
  named_sound (Plain before last) (token ∷ ts) r ended h = effects_sound (Named (Plain before last)) (token ∷ ts) r ended h

  pub record FirstFound (ts : List Kind) (r : Option s.ForInit × List Kind) : Type 0 where
    pub shaped : IfSome r.0 IsShapedForInit
    pub low : option_map_or for_init_depth r.0 0 ≤ room
    pub written : ts ≡ write_some write_for_init r.0 r.1

  some_found : (ts : List Kind) (i : s.ForInit × List Kind) (r : Option s.ForInit × List Kind) → InitFound ts i → ◌≡◌ {A = Outcome (Option s.ForInit)} (Ok (Some i.0, i.1)) (Ok r) → FirstFound ts r
  some_found ts i r found h = subst (FirstFound ts) (ok_is h) (record { shaped = found.shaped; low = found.low; written = found.written })

  typed_sound : (ts : List Kind) (r : Option s.ForInit × List Kind)
      → and_then (reader.finality ts) (λ b ts. and_then (type_use ts) (λ t ts. and_then (reader.locals room inner outer b t ts) (λ i ts. Ok (Some i, ts)))) ≡ Ok r → FirstFound ts r
  typed_sound ts r h =
      let f = bind_ok (reader.finality ts) _ r h in
      let t = bind_ok (type_use f.0.1) _ r f.2 in
      let found = type_sound f.0.1 t.0 t.1 in
      let i = bind_ok (reader.locals room inner outer f.0.0 t.0.0 t.0.1) _ r t.2 in
      let made = locals_sound f.0.0 t.0.0 t.0.1 i.0 found.is i.1 in
      subst (λ ts. FirstFound ts r) (sym (finality_sound ts f.0 f.1 ∙ ap (write_if f.0.0 (kind.Word k.Final)) found.written)) (some_found (write_locals_front f.0.0 t.0.0 t.0.1) i.0 r made i.2)

  other_sound : (token : Kind) (ts : List Kind) (r : Option s.ForInit × List Kind)
      → cond (begins_local token) (and_then (reader.finality (token ∷ ts)) (λ b ts. and_then (type_use ts) (λ t ts. and_then (reader.locals room inner outer b t ts) (λ i ts. Ok (Some i, ts)))))
      (cond (begins_effect token) (and_then (reader.first_effects room inner outer Nothing (token ∷ ts)) (λ i ts. Ok (Some i, ts))) (Ok (None, token ∷ ts))) ≡ Ok r → FirstFound (token ∷ ts) r
  other_sound token ts r h =
      elim (chosen (begins_local token) _ _ _ h) [
        | inl t ↦ typed_sound (token ∷ ts) r t.1
        | inr t ↦
            elim (chosen (begins_effect token) _ _ _ t.1) [
              | inl u ↦
                  (let i = bind_ok (reader.first_effects room inner outer Nothing (token ∷ ts)) _ r u.1 in
                  some_found (token ∷ ts) i.0 r (effects_sound Nothing (token ∷ ts) i.0 tt i.1) i.2)
              | inr u ↦ subst (FirstFound (token ∷ ts)) (ok_is u.1) (record { shaped = tt; low = omega arith; written = refl })
            ]
      ]

  pub first_sound : (ts : List Kind) (r : Option s.ForInit × List Kind) → reader.for_first room inner outer ts ≡ Ok r → FirstFound ts r
  unfolding reader.for_first
  first_sound [] r h = subst (FirstFound []) (ok_is h) (record { shaped = tt; low = omega arith; written = refl })
  first_sound (kind.Ident head ∷ ts) r h =
      let i = bind_ok (and_then (dotted (reader.has_this room) [] head ts) (reader.first_named room inner outer)) _ r h in
      let d = bind_ok (dotted (reader.has_this room) [] head ts) (reader.first_named room inner outer) i.0 i.1 in
      let found = dotted_sound (reader.has_this room) [] head ts d.0 d.1 in
      some_found (kind.Ident head ∷ ts) i.0 r (subst (λ ts. InitFound ts i.0) (sym found.written) (named_sound d.0.0 d.0.1 i.0 found.ended d.2)) i.2
  first_sound (token ∷ ts) r h = other_sound token ts r h

  -- ---- what is written is read

  variable_read : (n : Name) (before : List Text) (last : Text) (pairs : ℕ) (ds : List s.Declarator) (rest : List Kind) → AreVariables room ds → name_of (before ++ last ∷ []) ≡ n
      → reader.first_named room inner outer (Plain before last) (write_brackets pairs (write_declarators ds (semi rest))) ≡ Ok (s.Locals false (type_of (base.Named n) pairs) ds, semi rest)
  unfolding reader.first_named
  variable_read n before last pairs [] rest are same = absurd (let h = are.0 in cc)
  variable_read n before last zero (s.DeclaratorOf v p i ∷ ds) rest are same =
      locals_by false _ (s.DeclaratorOf v p i ∷ ds) rest are ∙ ap (λ n. Ok (s.Locals false (type_of (base.Named n) 0) (s.DeclaratorOf v p i ∷ ds), semi rest)) same
  variable_read n before last (suc pairs) (s.DeclaratorOf v p i ∷ ds) rest are same =
      rw (dims_read pairs (write_declarators (s.DeclaratorOf v p i ∷ ds) (semi rest)) refl)
      (locals_by false _ (s.DeclaratorOf v p i ∷ ds) rest are ∙ ap (λ n. Ok (s.Locals false (type_of (base.Named n) (suc pairs)) (s.DeclaratorOf v p i ∷ ds), semi rest)) same)

  no_dot : (pairs : ℕ) (ds : List s.Declarator) (rest : List Kind) → AreVariables room ds → begins_with y.Dot (first (write_brackets pairs (write_declarators ds (semi rest)))) ≡ false
  no_dot pairs [] rest are = absurd (let h = are.0 in cc)
  no_dot zero (s.DeclaratorOf v p i ∷ ds) rest are = refl
  no_dot (suc pairs) (s.DeclaratorOf v p i ∷ ds) rest are = refl

  typed_read : (t : TypeUse) (ds : List s.Declarator) (rest : List Kind) → IsTypeUse t → AreVariables room ds
      → and_then (reader.finality (write_type t (write_declarators ds (semi rest)))) (λ b ts. and_then (type_use ts) (λ t ts. and_then (reader.locals room inner outer b t ts) (λ i ts. Ok (Some i, ts))))
      ≡ Ok (Some (s.Locals false t ds), semi rest)
  typed_read t ds rest is are = rw (finality_read false t (write_declarators ds (semi rest)) is, type_of_variables room t ds (semi rest) is are, locals_by false t ds rest are) refl

  based_read : (b : Base) (pairs : ℕ) (ds : List s.Declarator) (rest : List Kind) → IsBase b → AreVariables room ds
      → reader.for_first room inner outer (write_for_init (s.Locals false (type_of b pairs) ds) (semi rest)) ≡ Ok (Some (s.Locals false (type_of b pairs) ds), semi rest)
  unfolding reader.for_first
  based_read (base.Primitive primitive.Boolean) pairs ds rest is are = typed_read (type_of (base.Primitive primitive.Boolean) pairs) ds rest is are
  based_read (base.Primitive primitive.Byte) pairs ds rest is are = typed_read (type_of (base.Primitive primitive.Byte) pairs) ds rest is are
  based_read (base.Primitive primitive.Short) pairs ds rest is are = typed_read (type_of (base.Primitive primitive.Short) pairs) ds rest is are
  based_read (base.Primitive primitive.Char) pairs ds rest is are = typed_read (type_of (base.Primitive primitive.Char) pairs) ds rest is are
  based_read (base.Primitive primitive.Int) pairs ds rest is are = typed_read (type_of (base.Primitive primitive.Int) pairs) ds rest is are
  based_read (base.Primitive primitive.Long) pairs ds rest is are = typed_read (type_of (base.Primitive primitive.Long) pairs) ds rest is are
  based_read (base.Named n) pairs ds rest is are = of_parts n.parts is where
    of_parts : (all : List Text) → not (is_empty all) ≡ true
        → reader.for_first room inner outer (write_all all (write_brackets pairs (write_declarators ds (semi rest)))) ≡ Ok (Some (s.Locals false (type_of (base.Named (name_of all)) pairs) ds), semi rest)
    of_parts [] some = absurd (cc)
    of_parts (head ∷ all) some =
        let d = dotted_name (reader.has_this room) [] head all (write_brackets pairs (write_declarators ds (semi rest))) (no_dot pairs ds rest are) in
        rw (d.read, variable_read (name_of (head ∷ all)) d.front d.last pairs ds rest are (ap name_of d.parts)) refl

  final_read : (t : TypeUse) (ds : List s.Declarator) (rest : List Kind) → IsTypeUse t → AreVariables room ds
      → reader.for_first room inner outer (write_for_init (s.Locals true t ds) (semi rest)) ≡ Ok (Some (s.Locals true t ds), semi rest)
  unfolding reader.for_first
  final_read t ds rest is are = rw (type_of_variables room t ds (semi rest) is are, locals_by true t ds rest are) refl

  from_named : (d : Dotted) (ts : List Kind) (e : x.Expr) (es : x.Exprs) (rest : List Kind) (m : ℕ) → room ≡ suc m → IsStatementExpr e → expr_depth e ≤ room → AreStatementExprs es → exprs_depth es ≤ room
      → write_dotted d ts ≡ write_expr e (write_others es (semi rest)) → effect room (Named d) ts ≡ Ok (e, write_others es (semi rest)) → reader.first_named room inner outer d ts ≡ Ok (all_effects e es, semi rest)
  unfolding reader.first_named
  from_named (Enclosing before last) ts e es rest m some is low are low_es same h = effects_by (Named (Enclosing before last)) ts e es rest h are low_es
  from_named (Plain before last) [] e es rest m some is low are low_es same h = effects_by (Named (Plain before last)) [] e es rest h are low_es
  from_named (Plain before last) (kind.Ident variable ∷ ts) e es rest m some is low are low_es same h =
      absurd (no_name m before last variable ts _ (subst (λ room. effect room (Named (Plain before last)) (kind.Ident variable ∷ ts) ≡ Ok (e, write_others es (semi rest))) some h))
  from_named (Plain before last) (kind.Sym y.OpenBracket ∷ ts) e es rest m some is low are low_es same h = go ts (led room (Indexed (name_of (before ++ last ∷ []))) e _ ts is low (closes_others es (semi rest) closes_semicolon) (has_parts before last) same) where
    go : (ts : List Kind) → effect room (Indexed (name_of (before ++ last ∷ []))) ts ≡ Ok (e, write_others es (semi rest)) → reader.first_bracketed room inner outer before last ts ≡ Ok (all_effects e es, semi rest)
    go [] read = effects_by (Indexed (name_of (before ++ last ∷ []))) [] e es rest read are low_es
    go (kind.Sym y.CloseBracket ∷ us) read = absurd (no_close m (name_of (before ++ last ∷ [])) us _ (subst (λ room. effect room (Indexed (name_of (before ++ last ∷ []))) (kind.Sym y.CloseBracket ∷ us) ≡ Ok (e, write_others es (semi rest))) some read))
    go (token ∷ us) read = effects_by (Indexed (name_of (before ++ last ∷ []))) (token ∷ us) e es rest read are low_es
  from_named (Plain before last) (token ∷ ts) e es rest m some is low are low_es same h = effects_by (Named (Plain before last)) (token ∷ ts) e es rest h are low_es

  pred_of : (e : x.Expr) → expr_depth e ≤ room → (m : ℕ) × (room ≡ suc m)
  pred_of e low = go room low where
    go : (n : ℕ) → expr_depth e ≤ n → (m : ℕ) × (n ≡ suc m)
    go zero l = absurd (let p = depth_pos e in omega arith)
    go (suc m) l = (m, refl)

  effects_from : (ts : List Kind) (e : x.Expr) (es : x.Exprs) (rest : List Kind) → IsStatementExpr e → expr_depth e ≤ room → AreStatementExprs es → exprs_depth es ≤ room
      → ts ≡ write_expr e (write_others es (semi rest)) → starts_effect (first ts) ≡ true → effect room Nothing ts ≡ Ok (e, write_others es (semi rest)) → reader.for_first room inner outer ts ≡ Ok (Some (all_effects e es), semi rest)
  unfolding reader.for_first
  effects_from [] e es rest is low are low_es same starts h = absurd (cc)
  effects_from (kind.Ident head ∷ us) e es rest is low are low_es same starts h =
      let m = pred_of e low in
      let n = name_first m.0 head us e _ same (subst (λ room. effect room Nothing (kind.Ident head ∷ us) ≡ Ok (e, write_others es (semi rest))) m.1 h) in
      let more = subst (λ room. effect room (Named n.d) n.ts ≡ Ok (e, write_others es (semi rest))) (sym m.1) n.more in
      let front = ap (λ room. dotted (reader.has_this room) [] head us) m.1 ∙ n.front in
      rw (front, from_named n.d n.ts e es rest m.0 m.1 is low are low_es n.written more) refl
  effects_from (token ∷ us) e es rest is low are low_es same starts h =
      ap (λ b. cond b (and_then (reader.finality (token ∷ us)) (λ b ts. and_then (type_use ts) (λ t ts. and_then (reader.locals room inner outer b t ts) (λ i ts. Ok (Some i, ts)))))
      (cond (begins_effect token) (and_then (reader.first_effects room inner outer Nothing (token ∷ us)) (λ i ts. Ok (Some i, ts))) (Ok (None, token ∷ us)))) (no_local_effect token starts)
      ∙ ap (λ b. cond b (and_then (reader.first_effects room inner outer Nothing (token ∷ us)) (λ i ts. Ok (Some i, ts))) (Ok (None, token ∷ us))) starts
      ∙ ap (λ o. and_then o (λ i ts. Ok (Some i, ts))) (effects_by Nothing (token ∷ us) e es rest h are low_es)

  pub first_read : (o : Option s.ForInit) (rest : List Kind) → IfSome o IsShapedForInit → option_map_or for_init_depth o 0 ≤ room → reader.for_first room inner outer (write_some write_for_init o (semi rest)) ≡ Ok (o, semi rest)
  unfolding reader.for_first
  first_read None rest h low = refl
  first_read (Some (s.Locals true t ds)) rest h low = final_read t ds rest h.0 (h.1, h.2, low)
  first_read (Some (s.Locals false t ds)) rest h low = based_read t.base t.dims ds rest h.0 (h.1, h.2, low)
  first_read (Some (s.Exprs x.no_exprs)) rest h low = absurd (let e = h.0 in cc)
  first_read (Some (s.Exprs (x.more_exprs e es))) rest h low =
      let one : expr_depth e ≤ room = omega arith in
      let others : exprs_depth es ≤ room = omega arith in
      let c = closes_others es (semi rest) closes_semicolon in
      effects_from (write_expr e (write_others es (semi rest))) e es rest h.1.0 one h.1.1 others refl (effect_starts e _ h.1.0) (plain room e (write_others es (semi rest)) h.1.0 one c)
