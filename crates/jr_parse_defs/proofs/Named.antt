-- Reading a statement from a name on, which is a declaration, a label or an expression, is exact in both directions.
use Rattle.std.proofs.Common.{◌≡◌, ℕ, zero, suc, ◌≤◌, Bool, true, false, not, ltb, ◌||◌, List, [], ◌∷◌, ◌++◌, Ok, refl, sym, ap, ◌∙◌, subst, inl, inr, arith}
use Rattle.std.proofs.lemmas.Bool.{le-ltb}
use Rattle.jr_base.specs.declared.text.Text.{Text}
use Rattle.jr_base.specs.declared.kind.Kind.{Kind}
use Rattle.jr_base.specs.declared.kind.Kind.TheVariants as kind
use Rattle.jr_base.specs.declared.kind.Symbol.TheVariants as y
use Rattle.jr_base.specs.declared.kind.Keyword.TheVariants as k
use Rattle.jr_tree.specs.declared.tree.Name.{Name}
use Rattle.jr_tree.specs.declared.tree.Base.TheVariants as base
use Rattle.jr_tree.specs.declared.tree.TypeUse.{TypeUse}
use Rattle.jr_tree.specs.Shape.{IsTypeUse, IsStatementExpr}
use Rattle.jr_tree.specs.Depth.{expr_depth}
use Rattle.jr_tree.specs.Mirror.Exprs as x
use Rattle.jr_tree.specs.Mirror.Stmts as s
use Rattle.jr_parse_laws.specs.Parsers.{Parser, and_then, first, is_at, begins_with}
use Rattle.jr_parse_laws.proofs.Outcomes.{bind_ok, chosen, ok_is, err_ok}
use Rattle.jr_parse_starts.specs.Starts.{starts_expr}
use Rattle.jr_parse_expr.specs.Names.{name_of, type_of, dims, Dotted, Plain, Enclosing, dotted}
use Rattle.jr_parse_expr.specs.Exprs.{Lead, Nothing, Named, Indexed, after_dotted, after_bracket, effect_suffixes, effect_end, effects, below, expr, list, effect}
use Rattle.jr_parse_expr.specs.Writing.{write_parts, write_all, write_brackets, write_type, write_expr, write_dotted, write_lead}
use Rattle.jr_parse_expr.specs.Follow.{IsLed}
use Rattle.jr_parse_expr.proofs.NameReads.{dims_read, dims_sound, dotted_name, dotted_end, dotted_sound, DottedEnds, has_parts}
use Rattle.jr_parse_expr.proofs.ExprReads.{no_level_err}
use Rattle.jr_parse_expr.proofs.EffectReads.{effect_flagged}
use Rattle.jr_parse_defs.specs.Stmts as reader
use Rattle.jr_parse_defs.specs.Writing.{write_if, write_declarators, write_stmt}
use Rattle.jr_parse_defs.specs.Follow.{StmtEnds, IsStmt}
use Rattle.jr_parse_defs.specs.Laws.{IsStmtRead}
use Rattle.jr_parse_defs.proofs.Tokens.{eats, skipped, within_sound}
use Rattle.jr_parse_defs.proofs.Variables.{AreVariables, declarators_read, declarators_sound}
use Rattle.jr_parse_defs.proofs.Expressions.{whole_starts, whole_sound, closes_semicolon, led, found_effect}

-- what the readers of a statement ask of the readers of its parts
pub record ReadsOne (room : ℕ) (declares : Bool) (read : Parser s.Stmt) : Type 0 where
  pub complete : (a : s.Stmt) (rest : List Kind) → IsStmt room declares a → StmtEnds a (first rest) → read (write_stmt a rest) ≡ Ok (a, rest)
  pub sound : (ts : List Kind) (r : s.Stmt × List Kind) → read ts ≡ Ok r → IsStmtRead room declares ts r

-- what stands before the variables
abbrev pub write_locals_front : Bool → TypeUse → List Kind → List Kind
write_locals_front b t us = write_if b (kind.Word k.Final) (write_type t us)

pub not_local : (b : Bool) → b || true ≡ true
not_local true = refl
not_local false = refl

-- ---- what an expression that begins with a name cannot go on with

pub no_name : (room : ℕ) (before : List Text) (last variable : Text) (ts : List Kind) (r : x.Expr × List Kind) → effect (suc room) (Named (Plain before last)) (kind.Ident variable ∷ ts) ≡ Ok r → ⊥
unfolding effect effects after_dotted effect_suffixes effect_end
no_name room before last variable ts r h = err_ok h

no_colon : (room : ℕ) (before : List Text) (last : Text) (ts : List Kind) (r : x.Expr × List Kind) → effect (suc room) (Named (Plain before last)) (kind.Sym y.Colon ∷ ts) ≡ Ok r → ⊥
unfolding effect effects after_dotted effect_suffixes effect_end
no_colon room before last ts r h = err_ok h

pub no_close : (room : ℕ) (n : Name) (ts : List Kind) (r : x.Expr × List Kind) → effect (suc room) (Indexed n) (kind.Sym y.CloseBracket ∷ ts) ≡ Ok r → ⊥
unfolding effect effects after_bracket
no_close room n ts r h =
    let c = bind_ok _ (effect_end room (expr room) (list room)) r h in
    let b = bind_ok _ (effect_suffixes room (expr room) (list room) (expr (below room)) (list (below room))) c.0 c.1 in
    let a = bind_ok (expr (below room) Nothing 0 (kind.Sym y.CloseBracket ∷ ts)) _ b.0 b.1 in
    let found = whole_sound (below room) (kind.Sym y.CloseBracket ∷ ts) a.0 a.1 in
    let starts : starts_expr (first (kind.Sym y.CloseBracket ∷ ts)) ≡ true = subst (λ ts. starts_expr (first ts) ≡ true) (sym found.written) (whole_starts a.0.0 a.0.1 found.is) in
    cc

-- the expression's name is read whole, and the rest of it then
pub record NameRead (room : ℕ) (head : Text) (us : List Kind) (e : x.Expr) (rest : List Kind) : Type 0 where
  pub d : Dotted
  pub ts : List Kind
  pub front : dotted (reader.has_this (suc room)) [] head us ≡ Ok (d, ts)
  pub written : write_dotted d ts ≡ write_expr e rest
  pub ended : DottedEnds d (first ts)
  pub more : effect (suc room) (Named d) ts ≡ Ok (e, rest)

same_flag : (room : ℕ) → not (ltb room 1) ≡ reader.has_this (suc room)
same_flag zero = refl
same_flag (suc room) = rw (le-ltb (suc room) 1 (omega arith), le-ltb (suc (suc room)) 2 (omega arith)) refl

pub name_first : (room : ℕ) (head : Text) (us : List Kind) (e : x.Expr) (rest : List Kind) → kind.Ident head ∷ us ≡ write_expr e rest → effect (suc room) Nothing (kind.Ident head ∷ us) ≡ Ok (e, rest) → NameRead room head us e rest
name_first room head us e rest same h =
    let d = bind_ok (dotted (not (ltb room 1)) [] head us) (λ d. effect (suc room) (Named d)) (e, rest) (sym (effect_flagged room head us) ∙ h) in
    let found = dotted_sound (not (ltb room 1)) [] head us d.0 d.1 in
    record { d = d.0.0; ts = d.0.1; front = ap (λ b. dotted b [] head us) (sym (same_flag room)) ∙ d.1; written = sym found.written ∙ same; ended = found.ended; more = d.2 }

module _ (room : ℕ) (inner outer : Parser s.Stmt) where
  evaluated_by : (lead : Lead) (ts : List Kind) (e : x.Expr) (rest : List Kind) → effect room lead ts ≡ Ok (e, kind.Sym y.Semicolon ∷ rest) → reader.evaluated room inner outer lead ts ≡ Ok (s.Eval e, rest)
  evaluated_by lead ts e rest h = rw h refl

  pub evaluated_sound : (declares : Bool) (lead : Lead) (ts : List Kind) (r : s.Stmt × List Kind) → IsLed lead (first ts) → reader.evaluated room inner outer lead ts ≡ Ok r → IsStmtRead (suc room) declares (write_lead lead ts) r
  evaluated_sound declares lead ts r fits h =
      let e = bind_ok (effect room lead ts) _ r h in
      let found = found_effect room lead ts e.0 fits e.1 in
      let low = found.low in
      let a = eats y.Semicolon e.0.1 _ r e.2 in
      subst (IsStmtRead (suc room) declares (write_lead lead ts)) (ok_is a.more)
      (record { is = record { shaped = found.is; allowed = not_local declares; low = omega arith }; written = found.written ∙ ap (write_expr e.0.0) a.written; ended = tt })

  pub local_read : (b : Bool) (t : TypeUse) (ds : List s.Declarator) (rest : List Kind) → AreVariables room ds → reader.local room inner outer b t (write_declarators ds (kind.Sym y.Semicolon ∷ rest)) ≡ Ok (s.Local b t ds, rest)
  local_read b t ds rest are = rw (declarators_read room ds rest are) refl

  pub local_sound : (declares b : Bool) (t : TypeUse) (ts : List Kind) (r : s.Stmt × List Kind) → declares ≡ true → IsTypeUse t → reader.local room inner outer b t ts ≡ Ok r → IsStmtRead (suc room) declares (write_locals_front b t ts) r
  local_sound declares b t ts r may is h =
      let ds = bind_ok (reader.declarators room ts) _ r h in
      let found = declarators_sound room ts ds.0 ds.1 in
      let a = eats y.Semicolon ds.0.1 _ r ds.2 in
      let low = found.are.2 in
      subst (IsStmtRead (suc room) declares (write_locals_front b t ts)) (ok_is a.more)
      (record {
        is = record { shaped = (is, found.are.0, found.are.1); allowed = rw may refl; low = omega arith };
        written = ap (write_locals_front b t) (found.written ∙ ap (write_declarators ds.0.0) a.written);
        ended = tt;
      })

  -- behind a name and an open bracket
  bracketed_by : (before : List Text) (last : Text) (ts : List Kind) (e : x.Expr) (rest : List Kind) → ((us : List Kind) → ts ≡ kind.Sym y.CloseBracket ∷ us → ⊥)
      → effect room (Indexed (name_of (before ++ last ∷ []))) ts ≡ Ok (e, kind.Sym y.Semicolon ∷ rest) → reader.bracketed room inner outer before last ts ≡ Ok (s.Eval e, rest)
  bracketed_by before last [] e rest never h = evaluated_by (Indexed (name_of (before ++ last ∷ []))) [] e rest h
  bracketed_by before last (kind.Sym y.CloseBracket ∷ ts) e rest never h = absurd (never ts refl)
  bracketed_by before last (token ∷ ts) e rest never h = evaluated_by (Indexed (name_of (before ++ last ∷ []))) (token ∷ ts) e rest h

  labeled_sound : ReadsOne room false inner → (declares : Bool) (label : Text) (ts : List Kind) (r : s.Stmt × List Kind) → reader.labeled room inner outer label ts ≡ Ok r
      → IsStmtRead (suc room) declares (kind.Ident label ∷ kind.Sym y.Colon ∷ ts) r
  labeled_sound reads declares label ts r h =
      let a = bind_ok (inner ts) _ r h in
      let found = reads.sound ts a.0 a.1 in
      let low = found.is.low in
      subst (IsStmtRead (suc room) declares (kind.Ident label ∷ kind.Sym y.Colon ∷ ts)) (ok_is a.2)
      (record {
        is = record { shaped = (found.is.allowed, found.is.shaped); allowed = not_local declares; low = omega arith };
        written = ap (λ us. kind.Ident label ∷ kind.Sym y.Colon ∷ us) found.written;
        ended = found.ended;
      })

  -- ---- what is read is written

  bracketed_sound : (before : List Text) (last : Text) (ts : List Kind) (r : s.Stmt × List Kind) → reader.bracketed room inner outer before last ts ≡ Ok r
      → IsStmtRead (suc room) true (write_all (before ++ last ∷ []) (kind.Sym y.OpenBracket ∷ ts)) r
  bracketed_sound before last ts r h =
      elim (chosen (is_at y.CloseBracket ts) _ _ _ h) [
        | inl t ↦
            (let a = skipped y.CloseBracket _ ts r t.0 t.1 in
            let n = bind_ok (dims a.0) _ r a.2 in
            let found = dims_sound a.0 n.0 n.1 in
            let ty = type_of (base.Named (name_of (before ++ last ∷ []))) (suc n.0.0) in
            let made = local_sound true false ty n.0.1 r refl (has_parts before last) n.2 in
            subst (λ ts. IsStmtRead (suc room) true (write_all (before ++ last ∷ []) (kind.Sym y.OpenBracket ∷ ts)) r)
            (sym (a.1 ∙ ap (λ us. kind.Sym y.CloseBracket ∷ us) found.0)) made)
        | inr t ↦ evaluated_sound true (Indexed (name_of (before ++ last ∷ []))) ts r (has_parts before last) t.1
      ]

  pub named_sound : ReadsOne room false inner → (declares : Bool) (d : Dotted) (ts : List Kind) (r : s.Stmt × List Kind) → DottedEnds d (first ts) → reader.named room inner outer declares d ts ≡ Ok r
      → IsStmtRead (suc room) declares (write_dotted d ts) r
  unfolding reader.named
  named_sound reads declares (Enclosing before last) ts r ended h = evaluated_sound declares (Named (Enclosing before last)) ts r tt h
  named_sound reads declares (Plain before last) [] r ended h = evaluated_sound declares (Named (Plain before last)) [] r ended h
  named_sound reads true (Plain before last) (kind.Ident variable ∷ ts) r ended h =
      let ty = type_of (base.Named (name_of (before ++ last ∷ []))) 0 in
      local_sound true false ty (kind.Ident variable ∷ ts) r refl (has_parts before last) h
  named_sound reads true (Plain before last) (kind.Sym y.OpenBracket ∷ ts) r ended h = bracketed_sound before last ts r h
  named_sound reads false (Plain before last) (kind.Sym y.OpenBracket ∷ ts) r ended h = evaluated_sound false (Indexed (name_of (before ++ last ∷ []))) ts r (has_parts before last) (within_sound room 3 _ _ r h)
  named_sound reads true (Plain [] last) (kind.Sym y.Colon ∷ ts) r ended h = labeled_sound reads true last ts r (within_sound room 1 _ _ r h)
  named_sound reads false (Plain [] last) (kind.Sym y.Colon ∷ ts) r ended h = labeled_sound reads false last ts r (within_sound room 1 _ _ r h)
  named_sound reads true (Plain before last) (token ∷ ts) r ended h = evaluated_sound true (Named (Plain before last)) (token ∷ ts) r ended h
  named_sound reads false (Plain before last) (token ∷ ts) r ended h = evaluated_sound false (Named (Plain before last)) (token ∷ ts) r ended h

-- what is read in brackets behind a name has a level, and two are round it
no_part : (room : ℕ) (n : Name) (ts : List Kind) (r : x.Expr × List Kind) → below room ≡ 0 → effect (suc room) (Indexed n) ts ≡ Ok r → ⊥
unfolding effect effects after_bracket expr
no_part room n ts r none h =
    let c = bind_ok _ (effect_end room (expr room) (list room)) r h in
    let b = bind_ok _ (effect_suffixes room (expr room) (list room) (expr (below room)) (list (below room))) c.0 c.1 in
    let a = bind_ok (expr (below room) Nothing 0 ts) _ b.0 b.1 in
    no_level_err starts_expr ts a.0 (subst (λ room. expr room Nothing 0 ts ≡ Ok a.0) none a.1)

room_in_brackets : (room : ℕ) (n : Name) (ts : List Kind) (r : x.Expr × List Kind) → effect room (Indexed n) ts ≡ Ok r → 3 ≤ room
unfolding effect
room_in_brackets zero n ts r h = absurd (no_level_err starts_expr ts r h)
room_in_brackets (suc zero) n ts r h = absurd (no_part 0 n ts r refl h)
room_in_brackets (suc (suc zero)) n ts r h = absurd (no_part 1 n ts r refl h)
room_in_brackets (suc (suc (suc room))) n ts r h = omega arith

-- ---- what is written is read

module _ (room : ℕ) (inner outer : Parser s.Stmt) (reads : ReadsOne (suc room) false inner) where
  from_bracket : (before : List Text) (last : Text) (ts : List Kind) (e : x.Expr) (rest : List Kind) → IsStatementExpr e → expr_depth e ≤ suc room
      → write_all (before ++ last ∷ []) (kind.Sym y.OpenBracket ∷ ts) ≡ write_expr e (kind.Sym y.Semicolon ∷ rest) → effect (suc room) (Indexed (name_of (before ++ last ∷ []))) ts ≡ Ok (e, kind.Sym y.Semicolon ∷ rest)
  from_bracket before last ts e rest is low same = led (suc room) (Indexed (name_of (before ++ last ∷ []))) e (kind.Sym y.Semicolon ∷ rest) ts is low closes_semicolon (has_parts before last) same

  dotted_read : (declares : Bool) (d : Dotted) (ts : List Kind) (e : x.Expr) (rest : List Kind) → IsStatementExpr e → expr_depth e ≤ suc room → write_dotted d ts ≡ write_expr e (kind.Sym y.Semicolon ∷ rest)
      → effect (suc room) (Named d) ts ≡ Ok (e, kind.Sym y.Semicolon ∷ rest) → reader.named (suc room) inner outer declares d ts ≡ Ok (s.Eval e, rest)
  unfolding reader.named
  dotted_read declares (Enclosing before last) ts e rest is low same h = evaluated_by (suc room) inner outer (Named (Enclosing before last)) ts e rest h
  dotted_read declares (Plain before last) [] e rest is low same h = evaluated_by (suc room) inner outer (Named (Plain before last)) [] e rest h
  dotted_read declares (Plain before last) (kind.Ident variable ∷ ts) e rest is low same h = absurd (no_name room before last variable ts _ h)
  dotted_read declares (Plain before last) (kind.Sym y.Colon ∷ ts) e rest is low same h = absurd (no_colon room before last ts _ h)
  dotted_read true (Plain before last) (kind.Sym y.OpenBracket ∷ ts) e rest is low same h =
      let n = name_of (before ++ last ∷ []) in
      let read = from_bracket before last ts e rest is low same in
      bracketed_by (suc room) inner outer before last ts e rest (λ us g. no_close room n us _ (ap (effect (suc room) (Indexed n)) (sym g) ∙ read)) read
  dotted_read false (Plain before last) (kind.Sym y.OpenBracket ∷ ts) e rest is low same h =
      let n = name_of (before ++ last ∷ []) in
      let read = from_bracket before last ts e rest is low same in
      let some = room_in_brackets (suc room) n ts _ read in
      rw (le-ltb (suc room) 3 some) (evaluated_by (suc room) inner outer (Indexed n) ts e rest read)
  dotted_read true (Plain before last) (token ∷ ts) e rest is low same h = evaluated_by (suc room) inner outer (Named (Plain before last)) (token ∷ ts) e rest h
  dotted_read false (Plain before last) (token ∷ ts) e rest is low same h = evaluated_by (suc room) inner outer (Named (Plain before last)) (token ∷ ts) e rest h

  -- an expression
  pub named_read : (declares : Bool) (head : Text) (us : List Kind) (e : x.Expr) (rest : List Kind) → IsStatementExpr e → expr_depth e ≤ suc room → kind.Ident head ∷ us ≡ write_expr e (kind.Sym y.Semicolon ∷ rest)
      → and_then (dotted (reader.has_this (suc room)) [] head us) (reader.named (suc room) inner outer declares) ≡ Ok (s.Eval e, rest)
  named_read declares head us e rest is low same =
      let n = name_first room head us e (kind.Sym y.Semicolon ∷ rest) same (led (suc room) Nothing e (kind.Sym y.Semicolon ∷ rest) (kind.Ident head ∷ us) is low closes_semicolon tt same) in
      rw n.front (dotted_read declares n.d n.ts e rest is low n.written n.more)

  -- a label
  pub label_read : (declares : Bool) (label : Text) (body : s.Stmt) (rest : List Kind) → IsStmt (suc room) false body → StmtEnds body (first rest)
      → and_then (dotted (reader.has_this (suc room)) [] label (kind.Sym y.Colon ∷ write_stmt body rest)) (reader.named (suc room) inner outer declares) ≡ Ok (s.Labeled label body, rest)
  unfolding reader.named
  label_read true label body rest is ended = rw (dotted_end _ [] label (kind.Sym y.Colon ∷ write_stmt body rest) refl, le-ltb (suc room) 1 (omega arith), reads.complete body rest is ended) refl
  label_read false label body rest is ended = rw (dotted_end _ [] label (kind.Sym y.Colon ∷ write_stmt body rest) refl, le-ltb (suc room) 1 (omega arith), reads.complete body rest is ended) refl

-- a declaration of variables of a class's type
module _ (room : ℕ) (inner outer : Parser s.Stmt) where
  variable_read : (n : Name) (before : List Text) (last : Text) (pairs : ℕ) (ds : List s.Declarator) (rest : List Kind) → AreVariables room ds → name_of (before ++ last ∷ []) ≡ n
      → reader.named room inner outer true (Plain before last) (write_brackets pairs (write_declarators ds (kind.Sym y.Semicolon ∷ rest))) ≡ Ok (s.Local false (type_of (base.Named n) pairs) ds, rest)
  unfolding reader.named
  variable_read n before last pairs [] rest are same = absurd (let h = are.0 in cc)
  variable_read n before last zero (s.DeclaratorOf v p i ∷ ds) rest are same =
      local_read room inner outer false _ (s.DeclaratorOf v p i ∷ ds) rest are ∙ ap (λ n. Ok (s.Local false (type_of (base.Named n) 0) (s.DeclaratorOf v p i ∷ ds), rest)) same
  variable_read n before last (suc pairs) (s.DeclaratorOf v p i ∷ ds) rest are same =
      rw (dims_read pairs (write_declarators (s.DeclaratorOf v p i ∷ ds) (kind.Sym y.Semicolon ∷ rest)) refl)
      (local_read room inner outer false _ (s.DeclaratorOf v p i ∷ ds) rest are ∙ ap (λ n. Ok (s.Local false (type_of (base.Named n) (suc pairs)) (s.DeclaratorOf v p i ∷ ds), rest)) same)

  no_dot : (pairs : ℕ) (ds : List s.Declarator) (rest : List Kind) → AreVariables room ds → begins_with y.Dot (first (write_brackets pairs (write_declarators ds (kind.Sym y.Semicolon ∷ rest)))) ≡ false
  no_dot pairs [] rest are = absurd (let h = are.0 in cc)
  no_dot zero (s.DeclaratorOf v p i ∷ ds) rest are = refl
  no_dot (suc pairs) (s.DeclaratorOf v p i ∷ ds) rest are = refl

  pub named_local_read : (b : Bool) (head : Text) (all : List Text) (pairs : ℕ) (ds : List s.Declarator) (rest : List Kind) → AreVariables room ds
      → and_then (dotted b [] head (write_parts all (write_brackets pairs (write_declarators ds (kind.Sym y.Semicolon ∷ rest))))) (reader.named room inner outer true)
      ≡ Ok (s.Local false (type_of (base.Named (name_of (head ∷ all))) pairs) ds, rest)
  named_local_read b head all pairs ds rest are =
      let d = dotted_name b [] head all (write_brackets pairs (write_declarators ds (kind.Sym y.Semicolon ∷ rest))) (no_dot pairs ds rest are) in
      rw d.read (variable_read (name_of (head ∷ all)) d.front d.last pairs ds rest are (ap name_of d.parts))
