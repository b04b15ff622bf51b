-- Reading the expressions of statements is exact in both directions.
use Rattle.std.proofs.Common.{◌≡◌, ℕ, suc, ◌≤◌, true, false, not, List, [], ◌∷◌, length, Option, Some, None, Ok, refl, ap, ◌∙◌, subst, inl, inr, arith}
use Rattle.std.proofs.lemmas.Bool.{not-true, or_right}
use Rattle.std.specs.Prelude.{IfSome}
use Rattle.std.specs.List.{AllByRecursion}
use Rattle.std.specs.Option.{option_map_or}
use Rattle.jr_base.specs.declared.text.Text.{Text}
use Rattle.jr_base.specs.declared.kind.Kind.{Kind}
use Rattle.jr_base.specs.declared.kind.Kind.TheVariants as kind
use Rattle.jr_base.specs.declared.kind.Symbol.TheVariants as y
use Rattle.jr_tree.specs.Levels.{is_literal, is_least_kind}
use Rattle.jr_tree.specs.Shape.{is_empty, level, is_least, IsShapedExpr, IsWholeExpr, IsStatementExpr, AreStatementExprs}
use Rattle.jr_tree.specs.Depth.{expr_depth, exprs_depth}
use Rattle.jr_tree.specs.Mirror.Exprs as x
use Rattle.jr_parse_laws.specs.Parsers.{first, begins_with, many, after_comma, optional}
use Rattle.jr_parse_laws.proofs.Outcomes.{bind_ok, chosen, ok_is}
use Rattle.jr_parse_starts.specs.Starts.{begins_primary, begins_effect, starts_expr, starts_effect}
use Rattle.jr_parse_expr.specs.Exprs.{Lead, Nothing, expr, effect, any_commas}
use Rattle.jr_parse_expr.specs.Writing.{write_all, write_expr, write_exprs, write_others, write_lead}
use Rattle.jr_parse_expr.specs.Follow.{EffectEnds, IsLed}
use Rattle.jr_parse_expr.proofs.Written.{longer}
use Rattle.jr_parse_expr.proofs.Beginnings.{target_tight, target_not_least, binary_low, begins_any}
use Rattle.jr_parse_expr.proofs.Followers.{Closes, ends_before}
use Rattle.jr_parse_expr.proofs.Asked.{listed}
use Rattle.jr_parse_expr.proofs.Readings.{exprs_complete, exprs_sound}
use Rattle.jr_parse_expr.proofs.EffectReads.{effect_complete, effect_sound}
use Rattle.jr_parse_defs.specs.Stmts.{condition}
use Rattle.jr_parse_defs.specs.Writing.{write_some, write_many, write_after, write_cond}
use Rattle.jr_parse_defs.proofs.Tokens.{eats}
use Rattle.jr_parse_defs.proofs.Lists.{Sound, list_read, list_sound}

-- ---- an expression that is wanted whole

pub whole : (room : ℕ) (e : x.Expr) (rest : List Kind) → IsWholeExpr e → expr_depth e ≤ room → Closes (first rest) → expr room Nothing 0 (write_expr e rest) ≡ Ok (e, rest)
whole room e rest w low c = exprs_complete room 0 Nothing e rest (write_expr e rest) (record { shaped = w.1; fits = w.0; low = low }) (ends_before 0 e (first rest) w.1 c) tt refl

pub record WholeFound (room : ℕ) (write : x.Expr → List Kind → List Kind) (ts : List Kind) (r : x.Expr × List Kind) : Type 0 where
  pub is : IsWholeExpr r.0
  pub low : expr_depth r.0 ≤ room
  pub written : ts ≡ write r.0 r.1

pub whole_sound : (room : ℕ) (ts : List Kind) (r : x.Expr × List Kind) → expr room Nothing 0 ts ≡ Ok r → WholeFound room write_expr ts r
whole_sound room ts r h =
    let found = exprs_sound room 0 Nothing ts r (omega arith) tt h in
    record { is = (found.is.fits, found.is.shaped); low = found.is.low; written = found.written }

pub closes_semicolon : Closes (Some (kind.Sym y.Semicolon))
closes_semicolon = record { cast = refl; none = refl }

pub whole_starts : (e : x.Expr) (rest : List Kind) → IsWholeExpr e → starts_expr (first (write_expr e rest)) ≡ true
whole_starts e rest w = begins_any e rest w.1 (not-true _ w.0.1)

pub condition_read : (room : ℕ) (c : x.Expr) (rest : List Kind) → IsWholeExpr c → expr_depth c ≤ room → condition room (write_cond c rest) ≡ Ok (c, rest)
condition_read room c rest w low = rw (whole room c (kind.Sym y.CloseParen ∷ rest) w low (record { cast = refl; none = refl })) refl

pub condition_sound : (room : ℕ) (ts : List Kind) (r : x.Expr × List Kind) → condition room ts ≡ Ok r → WholeFound room write_cond ts r
condition_sound room ts r h =
    let a = eats y.OpenParen ts _ r h in
    let c = bind_ok (expr room Nothing 0 a.rest) _ r a.more in
    let found = whole_sound room a.rest c.0 c.1 in
    let b = eats y.CloseParen c.0.1 _ r c.2 in
    subst (WholeFound room write_cond ts) (ok_is b.more)
    (record { is = found.is; low = found.low; written = a.written ∙ ap (λ us. kind.Sym y.OpenParen ∷ us) (found.written ∙ ap (write_expr c.0.0) b.written) })

pub any_read : (room : ℕ) (o : Option x.Expr) (rest : List Kind) → IfSome o IsWholeExpr → option_map_or expr_depth o 0 ≤ room
    → optional starts_expr (expr room Nothing 0) (write_some write_expr o (kind.Sym y.Semicolon ∷ rest)) ≡ Ok (o, kind.Sym y.Semicolon ∷ rest)
any_read room None rest w low = refl
any_read room (Some e) rest w low = rw (whole_starts e (kind.Sym y.Semicolon ∷ rest) w, whole room e (kind.Sym y.Semicolon ∷ rest) w low closes_semicolon) refl

pub record AnyFound (room : ℕ) (ts : List Kind) (r : Option x.Expr × List Kind) : Type 0 where
  pub is : IfSome r.0 IsWholeExpr
  pub low : option_map_or expr_depth r.0 0 ≤ room
  pub written : ts ≡ write_some write_expr r.0 r.1

pub any_sound : (room : ℕ) (ts : List Kind) (r : Option x.Expr × List Kind) → optional starts_expr (expr room Nothing 0) ts ≡ Ok r → AnyFound room ts r
any_sound room ts r h =
    elim (chosen (starts_expr (first ts)) _ _ _ h) [
      | inl t ↦
          (let e = bind_ok (expr room Nothing 0 ts) _ r t.1 in
          let found = whole_sound room ts e.0 e.1 in
          subst (AnyFound room ts) (ok_is e.2) (record { is = found.is; low = found.low; written = found.written }))
      | inr t ↦ subst (AnyFound room ts) (ok_is t.1) (record { is = tt; low = omega arith; written = refl })
    ]

-- ---- an expression that stands as a statement

pub effect_ends : (e : x.Expr) (o : Option Kind) → IsShapedExpr e → Closes o → EffectEnds e o
effect_ends e o s c = let all = ends_before 0 e o s c in (all.0, all.1.0)

pub led : (room : ℕ) (lead : Lead) (e : x.Expr) (rest ts : List Kind) → IsStatementExpr e → expr_depth e ≤ room → Closes (first rest) → IsLed lead (first ts) → write_lead lead ts ≡ write_expr e rest
    → effect room lead ts ≡ Ok (e, rest)
led room lead e rest ts is low c fits same = effect_complete room lead e rest ts (record { is = is; low = low }) (effect_ends e (first rest) is.1 c) fits same

pub plain : (room : ℕ) (e : x.Expr) (rest : List Kind) → IsStatementExpr e → expr_depth e ≤ room → Closes (first rest) → effect room Nothing (write_expr e rest) ≡ Ok (e, rest)
plain room e rest is low c = led room Nothing e rest (write_expr e rest) is low c tt refl

-- what begins one

effect_name : (parts : List Text) (ts : List Kind) → not (is_empty parts) ≡ true → starts_effect (first (write_all parts ts)) ≡ true
effect_name [] ts h = absurd (cc)
effect_name (part ∷ parts) ts h = refl

effect_literal : (token : Kind) → is_literal token ≡ true → is_least_kind token ≡ false → begins_effect token ≡ true
effect_literal (kind.Word w) h g = or_right (begins_primary w) _ (rw h refl)
effect_literal (kind.Ident name) h g = absurd (cc)
effect_literal (kind.Sym s) h g = absurd (cc)
effect_literal kind.IntMin h g = absurd (cc)
effect_literal kind.LongMin h g = absurd (cc)
effect_literal token h g = refl

tight_starts : (e : x.Expr) (rest : List Kind) → IsShapedExpr e → 13 ≤ level e → is_least e ≡ false → starts_effect (first (write_expr e rest)) ≡ true
tight_starts (x.Assign target op value) rest s t l = absurd (omega arith)
tight_starts (x.Cond c a b) rest s t l = absurd (omega arith)
tight_starts (x.Binary left op right) rest s t l = absurd (let b = binary_low op in omega arith)
tight_starts (x.IsA value ty) rest s t l = absurd (omega arith)
tight_starts (x.Unary op value) rest s t l = absurd (omega arith)
tight_starts (x.Cast ty value) rest s t l = absurd (omega arith)
tight_starts (x.PreStep op value) rest s t l = absurd (omega arith)
tight_starts (x.PostStep value op) rest s t l = tight_starts value (kind.Sym op ∷ rest) s.2 s.1.0 (not-true _ s.1.1)
tight_starts (x.Lit token) rest s t l = effect_literal token s l
tight_starts (x.This None) rest s t l = refl
tight_starts (x.This (Some n)) rest s t l = effect_name n.parts _ s
tight_starts (x.Paren inner) rest s t l = refl
tight_starts (x.NameExpr n) rest s t l = effect_name n.parts rest s
tight_starts (x.Select object name) rest s t l = let near : 14 ≤ level object = s.0.0.0 in tight_starts object _ s.1 (omega arith) (not-true _ s.0.0.1)
tight_starts (x.SuperSelect name) rest s t l = refl
tight_starts (x.Index array at) rest s t l = let near : 14 ≤ level array = s.0.0.0 in tight_starts array _ s.1 (omega arith) (not-true _ s.0.0.1)
tight_starts (x.Call x.no_receiver name args) rest s t l = refl
tight_starts (x.Call (x.a_receiver (x.Of object)) name args) rest s t l = let near : 14 ≤ level object = s.0.0.0.0 in tight_starts object _ s.0.1 (omega arith) (not-true _ s.0.0.0.1)
tight_starts (x.Call (x.a_receiver (x.OfName n)) name args) rest s t l = effect_name n.parts _ s.0
tight_starts (x.Call (x.a_receiver x.Super) name args) rest s t l = refl
tight_starts (x.New class args) rest s t l = refl
tight_starts (x.NewArray element dims more list) rest s t l = refl

pub effect_starts : (e : x.Expr) (rest : List Kind) → IsStatementExpr e → starts_effect (first (write_expr e rest)) ≡ true
effect_starts (x.Assign target op value) rest s = let t = target_tight target s.1.1 in tight_starts target _ s.1.2 (omega arith) (target_not_least target s.1.1)
effect_starts (x.PreStep y.PlusPlus value) rest s = refl
effect_starts (x.PreStep y.MinusMinus value) rest s = refl
effect_starts (x.PreStep _ value) rest s = absurd (let h = s.1.0 in cc)
effect_starts (x.PostStep value op) rest s = tight_starts (x.PostStep value op) rest s.1 (omega arith) refl
effect_starts (x.Call object name args) rest s = tight_starts (x.Call object name args) rest s.1 (omega arith) refl
effect_starts (x.New class args) rest s = refl
effect_starts e rest s = absurd (let h = s.0 in cc)

-- ---- several, with commas

pub record EffectFound (room : ℕ) (ts : List Kind) (r : x.Expr × List Kind) : Type 0 where
  pub is : IsStatementExpr r.0
  pub low : expr_depth r.0 ≤ room
  pub written : ts ≡ write_expr r.0 r.1

pub found_effect : (room : ℕ) (lead : Lead) (ts : List Kind) (r : x.Expr × List Kind) → IsLed lead (first ts) → effect room lead ts ≡ Ok r → EffectFound room (write_lead lead ts) r
found_effect room lead ts r fits h = let found = effect_sound room lead ts r fits h in record { is = found.is.is; low = found.is.low; written = found.written }

abbrev pub Fits : ℕ → x.Expr → Type 0
Fits room e = IsStatementExpr e × (expr_depth e ≤ room)

pub later_sound : (room : ℕ) → Sound (Fits room) (write_after write_expr) (after_comma (effect room Nothing))
later_sound room ts r h =
    let a = eats y.Comma ts _ r h in
    let found = found_effect room Nothing a.rest r tt a.more in
    ((found.is, found.low), a.written ∙ ap (λ us. kind.Sym y.Comma ∷ us) found.written)

pub later_longer : (room : ℕ) (e : x.Expr) (rest : List Kind) → Fits room e → suc (length rest) ≤ length (write_after write_expr e rest)
later_longer room e rest is = let l = longer e rest in omega arith

closes_comma : (o : Option Kind) → begins_with y.Comma o ≡ true → Closes o
closes_comma None h = absurd (cc)
closes_comma (Some (kind.Sym y.Comma)) h = record { cast = refl; none = refl }
closes_comma (Some token) h = absurd (cc)

fits_all : (room : ℕ) (all : x.Exprs) → AreStatementExprs all → exprs_depth all ≤ room → AllByRecursion (Fits room) (listed all)
fits_all room x.no_exprs s low = tt
fits_all room (x.more_exprs e all) s low = ((s.0, omega arith), fits_all room all s.1 (omega arith))

all_fit : (room : ℕ) (all : List x.Expr) → AllByRecursion (Fits room) all → AreStatementExprs (x.exprs all) × (exprs_depth (x.exprs all) ≤ room)
all_fit room [] h = (tt, omega arith)
all_fit room (e ∷ all) h =
    let more = all_fit room all h.1 in
    let low : expr_depth e ≤ room = h.0.1 in
    let others : exprs_depth (x.exprs all) ≤ room = more.1 in
    ((h.0.0, more.0), omega arith)

many_others : (all : x.Exprs) (rest : List Kind) → write_others all rest ≡ write_many (write_after write_expr) (listed all) rest
many_others x.no_exprs rest = refl
many_others (x.more_exprs e all) rest = ap (λ ts. kind.Sym y.Comma ∷ write_expr e ts) (many_others all rest)

others_many : (all : List x.Expr) (rest : List Kind) → write_many (write_after write_expr) all rest ≡ write_others (x.exprs all) rest
others_many [] rest = refl
others_many (e ∷ all) rest = ap (λ ts. kind.Sym y.Comma ∷ write_expr e ts) (others_many all rest)

pub later_read : (room : ℕ) (all : x.Exprs) (rest : List Kind) → AreStatementExprs all → exprs_depth all ≤ room → begins_with y.Comma (first rest) ≡ false → Closes (first rest)
    → many (begins_with y.Comma) (after_comma (effect room Nothing)) (write_others all rest) ≡ Ok (listed all, rest)
later_read room all rest s low over c =
    ap (many (begins_with y.Comma) (after_comma (effect room Nothing))) (many_others all rest)
    ∙ list_read (begins_with y.Comma) (after_comma (effect room Nothing)) refl (Fits room) (write_after write_expr) (later_sound room) (later_longer room) Closes closes_comma (λ e rest is. refl)
    (λ e rest is c. plain room e rest is.0 is.1 c) (listed all) rest (fits_all room all s low) over c

pub closes_others : (all : x.Exprs) (rest : List Kind) → Closes (first rest) → Closes (first (write_others all rest))
closes_others x.no_exprs rest c = c
closes_others (x.more_exprs e all) rest c = record { cast = refl; none = refl }

pub record EffectsFound (room : ℕ) (write : x.Exprs → List Kind → List Kind) (ts : List Kind) (r : List x.Expr × List Kind) : Type 0 where
  pub is : AreStatementExprs (x.exprs r.0)
  pub low : exprs_depth (x.exprs r.0) ≤ room
  pub written : ts ≡ write (x.exprs r.0) r.1

pub later_found : (room : ℕ) (ts : List Kind) (r : List x.Expr × List Kind) → many (begins_with y.Comma) (after_comma (effect room Nothing)) ts ≡ Ok r → EffectsFound room write_others ts r
later_found room ts r h =
    let found = list_sound (begins_with y.Comma) (after_comma (effect room Nothing)) refl (Fits room) (write_after write_expr) (later_sound room) (later_longer room) ts r h in
    let fit = all_fit room r.0 found.are in
    record { is = fit.0; low = fit.1; written = found.written ∙ others_many r.0 r.1 }

pub updates_read : (room : ℕ) (all : x.Exprs) (rest : List Kind) → AreStatementExprs all → exprs_depth all ≤ room
    → any_commas starts_effect (effect room Nothing) (write_exprs all (kind.Sym y.CloseParen ∷ rest)) ≡ Ok (listed all, kind.Sym y.CloseParen ∷ rest)
updates_read room x.no_exprs rest s low = refl
updates_read room (x.more_exprs e all) rest s low =
    let ts = write_others all (kind.Sym y.CloseParen ∷ rest) in
    rw (
      effect_starts e ts s.0,
      plain room e ts s.0 (omega arith) (closes_others all (kind.Sym y.CloseParen ∷ rest) (record { cast = refl; none = refl })),
      later_read room all (kind.Sym y.CloseParen ∷ rest) s.1 (omega arith) refl (record { cast = refl; none = refl }),
    ) refl

pub updates_sound : (room : ℕ) (ts : List Kind) (r : List x.Expr × List Kind) → any_commas starts_effect (effect room Nothing) ts ≡ Ok r → EffectsFound room write_exprs ts r
updates_sound room ts r h =
    elim (chosen (starts_effect (first ts)) _ _ _ h) [
      | inl t ↦
          (let e = bind_ok (effect room Nothing ts) _ r t.1 in
          let one = found_effect room Nothing ts e.0 tt e.1 in
          let all = bind_ok (many (begins_with y.Comma) (after_comma (effect room Nothing)) e.0.1) _ r e.2 in
          let others = later_found room e.0.1 all.0 all.1 in
          let low = one.low in
          let low_others : exprs_depth (x.exprs all.0.0) ≤ room = others.low in
          subst (EffectsFound room write_exprs ts) (ok_is all.2) (record { is = (one.is, others.is); low = omega arith; written = one.written ∙ ap (write_expr e.0.0) others.written }))
      | inr t ↦ subst (EffectsFound room write_exprs ts) (ok_is t.1) (record { is = tt; low = omega arith; written = refl })
    ]
