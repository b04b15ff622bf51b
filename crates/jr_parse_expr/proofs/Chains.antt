-- Reading what stands behind an operand: dots, brackets, calls and steps.
use Rattle.std.proofs.Common.{◌≡◌, ℕ, suc, ◌<◌, ◌≤◌, true, false, not, List, [], ◌∷◌, Option, Some, None, Ok, refl, sym, ap, ◌∙◌, subst, inl, inr, arith, Err}
use Rattle.std.specs.Prelude.{⊤}
use Rattle.std.proofs.lemmas.Bool.{not-true, not_from_false, lt-ltb, true≢false}
use Rattle.jr_base.specs.declared.text.Text.{Text}
use Rattle.jr_base.specs.declared.kind.Kind.{Kind}
use Rattle.jr_base.specs.declared.kind.Kind.TheVariants as kind
use Rattle.jr_base.specs.declared.kind.Symbol.{Symbol}
use Rattle.jr_base.specs.declared.kind.Symbol.TheVariants as y
use Rattle.jr_tree.specs.Shape.{level, is_name, is_new_array, is_least, IsShapedExpr}
use Rattle.jr_tree.specs.Depth.{expr_depth}
use Rattle.jr_tree.specs.Mirror.Exprs as x
use Rattle.jr_parse_laws.specs.declared.fault.Fault.{Fault}
use Rattle.jr_parse_laws.specs.Parsers.{Parser, and_then, first, symbol_of, symbol_at, is_symbol, begins_with, expect, identifier}
use Rattle.jr_parse_laws.proofs.Outcomes.{bind_ok, chosen, ok_is, some_is}
use Rattle.jr_parse_laws.proofs.Exact.{expect_sound, identifier_token}
use Rattle.jr_parse_expr.specs.Exprs.{Lead, Nothing, arguments, call_or, selected, indexed, suffix, turn, suffixes_from, suffixes, operand}
use Rattle.jr_parse_expr.specs.Writing.{write_expr, write_exprs}
use Rattle.jr_parse_expr.specs.Follow.{symbol_next, has_suffix, LastEnds}
use Rattle.jr_parse_expr.proofs.Followers.{last_ends}
use Rattle.jr_parse_expr.proofs.Loops.{Halt, stays, goes, keeps, unrolls, halts}
use Rattle.jr_parse_expr.proofs.Steps.{Suffixed, Ended, Selects, Indexes, Steps, suffix_view, suffix_none, takes_dot, takes_bracket, takes_step}
use Rattle.jr_parse_expr.proofs.Asked.{ReadsExprs, ReadsLists, Operand}
use Rattle.jr_parse_expr.proofs.Arguments.{whole_read}
use Rattle.jr_parse_expr.proofs.Operands.{call_read, access_read, call_sound, goes_on_from, operand_read}

none_some : {A : Type 0} {a : A} → None ≡ Some a → ⊥
none_some e = cc

pub at_next : (ts : List Kind) → symbol_at ts ≡ symbol_next (first ts)
at_next [] = refl
at_next (token ∷ ts) = refl

pub symbol_is_of : (token : Kind) (s : Symbol) → symbol_of token ≡ Some s → token ≡ kind.Sym s
symbol_is_of (kind.Sym t) s h = ap kind.Sym (some_is h)
symbol_is_of token s h = absurd (cc)

pub no_name_before_dot : (e : x.Expr) (token : Kind) → LastEnds e (Some token) → token ≡ kind.Sym y.Dot → is_name e ≡ false
no_name_before_dot (x.NameExpr n) token ended h = absurd (true≢false (subst (λ token. begins_with y.Dot (Some token) ≡ false) h ended.0))
no_name_before_dot e token ended h = refl

-- what binds more loosely than a step has no suffix
pub loose_free : (e : x.Expr) (o : Option Symbol) → level e ≤ 12 → has_suffix e o ≡ false
loose_free e None h = refl
loose_free e (Some y.Dot) h = rw (lt-ltb (level e) 14 (omega arith)) refl
loose_free e (Some y.OpenBracket) h = rw (lt-ltb (level e) 14 (omega arith)) refl
loose_free e (Some y.PlusPlus) h = rw (lt-ltb (level e) 13 (omega arith)) refl
loose_free e (Some y.MinusMinus) h = rw (lt-ltb (level e) 13 (omega arith)) refl
loose_free e (Some s) h = refl

module _ (room : ℕ) (inner : Lead → ℕ → Parser x.Expr) (list : Parser x.InitList) where
  -- ---- each suffix adds a level

  call_raises : (left : x.Expr) (method : Text) (ts : List Kind) (r : x.Expr × List Kind) → call_or room inner list (x.a_receiver (x.Of left)) method (x.Select left method) ts ≡ Ok r → expr_depth left < expr_depth r.0
  call_raises left method [] r h = subst (λ (r : x.Expr × List Kind). expr_depth left < expr_depth r.0) (ok_is h) (omega arith)
  call_raises left method (token ∷ ts) r h =
      elim (chosen (is_symbol y.OpenParen token) _ _ _ h) [
        | inl t ↦ (let a = bind_ok (arguments room inner list ts) _ r t.1 in subst (λ (r : x.Expr × List Kind). expr_depth left < expr_depth r.0) (ok_is a.2) (omega arith))
        | inr t ↦ subst (λ (r : x.Expr × List Kind). expr_depth left < expr_depth r.0) (ok_is t.1) (omega arith)
      ]

  select_raises : (left : x.Expr) (ts : List Kind) (r : x.Expr × List Kind) → selected room inner list left ts ≡ Ok r → expr_depth left < expr_depth r.0
  select_raises left ts r h = let a = bind_ok (identifier ts) _ r h in call_raises left a.0.0 a.0.1 r a.2

  pub index_raises : (left : x.Expr) (ts : List Kind) (r : x.Expr × List Kind) → indexed room inner list left ts ≡ Ok r → expr_depth left < expr_depth r.0
  index_raises left ts r h =
      let a = bind_ok (inner Nothing 0 ts) _ r h in
      let b = bind_ok (expect y.CloseBracket a.0.1) _ r a.2 in
      subst (λ (r : x.Expr × List Kind). expr_depth left < expr_depth r.0) (ok_is b.2) (omega arith)

  pub suffix_raises : (left : x.Expr) (o : Option Symbol) (q : Option (Parser x.Expr)) (p : Parser x.Expr) → Suffixed room inner list left o q → q ≡ Some p
      → (us : List Kind) (e : x.Expr) (rest : List Kind) → p us ≡ Ok (e, rest) → expr_depth left < expr_depth e
  suffix_raises left o q p (Ended h n) s us e rest g = absurd (none_some (sym n ∙ s))
  suffix_raises left o q p (Selects h t n) s us e rest g = select_raises left us (e, rest) (ap (λ (p : Parser x.Expr). p us) (some_is (sym n ∙ s)) ∙ g)
  suffix_raises left o q p (Indexes h t l n) s us e rest g = index_raises left us (e, rest) (ap (λ (p : Parser x.Expr). p us) (some_is (sym n ∙ s)) ∙ g)
  suffix_raises left o q p (Steps op h t l n) s us e rest g =
      subst (λ (r : x.Expr × List Kind). expr_depth left < expr_depth r.0) (ok_is (ap (λ (p : Parser x.Expr). p us) (some_is (sym n ∙ s)) ∙ g)) (omega arith)

  suffix_ended : (left : x.Expr) (o : Option Symbol) (q : Option (Parser x.Expr)) → Suffixed room inner list left o q → q ≡ None → has_suffix left o ≡ false
  suffix_ended left o q (Ended h n) s = h
  suffix_ended left o q (Selects h t n) s = absurd (none_some (sym s ∙ n))
  suffix_ended left o q (Indexes h t l n) s = absurd (none_some (sym s ∙ n))
  suffix_ended left o q (Steps op h t l n) s = absurd (none_some (sym s ∙ n))

  abbrev pub step : x.Expr → List Kind → Option (Parser x.Expr)
  step left ts = suffix room inner list left (symbol_at ts)

  pub raises : (left : x.Expr) (ts : List Kind) (p : Parser x.Expr) → step left ts ≡ Some p → (us : List Kind) (e : x.Expr) (rest : List Kind) → p us ≡ Ok (e, rest) → expr_depth left < expr_depth e
  raises left ts p s us e rest h = suffix_raises left (symbol_at ts) (step left ts) p (suffix_view room inner list left (symbol_at ts)) s us e rest h

  pub suffixes_go : (left : x.Expr) (token : Kind) (ts : List Kind) (p : Parser x.Expr) → suffix room inner list left (symbol_of token) ≡ Some p → expr_depth left ≤ room
      → suffixes room inner list left (token ∷ ts) ≡ and_then (p ts) (suffixes room inner list)
  unfolding suffixes
  suffixes_go left token ts p h low = goes room inner list step (suffixes_from room inner list) (λ left ts. refl) (λ turns left ts. refl) raises left token ts p h low

  pub suffixes_unroll : (left : x.Expr) (ts : List Kind) → suffixes room inner list left ts ≡ turn room inner list left (suffix room inner list left (symbol_at ts)) (suffixes room inner list) ts
  unfolding suffixes
  suffixes_unroll left ts = unrolls room inner list step (suffixes_from room inner list) (λ left ts. refl) (λ turns left ts. refl) raises left ts

  pub suffixes_stay : (left : x.Expr) (ts : List Kind) → has_suffix left (symbol_next (first ts)) ≡ false → suffixes room inner list left ts ≡ Ok (left, ts)
  unfolding suffixes
  suffixes_stay left ts h =
      stays room inner list step (suffixes_from room inner list) (λ left ts. refl) (λ turns left ts. refl) raises left ts
      (suffix_none room inner list left (symbol_at ts) (ap (has_suffix left) (at_next ts) ∙ h))

  module _ (reads : ReadsExprs room inner) (lists : ReadsLists room list) where
    -- ---- what is written is read

    -- from what stands in front, as head reads it
    module _ (head : Parser x.Expr) (Allowed : x.Expr → Type 0) (tight : (e : x.Expr) → 13 ≤ level e → Allowed e)
        (base : (e : x.Expr) (rest : List Kind) → IsShapedExpr e → 12 ≤ level e → is_least e ≡ false → expr_depth e ≤ suc room → LastEnds e (first rest) → goes_on_from e ≡ false → Allowed e
        → head (write_expr e rest) ≡ Ok (e, rest)) where
      pub chain_from : (e : x.Expr) (rest : List Kind) → IsShapedExpr e → 12 ≤ level e → is_least e ≡ false → expr_depth e ≤ suc room → LastEnds e (first rest) → Allowed e
          → and_then (head (write_expr e rest)) (suffixes room inner list) ≡ suffixes room inner list e rest
      chain_from (x.PostStep value y.PlusPlus) rest s t l low ended a =
          let near : 13 ≤ level value = s.1.0 in
          chain_from value (kind.Sym y.PlusPlus ∷ rest) s.2 (omega arith) (not-true _ s.1.1) (omega arith)
          (last_ends value (Some (kind.Sym y.PlusPlus)) s.2 refl near (λ n. refl) (λ n. refl)) (tight value (omega arith))
          ∙ suffixes_go value (kind.Sym y.PlusPlus) rest _ (takes_step room inner list value y.PlusPlus near refl) (omega arith)
      chain_from (x.PostStep value y.MinusMinus) rest s t l low ended a =
          let near : 13 ≤ level value = s.1.0 in
          chain_from value (kind.Sym y.MinusMinus ∷ rest) s.2 (omega arith) (not-true _ s.1.1) (omega arith)
          (last_ends value (Some (kind.Sym y.MinusMinus)) s.2 refl near (λ n. refl) (λ n. refl)) (tight value (omega arith))
          ∙ suffixes_go value (kind.Sym y.MinusMinus) rest _ (takes_step room inner list value y.MinusMinus near refl) (omega arith)
      chain_from (x.PostStep value _) rest s t l low ended a = absurd (let h = s.0 in cc)
      chain_from (x.Select object name) rest s t l low ended a =
          let near : 14 ≤ level object = s.0.0.0 in
          chain_from object (kind.Sym y.Dot ∷ kind.Ident name ∷ rest) s.1 (omega arith) (not-true _ s.0.0.1) (omega arith)
          (last_ends object (Some (kind.Sym y.Dot)) s.1 refl near (λ n. absurd (true≢false (sym n ∙ not-true _ s.0.1))) (λ n. refl)) (tight object (omega arith))
          ∙ suffixes_go object (kind.Sym y.Dot) (kind.Ident name ∷ rest) _ (takes_dot room inner list object near) (omega arith)
          ∙ ap (λ o. and_then o (suffixes room inner list)) (access_read room inner list reads lists (x.a_receiver (x.Of object)) name (x.Select object name) rest ended)
      chain_from (x.Index array at) rest s t l low ended a =
          let near : 14 ≤ level array = s.0.0.0 in
          let ts = write_expr at (kind.Sym y.CloseBracket ∷ rest) in
          chain_from array (kind.Sym y.OpenBracket ∷ ts) s.1 (omega arith) (not-true _ s.0.0.1) (omega arith)
          (last_ends array (Some (kind.Sym y.OpenBracket)) s.1 refl near (λ n. refl) (λ n. absurd (true≢false (sym n ∙ not-true _ s.0.1)))) (tight array (omega arith))
          ∙ suffixes_go array (kind.Sym y.OpenBracket) ts _ (takes_bracket room inner list array near (not-true _ s.0.1)) (omega arith)
          ∙ rw (whole_read room inner list reads at (kind.Sym y.CloseBracket ∷ rest) (record { shaped = s.3; fits = s.2; low = omega arith }) (record { cast = refl; none = refl })) refl
      chain_from (x.Call (x.a_receiver (x.Of object)) name args) rest s t l low ended a =
          let near : 14 ≤ level object = s.0.0.0.0 in
          let ts = kind.Sym y.OpenParen ∷ write_exprs args (kind.Sym y.CloseParen ∷ rest) in
          chain_from object (kind.Sym y.Dot ∷ kind.Ident name ∷ ts) s.0.1 (omega arith) (not-true _ s.0.0.0.1) (omega arith)
          (last_ends object (Some (kind.Sym y.Dot)) s.0.1 refl near (λ n. absurd (true≢false (sym n ∙ not-true _ s.0.0.1))) (λ n. refl)) (tight object (omega arith))
          ∙ suffixes_go object (kind.Sym y.Dot) (kind.Ident name ∷ ts) _ (takes_dot room inner list object near) (omega arith)
          ∙ ap (λ o. and_then o (suffixes room inner list)) (call_read room inner list reads lists (x.a_receiver (x.Of object)) name (x.Select object name) args rest s.1 (omega arith))
      chain_from e rest s t l low ended a =
          ap (λ o. and_then o (suffixes room inner list)) (base e rest s t l low ended refl a)

    pub chain_read : (e : x.Expr) (rest : List Kind) → IsShapedExpr e → 12 ≤ level e → is_least e ≡ false → expr_depth e ≤ suc room → LastEnds e (first rest)
        → and_then (operand room inner list Nothing (write_expr e rest)) (suffixes room inner list) ≡ suffixes room inner list e rest
    chain_read e rest s t l low ended =
        chain_from (operand room inner list Nothing) (λ e. ⊤) (λ e h. tt) (λ e rest s t l low ended g a. operand_read room inner list reads lists e rest s t l low ended g) e rest s t l low ended tt

    -- ---- what is read is written

    selected_sound : (ts : List Kind) (left : x.Expr) (token : Kind) (us : List Kind) (r : x.Expr × List Kind) → Operand room ts (left, token ∷ us) → token ≡ kind.Sym y.Dot → 14 ≤ level left → expr_depth left ≤ room
        → selected room inner list left us ≡ Ok r → Operand room ts r
    selected_sound ts left token us r found dot tight low h =
        let a = bind_ok (identifier us) _ r h in
        let member = identifier_token.took us a.0 a.1 in
        let same : ts ≡ write_expr left (kind.Sym y.Dot ∷ kind.Ident a.0.0 ∷ a.0.1) =
        found.written ∙ ap (λ token. write_expr left (token ∷ us)) dot ∙ ap (λ us. write_expr left (kind.Sym y.Dot ∷ us)) member in
        let fits : (((14 ≤ level left) × (not (is_least left) ≡ true)) × (not (is_name left) ≡ true)) =
        ((tight, not_from_false _ found.not_least), not_from_false _ (no_name_before_dot left token found.ended dot)) in
        call_sound room inner list reads lists (x.a_receiver (x.Of left)) a.0.0 (x.Select left a.0.0) ts a.0.1 r (fits, found.shaped) low same
        (λ paren. record { shaped = (fits, found.shaped); tight = omega arith; not_least = refl; low = omega arith; written = same; ended = paren }) a.2

    indexed_sound : (ts : List Kind) (left : x.Expr) (token : Kind) (us : List Kind) (r : x.Expr × List Kind) → Operand room ts (left, token ∷ us) → token ≡ kind.Sym y.OpenBracket → 14 ≤ level left → is_new_array left ≡ false
        → expr_depth left ≤ room → indexed room inner list left us ≡ Ok r → Operand room ts r
    indexed_sound ts left token us r found bracket tight plain low h =
        let a = bind_ok (inner Nothing 0 us) _ r h in
        let at = reads.sound 0 us a.0 (omega arith) a.1 in
        let b = bind_ok (expect y.CloseBracket a.0.1) _ r a.2 in
        let closed = expect_sound y.CloseBracket a.0.1 b.0 b.1 in
        let low_at = at.is.low in
        subst (Operand room ts) (ok_is b.2)
        (record {
          shaped = (((tight, not_from_false _ found.not_least), not_from_false _ plain), found.shaped, at.is.fits, at.is.shaped);
          tight = omega arith;
          not_least = refl;
          low = omega arith;
          written = found.written ∙ ap (λ token. write_expr left (token ∷ us)) bracket ∙ ap (λ us. write_expr left (kind.Sym y.OpenBracket ∷ us)) (at.written ∙ ap (write_expr a.0.0) closed);
          ended = tt;
        })

    pub suffix_sound : (ts : List Kind) (left : x.Expr) (token : Kind) (us : List Kind) (q : Option (Parser x.Expr)) (p : Parser x.Expr) (r : x.Expr × List Kind) → Operand room ts (left, token ∷ us)
        → Suffixed room inner list left (symbol_of token) q → q ≡ Some p → expr_depth left ≤ room → p us ≡ Ok r → Operand room ts r
    suffix_sound ts left token us q p r found (Ended h n) s low g = absurd (none_some (sym n ∙ s))
    suffix_sound ts left token us q p r found (Selects h t n) s low g =
        selected_sound ts left token us r found (symbol_is_of token y.Dot h) t low (ap (λ (p : Parser x.Expr). p us) (some_is (sym n ∙ s)) ∙ g)
    suffix_sound ts left token us q p r found (Indexes h t l n) s low g =
        indexed_sound ts left token us r found (symbol_is_of token y.OpenBracket h) t l low (ap (λ (p : Parser x.Expr). p us) (some_is (sym n ∙ s)) ∙ g)
    suffix_sound ts left token us q p r found (Steps op h t l n) s low g =
        subst (Operand room ts) (ok_is (ap (λ (p : Parser x.Expr). p us) (some_is (sym n ∙ s)) ∙ g))
        (record {
          shaped = (t, (l, not_from_false _ found.not_least), found.shaped);
          tight = omega arith;
          not_least = refl;
          low = omega arith;
          written = found.written ∙ ap (λ token. write_expr left (token ∷ us)) (symbol_is_of token op h);
          ended = tt;
        })

    -- where the chain stopped
    pub suffixes_halt : (ts : List Kind) (left : x.Expr) (us : List Kind) (stop : Fault × List Kind) → Operand room ts (left, us) → suffixes room inner list left us ≡ Err stop
        → Halt room inner list step (suffixes_from room inner list) (λ left ts. refl) (λ turns left ts. refl) raises (λ left us. Operand room ts (left, us)) stop
    unfolding suffixes
    suffixes_halt ts left us stop found h =
        halts room inner list step (suffixes_from room inner list) (λ left ts. refl) (λ turns left ts. refl) raises (λ left us. Operand room ts (left, us))
        (λ left token us p e rest found s low g. suffix_sound ts left token us (step left (token ∷ us)) p (e, rest) found (suffix_view room inner list left (symbol_of token)) s low g)
        (λ left. refl) (suc room) left us stop (omega arith) found h

    pub suffixes_sound : (ts : List Kind) (left : x.Expr) (us : List Kind) (r : x.Expr × List Kind) → Operand room ts (left, us) → suffixes room inner list left us ≡ Ok r
        → Operand room ts r × (has_suffix r.0 (symbol_next (first r.1)) ≡ false)
    unfolding suffixes
    suffixes_sound ts left us r found h =
        let kept = keeps room inner list step (suffixes_from room inner list) (λ left ts. refl) (λ turns left ts. refl) raises (λ left us. Operand room ts (left, us))
        (λ left token us p e rest found s low g. suffix_sound ts left token us (step left (token ∷ us)) p (e, rest) found (suffix_view room inner list left (symbol_of token)) s low g)
        (suc room) left us r found h in
        (kept.0, ap (has_suffix r.0) (sym (at_next r.1)) ∙ suffix_ended r.0 (symbol_at r.1) (step r.0 r.1) (suffix_view room inner list r.0 (symbol_at r.1)) kept.1)
