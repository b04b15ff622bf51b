-- Reading an expression that stands as a statement, where levels are counted as for any other expression, is exact in both directions.
use Rattle.std.proofs.Common.{◌≡◌, ℕ, zero, suc, ◌≤◌, Bool, true, false, not, ◌&&◌, cond, ltb, List, [], ◌∷◌, ◌++◌, Option, Some, None, Ok, Err, refl, sym, ap, ◌∙◌, subst, inl, inr, arith}
use Rattle.std.proofs.lemmas.Bool.{cases_Bool, and_parts, and_right, le-ltb, ltb-false, true≢false}
use Rattle.jr_base.specs.declared.text.Text.{Text}
use Rattle.jr_base.specs.declared.kind.Kind.{Kind}
use Rattle.jr_base.specs.declared.kind.Kind.TheVariants as kind
use Rattle.jr_base.specs.declared.kind.Symbol.{Symbol}
use Rattle.jr_base.specs.declared.kind.Symbol.TheVariants as y
use Rattle.jr_base.specs.declared.kind.Keyword.TheVariants as k
use Rattle.jr_tree.specs.declared.tree.Name.{Name}
use Rattle.jr_tree.specs.Levels.{is_assignment, is_step, is_literal}
use Rattle.jr_tree.specs.Shape.{is_empty, level, is_target, is_least, is_statement, is_name, IsShapedExpr}
use Rattle.jr_tree.specs.Depth.{expr_depth}
use Rattle.jr_tree.specs.Mirror.Exprs as x
use Rattle.jr_parse_laws.specs.declared.fault.Fault.TheVariants.{NoTree}
use Rattle.jr_parse_laws.specs.Parsers.{Outcome, Parser, and_then, first, symbol_at, expect}
use Rattle.jr_parse_laws.proofs.Outcomes.{bind_ok, chosen, ok_is, err_ok}
use Rattle.jr_parse_laws.proofs.Exact.{expect_sound}
use Rattle.jr_parse_starts.specs.Starts.{begins_cast_operand, next_is, starts_expr}
use Rattle.jr_parse_expr.specs.Names.{name_of, Dotted, Plain, dotted}
use Rattle.jr_parse_expr.specs.Exprs.{Lead, Nothing, Named, Indexed, This, Super, skipping, closed, assigned, after_dotted, after_bracket, prefix, operand, suffixes, effect_end_by, effect_end, expr, list, goes_on}
use Rattle.jr_parse_expr.specs.Writing.{write_all, write_dotted, write_lead, write_expr}
use Rattle.jr_parse_expr.specs.Follow.{symbol_next, has_suffix, LastEnds, EffectEnds, IsEffect, IsLed}
use Rattle.jr_parse_expr.specs.Laws.{IsEffectRead}
use Rattle.jr_parse_expr.proofs.Free.{free_operand, free_effects, free_effect}
use Rattle.jr_parse_expr.proofs.Beginnings.{binary_low, target_tight, target_not_least}
use Rattle.jr_parse_expr.proofs.Followers.{needs, last_ends, unless}
use Rattle.jr_parse_expr.proofs.Steps.{takes_bracket}
use Rattle.jr_parse_expr.proofs.Asked.{ReadsExprs, ReadsLists, Operand, depth_pos}
use Rattle.jr_parse_expr.proofs.Arguments.{whole_read}
use Rattle.jr_parse_expr.proofs.Operands.{goes_on_from, operand_read, operand_sound, prefix_sound}
use Rattle.jr_parse_expr.proofs.Chains.{symbol_is_of, loose_free, suffixes_go, suffixes_stay, chain_from, suffixes_sound}
use Rattle.jr_parse_expr.proofs.Climbs.{assignment_needs, assignment_no_cast, assignment_no_dot, assignment_no_bracket, assignment_free}
use Rattle.jr_parse_expr.proofs.ExprReads.{no_level_err, chain_of, all_read, dotted_whole, last_of}

-- no sign and no cast begins an expression statement
abbrev pub is_front : x.Expr → Bool
is_front (x.Unary op value) = false
is_front (x.Cast ty value) = false
is_front _ = true

tight_front : (e : x.Expr) → 13 ≤ level e → is_front e ≡ true
tight_front (x.Unary op value) h = absurd (omega arith)
tight_front (x.Cast ty value) h = absurd (omega arith)
tight_front e h = refl

statement_not_least : (e : x.Expr) → is_statement e ≡ true → is_least e ≡ false
statement_not_least (x.Lit token) h = absurd (cc)
statement_not_least e h = refl

statement_no_target : (e : x.Expr) → is_statement e ≡ true → is_target e ≡ false
statement_no_target (x.NameExpr n) h = absurd (cc)
statement_no_target (x.Select object name) h = absurd (cc)
statement_no_target (x.SuperSelect name) h = absurd (cc)
statement_no_target (x.Index array at) h = absurd (cc)
statement_no_target e h = refl

statement_front : (e : x.Expr) → is_statement e ≡ true → is_front e ≡ true
statement_front (x.Unary op value) h = absurd (cc)
statement_front (x.Cast ty value) h = absurd (cc)
statement_front e h = refl

-- a cast's operand begins with nothing that goes on
pub cast_free : (e : x.Expr) (o : Option Kind) → next_is begins_cast_operand o ≡ true → has_suffix e (symbol_next o) ≡ false
cast_free e None h = refl
cast_free e (Some (kind.Sym y.Dot)) h = absurd (cc)
cast_free e (Some (kind.Sym y.OpenBracket)) h = absurd (cc)
cast_free e (Some (kind.Sym y.PlusPlus)) h = absurd (cc)
cast_free e (Some (kind.Sym y.MinusMinus)) h = absurd (cc)
cast_free e (Some token) h = refl

abbrev is_sign_token : List Kind → Bool
is_sign_token (kind.Sym s ∷ ts) = true
is_sign_token _ = false

all_no_sign : (all : List Text) (ts : List Kind) → not (is_empty all) ≡ true → is_sign_token (write_all all ts) ≡ false
all_no_sign [] ts some = absurd (cc)
all_no_sign (head ∷ all) ts some = refl

literal_no_sign : (token : Kind) (ts : List Kind) → is_literal token ≡ true → is_sign_token (token ∷ ts) ≡ false
literal_no_sign (kind.Sym s) ts h = absurd (cc)
literal_no_sign token ts h = refl

module _ (room : ℕ) (inner : Lead → ℕ → Parser x.Expr) (list : Parser x.InitList) where
  pub same_operand : (ts : List Kind) → is_sign_token ts ≡ false → free_operand room inner list Nothing ts ≡ operand room inner list Nothing ts
  unfolding operand
  same_operand [] h = refl
  same_operand (kind.Sym s ∷ ts) h = absurd (cc)
  same_operand (token ∷ ts) h = refl

  same_prefix : (op : Symbol) (ts : List Kind) → is_step op ≡ true → free_operand room inner list Nothing (kind.Sym op ∷ ts) ≡ operand room inner list Nothing (kind.Sym op ∷ ts)
  unfolding operand
  same_prefix y.PlusPlus ts h = refl
  same_prefix y.MinusMinus ts h = refl
  same_prefix _ ts h = absurd (cc)

  module _ (reads : ReadsExprs room inner) (lists : ReadsLists room list) where
    -- ---- what is written is read

    paren_read : (e : x.Expr) (rest : List Kind) → IsShapedExpr (x.Paren e) → expr_depth e ≤ room → free_operand room inner list Nothing (write_expr (x.Paren e) rest) ≡ Ok (x.Paren e, rest)
    paren_read e rest s low =
        let pos = depth_pos e in
        rw (le-ltb room 1 (omega arith), whole_read room inner list reads e (kind.Sym y.CloseParen ∷ rest) (record { shaped = s.1; fits = s.0; low = low }) (record { cast = refl; none = refl })) refl

    front_read : (e : x.Expr) (rest : List Kind) → IsShapedExpr e → 12 ≤ level e → is_least e ≡ false → expr_depth e ≤ suc room → LastEnds e (first rest) → goes_on_from e ≡ false → is_front e ≡ true
        → free_operand room inner list Nothing (write_expr e rest) ≡ Ok (e, rest)
    front_read (x.Unary op value) rest s t l low ended g a = absurd (cc)
    front_read (x.Cast ty value) rest s t l low ended g a = absurd (cc)
    front_read (x.Paren inside) rest s t l low ended g a = paren_read inside rest s (omega arith)
    front_read (x.PreStep op value) rest s t l low ended g a = same_prefix op (write_expr value rest) s.0 ∙ operand_read room inner list reads lists (x.PreStep op value) rest s t l low ended g
    front_read (x.Assign target op value) rest s t l low ended g a = absurd (omega arith)
    front_read (x.Cond c b d) rest s t l low ended g a = absurd (omega arith)
    front_read (x.Binary left op right) rest s t l low ended g a = absurd (let b = binary_low op in omega arith)
    front_read (x.IsA value ty) rest s t l low ended g a = absurd (omega arith)
    front_read (x.PostStep value op) rest s t l low ended g a = absurd (cc)
    front_read (x.Select object name) rest s t l low ended g a = absurd (cc)
    front_read (x.Index array at) rest s t l low ended g a = absurd (cc)
    front_read (x.Call (x.a_receiver (x.Of object)) name args) rest s t l low ended g a = absurd (cc)
    front_read (x.Lit token) rest s t l low ended g a = same_operand (token ∷ rest) (literal_no_sign token rest s) ∙ operand_read room inner list reads lists (x.Lit token) rest s t l low ended g
    front_read (x.This (Some n)) rest s t l low ended g a =
        same_operand (write_expr (x.This (Some n)) rest) (all_no_sign n.parts _ s) ∙ operand_read room inner list reads lists (x.This (Some n)) rest s t l low ended g
    front_read (x.NameExpr n) rest s t l low ended g a = same_operand (write_expr (x.NameExpr n) rest) (all_no_sign n.parts rest s) ∙ operand_read room inner list reads lists (x.NameExpr n) rest s t l low ended g
    front_read (x.Call (x.a_receiver (x.OfName n)) name args) rest s t l low ended g a =
        same_operand (write_expr (x.Call (x.a_receiver (x.OfName n)) name args) rest) (all_no_sign n.parts _ s.0) ∙ operand_read room inner list reads lists (x.Call (x.a_receiver (x.OfName n)) name args) rest s t l low ended g
    front_read e rest s t l low ended g a = same_operand (write_expr e rest) refl ∙ operand_read room inner list reads lists e rest s t l low ended g

    reaches : (e : x.Expr) (rest : List Kind) → IsShapedExpr e → 12 ≤ level e → is_least e ≡ false → expr_depth e ≤ suc room → LastEnds e (first rest) → is_front e ≡ true → has_suffix e (symbol_next (first rest)) ≡ false
        → and_then (free_operand room inner list Nothing (write_expr e rest)) (suffixes room inner list) ≡ Ok (e, rest)
    reaches e rest s t l low ended a free =
        chain_from room inner list reads lists (free_operand room inner list Nothing) (λ e. is_front e ≡ true) tight_front front_read e rest s t l low ended a ∙ suffixes_stay room inner list e rest free

    end_by : (e : x.Expr) (o : Option Symbol) (ts : List Kind) → is_statement e ≡ true → is_target e ≡ false → effect_end_by room inner list e o ts ≡ Ok (e, ts)
    end_by e None ts s t = rw s refl
    end_by e (Some op) ts s t = rw (and_right (is_assignment op) (is_target e) t, s) refl

    statement_read : (e : x.Expr) (rest : List Kind) → is_statement e ≡ true → 12 ≤ level e → IsShapedExpr e → expr_depth e ≤ suc room → EffectEnds e (first rest)
        → free_effects room inner list Nothing (write_expr e rest) ≡ Ok (e, rest)
    unfolding free_effects effect_end
    statement_read e rest st t s low ended =
        rw (reaches e rest s t (statement_not_least e st) low ended.0 (statement_front e st) ended.1) (end_by e (symbol_at rest) rest st (statement_no_target e st))

    pub effects_read : (e : x.Expr) (rest : List Kind) → IsEffect (suc room) e → EffectEnds e (first rest) → free_effects room inner list Nothing (write_expr e rest) ≡ Ok (e, rest)
    unfolding free_effects effect_end
    effects_read (x.Assign target op value) rest is ended =
        let s = is.is.1 in
        let low = is.low in
        let tight : level target ≡ 14 = target_tight target s.1 in
        let n : needs (Some (kind.Sym op)) ≡ 14 = assignment_needs op s.0 in
        rw (
          reaches target (kind.Sym op ∷ write_expr value rest) s.2 (omega arith) (target_not_least target s.1) (omega arith)
              (last_ends target (Some (kind.Sym op)) s.2 (assignment_no_cast op s.0) (omega arith) (λ _. assignment_no_dot op s.0) (λ _. assignment_no_bracket op s.0))
              (tight_front target (omega arith)) (assignment_free target op s.0),
          s.0,
          s.1,
          le-ltb room (expr_depth target) (omega arith),
          reads.complete 0 value rest (record { shaped = s.4; fits = s.3; low = omega arith }) ended.0,
        ) refl
    effects_read (x.PreStep op value) rest is ended = statement_read (x.PreStep op value) rest refl (omega arith) is.is.1 is.low ended
    effects_read (x.PostStep value op) rest is ended = statement_read (x.PostStep value op) rest refl (omega arith) is.is.1 is.low ended
    effects_read (x.Call object name args) rest is ended = statement_read (x.Call object name args) rest refl (omega arith) is.is.1 is.low ended
    effects_read (x.New class args) rest is ended = statement_read (x.New class args) rest refl (omega arith) is.is.1 is.low ended
    effects_read e rest is ended = absurd (let h = is.is.0 in cc)

    -- ---- what is read is written

    pub record EffectFound (ts : List Kind) (r : x.Expr × List Kind) : Type 0 where
      pub is : IsEffect (suc room) r.0
      pub written : ts ≡ write_expr r.0 r.1
      pub ended : EffectEnds r.0 (first r.1)

    -- what stands in front, unless it is parentheses that a cast's operand follows
    pub data Fronted (ts : List Kind) (r : x.Expr × List Kind) : Type 0 where
      Whole : Operand room ts r → Fronted ts r
      Left : (inside : x.Expr) → r.0 ≡ x.Paren inside → next_is begins_cast_operand (first r.1) ≡ true → Fronted ts r

    paren_sound : (ts : List Kind) (r : x.Expr × List Kind) → and_then (inner Nothing 0 ts) closed ≡ Ok r → Fronted (kind.Sym y.OpenParen ∷ ts) r
    paren_sound ts r h =
        let a = bind_ok (inner Nothing 0 ts) closed r h in
        let found = reads.sound 0 ts a.0 (omega arith) a.1 in
        let b = bind_ok (expect y.CloseParen a.0.1) _ r a.2 in
        let close_at = expect_sound y.CloseParen a.0.1 b.0 b.1 in
        let low = found.is.low in
        subst (Fronted (kind.Sym y.OpenParen ∷ ts)) (ok_is b.2)
        (elim (cases_Bool (next_is begins_cast_operand (first b.0.1))) [
          | inl t ↦ Left a.0.0 refl t
          | inr f ↦
              Whole (record {
                shaped = (found.is.fits, found.is.shaped);
                tight = omega arith;
                not_least = refl;
                low = omega arith;
                written = ap (λ us. kind.Sym y.OpenParen ∷ us) (found.written ∙ ap (write_expr a.0.0) close_at);
                ended = unless (not (is_name a.0.0)) (next_is begins_cast_operand (first b.0.1) ≡ false) (λ _. f);
              })
        ])

    step_sound : (s : Symbol) (ts : List Kind) (r : x.Expr × List Kind) → cond {A = Outcome x.Expr} (is_step s) (prefix room inner list s ts) (Err (NoTree, kind.Sym s ∷ ts)) ≡ Ok r → Fronted (kind.Sym s ∷ ts) r
    step_sound s ts r h =
        elim (chosen (is_step s) _ _ _ h) [
          | inl t ↦ Whole (prefix_sound room inner list reads lists s ts r t.1)
          | inr t ↦ absurd (err_ok t.1)
        ]

    pub front_sound : (ts : List Kind) (r : x.Expr × List Kind) → free_operand room inner list Nothing ts ≡ Ok r → Fronted ts r
    front_sound [] r h = absurd (err_ok h)
    front_sound (kind.Sym y.OpenParen ∷ ts) r h =
        elim (chosen (ltb room 1) _ _ _ h) [
          | inl t ↦ absurd (err_ok t.1)
          | inr t ↦ paren_sound ts r t.1
        ]
    front_sound (kind.Sym s ∷ ts) r h = step_sound s ts r h
    front_sound (token ∷ ts) r h = Whole (operand_sound room inner list reads lists (token ∷ ts) r (sym (same_operand (token ∷ ts) refl) ∙ h))

    assigned_sound : (ts : List Kind) (left : x.Expr) (us : List Kind) (op : Symbol) (r : x.Expr × List Kind) → Operand room ts (left, us) → symbol_at us ≡ Some op → is_assignment op ≡ true → is_target left ≡ true
        → expr_depth left ≤ room → skipping (assigned room inner list left op) us ≡ Ok r → EffectFound ts r
    assigned_sound ts left [] op r found here a target low h = absurd (err_ok h)
    assigned_sound ts left (token ∷ us) op r found here a target low h =
        let v = bind_ok (inner Nothing 0 us) _ r h in
        let value = reads.sound 0 us v.0 (omega arith) v.1 in
        let low_value = value.is.low in
        subst (EffectFound ts) (ok_is v.2)
        (record {
          is = record { is = (refl, (a, target, found.shaped, value.is.fits, value.is.shaped)); low = omega arith };
          written = found.written ∙ ap (λ token. write_expr left (token ∷ us)) (symbol_is_of token op here) ∙ ap (λ us. write_expr left (kind.Sym op ∷ us)) value.written;
          ended = (value.ended, loose_free (x.Assign left op v.0.0) (symbol_next (first v.0.1)) (omega arith));
        })

    alone_sound : (ts : List Kind) (left : x.Expr) (us : List Kind) (r : x.Expr × List Kind) → Operand room ts (left, us) → has_suffix left (symbol_next (first us)) ≡ false
        → cond {A = Outcome x.Expr} (is_statement left) (Ok (left, us)) (Err (NoTree, us)) ≡ Ok r → EffectFound ts r
    alone_sound ts left us r found free h =
        elim (chosen (is_statement left) _ _ _ h) [
          | inl t ↦ subst (EffectFound ts) (ok_is t.1) (record { is = record { is = (t.0, found.shaped); low = found.low }; written = found.written; ended = (found.ended, free) })
          | inr t ↦ absurd (err_ok t.1)
        ]

    end_sound : (ts : List Kind) (left : x.Expr) (us : List Kind) (o : Option Symbol) (r : x.Expr × List Kind) → Operand room ts (left, us) → has_suffix left (symbol_next (first us)) ≡ false → symbol_at us ≡ o
        → effect_end_by room inner list left o us ≡ Ok r → EffectFound ts r
    end_sound ts left us None r found free here h = alone_sound ts left us r found free h
    end_sound ts left us (Some op) r found free here h =
        elim (chosen (is_assignment op && is_target left) _ _ _ h) [
          | inl t ↦
              (let p = and_parts (is_assignment op) (is_target left) t.0 in
              elim (chosen (ltb room (expr_depth left)) _ _ _ t.1) [
                | inl d ↦ absurd (err_ok d.1)
                | inr d ↦ assigned_sound ts left us op r found here p.0 p.1 (ltb-false room (expr_depth left) d.0) d.1
              ])
          | inr t ↦ alone_sound ts left us r found free t.1
        ]

    -- parentheses alone are no statement
    paren_end : (inside : x.Expr) (o : Option Symbol) (us : List Kind) (r : x.Expr × List Kind) → effect_end_by room inner list (x.Paren inside) o us ≡ Ok r → ⊥
    paren_end inside None us r h = err_ok h
    paren_end inside (Some op) us r h =
        elim (chosen (is_assignment op && false) _ _ _ h) [
          | inl t ↦ true≢false (sym t.0 ∙ and_right (is_assignment op) false refl)
          | inr t ↦ err_ok t.1
        ]

    pub effects_sound : (ts : List Kind) (r : x.Expr × List Kind) → free_effects room inner list Nothing ts ≡ Ok r → EffectFound ts r
    unfolding free_effects effect_end
    effects_sound ts r h =
        let b = bind_ok (and_then (free_operand room inner list Nothing ts) (suffixes room inner list)) _ r h in
        let a = bind_ok (free_operand room inner list Nothing ts) _ b.0 b.1 in
        elim (front_sound ts a.0 a.1) [
          | Whole found ↦
              (let chain = suffixes_sound room inner list reads lists ts a.0.0 a.0.1 b.0 found a.2 in
              end_sound ts b.0.0 b.0.1 (symbol_at b.0.1) r chain.0 chain.1 refl b.2)
          | Left inside paren cast ↦
              absurd (let stay = suffixes_stay room inner list a.0.0 a.0.1 (cast_free a.0.0 (first a.0.1) cast) in
              let same = ok_is (sym stay ∙ a.2) in
              let is_paren : b.0.0 ≡ x.Paren inside = sym (ap (λ (p : x.Expr × List Kind). p.0) same) ∙ paren in
              paren_end inside (symbol_at b.0.1) b.0.1 r (subst (λ left. effect_end_by room inner list left (symbol_at b.0.1) b.0.1 ≡ Ok r) is_paren b.2))
        ]

-- ---- whatever was read before

effect_none : (lead : Lead) (ts : List Kind) (r : x.Expr × List Kind) → free_effect zero lead ts ≡ Ok r → ⊥
unfolding free_effect
effect_none lead ts r h = no_level_err (goes_on lead) ts r h

effect_named : (room : ℕ) (head : Text) (ts : List Kind) → free_effect (suc room) Nothing (kind.Ident head ∷ ts) ≡ and_then (dotted true [] head ts) (λ d. free_effect (suc room) (Named d))
unfolding free_effect free_effects
effect_named room head ts = chain_of (dotted true [] head ts) (after_dotted room (expr room) (list room)) (suffixes room (expr room) (list room)) (effect_end room (expr room) (list room))

named_same : (room : ℕ) (d : Dotted) (ts : List Kind) → IsLed (Named d) (first ts) → free_effect (suc room) Nothing (write_dotted d ts) ≡ free_effect (suc room) (Named d) ts
named_same room d ts led =
    let w = dotted_whole d ts led in
    ap (free_effect (suc room) Nothing) w.2 ∙ effect_named room w.0 w.1 ∙ ap (λ o. and_then o (λ d. free_effect (suc room) (Named d))) w.3

effect_bracket : (room : ℕ) (before : List Text) (last : Text) (ts : List Kind) → 1 ≤ room
    → free_effect (suc room) (Named (Plain before last)) (kind.Sym y.OpenBracket ∷ ts) ≡ free_effect (suc room) (Indexed (name_of (before ++ last ∷ []))) ts
unfolding free_effect free_effects after_dotted after_bracket
effect_bracket room before last ts some =
    ap (λ o. and_then o (effect_end room (expr room) (list room)))
    (suffixes_go room (expr room) (list room) (x.NameExpr (name_of (before ++ last ∷ []))) (kind.Sym y.OpenBracket) ts _
    (takes_bracket room (expr room) (list room) (x.NameExpr (name_of (before ++ last ∷ []))) (omega arith) refl) (omega arith))

bracket_err : (before : List Text) (last : Text) (ts : List Kind) (r : x.Expr × List Kind) → free_effect 1 (Named (Plain before last)) (kind.Sym y.OpenBracket ∷ ts) ≡ Ok r → ⊥
unfolding free_effect free_effects after_dotted suffixes
bracket_err before last ts r h = err_ok h

indexed_err : (n : Name) (ts : List Kind) (r : x.Expr × List Kind) → free_effect 1 (Indexed n) ts ≡ Ok r → ⊥
unfolding free_effect free_effects after_bracket expr
indexed_err n ts r h =
    let c = bind_ok _ (effect_end zero (expr zero) (list zero)) r h in
    let b = bind_ok _ (suffixes zero (expr zero) (list zero)) c.0 c.1 in
    let a = bind_ok (expr zero Nothing 0 ts) _ b.0 b.1 in
    no_level_err starts_expr ts a.0 a.1

into : (room : ℕ) (before : List Text) (last : Text) (ts : List Kind) (r : x.Expr × List Kind)
    → free_effect (suc room) (Named (Plain before last)) (kind.Sym y.OpenBracket ∷ ts) ≡ Ok r → free_effect (suc room) (Indexed (name_of (before ++ last ∷ []))) ts ≡ Ok r
into zero before last ts r h = absurd (bracket_err before last ts r h)
into (suc room) before last ts r h = sym (effect_bracket (suc room) before last ts (omega arith)) ∙ h

out_of : (room : ℕ) (before : List Text) (last : Text) (ts : List Kind) (r : x.Expr × List Kind)
    → free_effect (suc room) (Indexed (name_of (before ++ last ∷ []))) ts ≡ Ok r → free_effect (suc room) (Named (Plain before last)) (kind.Sym y.OpenBracket ∷ ts) ≡ Ok r
out_of zero before last ts r h = absurd (indexed_err (name_of (before ++ last ∷ [])) ts r h)
out_of (suc room) before last ts r h = effect_bracket (suc room) before last ts (omega arith) ∙ h

this_same : (room : ℕ) (ts : List Kind) → free_effect (suc room) Nothing (kind.Word k.This ∷ ts) ≡ free_effect (suc room) This ts
unfolding free_effect free_effects
this_same room ts = refl

super_same : (room : ℕ) (ts : List Kind) → free_effect (suc room) Nothing (kind.Word k.Super ∷ ts) ≡ free_effect (suc room) Super ts
unfolding free_effect free_effects
super_same room ts = refl

with_lead : (room : ℕ) (lead : Lead) (ts : List Kind) (r : x.Expr × List Kind) → IsLed lead (first ts) → free_effect (suc room) Nothing (write_lead lead ts) ≡ Ok r → free_effect (suc room) lead ts ≡ Ok r
with_lead room Nothing ts r led h = h
with_lead room (Named d) ts r led h = sym (named_same room d ts led) ∙ h
with_lead room (Indexed n) ts r led h =
    let l = last_of n.parts led in
    let read = sym (named_same room (Plain l.0 l.1) (kind.Sym y.OpenBracket ∷ ts) refl) ∙ ap (λ all. free_effect (suc room) Nothing (write_all all (kind.Sym y.OpenBracket ∷ ts))) (sym l.2) ∙ h in
    subst (λ n. free_effect (suc room) (Indexed n) ts ≡ Ok r) (ap name_of (sym l.2)) (into room l.0 l.1 ts r read)
with_lead room This ts r led h = sym (this_same room ts) ∙ h
with_lead room Super ts r led h = sym (super_same room ts) ∙ h

without_lead : (room : ℕ) (lead : Lead) (ts : List Kind) (r : x.Expr × List Kind) → IsLed lead (first ts) → free_effect (suc room) lead ts ≡ Ok r → free_effect (suc room) Nothing (write_lead lead ts) ≡ Ok r
without_lead room Nothing ts r led h = h
without_lead room (Named d) ts r led h = named_same room d ts led ∙ h
without_lead room (Indexed n) ts r led h =
    let l = last_of n.parts led in
    let read = out_of room l.0 l.1 ts r (subst (λ n. free_effect (suc room) (Indexed n) ts ≡ Ok r) (ap name_of l.2) h) in
    ap (λ all. free_effect (suc room) Nothing (write_all all (kind.Sym y.OpenBracket ∷ ts))) l.2 ∙ named_same room (Plain l.0 l.1) (kind.Sym y.OpenBracket ∷ ts) refl ∙ read
without_lead room This ts r led h = this_same room ts ∙ h
without_lead room Super ts r led h = super_same room ts ∙ h

nothing_read : (room : ℕ) (e : x.Expr) (rest : List Kind) → IsEffect (suc room) e → EffectEnds e (first rest) → free_effect (suc room) Nothing (write_expr e rest) ≡ Ok (e, rest)
unfolding free_effect
nothing_read room e rest is ended = effects_read room (expr room) (list room) (all_read room).exprs (all_read room).lists e rest is ended

nothing_sound : (room : ℕ) (ts : List Kind) (r : x.Expr × List Kind) → free_effect (suc room) Nothing ts ≡ Ok r → EffectFound room (expr room) (list room) (all_read room).exprs (all_read room).lists ts r
unfolding free_effect
nothing_sound room ts r h = effects_sound room (expr room) (list room) (all_read room).exprs (all_read room).lists ts r h

-- ---- the laws

pub free_complete : (room : ℕ) (lead : Lead) (e : x.Expr) (rest ts : List Kind) → IsEffect room e → EffectEnds e (first rest) → IsLed lead (first ts) → write_lead lead ts ≡ write_expr e rest
    → free_effect room lead ts ≡ Ok (e, rest)
free_complete zero lead e rest ts is ended led same = absurd (let l = is.low in let p = depth_pos e in omega arith)
free_complete (suc room) lead e rest ts is ended led same = with_lead room lead ts (e, rest) led (ap (free_effect (suc room) Nothing) same ∙ nothing_read room e rest is ended)

pub free_sound : (room : ℕ) (lead : Lead) (ts : List Kind) (r : x.Expr × List Kind) → IsLed lead (first ts) → free_effect room lead ts ≡ Ok r → IsEffectRead room (write_lead lead ts) r
free_sound zero lead ts r led h = absurd (effect_none lead ts r h)
free_sound (suc room) lead ts r led h =
    let found = nothing_sound room (write_lead lead ts) r (without_lead room lead ts r led h) in
    record { is = found.is; written = found.written; ended = found.ended }
