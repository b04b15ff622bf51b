-- Where reading an expression that stands as a statement stops, what stands before begins one.
use Rattle.std.proofs.Common.{◌≡◌, ℕ, zero, suc, ◌<◌, ◌≤◌, max, Bool, true, false, not, ◌&&◌, cond, ltb, List, [], ◌∷◌, ◌++◌, length, Option, Some, None, Ok, Err, refl, sym, ap, ◌∙◌, subst, ◌⊎◌, inl, inr, arith}
use Rattle.std.proofs.lemmas.Bool.{and_parts, not_from_false, ltb-false, ltb-true, true≢false}
use Rattle.jr_base.specs.declared.text.Text.{Text}
use Rattle.jr_base.specs.declared.kind.Kind.{Kind}
use Rattle.jr_base.specs.declared.kind.Kind.TheVariants as kind
use Rattle.jr_base.specs.declared.kind.Symbol.{Symbol}
use Rattle.jr_base.specs.declared.kind.Symbol.TheVariants as y
use Rattle.jr_base.specs.declared.kind.Keyword.TheVariants as k
use Rattle.jr_tree.specs.declared.tree.Name.{Name}
use Rattle.jr_tree.specs.declared.tree.Primitive.{Primitive}
use Rattle.jr_tree.specs.declared.tree.Base.{Base}
use Rattle.jr_tree.specs.declared.tree.Base.TheVariants as base
use Rattle.jr_tree.specs.Levels.{is_assignment, is_step, is_literal, is_least_kind}
use Rattle.jr_tree.specs.Shape.{level, is_least, is_name, is_new_array, is_target, is_statement, IsName, IsShapedExpr, IsShapedAnyReceiver}
use Rattle.jr_tree.specs.Depth.{expr_depth, exprs_depth, any_receiver_depth}
use Rattle.jr_tree.specs.Tokens.{qualifier_tokens}
use Rattle.jr_tree.specs.Mirror.Exprs as x
use Rattle.jr_parse_laws.specs.declared.fault.Fault.{Fault}
use Rattle.jr_parse_laws.specs.declared.fault.Fault.TheVariants.{NoTree, TooDeep}
use Rattle.jr_parse_laws.specs.Parsers.{Outcome, Parser, and_then, first, symbol_of, symbol_at, is_symbol, deep, expect, identifier, pure, ◌>>=◌}
use Rattle.jr_parse_laws.proofs.Outcomes.{bind_ok, chosen, ok_is, ok_err, err_is, some_is, is_symbol_is, Before, After, stops}
use Rattle.jr_parse_laws.proofs.Stops.{Leading, leading_nothing}
use Rattle.jr_parse_laws.proofs.Exact.{expect_sound, identifier_token}
use Rattle.jr_parse_starts.specs.Starts.{is_plain_literal, within, begins_cast_operand, next_is}
use Rattle.jr_parse_expr.specs.Names.{name_of, name, primitive_at, Dotted, Plain, Enclosing, dotted_from, dotted}
use Rattle.jr_parse_expr.specs.Exprs as reader
use Rattle.jr_parse_expr.specs.Exprs.{Lead, Nothing, next_token, skipping, below}
use Rattle.jr_parse_expr.specs.Writing.{write_all, write_dotted, write_name, write_qualifier, write_expr}
use Rattle.jr_parse_expr.specs.Follow.{is_tight, IsExpr, IsEffect}
use Rattle.jr_parse_expr.proofs.Written.{qualifier_written}
use Rattle.jr_parse_expr.proofs.NameReads.{dotted_sound, has_parts, all_append, name_sound, primitive_kind_back}
use Rattle.jr_parse_expr.proofs.Asked.{ReadsExprs, ReadsLists, Operand, depth_pos}
use Rattle.jr_parse_expr.proofs.Operands.{shaped_receiver, low_receiver, received}
use Rattle.jr_parse_expr.proofs.Growths.{Growing, leading_tokens, leading_then, leading_expr, leading_one, grows, none_grows, deep_grows, sample, sample_is}
use Rattle.jr_parse_expr.proofs.NameGrowths.{DottedStop, dotted_stop, leading_name, name_grows}
use Rattle.jr_parse_expr.proofs.PartGrowths.{Within, GrowsExprs, GrowsLists, missing, AreArgs, arguments_grow}
use Rattle.jr_parse_expr.proofs.CreationGrowths.{created_grows, by_grows}
use Rattle.jr_parse_expr.proofs.EffectReads.{below_le}

-- a step makes a statement of an operand
pub a_step : (r : ℕ) (e : x.Expr) (op : Symbol) → IsShapedExpr e → 13 ≤ level e → is_least e ≡ false → is_step op ≡ true → expr_depth e ≤ r → IsEffect (suc r) (x.PostStep e op)
a_step r e op s tight plain step low = record { is = (refl, (step, (tight, not_from_false _ plain), s)); low = omega arith }

pub with_more : (r most : ℕ) (e : x.Expr) → IsEffect r e → r ≤ most → IsEffect most e
with_more r most e is le = record { is = is.is; low = let l = is.low in omega arith }

-- the shortest call, and the shortest creation
abbrev pub a_new : x.Expr
a_new = x.New (name_of ([] ∷ [])) x.no_exprs

pub new_is : (r : ℕ) → IsEffect (suc r) a_new
new_is r = record { is = (refl, (refl, tt)); low = omega arith }

abbrev pub write_new : List Kind → List Kind
write_new z = kind.Word k.New ∷ kind.Ident [] ∷ kind.Sym y.OpenParen ∷ kind.Sym y.CloseParen ∷ z

below_some : (room : ℕ) → 1 ≤ below room → suc (suc (below room)) ≤ suc room
below_some zero some = absurd (omega arith)
below_some (suc room) some = omega arith

below_two : (room : ℕ) → 2 ≤ room → suc (suc (below room)) ≤ suc room
below_two zero some = absurd (omega arith)
below_two (suc room) some = omega arith

some_below : (room : ℕ) → 2 ≤ room → 1 ≤ below room
some_below zero some = absurd (omega arith)
some_below (suc room) some = omega arith

-- ---- a name at the head, where `this` behind it has no level

record DeepStop (before : List Text) (last : Text) (ts : List Kind) (stop : Fault × List Kind) : Type 0 where
  front : List Text
  final : Text
  rest : List Kind
  split : write_all (before ++ last ∷ []) ts ≡ write_all (front ++ final ∷ []) (kind.Sym y.Dot ∷ kind.Word k.This ∷ rest)
  here : (TooDeep, kind.Word k.This ∷ rest) ≡ stop

false_stop : (turns : ℕ) (before : List Text) (last : Text) (ts : List Kind) (stop : Fault × List Kind) → dotted_from false turns before last ts ≡ Err stop → DottedStop before last ts stop ⊎ DeepStop before last ts stop
false_stop zero before last ts stop h = absurd (ok_err h)
false_stop (suc turns) before last [] stop h = absurd (ok_err h)
false_stop (suc turns) before last (kind.Sym y.Dot ∷ []) stop h = inl (record { front = before; final = last; rest = []; split = refl; here = err_is h })
false_stop (suc turns) before last (kind.Sym y.Dot ∷ kind.Ident part ∷ ts) stop h =
    elim (false_stop turns (before ++ last ∷ []) part ts stop h) [
      | inl more ↦ inl (record { front = more.front; final = more.final; rest = more.rest; split = sym (all_append before last (part ∷ []) ts) ∙ more.split; here = more.here })
      | inr more ↦ inr (record { front = more.front; final = more.final; rest = more.rest; split = sym (all_append before last (part ∷ []) ts) ∙ more.split; here = more.here })
    ]
false_stop (suc turns) before last (kind.Sym y.Dot ∷ kind.Word k.This ∷ ts) stop h = inr (record { front = before; final = last; rest = ts; split = refl; here = err_is h })
false_stop (suc turns) before last (kind.Sym y.Dot ∷ token ∷ ts) stop h = inl (record { front = before; final = last; rest = token ∷ ts; split = refl; here = err_is h })
false_stop (suc turns) before last (token ∷ ts) stop h = absurd (ok_err h)

dotted_false_stop : (before : List Text) (last : Text) (ts : List Kind) (stop : Fault × List Kind) → dotted false before last ts ≡ Err stop → DottedStop before last ts stop ⊎ DeepStop before last ts stop
unfolding dotted
dotted_false_stop before last ts stop h = false_stop (length ts) before last ts stop h

module _ (room : ℕ) (inner : Lead → ℕ → Parser x.Expr) (list : Parser x.InitList) (reads : ReadsExprs room inner) (lists : ReadsLists room list) (growths : GrowsExprs room inner) (growing : GrowsLists room list) where
  abbrev pub Grown : List Kind → Fault × List Kind → Type 0
  Grown ts stop = Growing IsEffect write_expr (suc room) ts stop

  pub none_here : (ts : List Kind) → Grown ts (NoTree, ts)
  none_here ts = none_grows (suc room) ts (λ z. z) leading_nothing a_new write_new (λ z. refl) (new_is room)

  pub deep_here : (token : Kind) (ts : List Kind) (deep : ℕ) (tall : x.Expr) (past : List Kind → List Kind) → ((z : List Kind) → write_expr tall z ≡ token ∷ past z) → IsEffect deep tall → Grown (token ∷ ts) (TooDeep, token ∷ ts)
  deep_here token ts deep tall past spelled is = deep_grows (suc room) token ts (λ z. z) leading_nothing a_new write_new (λ z. refl) (new_is room) deep tall past spelled is

  -- ---- calls

  pub effect_call_grows : (object : x.AnyReceiver) (method : Text) (access : x.Expr) (ts us : List Kind) (stop : Fault × List Kind) → IsShapedAnyReceiver object → any_receiver_depth object ≤ room
      → ts ≡ write_qualifier object (kind.Ident method ∷ us) → reader.call_or room inner list object method access us ≡ Err stop → Grown ts stop
  effect_call_grows object method access ts [] stop s low same h = absurd (ok_err h)
  effect_call_grows object method access ts (token ∷ us) stop s low same h =
      elim (chosen (is_symbol y.OpenParen token) _ _ _ h) [
        | inr t ↦ absurd (ok_err t.1)
        | inl t ↦
            (elim (stops (reader.arguments room inner list us) _ stop t.1) [
              | After all rest e d ↦ absurd (ok_err d)
              | Before e ↦
                  subst (λ ts. Grown ts stop) (sym (same ∙ ap (λ token. write_qualifier object (kind.Ident method ∷ token ∷ us)) (is_symbol_is y.OpenParen token t.0)))
                  (grows room (suc room) us stop (λ z. write_qualifier object (kind.Ident method ∷ kind.Sym y.OpenParen ∷ z))
                  (leading_then (leading_tokens (write_qualifier object) (qualifier_tokens object) (qualifier_written object)) (leading_then (leading_one (kind.Ident method)) (leading_one (kind.Sym y.OpenParen))))
                  (x.Call object method) (λ z. z) (λ a z. refl)
                  (λ r a is. (suc (max r room), record { is = (refl, (s, is.0)); low = let l : exprs_depth a ≤ r = is.1 in omega arith }))
                  (λ a is. record { is = (refl, (s, is.0)); low = let l : exprs_depth a ≤ room = is.1 in omega arith }) (arguments_grow room inner list reads lists growths growing us stop e))
            ])
      ]

  abbrev a_call : Name → x.Expr
  a_call n = x.Call (x.a_receiver (x.OfName n)) [] x.no_exprs

  call_is : (r : ℕ) (n : Name) → IsName n → IsEffect (suc r) (a_call n)
  call_is r n is = record { is = (refl, (is, tt)); low = omega arith }

  -- ---- names

  behind_dot : (head : Text) (ts : List Kind) (stop : Fault × List Kind) → DottedStop [] head ts stop → Grown (kind.Ident head ∷ ts) stop
  behind_dot head ts stop s =
      let n = name_of (s.front ++ s.final ∷ []) in
      subst (λ ts. Grown ts stop) (sym s.split)
      (subst (Grown (write_all (s.front ++ s.final ∷ []) (kind.Sym y.Dot ∷ s.rest))) s.here
      (none_grows (suc room) s.rest (λ z. write_name n (kind.Sym y.Dot ∷ z)) (leading_then (leading_name n) (leading_one (kind.Sym y.Dot))) (a_call n) (λ z. kind.Ident [] ∷ kind.Sym y.OpenParen ∷ kind.Sym y.CloseParen ∷ z) (λ z. refl)
      (call_is room n (has_parts s.front s.final))))

  at_this : (head : Text) (ts : List Kind) (stop : Fault × List Kind) → DeepStop [] head ts stop → Grown (kind.Ident head ∷ ts) stop
  at_this head ts stop s =
      let n = name_of (s.front ++ s.final ∷ []) in
      subst (λ ts. Grown ts stop) (sym s.split)
      (subst (Grown (write_all (s.front ++ s.final ∷ []) (kind.Sym y.Dot ∷ kind.Word k.This ∷ s.rest))) s.here
      (deep_grows (suc room) (kind.Word k.This) s.rest (λ z. write_name n (kind.Sym y.Dot ∷ z)) (leading_then (leading_name n) (leading_one (kind.Sym y.Dot))) (a_call n)
      (λ z. kind.Ident [] ∷ kind.Sym y.OpenParen ∷ kind.Sym y.CloseParen ∷ z) (λ z. refl) (call_is room n (has_parts s.front s.final))
      2 (x.PostStep (x.This (Some n)) y.PlusPlus) (λ z. kind.Sym y.PlusPlus ∷ z) (λ z. refl) (a_step 1 (x.This (Some n)) y.PlusPlus (has_parts s.front s.final) (omega arith) refl refl (omega arith))))

  after_grows : (head : Text) (ts : List Kind) (d : Dotted) (rest : List Kind) (stop : Fault × List Kind) → kind.Ident head ∷ ts ≡ write_dotted d rest → reader.after_dotted room inner list d rest ≡ Err stop → Grown (kind.Ident head ∷ ts) stop
  unfolding reader.after_dotted
  after_grows head ts (Enclosing before last) rest stop same i = absurd (ok_err i)
  after_grows head ts (Plain before last) rest stop same i =
      effect_call_grows (reader.receiver_of before) last (x.NameExpr (name_of (before ++ last ∷ []))) (kind.Ident head ∷ ts) rest stop (shaped_receiver before) (low_receiver room before) (same ∙ received before last rest) i

  named_grows : (b : Bool) (head : Text) (ts : List Kind) (stop : Fault × List Kind) → and_then (dotted b [] head ts) (reader.after_dotted room inner list) ≡ Err stop → Grown (kind.Ident head ∷ ts) stop
  named_grows b head ts stop h =
      elim (stops (dotted b [] head ts) (reader.after_dotted room inner list) stop h) [
        | Before e ↦ before b e
        | After d rest e i ↦ after_grows head ts d rest stop (dotted_sound b [] head ts (d, rest) e).written i
      ] where
        before : (b : Bool) → dotted b [] head ts ≡ Err stop → Grown (kind.Ident head ∷ ts) stop
        before true e = behind_dot head ts stop (dotted_stop [] head ts stop e)
        before false e =
            elim (dotted_false_stop [] head ts stop e) [
              | inl s ↦ behind_dot head ts stop s
              | inr s ↦ at_this head ts stop s
            ]

  super_grows : (ts : List Kind) (stop : Fault × List Kind) → reader.super_member room inner list ts ≡ Err stop → Grown (kind.Word k.Super ∷ ts) stop
  unfolding reader.super_member
  super_grows ts stop h =
      elim (stops (expect y.Dot ts) _ stop h) [
        | Before e ↦
            subst (Grown (kind.Word k.Super ∷ ts)) (missing y.Dot ts stop e)
            (none_grows (suc room) ts (λ z. kind.Word k.Super ∷ z) (leading_one (kind.Word k.Super)) (x.Call (x.a_receiver x.Super) [] x.no_exprs) (λ z. kind.Sym y.Dot ∷ kind.Ident [] ∷ kind.Sym y.OpenParen ∷ kind.Sym y.CloseParen ∷ z) (λ z. refl)
            (record { is = (refl, (tt, tt)); low = omega arith }))
        | After u rest e d ↦
            (elim (stops (identifier rest) _ stop d) [
              | Before i ↦
                  subst (λ ts. Grown (kind.Word k.Super ∷ ts) stop) (sym (expect_sound y.Dot ts (u, rest) e))
                  (subst (Grown (kind.Word k.Super ∷ kind.Sym y.Dot ∷ rest)) (identifier_token.stops rest stop i)
                  (none_grows (suc room) rest (λ z. kind.Word k.Super ∷ kind.Sym y.Dot ∷ z) (leading_then (leading_one (kind.Word k.Super)) (leading_one (kind.Sym y.Dot))) (x.Call (x.a_receiver x.Super) [] x.no_exprs)
                  (λ z. kind.Ident [] ∷ kind.Sym y.OpenParen ∷ kind.Sym y.CloseParen ∷ z) (λ z. refl) (record { is = (refl, (tt, tt)); low = omega arith })))
              | After member left i j ↦
                  effect_call_grows (x.a_receiver x.Super) member (x.SuperSelect member) (kind.Word k.Super ∷ ts) left stop tt (omega arith)
                  (ap (λ ts. kind.Word k.Super ∷ ts) (expect_sound y.Dot ts (u, rest) e ∙ ap (λ us. kind.Sym y.Dot ∷ us) (identifier_token.took rest (member, left) i))) j
            ])
      ]

  -- ---- steps in front, and literals

  step_grows : (op : Symbol) (ts : List Kind) (stop : Fault × List Kind) → is_step op ≡ true → within 1 room (kind.Sym op) (inner Nothing 12 >>= (λ e. pure (x.PreStep op e))) ts ≡ Err stop → Grown (kind.Sym op ∷ ts) stop
  step_grows op ts stop u h =
      elim (chosen (ltb room 1) _ _ _ h) [
        | inl t ↦
            subst (Grown (kind.Sym op ∷ ts)) (err_is t.1)
            (deep_here (kind.Sym op) ts 2 (x.PreStep op sample) (λ z. kind.Word k.This ∷ z) (λ z. refl) (record { is = (refl, (u, (omega arith, refl), tt)); low = omega arith }))
        | inr t ↦
            (elim (stops (inner Nothing 12 ts) _ stop t.1) [
              | After v rest e d ↦ absurd (ok_err d)
              | Before e ↦
                  grows room (suc room) ts stop (λ z. kind.Sym op ∷ z) (leading_one (kind.Sym op)) (x.PreStep op) (λ z. z) (λ a z. refl)
                  (λ r v is. (suc r, record { is = (refl, (u, is.fits, is.shaped)); low = let l = is.low in omega arith }))
                  (λ v is. record { is = (refl, (u, is.fits, is.shaped)); low = let l = is.low in omega arith }) (growths.grow (ltb-false room 1 t.0) 12 ts stop (omega arith) e)
            ])
      ]

  sign_grows : (s : Symbol) (ts : List Kind) (stop : Fault × List Kind) → cond {A = Outcome x.Expr} (is_step s) (reader.prefix room inner list s ts) (Err (NoTree, kind.Sym s ∷ ts)) ≡ Err stop → Grown (kind.Sym s ∷ ts) stop
  sign_grows y.PlusPlus ts stop h = step_grows y.PlusPlus ts stop refl h
  sign_grows y.MinusMinus ts stop h = step_grows y.MinusMinus ts stop refl h
  sign_grows s ts stop h = refused s ts stop h where
    refused : (s : Symbol) (ts : List Kind) (stop : Fault × List Kind) → ◌≡◌ {A = Outcome x.Expr} (Err (NoTree, kind.Sym s ∷ ts)) (Err stop) → Grown (kind.Sym s ∷ ts) stop
    refused s ts stop h = subst (Grown (kind.Sym s ∷ ts)) (err_is h) (none_here (kind.Sym s ∷ ts))

  plain_grows : (token : Kind) (ts : List Kind) (stop : Fault × List Kind) → cond {A = Outcome x.Expr} (is_plain_literal token) (within 1 room token (pure (x.Lit token)) ts) (Err (NoTree, token ∷ ts)) ≡ Err stop → Grown (token ∷ ts) stop
  plain_grows token ts stop h =
      elim (chosen (is_plain_literal token) _ _ _ h) [
        | inr t ↦ subst (Grown (token ∷ ts)) (err_is t.1) (none_here (token ∷ ts))
        | inl t ↦
            (elim (chosen (ltb room 1) _ _ _ t.1) [
              | inr q ↦ absurd (ok_err q.1)
              | inl q ↦
                  (let p = and_parts (is_literal token) (not (is_least_kind token)) t.0 in
                  subst (Grown (token ∷ ts)) (err_is q.1)
                  (deep_here token ts 2 (x.PostStep (x.Lit token) y.PlusPlus) (λ z. kind.Sym y.PlusPlus ∷ z) (λ z. refl) (record { is = (refl, (refl, (omega arith, p.1), p.0)); low = omega arith })))
            ])
      ]

  this_grows : (ts : List Kind) (stop : Fault × List Kind) → within 1 room (kind.Word k.This) (pure (x.This None)) ts ≡ Err stop → Grown (kind.Word k.This ∷ ts) stop
  this_grows ts stop h =
      elim (chosen (ltb room 1) _ _ _ h) [
        | inr t ↦ absurd (ok_err t.1)
        | inl t ↦
            subst (Grown (kind.Word k.This ∷ ts)) (err_is t.1)
            (deep_here (kind.Word k.This) ts 2 (x.PostStep sample y.PlusPlus) (λ z. kind.Sym y.PlusPlus ∷ z) (λ z. refl) (a_step 1 sample y.PlusPlus tt (omega arith) refl refl (omega arith)))
      ]

  module _ (under : Lead → ℕ → Parser x.Expr) (under_list : Parser x.InitList) (low_reads : ReadsExprs (below room) under) (low_lists : ReadsLists (below room) under_list)
      (low_growths : GrowsExprs (below room) under) (low_growing : GrowsLists (below room) under_list) where
    -- ---- parentheses

    a_paren : (r : ℕ) (e : x.Expr) → IsExpr r 0 e → IsEffect (suc (suc r)) (x.PostStep (x.Paren e) y.PlusPlus)
    a_paren r e is = let l = is.low in a_step (suc r) (x.Paren e) y.PlusPlus (is.fits, is.shaped) (omega arith) refl refl (omega arith)

    paren_grows : (ts : List Kind) (stop : Fault × List Kind) → within 2 room (kind.Sym y.OpenParen) (under Nothing 0 >>= reader.closed) ts ≡ Err stop → Grown (kind.Sym y.OpenParen ∷ ts) stop
    paren_grows ts stop h =
        elim (chosen (ltb room 2) _ _ _ h) [
          | inl t ↦
              subst (Grown (kind.Sym y.OpenParen ∷ ts)) (err_is t.1)
              (deep_here (kind.Sym y.OpenParen) ts 3 (x.PostStep (x.Paren sample) y.PlusPlus) (λ z. kind.Word k.This ∷ kind.Sym y.CloseParen ∷ kind.Sym y.PlusPlus ∷ z) (λ z. refl) (a_paren 1 sample (sample_is 1 0 (omega arith) (omega arith))))
          | inr t ↦
              (let two = ltb-false room 2 t.0 in
              let le = below_two room two in
              elim (stops (under Nothing 0 ts) _ stop t.1) [
                | Before e ↦
                    grows (below room) (suc room) ts stop (λ z. kind.Sym y.OpenParen ∷ z) (leading_one (kind.Sym y.OpenParen)) (λ e. x.PostStep (x.Paren e) y.PlusPlus) (λ z. kind.Sym y.CloseParen ∷ kind.Sym y.PlusPlus ∷ z) (λ a z. refl)
                    (λ r a is. (suc (suc r), a_paren r a is)) (λ a is. with_more (suc (suc (below room))) (suc room) (x.PostStep (x.Paren a) y.PlusPlus) (a_paren (below room) a is) le) (low_growths.grow (some_below room two) 0 ts stop (omega arith) e)
                | After v rest e d ↦
                    (let found = low_reads.sound 0 ts (v, rest) (omega arith) e in
                    elim (stops (expect y.CloseParen rest) _ stop d) [
                      | After u end i d ↦ absurd (ok_err d)
                      | Before i ↦
                          subst (λ ts. Grown (kind.Sym y.OpenParen ∷ ts) stop) (sym found.written)
                          (subst (Grown (kind.Sym y.OpenParen ∷ write_expr v rest)) (missing y.CloseParen rest stop i)
                          (none_grows (suc room) rest (λ z. kind.Sym y.OpenParen ∷ write_expr v z) (leading_then (leading_one (kind.Sym y.OpenParen)) (leading_expr v)) (x.PostStep (x.Paren v) y.PlusPlus)
                          (λ z. kind.Sym y.CloseParen ∷ kind.Sym y.PlusPlus ∷ z) (λ z. refl) (with_more (suc (suc (below room))) (suc room) (x.PostStep (x.Paren v) y.PlusPlus) (a_paren (below room) v found.is) le)))
                    ])
              ])
        ]

    -- ---- creations

    named_new : (r : ℕ) (n : Name) → IsName n → IsEffect (suc r) (x.New n x.no_exprs)
    named_new r n is = record { is = (refl, (is, tt)); low = omega arith }

    stepped : (r : ℕ) (e : x.Expr) → IsExpr r 14 e → IsEffect (suc r) (x.PostStep e y.PlusPlus)
    stepped r e is = record { is = (refl, (refl, (let t = is.fits.0 in omega arith, is.fits.1), is.shaped)); low = let l = is.low in omega arith }

    -- what was read a level lower, and a step
    from_low : (ts : List Kind) (stop : Fault × List Kind) → 1 ≤ below room → Growing (Within 14) write_expr (suc (below room)) ts stop → Grown ts stop
    from_low ts stop some g =
        grows (suc (below room)) (suc room) ts stop (λ z. z) leading_nothing (λ e. x.PostStep e y.PlusPlus) (λ z. kind.Sym y.PlusPlus ∷ z) (λ a z. refl) (λ r e is. (suc r, stepped r e is))
        (λ e is. with_more (suc (suc (below room))) (suc room) (x.PostStep e y.PlusPlus) (stepped (suc (below room)) e is) (below_some room some)) g

    abbrev one_sized : Base → x.Expr
    one_sized b = x.NewArray b (x.more_exprs sample x.no_exprs) 0 x.no_list

    name_none : (n : Name) (us : List Kind) → IsName n → Grown (kind.Word k.New ∷ write_name n us) (NoTree, us)
    name_none n us is =
        none_grows (suc room) us (λ z. kind.Word k.New ∷ write_name n z) (leading_then (leading_one (kind.Word k.New)) (leading_name n)) (x.New n x.no_exprs) (λ z. kind.Sym y.OpenParen ∷ kind.Sym y.CloseParen ∷ z) (λ z. refl) (named_new room n is)

    named_creation : (n : Name) (us : List Kind) (stop : Fault × List Kind) → IsName n → next_token (reader.effect_created_by room inner list under under_list n) us ≡ Err stop → Grown (kind.Word k.New ∷ write_name n us) stop
    named_creation n [] stop is h = subst (Grown (kind.Word k.New ∷ write_name n [])) (err_is h) (name_none n [] is)
    named_creation n (kind.Sym y.OpenParen ∷ us) stop is h =
        elim (stops (reader.arguments room inner list us) _ stop h) [
          | After all rest e d ↦ absurd (ok_err d)
          | Before e ↦
              grows room (suc room) us stop (λ z. kind.Word k.New ∷ write_name n (kind.Sym y.OpenParen ∷ z)) (leading_then (leading_one (kind.Word k.New)) (leading_then (leading_name n) (leading_one (kind.Sym y.OpenParen))))
              (x.New n) (λ z. z) (λ a z. refl) (λ r a are. (suc r, record { is = (refl, (is, are.0)); low = let l : exprs_depth a ≤ r = are.1 in omega arith }))
              (λ a are. record { is = (refl, (is, are.0)); low = let l : exprs_depth a ≤ room = are.1 in omega arith }) (arguments_grow room inner list reads lists growths growing us stop e)
        ]
    named_creation n (kind.Sym y.OpenBracket ∷ us) stop is h =
        elim (chosen (ltb (below room) 1) _ _ _ h) [
          | inr t ↦ from_low (kind.Word k.New ∷ write_name n (kind.Sym y.OpenBracket ∷ us)) stop (ltb-false (below room) 1 t.0) (created_grows (below room) under under_list low_reads low_lists low_growths low_growing n (kind.Sym y.OpenBracket ∷ us) stop is h)
          | inl t ↦
              subst (Grown (kind.Word k.New ∷ write_name n (kind.Sym y.OpenBracket ∷ us))) (err_is t.1)
              (deep_grows (suc room) (kind.Sym y.OpenBracket) us (λ z. kind.Word k.New ∷ write_name n z) (leading_then (leading_one (kind.Word k.New)) (leading_name n)) (x.New n x.no_exprs)
              (λ z. kind.Sym y.OpenParen ∷ kind.Sym y.CloseParen ∷ z) (λ z. refl) (named_new room n is) 3 (x.PostStep (one_sized (base.Named n)) y.PlusPlus)
              (λ z. kind.Word k.This ∷ kind.Sym y.CloseBracket ∷ kind.Sym y.PlusPlus ∷ z) (λ z. refl) (a_step 2 (one_sized (base.Named n)) y.PlusPlus (is, ((omega arith, refl), tt, tt), refl, tt) (omega arith) refl refl (omega arith)))
        ]
    named_creation n (token ∷ us) stop is h = subst (Grown (kind.Word k.New ∷ write_name n (token ∷ us))) (err_is h) (name_none n (token ∷ us) is)

    creation_by : (o : Option Primitive) (ts : List Kind) (stop : Fault × List Kind) → primitive_at ts ≡ o → reader.effect_creation_by room inner list under under_list o ts ≡ Err stop → Grown (kind.Word k.New ∷ ts) stop
    creation_by None ts stop p h =
        elim (stops (name ts) _ stop h) [
          | Before e ↦
              grows room (suc room) ts stop (λ z. kind.Word k.New ∷ z) (leading_one (kind.Word k.New)) (λ n. x.New n x.no_exprs) (λ z. kind.Sym y.OpenParen ∷ kind.Sym y.CloseParen ∷ z) (λ a z. refl) (λ r n is. (suc r, named_new r n is))
              (λ n is. named_new room n is) (name_grows room ts stop e)
          | After n rest e d ↦ (let found = name_sound ts (n, rest) e in subst (λ ts. Grown (kind.Word k.New ∷ ts) stop) (sym found.1) (named_creation n rest stop found.0 d))
        ]
    creation_by (Some q) [] stop p h = absurd (cc)
    creation_by (Some q) (token ∷ ts) stop p h =
        elim (chosen (ltb (below room) 1) _ _ _ h) [
          | inr t ↦ from_low (kind.Word k.New ∷ token ∷ ts) stop (ltb-false (below room) 1 t.0) (by_grows (below room) under under_list low_reads low_lists low_growths low_growing (Some q) (token ∷ ts) stop p h)
          | inl t ↦
              subst (Grown (kind.Word k.New ∷ token ∷ ts)) (err_is t.1)
              (deep_grows (suc room) token ts (λ z. kind.Word k.New ∷ z) (leading_one (kind.Word k.New)) a_new (λ z. kind.Ident [] ∷ kind.Sym y.OpenParen ∷ kind.Sym y.CloseParen ∷ z) (λ z. refl) (new_is room)
              3 (x.PostStep (one_sized (base.Primitive q)) y.PlusPlus) (λ z. kind.Sym y.OpenBracket ∷ kind.Word k.This ∷ kind.Sym y.CloseBracket ∷ kind.Sym y.PlusPlus ∷ z)
              (λ z. ap (λ token. kind.Word k.New ∷ token ∷ kind.Sym y.OpenBracket ∷ kind.Word k.This ∷ kind.Sym y.CloseBracket ∷ kind.Sym y.PlusPlus ∷ z) (sym (primitive_kind_back token q p)))
              (a_step 2 (one_sized (base.Primitive q)) y.PlusPlus (tt, ((omega arith, refl), tt, tt), refl, tt) (omega arith) refl refl (omega arith)))
        ]

    -- ---- what stands in front

    pub first_grows : (ts : List Kind) (stop : Fault × List Kind) → reader.effect_operand room inner list under under_list Nothing ts ≡ Err stop → Grown ts stop
    first_grows [] stop h = subst (Grown []) (err_is h) (none_here [])
    first_grows (kind.Ident head ∷ ts) stop h = named_grows (not (ltb room 1)) head ts stop h
    first_grows (kind.Word k.This ∷ ts) stop h = this_grows ts stop h
    first_grows (kind.Word k.Super ∷ ts) stop h = super_grows ts stop h
    first_grows (kind.Word k.New ∷ ts) stop h = creation_by (primitive_at ts) ts stop refl h
    first_grows (kind.Sym y.OpenParen ∷ ts) stop h = paren_grows ts stop h
    first_grows (kind.Sym s ∷ ts) stop h = sign_grows s ts stop h
    first_grows (token ∷ ts) stop h = plain_grows token ts stop h
