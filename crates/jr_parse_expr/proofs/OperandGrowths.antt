-- Where reading an operand stops, what stands before begins one.
use Rattle.std.proofs.Common.{◌≡◌, ℕ, suc, ◌≤◌, true, not, cond, ltb, List, [], ◌∷◌, ◌++◌, Ok, Err, refl, sym, ap, ◌∙◌, subst, inl, inr, arith}
use Rattle.std.proofs.lemmas.Bool.{or_right, ltb-false}
use Rattle.jr_base.specs.declared.text.Text.{Text}
use Rattle.jr_base.specs.declared.kind.Kind.{Kind}
use Rattle.jr_base.specs.declared.kind.Kind.TheVariants as kind
use Rattle.jr_base.specs.declared.kind.Symbol.{Symbol}
use Rattle.jr_base.specs.declared.kind.Symbol.TheVariants as y
use Rattle.jr_base.specs.declared.kind.Keyword.TheVariants as k
use Rattle.jr_tree.specs.Levels.{is_unary, is_step, is_minus, is_least_kind}
use Rattle.jr_tree.specs.Shape.{is_least}
use Rattle.jr_tree.specs.Mirror.Exprs as x
use Rattle.jr_parse_laws.specs.declared.fault.Fault.{Fault}
use Rattle.jr_parse_laws.specs.declared.fault.Fault.TheVariants.{NoTree, TooDeep}
use Rattle.jr_parse_laws.specs.Parsers.{Outcome, Parser, and_then, expect, identifier}
use Rattle.jr_parse_laws.proofs.Outcomes.{chosen, ok_err, err_is, Before, After, stops}
use Rattle.jr_parse_laws.proofs.Stops.{leading_nothing}
use Rattle.jr_parse_laws.proofs.Exact.{expect_sound, identifier_token}
use Rattle.jr_parse_starts.specs.Starts.{begins_operand, is_plain_literal}
use Rattle.jr_parse_expr.specs.Names.{name_of, Dotted, Plain, Enclosing, dotted}
use Rattle.jr_parse_expr.specs.Exprs as reader
use Rattle.jr_parse_expr.specs.Exprs.{Lead, Nothing}
use Rattle.jr_parse_expr.specs.Writing.{write_all, write_dotted, write_name, write_expr}
use Rattle.jr_parse_expr.proofs.NameReads.{dotted_sound, has_parts, all_append}
use Rattle.jr_parse_expr.proofs.Asked.{ReadsExprs, ReadsLists}
use Rattle.jr_parse_expr.proofs.Operands.{shaped_receiver, low_receiver, received}
use Rattle.jr_parse_expr.proofs.Growths.{Growing, leading_then, leading_one, grows, none_grows, deep_grows, sample, sample_is, starter}
use Rattle.jr_parse_expr.proofs.NameGrowths.{dotted_stop, leading_name}
use Rattle.jr_parse_expr.proofs.PartGrowths.{Within, GrowsExprs, GrowsLists, missing, call_grows}
use Rattle.jr_parse_expr.proofs.CreationGrowths.{creation_grows}
use Rattle.jr_parse_expr.proofs.ParenGrowths.{in_parens_grow}

unary_begins : (s : Symbol) → is_unary s ≡ true → begins_operand (kind.Sym s) ≡ true
unary_begins y.Plus h = refl
unary_begins y.Minus h = refl
unary_begins y.Tilde h = refl
unary_begins y.Not h = refl
unary_begins _ h = absurd (cc)

step_begins : (s : Symbol) → is_step s ≡ true → begins_operand (kind.Sym s) ≡ true
step_begins y.PlusPlus h = refl
step_begins y.MinusMinus h = refl
step_begins _ h = absurd (cc)

module _ (room : ℕ) (inner : Lead → ℕ → Parser x.Expr) (list : Parser x.InitList) (reads : ReadsExprs room inner) (lists : ReadsLists room list) (growths : GrowsExprs room inner) (growing : GrowsLists room list) where
  abbrev pub Begins : List Kind → Fault × List Kind → Type 0
  Begins ts stop = Growing (Within 12) write_expr (suc room) ts stop

  pub none_here : (ts : List Kind) → Begins ts (NoTree, ts)
  none_here ts = none_grows (suc room) ts (λ z. z) leading_nothing sample (λ z. kind.Word k.This ∷ z) (λ z. refl) (sample_is (suc room) 12 (omega arith) (omega arith))

  pub deep_here : (token : Kind) (ts : List Kind) → begins_operand token ≡ true → Begins (token ∷ ts) (TooDeep, token ∷ ts)
  deep_here token ts h =
      let s = starter token h in
      deep_grows (suc room) token ts (λ z. z) leading_nothing sample (λ z. kind.Word k.This ∷ z) (λ z. refl) (sample_is (suc room) 12 (omega arith) (omega arith)) s.levels s.tree s.more s.spelled s.is

  -- ---- operators in front

  unary_grows : (op : Symbol) (ts : List Kind) (stop : Fault × List Kind) → is_unary op ≡ true → 1 ≤ room → and_then (inner Nothing 12 ts) (λ v rest. Ok (x.Unary op v, rest)) ≡ Err stop → Begins (kind.Sym op ∷ ts) stop
  unary_grows op ts stop u some h =
      elim (stops (inner Nothing 12 ts) _ stop h) [
        | After v rest e d ↦ absurd (ok_err d)
        | Before e ↦
            grows room (suc room) ts stop (λ z. kind.Sym op ∷ z) (leading_one (kind.Sym op)) (x.Unary op) (λ z. z) (λ a z. refl)
            (λ r v is. (suc r, record { shaped = (u, is.fits.0, or_right (is_minus op) (not (is_least v)) is.fits.1, is.shaped); fits = (omega arith, refl); low = let l = is.low in omega arith }))
            (λ v is. record { shaped = (u, is.fits.0, or_right (is_minus op) (not (is_least v)) is.fits.1, is.shaped); fits = (omega arith, refl); low = let l = is.low in omega arith }) (growths.grow some 12 ts stop (omega arith) e)
      ]

  pre_grows : (op : Symbol) (ts : List Kind) (stop : Fault × List Kind) → is_step op ≡ true → 1 ≤ room → and_then (inner Nothing 12 ts) (λ v rest. Ok (x.PreStep op v, rest)) ≡ Err stop → Begins (kind.Sym op ∷ ts) stop
  pre_grows op ts stop u some h =
      elim (stops (inner Nothing 12 ts) _ stop h) [
        | After v rest e d ↦ absurd (ok_err d)
        | Before e ↦
            grows room (suc room) ts stop (λ z. kind.Sym op ∷ z) (leading_one (kind.Sym op)) (x.PreStep op) (λ z. z) (λ a z. refl)
            (λ r v is. (suc r, record { shaped = (u, is.fits, is.shaped); fits = (omega arith, refl); low = let l = is.low in omega arith }))
            (λ v is. record { shaped = (u, is.fits, is.shaped); fits = (omega arith, refl); low = let l = is.low in omega arith }) (growths.grow some 12 ts stop (omega arith) e)
      ]

  pub prefix_grows : (op : Symbol) (ts : List Kind) (stop : Fault × List Kind) → reader.prefix room inner list op ts ≡ Err stop → Begins (kind.Sym op ∷ ts) stop
  prefix_grows op ts stop h =
      elim (chosen (is_unary op) _ _ _ h) [
        | inl u ↦
            (elim (chosen (ltb room 1) _ _ _ u.1) [
              | inl t ↦ subst (Begins (kind.Sym op ∷ ts)) (err_is t.1) (deep_here (kind.Sym op) ts (unary_begins op u.0))
              | inr t ↦ unary_grows op ts stop u.0 (ltb-false room 1 t.0) t.1
            ])
        | inr u ↦
            (elim (chosen (is_step op) _ _ _ u.1) [
              | inl v ↦
                  (elim (chosen (ltb room 1) _ _ _ v.1) [
                    | inl t ↦ subst (Begins (kind.Sym op ∷ ts)) (err_is t.1) (deep_here (kind.Sym op) ts (step_begins op v.0))
                    | inr t ↦ pre_grows op ts stop v.0 (ltb-false room 1 t.0) t.1
                  ])
              | inr v ↦ subst (Begins (kind.Sym op ∷ ts)) (err_is v.1) (none_here (kind.Sym op ∷ ts))
            ])
      ]

  negated_grows : (ts : List Kind) (stop : Fault × List Kind) → 1 ≤ room → reader.negated room inner list ts ≡ Err stop → Begins (kind.Sym y.Minus ∷ ts) stop
  unfolding reader.negated
  negated_grows [] stop some h =
      subst (Begins (kind.Sym y.Minus ∷ [])) (err_is h)
      (none_grows (suc room) [] (λ z. kind.Sym y.Minus ∷ z) (leading_one (kind.Sym y.Minus)) (x.Unary y.Minus sample) (λ z. kind.Word k.This ∷ z) (λ z. refl)
      (record { shaped = (refl, omega arith, refl, tt); fits = (omega arith, refl); low = omega arith }))
  negated_grows (token ∷ ts) stop some h =
      elim (chosen (is_least_kind token) _ _ _ h) [
        | inl t ↦ absurd (ok_err t.1)
        | inr t ↦ unary_grows y.Minus (token ∷ ts) stop refl some t.1
      ]

  -- ---- names, and `super`

  named_grows : (head : Text) (ts : List Kind) (stop : Fault × List Kind) → and_then (dotted true [] head ts) (reader.after_dotted room inner list) ≡ Err stop → Begins (kind.Ident head ∷ ts) stop
  unfolding reader.after_dotted
  named_grows head ts stop h =
      elim (stops (dotted true [] head ts) (reader.after_dotted room inner list) stop h) [
        | Before e ↦
            (let s = dotted_stop [] head ts stop e in
            let n = name_of (s.front ++ s.final ∷ []) in
            subst (λ ts. Begins ts stop) (sym s.split)
            (subst (Begins (write_all (s.front ++ s.final ∷ []) (kind.Sym y.Dot ∷ s.rest))) s.here
            (none_grows (suc room) s.rest (λ z. write_name n (kind.Sym y.Dot ∷ z)) (leading_then (leading_name n) (leading_one (kind.Sym y.Dot))) (x.NameExpr (name_of ((s.front ++ s.final ∷ []) ++ [] ∷ []))) (λ z. kind.Ident [] ∷ z)
            (λ z. all_append s.front s.final ([] ∷ []) z) (record { shaped = has_parts (s.front ++ s.final ∷ []) []; fits = (omega arith, refl); low = omega arith }))))
        | After d rest e i ↦ after_grows d rest (dotted_sound true [] head ts (d, rest) e).written i
      ] where
        after_grows : (d : Dotted) (rest : List Kind) → kind.Ident head ∷ ts ≡ write_dotted d rest → reader.after_dotted room inner list d rest ≡ Err stop → Begins (kind.Ident head ∷ ts) stop
        after_grows (Enclosing before last) rest same i = absurd (ok_err i)
        after_grows (Plain before last) rest same i =
            call_grows room inner list reads lists growths growing (reader.receiver_of before) last (x.NameExpr (name_of (before ++ last ∷ []))) (kind.Ident head ∷ ts) rest stop (shaped_receiver before) (low_receiver room before)
            (same ∙ received before last rest) i

  super_grows : (ts : List Kind) (stop : Fault × List Kind) → reader.super_member room inner list ts ≡ Err stop → Begins (kind.Word k.Super ∷ ts) stop
  unfolding reader.super_member
  super_grows ts stop h =
      elim (stops (expect y.Dot ts) _ stop h) [
        | Before e ↦
            subst (Begins (kind.Word k.Super ∷ ts)) (missing y.Dot ts stop e)
            (none_grows (suc room) ts (λ z. kind.Word k.Super ∷ z) (leading_one (kind.Word k.Super)) (x.SuperSelect []) (λ z. kind.Sym y.Dot ∷ kind.Ident [] ∷ z) (λ z. refl) (record { shaped = tt; fits = (omega arith, refl); low = omega arith }))
        | After u rest e d ↦
            (elim (stops (identifier rest) _ stop d) [
              | Before i ↦
                  subst (λ ts. Begins (kind.Word k.Super ∷ ts) stop) (sym (expect_sound y.Dot ts (u, rest) e))
                  (subst (Begins (kind.Word k.Super ∷ kind.Sym y.Dot ∷ rest)) (identifier_token.stops rest stop i)
                  (none_grows (suc room) rest (λ z. kind.Word k.Super ∷ kind.Sym y.Dot ∷ z) (leading_then (leading_one (kind.Word k.Super)) (leading_one (kind.Sym y.Dot))) (x.SuperSelect []) (λ z. kind.Ident [] ∷ z) (λ z. refl)
                  (record { shaped = tt; fits = (omega arith, refl); low = omega arith })))
              | After member left i j ↦
                  call_grows room inner list reads lists growths growing (x.a_receiver x.Super) member (x.SuperSelect member) (kind.Word k.Super ∷ ts) left stop tt (omega arith)
                  (ap (λ ts. kind.Word k.Super ∷ ts) (expect_sound y.Dot ts (u, rest) e ∙ ap (λ us. kind.Sym y.Dot ∷ us) (identifier_token.took rest (member, left) i))) j
            ])
      ]

  plain_grows : (token : Kind) (ts : List Kind) (stop : Fault × List Kind) → cond {A = Outcome x.Expr} (is_plain_literal token) (Ok (x.Lit token, ts)) (Err (NoTree, token ∷ ts)) ≡ Err stop → Begins (token ∷ ts) stop
  plain_grows token ts stop h =
      elim (chosen (is_plain_literal token) _ _ _ h) [
        | inl t ↦ absurd (ok_err t.1)
        | inr t ↦ subst (Begins (token ∷ ts)) (err_is t.1) (none_here (token ∷ ts))
      ]

  pub operand_grows : (ts : List Kind) (stop : Fault × List Kind) → reader.operand room inner list Nothing ts ≡ Err stop → Begins ts stop
  unfolding reader.operand
  operand_grows [] stop h = subst (Begins []) (err_is h) (none_here [])
  operand_grows (kind.Ident head ∷ ts) stop h = named_grows head ts stop h
  operand_grows (kind.Word k.This ∷ ts) stop h = absurd (ok_err h)
  operand_grows (kind.Word k.Super ∷ ts) stop h = super_grows ts stop h
  operand_grows (kind.Word k.New ∷ ts) stop h = creation_grows room inner list reads lists growths growing ts stop h
  operand_grows (kind.Sym y.OpenParen ∷ ts) stop h =
      elim (chosen (ltb room 1) _ _ _ h) [
        | inl t ↦ subst (Begins (kind.Sym y.OpenParen ∷ ts)) (err_is t.1) (deep_here (kind.Sym y.OpenParen) ts refl)
        | inr t ↦ in_parens_grow room inner list reads lists growths growing (ltb-false room 1 t.0) ts stop t.1
      ]
  operand_grows (kind.Sym y.Minus ∷ ts) stop h =
      elim (chosen (ltb room 1) _ _ _ h) [
        | inl t ↦ subst (Begins (kind.Sym y.Minus ∷ ts)) (err_is t.1) (deep_here (kind.Sym y.Minus) ts refl)
        | inr t ↦ negated_grows ts stop (ltb-false room 1 t.0) t.1
      ]
  operand_grows (kind.Sym s ∷ ts) stop h = prefix_grows s ts stop h
  operand_grows (token ∷ ts) stop h = plain_grows token ts stop h
