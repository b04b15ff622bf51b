-- Where reading an initializer or an expression stops, what stands before begins one.
use Rattle.std.proofs.Common.{◌≡◌, ℕ, zero, suc, ◌≤◌, max, Bool, true, false, ◌||◌, cond, List, [], ◌∷◌, ◌++◌, length, Option, Some, None, Ok, Err, refl, sym, ap, ◌∙◌, subst, ◌⊎◌, inl, inr, arith}
use Rattle.std.proofs.lemmas.Bool.{cases_lt, true≢false}
use Rattle.jr_base.specs.declared.text.Text.{Text}
use Rattle.jr_base.specs.declared.kind.Kind.{Kind}
use Rattle.jr_base.specs.declared.kind.Kind.TheVariants as kind
use Rattle.jr_base.specs.declared.kind.Symbol.TheVariants as y
use Rattle.jr_tree.specs.Shape.{IsShapedInit, AreShapedInits}
use Rattle.jr_tree.specs.Depth.{init_depth, inits_depth}
use Rattle.jr_tree.specs.Tokens.{init_tokens, inits_tokens}
use Rattle.jr_tree.specs.Words.{if_true, mark}
use Rattle.jr_tree.specs.Mirror.Exprs as x
use Rattle.jr_parse_laws.specs.declared.fault.Fault.{Fault}
use Rattle.jr_parse_laws.specs.declared.fault.Fault.TheVariants.{TooDeep}
use Rattle.jr_parse_laws.specs.Parsers.{Outcome, Parser, first, is_at, is_symbol, pure, expect}
use Rattle.jr_parse_laws.proofs.Outcomes.{bind_ok, chosen, ok_err, err_is, is_symbol_is, Before, After, stops}
use Rattle.jr_parse_laws.proofs.Stops.{Leading, leading_nothing}
use Rattle.jr_parse_laws.proofs.Exact.{expect_sound}
use Rattle.jr_parse_starts.specs.Starts.{is_open_brace, begins_operand, starts_expr, starts_list, starts_init, no_level}
use Rattle.jr_parse_expr.specs.Names.{name_of, Plain}
use Rattle.jr_parse_expr.specs.Exprs as reader
use Rattle.jr_parse_expr.specs.Exprs.{Lead, Nothing, Named, Indexed, skipping, expr, list}
use Rattle.jr_parse_expr.specs.Writing.{write_comma, write_list, write_init, write_inits, write_more}
use Rattle.jr_parse_expr.proofs.Written.{init_written, inits_written, comma_written}
use Rattle.jr_parse_expr.proofs.Asked.{ReadsExprs, ReadsLists, depth_pos, list_depth_pos}
use Rattle.jr_parse_expr.proofs.Initializers.{init_sound, items_sound}
use Rattle.jr_parse_expr.proofs.ExprReads.{no_level_err, level_bracket, all_read}
use Rattle.jr_parse_expr.proofs.Growths.{Growing, leading_tokens, leading_then, leading_one, grows, none_grows, deep_grows, starter}
use Rattle.jr_parse_expr.proofs.PartGrowths.{NoLevel, Deep, Refused, IsListIn, GrowsExprs, GrowsLists, missing}
use Rattle.jr_parse_expr.proofs.LevelGrowths.{level_grows}

abbrev pub IsInitIn : ℕ → x.Init → Type 0
IsInitIn r i = IsShapedInit i × (init_depth i ≤ r)

init_pos : (i : x.Init) → 1 ≤ init_depth i
init_pos (x.Value value) = depth_pos value
init_pos (x.Listed l) = list_depth_pos l

leading_init : (i : x.Init) → Leading (write_init i)
leading_init i = leading_tokens (write_init i) (init_tokens i) (init_written i)

-- an empty list
abbrev empty : x.InitList
empty = x.ListOf x.no_inits false

module _ (room : ℕ) (inner : Lead → ℕ → Parser x.Expr) (list : Parser x.InitList) (reads : ReadsExprs room inner) (lists : ReadsLists room list) (growths : GrowsExprs room inner) (growing : GrowsLists room list) where
  pub init_grows : 1 ≤ room → (ts : List Kind) (stop : Fault × List Kind) → reader.init_of room inner list ts ≡ Err stop → Growing IsInitIn write_init room ts stop
  unfolding reader.init_of
  init_grows some ts stop h =
      elim (chosen (starts_list (first ts)) _ _ _ h) [
        | inl t ↦
            (elim (stops (list ts) _ stop t.1) [
              | After l rest e d ↦ absurd (ok_err d)
              | Before e ↦ grows room room ts stop (λ z. z) leading_nothing x.Listed (λ z. z) (λ a z. refl) (λ r a is. (r, is)) (λ a is. is) (growing.grow some ts stop e)
            ])
        | inr t ↦
            (elim (stops (inner Nothing 0 ts) _ stop t.1) [
              | After v rest e d ↦ absurd (ok_err d)
              | Before e ↦
                  grows room room ts stop (λ z. z) leading_nothing x.Value (λ z. z) (λ a z. refl) (λ r a is. (r, ((is.fits, is.shaped), is.low))) (λ a is. ((is.fits, is.shaped), is.low)) (growths.grow some 0 ts stop (omega arith) e)
            ])
      ]

  abbrev Braced : List Kind → Fault × List Kind → Type 0
  Braced ts stop = Growing IsListIn write_list (suc room) (kind.Sym y.OpenBrace ∷ ts) stop

  one_init : (r : ℕ) (i : x.Init) → IsInitIn r i → IsListIn (suc r) (x.ListOf (x.more_inits i x.no_inits) false)
  one_init r i is = ((is.0, tt), (let l : init_depth i ≤ r = is.1 in omega arith))

  -- a level is missing for the first item
  braced_deep : (token : Kind) (ts : List Kind) (deep : ℕ) (i : x.Init) (more : List Kind → List Kind) → ((z : List Kind) → write_init i z ≡ token ∷ more z) → IsInitIn deep i → Braced (token ∷ ts) (TooDeep, token ∷ ts)
  braced_deep token ts deep i more spelled is =
      deep_grows (suc room) token ts (λ z. kind.Sym y.OpenBrace ∷ z) (leading_one (kind.Sym y.OpenBrace)) empty (λ z. kind.Sym y.CloseBrace ∷ z) (λ z. refl) (tt, omega arith)
      (suc deep) (x.ListOf (x.more_inits i x.no_inits) false) (λ z. more (kind.Sym y.CloseBrace ∷ z)) (λ z. ap (λ ts. kind.Sym y.OpenBrace ∷ ts) (spelled (kind.Sym y.CloseBrace ∷ z))) (one_init deep i is)

  list_deep : (ts : List Kind) (stop : Fault × List Kind) → starts_list (first ts) ≡ true → NoLevel starts_list ts stop → Braced ts stop
  list_deep ts stop starts (Refused f e) = absurd (true≢false (sym starts ∙ f))
  list_deep [] stop starts (Deep f e) = absurd (cc)
  list_deep (kind.Sym y.OpenBrace ∷ ts) stop starts (Deep f e) =
      subst (Braced (kind.Sym y.OpenBrace ∷ ts)) e (braced_deep (kind.Sym y.OpenBrace) ts 1 (x.Listed empty) (λ z. kind.Sym y.CloseBrace ∷ z) (λ z. refl) (tt, omega arith))
  list_deep (token ∷ ts) stop starts (Deep f e) = absurd (cc)

  value_deep : (ts : List Kind) (stop : Fault × List Kind) → starts_expr (first ts) ≡ true → NoLevel starts_expr ts stop → Braced ts stop
  value_deep ts stop starts (Refused f e) = absurd (true≢false (sym starts ∙ f))
  value_deep [] stop starts (Deep f e) = absurd (cc)
  value_deep (token ∷ ts) stop starts (Deep f e) =
      let s = starter token f in
      subst (Braced (token ∷ ts)) e (braced_deep token ts s.levels (x.Value s.tree) s.more s.spelled (((omega arith, s.is.fits.1), s.is.shaped), s.is.low))

  not_list : (o : Option Kind) → starts_init o ≡ true → starts_list o ≡ false → starts_expr o ≡ true
  not_list None h f = h
  not_list (Some token) h f = second (is_open_brace token) (begins_operand token) h f where
    second : (b c : Bool) → (b || c) ≡ true → b ≡ false → c ≡ true
    second true c h g = absurd (cc)
    second false c h g = h

  first_zero : room ≤ 0 → (ts : List Kind) (stop : Fault × List Kind) → starts_init (first ts) ≡ true → reader.init_of room inner list ts ≡ Err stop → Braced ts stop
  unfolding reader.init_of
  first_zero none ts stop starts h =
      elim (chosen (starts_list (first ts)) _ _ _ h) [
        | inl t ↦
            (elim (stops (list ts) _ stop t.1) [
              | After l rest e d ↦ absurd (ok_err d)
              | Before e ↦ list_deep ts stop t.0 (growing.none none ts stop e)
            ])
        | inr t ↦
            (elim (stops (inner Nothing 0 ts) _ stop t.1) [
              | After v rest e d ↦ absurd (ok_err d)
              | Before e ↦ value_deep ts stop (not_list (first ts) starts t.0) (growths.none none 0 ts stop e)
            ])
      ]

  first_grows : (ts : List Kind) (stop : Fault × List Kind) → starts_init (first ts) ≡ true → reader.init_of room inner list ts ≡ Err stop → Braced ts stop
  first_grows ts stop starts h =
      elim (cases_lt 0 room) [
        | inl some ↦
            grows room (suc room) ts stop (λ z. kind.Sym y.OpenBrace ∷ z) (leading_one (kind.Sym y.OpenBrace)) (λ i. x.ListOf (x.more_inits i x.no_inits) false) (λ z. kind.Sym y.CloseBrace ∷ z) (λ a z. refl)
            (λ r a is. (suc r, one_init r a is)) (λ a is. one_init room a is) (init_grows some ts stop h)
        | inr none ↦ first_zero none ts stop starts h
      ]

  -- the items behind one
  abbrev AreItems : ℕ → x.Inits → Type 0
  AreItems r all = AreShapedInits all × (inits_depth all ≤ r)

  abbrev write_tail : x.Inits → List Kind → List Kind
  write_tail all z = write_more all (kind.Sym y.CloseBrace ∷ z)

  tail_grows : 1 ≤ room → (turns : ℕ) (ts : List Kind) (stop : Fault × List Kind) → reader.after_item_from room inner list turns ts ≡ Err stop → Growing AreItems write_tail room ts stop
  tail_grows some zero ts stop h = absurd (ok_err h)
  tail_grows some (suc turns) [] stop h = absurd (ok_err h)
  tail_grows some (suc turns) (token ∷ ts) stop h =
      elim (chosen (is_symbol y.Comma token) _ _ _ h) [
        | inr t ↦ absurd (ok_err t.1)
        | inl t ↦
            subst (λ token. Growing AreItems write_tail room (token ∷ ts) stop) (sym (is_symbol_is y.Comma token t.0))
            (elim (chosen (starts_init (first ts)) _ _ _ t.1) [
              | inr q ↦ absurd (ok_err q.1)
              | inl q ↦
                  (elim (stops (reader.init_of room inner list ts) _ stop q.1) [
                    | Before e ↦
                        grows room room ts stop (λ z. kind.Sym y.Comma ∷ z) (leading_one (kind.Sym y.Comma)) (λ i. x.more_inits i x.no_inits) (λ z. kind.Sym y.CloseBrace ∷ z) (λ a z. refl)
                        (λ r a is. (r, ((is.0, tt), (let l : init_depth a ≤ r = is.1 in omega arith)))) (λ a is. ((is.0, tt), (let l : init_depth a ≤ room = is.1 in omega arith))) (init_grows some ts stop e)
                    | After i rest e d ↦
                        (let one = init_sound room inner list reads lists ts (i, rest) e in
                        let low = one.low in
                        elim (stops (reader.after_item_from room inner list turns rest) _ stop d) [
                          | After all left j d ↦ absurd (ok_err d)
                          | Before j ↦
                              subst (λ ts. Growing AreItems write_tail room (kind.Sym y.Comma ∷ ts) stop) (sym one.written)
                              (grows room room rest stop (λ z. kind.Sym y.Comma ∷ write_init i z) (leading_then (leading_one (kind.Sym y.Comma)) (leading_init i)) (x.more_inits i) (λ z. z) (λ a z. refl)
                              (λ r a is. (max r room, ((one.shaped, is.0), (let l : inits_depth a ≤ r = is.1 in omega arith)))) (λ a is. ((one.shaped, is.0), (let l : inits_depth a ≤ room = is.1 in omega arith))) (tail_grows some turns rest stop j))
                        ])
                  ])
            ])
      ]

  comma_ok : (ts : List Kind) (stop : Fault × List Kind) → cond {A = Outcome (List x.Init × Bool)} (is_at y.Comma ts) (skipping (pure ([], true)) ts) (Ok (([], false), ts)) ≡ Err stop → ⊥
  comma_ok [] stop h = ok_err h
  comma_ok (token ∷ ts) stop h =
      elim (chosen (is_symbol y.Comma token) _ _ _ h) [
        | inl t ↦ ok_err t.1
        | inr t ↦ ok_err t.1
      ]

  items_grow : (ts : List Kind) (stop : Fault × List Kind) → reader.items room inner list ts ≡ Err stop → Braced ts stop
  unfolding reader.items reader.after_item
  items_grow ts stop h =
      elim (chosen (starts_init (first ts)) _ _ _ h) [
        | inr q ↦ absurd (comma_ok ts stop q.1)
        | inl q ↦
            (elim (stops (reader.init_of room inner list ts) _ stop q.1) [
              | Before e ↦ first_grows ts stop q.0 e
              | After i rest e d ↦
                  (let one = init_sound room inner list reads lists ts (i, rest) e in
                  let low = one.low in
                  let pos = init_pos i in
                  elim (stops (reader.after_item_from room inner list (length rest) rest) _ stop d) [
                    | After all left j d ↦ absurd (ok_err d)
                    | Before j ↦
                        subst (λ ts. Braced ts stop) (sym one.written)
                        (grows room (suc room) rest stop (λ z. kind.Sym y.OpenBrace ∷ write_init i z) (leading_then (leading_one (kind.Sym y.OpenBrace)) (leading_init i)) (λ all. x.ListOf (x.more_inits i all) false) (λ z. z) (λ a z. refl)
                        (λ r a is. (suc (max r room), ((one.shaped, is.0), (let l : inits_depth a ≤ r = is.1 in omega arith)))) (λ a is. ((one.shaped, is.0), (let l : inits_depth a ≤ room = is.1 in omega arith)))
                        (tail_grows (omega arith) (length rest) rest stop j))
                  ])
            ])
      ]

  leading_inits : (all : x.Inits) → Leading (write_inits all)
  leading_inits all = leading_tokens (write_inits all) (inits_tokens all) (inits_written all)

  leading_comma : (b : Bool) → Leading (write_comma b)
  leading_comma b = leading_tokens (write_comma b) (if_true b (mark y.Comma)) (comma_written b)

  pub braces_grow : (ts : List Kind) (stop : Fault × List Kind) → reader.braces room inner list ts ≡ Err stop → Growing IsListIn write_list (suc room) ts stop
  unfolding reader.braces
  braces_grow ts stop h =
      elim (stops (expect y.OpenBrace ts) _ stop h) [
        | Before e ↦
            subst (Growing IsListIn write_list (suc room) ts) (missing y.OpenBrace ts stop e)
            (none_grows (suc room) ts (λ z. z) leading_nothing empty (λ z. kind.Sym y.OpenBrace ∷ kind.Sym y.CloseBrace ∷ z) (λ z. refl) (tt, omega arith))
        | After u rest e d ↦
            subst (λ ts. Growing IsListIn write_list (suc room) ts stop) (sym (expect_sound y.OpenBrace ts (u, rest) e))
            (elim (stops (reader.items room inner list rest) _ stop d) [
              | Before i ↦ items_grow rest stop i
              | After all left i d ↦
                  (let found = items_sound room inner list reads lists rest (all, left) i in
                  let low : inits_depth (x.inits all.0) ≤ room = found.low in
                  elim (stops (expect y.CloseBrace left) _ stop d) [
                    | After v end j d ↦ absurd (ok_err d)
                    | Before j ↦
                        subst (λ ts. Braced ts stop) (sym found.written)
                        (subst (Braced (write_inits (x.inits all.0) (write_comma all.1 left))) (missing y.CloseBrace left stop j)
                        (none_grows (suc room) left (λ z. kind.Sym y.OpenBrace ∷ write_inits (x.inits all.0) (write_comma all.1 z)) (leading_then (leading_one (kind.Sym y.OpenBrace)) (leading_then (leading_inits (x.inits all.0)) (leading_comma all.1)))
                        (x.ListOf (x.inits all.0) all.1) (λ z. kind.Sym y.CloseBrace ∷ z) (λ z. refl) (found.shaped, omega arith)))
                  ])
            ])
      ]

-- ---- of any number of levels

pub no_level_is : {A : Type 0} (starts : Option Kind → Bool) (ts : List Kind) (stop : Fault × List Kind) → no_level {A = A} starts ts ≡ Err stop → NoLevel starts ts stop
no_level_is starts ts stop h =
    elim (chosen (starts (first ts)) _ _ _ h) [
      | inl t ↦ Deep t.0 (err_is t.1)
      | inr t ↦ Refused t.0 (err_is t.1)
    ]

bracket_zero : (before : List Text) (last : Text) (ts : List Kind) (stop : Fault × List Kind) → expr 1 (Indexed (name_of (before ++ last ∷ []))) 0 ts ≡ Err stop → NoLevel starts_expr ts stop
unfolding expr reader.operations reader.operand reader.after_bracket
bracket_zero before last ts stop h =
    elim (stops _ (reader.climb zero (expr zero) (list zero) 0) stop h) [
      | After left us e d ↦ absurd (let b = bind_ok _ (reader.suffixes zero (expr zero) (list zero)) (left, us) e in let a = bind_ok (expr zero Nothing 0 ts) _ b.0 b.1 in no_level_err starts_expr ts a.0 a.1)
      | Before e ↦
          (elim (stops _ (reader.suffixes zero (expr zero) (list zero)) stop e) [
            | After left us i d ↦ absurd (let a = bind_ok (expr zero Nothing 0 ts) _ (left, us) i in no_level_err starts_expr ts a.0 a.1)
            | Before i ↦
                (elim (stops (expr zero Nothing 0 ts) _ stop i) [
                  | After v us j d ↦ absurd (no_level_err starts_expr ts (v, us) j)
                  | Before j ↦ no_level_is starts_expr ts stop j
                ])
          ])
    ]

bracket_stop : (room : ℕ) (before : List Text) (last : Text) (ts : List Kind) (stop : Fault × List Kind) → expr (suc room) (Indexed (name_of (before ++ last ∷ []))) 0 ts ≡ Err stop
    → (expr (suc room) (Named (Plain before last)) 0 (kind.Sym y.OpenBracket ∷ ts) ≡ Err stop) ⊎ NoLevel starts_expr ts stop
bracket_stop zero before last ts stop h = inr (bracket_zero before last ts stop h)
bracket_stop (suc room) before last ts stop h = inl (level_bracket (suc room) 0 before last ts (omega arith) ∙ h)

pub record GrowsAll (room : ℕ) : Type 0 where
  pub exprs : GrowsExprs room (expr room)
  pub lists : GrowsLists room (list room)

pub all_grow : (room : ℕ) → GrowsAll room
unfolding expr list
all_grow zero = record {
  exprs = record {
    grow = λ some. absurd (omega arith);
    none = λ zero least ts stop h. no_level_is starts_expr ts stop h;
    indexed = λ before last ts stop h. inr (no_level_is starts_expr ts stop h);
  };
  lists = record {
    grow = λ some. absurd (omega arith);
    none = λ zero ts stop h. no_level_is starts_list ts stop h;
  };
}
all_grow (suc room) =
    let before = all_grow room in
    let read = all_read room in
    record {
      exprs = record {
        grow = λ some least ts stop le h. level_grows room (expr room) (list room) read.exprs read.lists before.exprs before.lists least ts stop le h;
        none = λ none. absurd (omega arith);
        indexed = bracket_stop room;
      };
      lists = record {
        grow = λ some ts stop h. braces_grow room (expr room) (list room) read.exprs read.lists before.exprs before.lists ts stop h;
        none = λ none. absurd (omega arith);
      };
    }
