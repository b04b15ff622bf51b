-- Where reading arguments, sizes or a creation stops, what stands before begins one.
use Rattle.std.proofs.Common.{◌≡◌, ℕ, zero, suc, ◌≤◌, max, Bool, true, false, List, [], ◌∷◌, ◌++◌, length, Option, Err, refl, sym, ap, ◌∙◌, subst, ◌⊎◌, inl, inr, arith}
use Rattle.std.proofs.lemmas.Bool.{cases_lt, true≢false}
use Rattle.jr_base.specs.declared.text.Text.{Text}
use Rattle.jr_base.specs.declared.kind.Kind.{Kind}
use Rattle.jr_base.specs.declared.kind.Kind.TheVariants as kind
use Rattle.jr_base.specs.declared.kind.Symbol.{Symbol}
use Rattle.jr_base.specs.declared.kind.Symbol.TheVariants as y
use Rattle.jr_tree.specs.Tokens.{qualifier_tokens, exprs_tokens, after_expr}
use Rattle.jr_tree.specs.Shape.{IsShapedList, IsShapedAnyReceiver, AreShapedExprs}
use Rattle.jr_tree.specs.Depth.{exprs_depth, list_depth, any_receiver_depth}
use Rattle.jr_tree.specs.Mirror.Exprs as x
use Rattle.jr_parse_laws.specs.declared.fault.Fault.{Fault}
use Rattle.jr_parse_laws.specs.declared.fault.Fault.TheVariants.{NoTree, TooDeep}
use Rattle.jr_parse_laws.specs.Parsers.{Parser, first, is_at, is_symbol, begins_with, expect, many, after_comma, pure, ◌>>=◌}
use Rattle.jr_parse_laws.proofs.Outcomes.{chosen, ok_err, is_symbol_is, Before, After, stops}
use Rattle.jr_parse_laws.proofs.Stops.{leading_nothing}
use Rattle.jr_parse_laws.proofs.Exact.{symbol_token, expect_sound}
use Rattle.jr_parse_starts.specs.Starts.{starts_expr, starts_list}
use Rattle.jr_parse_expr.specs.Names.{name_of, dims, Plain}
use Rattle.jr_parse_expr.specs.Exprs as reader
use Rattle.jr_parse_expr.specs.Exprs.{Lead, Nothing, Named, Indexed, skipping, next_token}
use Rattle.jr_parse_expr.specs.Writing.{write_brackets, write_expr, write_exprs, write_others, write_dims, write_qualifier, write_list}
use Rattle.jr_parse_expr.specs.Follow.{IsExpr}
use Rattle.jr_parse_expr.proofs.Written.{exprs_written, others_written, qualifier_written}
use Rattle.jr_parse_expr.proofs.Asked.{ReadsExprs, ReadsLists, depth_pos}
use Rattle.jr_parse_expr.proofs.Arguments.{shortens, write_item, item_sound, any_sound}
use Rattle.jr_parse_expr.proofs.Growths as g
use Rattle.jr_parse_expr.proofs.Growths.{Growing, Starter, leading_tokens, leading_then, leading_expr, leading_one, grows, none_grows, deep_grows, sample, sample_is, starter}
use Rattle.jr_parse_expr.proofs.NameGrowths.{dims_stop, behind_stop, brackets_more, leading_brackets}

-- where no level is left
pub data NoLevel (starts : Option Kind → Bool) (ts : List Kind) (stop : Fault × List Kind) : Type 0 where
  Deep : starts (first ts) ≡ true → (TooDeep, ts) ≡ stop → NoLevel starts ts stop
  Refused : starts (first ts) ≡ false → (NoTree, ts) ≡ stop → NoLevel starts ts stop

abbrev pub Within : ℕ → ℕ → x.Expr → Type 0
Within least r e = IsExpr r least e

abbrev pub IsListIn : ℕ → x.InitList → Type 0
IsListIn r l = IsShapedList l × (list_depth l ≤ r)

pub record GrowsExprs (room : ℕ) (read : Lead → ℕ → Parser x.Expr) : Type 0 where
  pub grow : 1 ≤ room → (least : ℕ) (ts : List Kind) (stop : Fault × List Kind) → least ≤ 12 → read Nothing least ts ≡ Err stop → Growing (Within least) write_expr room ts stop
  pub none : room ≤ 0 → (least : ℕ) (ts : List Kind) (stop : Fault × List Kind) → read Nothing least ts ≡ Err stop → NoLevel starts_expr ts stop
  pub indexed : (before : List Text) (last : Text) (ts : List Kind) (stop : Fault × List Kind) → read (Indexed (name_of (before ++ last ∷ []))) 0 ts ≡ Err stop
      → (read (Named (Plain before last)) 0 (kind.Sym y.OpenBracket ∷ ts) ≡ Err stop) ⊎ NoLevel starts_expr ts stop

pub record GrowsLists (room : ℕ) (read : Parser x.InitList) : Type 0 where
  pub grow : 1 ≤ room → (ts : List Kind) (stop : Fault × List Kind) → read ts ≡ Err stop → Growing IsListIn write_list room ts stop
  pub none : room ≤ 0 → (ts : List Kind) (stop : Fault × List Kind) → read ts ≡ Err stop → NoLevel starts_list ts stop

pub missing : (s : Symbol) (ts : List Kind) (stop : Fault × List Kind) → expect s ts ≡ Err stop → (NoTree, ts) ≡ stop
missing s ts stop h = (symbol_token s).stops ts stop h

abbrev pub AreArgs : ℕ → x.Exprs → Type 0
AreArgs r all = AreShapedExprs all × (exprs_depth all ≤ r)

abbrev pub write_args : x.Exprs → List Kind → List Kind
write_args all rest = write_exprs all (kind.Sym y.CloseParen ∷ rest)

pub one_arg : (r : ℕ) (e : x.Expr) → IsExpr r 0 e → AreArgs r (x.more_exprs e x.no_exprs)
one_arg r e is = let low = is.low in ((is.fits, is.shaped, tt), omega arith)

module _ (room : ℕ) (inner : Lead → ℕ → Parser x.Expr) (list : Parser x.InitList) (reads : ReadsExprs room inner) (lists : ReadsLists room list) (growths : GrowsExprs room inner) (growing : GrowsLists room list) where
  -- ---- arguments

  first_deep : (ts : List Kind) (stop : Fault × List Kind) → starts_expr (first ts) ≡ true → NoLevel starts_expr ts stop → Growing AreArgs write_args room ts stop
  first_deep ts stop starts (Refused h e) = absurd (true≢false (sym starts ∙ h))
  first_deep [] stop starts (Deep h e) = absurd (cc)
  first_deep (token ∷ ts) stop starts (Deep h e) =
      let s = starter token h in
      let low = s.is.low in
      subst (Growing AreArgs write_args room (token ∷ ts)) e
      (deep_grows room token ts (λ z. z) leading_nothing x.no_exprs (λ z. kind.Sym y.CloseParen ∷ z) (λ z. refl) (tt, omega arith)
      s.levels (x.more_exprs s.tree x.no_exprs) (λ z. s.more (kind.Sym y.CloseParen ∷ z)) (λ z. s.spelled (kind.Sym y.CloseParen ∷ z))
      (one_arg s.levels s.tree (record { shaped = s.is.shaped; fits = (omega arith, s.is.fits.1); low = low })))

  first_grows : (ts : List Kind) (stop : Fault × List Kind) → starts_expr (first ts) ≡ true → inner Nothing 0 ts ≡ Err stop → Growing AreArgs write_args room ts stop
  first_grows ts stop starts h =
      elim (cases_lt 0 room) [
        | inl some ↦
            grows room room ts stop (λ z. z) leading_nothing (λ e. x.more_exprs e x.no_exprs) (λ z. kind.Sym y.CloseParen ∷ z) (λ a z. refl) (λ r a is. (r, one_arg r a is)) (λ a is. one_arg room a is)
            (growths.grow some 0 ts stop (omega arith) h)
        | inr none ↦ first_deep ts stop starts (growths.none none 0 ts stop h)
      ]

  others_append : (all : List x.Expr) (v : x.Expr) (z : List Kind) → write_others (x.exprs (all ++ v ∷ [])) z ≡ write_others (x.exprs all) (kind.Sym y.Comma ∷ write_expr v z)
  others_append [] v z = refl
  others_append (e ∷ all) v z = ap (λ ts. kind.Sym y.Comma ∷ write_expr e ts) (others_append all v z)

  abbrev Items : List x.Expr → Type 0
  Items = g.AllAre (begins_with y.Comma) (after_comma (inner Nothing 0)) (shortens room inner list reads) (IsExpr room 0) (write_item room inner list reads) (item_sound room inner list reads)

  abbrev write_items : List x.Expr → List Kind → List Kind
  write_items = g.write_all (begins_with y.Comma) (after_comma (inner Nothing 0)) (shortens room inner list reads) (IsExpr room 0) (write_item room inner list reads) (item_sound room inner list reads)

  items_are : (all : List x.Expr) (z : List Kind) → write_items all z ≡ write_others (x.exprs all) z
  items_are [] z = refl
  items_are (e ∷ all) z = ap (λ ts. kind.Sym y.Comma ∷ write_expr e ts) (items_are all z)

  args_append : (e : x.Expr) (all : List x.Expr) (v : x.Expr) (r : ℕ) → room ≤ r → IsExpr room 0 e → Items all → IsExpr r 0 v → AreArgs r (x.exprs (e ∷ all ++ v ∷ []))
  args_append e [] v r le is are last = let low = is.low in let top = last.low in ((is.fits, is.shaped, (last.fits, last.shaped, tt)), omega arith)
  args_append e (a ∷ all) v r le is are last =
      let low = is.low in
      let more = args_append a all v r le are.0 are.1 last in
      let top : exprs_depth (x.exprs (a ∷ all ++ v ∷ [])) ≤ r = more.1 in
      ((is.fits, is.shaped, more.0), omega arith)

  others_grow : (e : x.Expr) (ts rest : List Kind) (stop : Fault × List Kind) → IsExpr room 0 e → ts ≡ write_expr e rest → many (begins_with y.Comma) (after_comma (inner Nothing 0)) rest ≡ Err stop → Growing AreArgs write_args room ts stop
  others_grow e ts rest stop is same h =
      let s = g.many_stopped (begins_with y.Comma) (after_comma (inner Nothing 0)) (shortens room inner list reads) (IsExpr room 0) (write_item room inner list reads) (item_sound room inner list reads) rest stop h in
      let b = behind_stop y.Comma (inner Nothing 0) s.rest stop s.begun s.stopped in
      let some : 1 ≤ room = (let low = is.low in let pos = depth_pos e in omega arith) in
      let all = x.exprs s.all in
      subst (λ ts. Growing AreArgs write_args room ts stop) (sym (same ∙ ap (write_expr e) (s.split ∙ items_are s.all s.rest ∙ ap (write_others all) b.1)))
      (grows room room b.0 stop (λ z. write_expr e (write_others all (kind.Sym y.Comma ∷ z)))
      (leading_then (leading_expr e) (leading_then (leading_tokens (write_others all) (after_expr all) (others_written all)) (leading_one (kind.Sym y.Comma))))
      (λ v. x.exprs (e ∷ s.all ++ v ∷ [])) (λ z. kind.Sym y.CloseParen ∷ z) (λ v z. ap (write_expr e) (others_append s.all v (kind.Sym y.CloseParen ∷ z)))
      (λ r v last. (max r room, args_append e s.all v (max r room) (omega arith) is s.are (record { shaped = last.shaped; fits = last.fits; low = let l = last.low in omega arith })))
      (λ v last. args_append e s.all v room (omega arith) is s.are last) (growths.grow some 0 b.0 stop (omega arith) b.2))

  pub arguments_grow : (ts : List Kind) (stop : Fault × List Kind) → reader.arguments room inner list ts ≡ Err stop → Growing AreArgs write_args room ts stop
  unfolding reader.arguments
  arguments_grow ts stop h =
      elim (stops (reader.any_commas starts_expr (inner Nothing 0) ts) _ stop h) [
        | Before e ↦
            (elim (chosen (starts_expr (first ts)) _ _ _ e) [
              | inr t ↦ absurd (ok_err t.1)
              | inl t ↦
                  (elim (stops (inner Nothing 0 ts) _ stop t.1) [
                    | Before i ↦ first_grows ts stop t.0 i
                    | After v rest i d ↦
                        (let found = reads.sound 0 ts (v, rest) (omega arith) i in
                        elim (stops (many (begins_with y.Comma) (after_comma (inner Nothing 0)) rest) _ stop d) [
                          | Before j ↦ others_grow v ts rest stop found.is found.written j
                          | After all left j d ↦ absurd (ok_err d)
                        ])
                  ])
            ])
        | After all rest e d ↦
            (let found = any_sound room inner list reads ts (all, rest) e in
            elim (stops (expect y.CloseParen rest) _ stop d) [
              | Before i ↦
                  subst (λ ts. Growing AreArgs write_args room ts stop) (sym found.written)
                  (subst (Growing AreArgs write_args room (write_exprs (x.exprs all) rest)) (missing y.CloseParen rest stop i)
                  (none_grows room rest (write_exprs (x.exprs all)) (leading_tokens (write_exprs (x.exprs all)) (exprs_tokens (x.exprs all)) (exprs_written (x.exprs all))) (x.exprs all) (λ z. kind.Sym y.CloseParen ∷ z) (λ z. refl)
                  (found.shaped, found.low)))
              | After u left i d ↦ absurd (ok_err d)
            ])
      ]

  -- ---- calls

  pub call_grows : (object : x.AnyReceiver) (method : Text) (access : x.Expr) (ts us : List Kind) (stop : Fault × List Kind) → IsShapedAnyReceiver object → any_receiver_depth object ≤ room
      → ts ≡ write_qualifier object (kind.Ident method ∷ us) → reader.call_or room inner list object method access us ≡ Err stop → Growing (Within 12) write_expr (suc room) ts stop
  call_grows object method access ts [] stop s low same h = absurd (ok_err h)
  call_grows object method access ts (token ∷ us) stop s low same h =
      elim (chosen (is_symbol y.OpenParen token) _ _ _ h) [
        | inr t ↦ absurd (ok_err t.1)
        | inl t ↦
            (elim (stops (reader.arguments room inner list us) _ stop t.1) [
              | After all rest e d ↦ absurd (ok_err d)
              | Before e ↦
                  subst (λ ts. Growing (Within 12) write_expr (suc room) ts stop) (sym (same ∙ ap (λ token. write_qualifier object (kind.Ident method ∷ token ∷ us)) (is_symbol_is y.OpenParen token t.0)))
                  (grows room (suc room) us stop (λ z. write_qualifier object (kind.Ident method ∷ kind.Sym y.OpenParen ∷ z))
                  (leading_then (leading_tokens (write_qualifier object) (qualifier_tokens object) (qualifier_written object)) (leading_then (leading_one (kind.Ident method)) (leading_one (kind.Sym y.OpenParen))))
                  (x.Call object method) (λ z. z) (λ a z. refl)
                  (λ r a is. (suc (max r room), record { shaped = (s, is.0); fits = (omega arith, refl); low = let l : exprs_depth a ≤ r = is.1 in omega arith }))
                  (λ a is. record { shaped = (s, is.0); fits = (omega arith, refl); low = let l : exprs_depth a ≤ room = is.1 in omega arith }) (arguments_grow us stop e))
            ])
      ]

  -- ---- sizes of an array

  abbrev pub AreSizes : ℕ → x.Exprs × ℕ → Type 0
  AreSizes r p = AreArgs r p.0

  abbrev pub write_pair : x.Exprs × ℕ → List Kind → List Kind
  write_pair p z = write_dims p.0 (write_brackets p.1 z)

  sizes_empty : (ts : List Kind) (stop : Fault × List Kind) → is_at y.CloseBracket ts ≡ true → skipping {A = List x.Expr × ℕ} (dims >>= (λ more. pure (([], suc more)))) ts ≡ Err stop
      → Growing AreSizes write_pair room (kind.Sym y.OpenBracket ∷ ts) stop
  sizes_empty [] stop q h = absurd (cc)
  sizes_empty (token ∷ ts) stop q h =
      elim (stops (dims ts) _ stop h) [
        | After n rest e d ↦ absurd (ok_err d)
        | Before e ↦
            (let s = dims_stop ts stop e in
            subst (λ us. Growing AreSizes write_pair room (kind.Sym y.OpenBracket ∷ us) stop) (sym (ap (λ token. token ∷ ts) (is_symbol_is y.CloseBracket token q) ∙ ap (λ us. kind.Sym y.CloseBracket ∷ us) s.split))
            (subst (Growing AreSizes write_pair room (write_brackets (suc s.count) (kind.Sym y.OpenBracket ∷ s.rest))) s.here
            (none_grows room s.rest (λ z. write_brackets (suc s.count) (kind.Sym y.OpenBracket ∷ z)) (leading_then (leading_brackets (suc s.count)) (leading_one (kind.Sym y.OpenBracket))) (x.no_exprs, suc (suc s.count))
            (λ z. kind.Sym y.CloseBracket ∷ z) (λ z. brackets_more (suc s.count) z) (tt, omega arith))))
      ]

  sizes_from_grow : 1 ≤ room → (turns : ℕ) (ts : List Kind) (stop : Fault × List Kind) → reader.sizes_from room inner list turns ts ≡ Err stop → Growing AreSizes write_pair room ts stop
  sizes_from_grow some zero ts stop h = absurd (ok_err h)
  sizes_from_grow some (suc turns) [] stop h = absurd (ok_err h)
  sizes_from_grow some (suc turns) (token ∷ ts) stop h =
      elim (chosen (is_symbol y.OpenBracket token) _ _ _ h) [
        | inr t ↦ absurd (ok_err t.1)
        | inl t ↦
            subst (λ token. Growing AreSizes write_pair room (token ∷ ts) stop) (sym (is_symbol_is y.OpenBracket token t.0))
            (elim (chosen (is_at y.CloseBracket ts) _ _ _ t.1) [
              | inl q ↦ sizes_empty ts stop q.0 q.1
              | inr q ↦
                  (elim (stops (inner Nothing 0 ts) _ stop q.1) [
                    | Before e ↦
                        grows room room ts stop (λ z. kind.Sym y.OpenBracket ∷ z) (leading_one (kind.Sym y.OpenBracket)) (λ v. (x.more_exprs v x.no_exprs, 0)) (λ z. kind.Sym y.CloseBracket ∷ z) (λ a z. refl)
                        (λ r a is. (r, one_arg r a is)) (λ a is. one_arg room a is) (growths.grow some 0 ts stop (omega arith) e)
                    | After v rest e d ↦
                        (let found = reads.sound 0 ts (v, rest) (omega arith) e in
                        let low = found.is.low in
                        subst (λ us. Growing AreSizes write_pair room (kind.Sym y.OpenBracket ∷ us) stop) (sym found.written)
                        (elim (stops (expect y.CloseBracket rest) _ stop d) [
                          | Before i ↦
                              subst (Growing AreSizes write_pair room (kind.Sym y.OpenBracket ∷ write_expr v rest)) (missing y.CloseBracket rest stop i)
                              (none_grows room rest (λ z. kind.Sym y.OpenBracket ∷ write_expr v z) (leading_then (leading_one (kind.Sym y.OpenBracket)) (leading_expr v)) (x.more_exprs v x.no_exprs, 0) (λ z. kind.Sym y.CloseBracket ∷ z) (λ z. refl)
                              (one_arg room v found.is))
                          | After u left i d ↦
                              (elim (stops (reader.sizes_from room inner list turns left) _ stop d) [
                                | After p end j d ↦ absurd (ok_err d)
                                | Before j ↦
                                    subst (λ us. Growing AreSizes write_pair room (kind.Sym y.OpenBracket ∷ write_expr v us) stop) (sym (expect_sound y.CloseBracket rest (u, left) i))
                                    (grows room room left stop (λ z. kind.Sym y.OpenBracket ∷ write_expr v (kind.Sym y.CloseBracket ∷ z))
                                    (leading_then (leading_one (kind.Sym y.OpenBracket)) (leading_then (leading_expr v) (leading_one (kind.Sym y.CloseBracket)))) (λ p. (x.more_exprs v p.0, p.1)) (λ z. z) (λ a z. refl)
                                    (λ r a is. (max r room, ((found.is.fits, found.is.shaped, is.0), (let l : exprs_depth a.0 ≤ r = is.1 in omega arith))))
                                    (λ a is. ((found.is.fits, found.is.shaped, is.0), (let l : exprs_depth a.0 ≤ room = is.1 in omega arith))) (sizes_from_grow some turns left stop j))
                              ])
                        ]))
                  ])
            ])
      ]

  pub sizes_grow : 1 ≤ room → (ts : List Kind) (stop : Fault × List Kind) → reader.sizes room inner list ts ≡ Err stop → Growing AreSizes write_pair room ts stop
  unfolding reader.sizes
  sizes_grow some ts stop h = sizes_from_grow some (length ts) ts stop h
