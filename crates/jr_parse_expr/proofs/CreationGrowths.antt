-- Where reading a creation stops, what stands before begins one.
use Rattle.std.proofs.Common.{◌≡◌, ℕ, suc, ◌≤◌, max, false, ltb, List, [], ◌∷◌, Option, Some, None, Err, refl, sym, ap, subst, inl, inr, arith}
use Rattle.std.proofs.lemmas.Bool.{ltb-false, lt-ltb}
use Rattle.jr_base.specs.declared.kind.Kind.{Kind}
use Rattle.jr_base.specs.declared.kind.Kind.TheVariants as kind
use Rattle.jr_base.specs.declared.kind.Symbol.TheVariants as y
use Rattle.jr_base.specs.declared.kind.Keyword.TheVariants as k
use Rattle.jr_tree.specs.declared.tree.Name.{Name}
use Rattle.jr_tree.specs.declared.tree.Primitive.{Primitive}
use Rattle.jr_tree.specs.declared.tree.Base.{Base}
use Rattle.jr_tree.specs.declared.tree.Base.TheVariants as base
use Rattle.jr_tree.specs.Words.{primitive_word}
use Rattle.jr_tree.specs.Shape.{IsName, IsBase}
use Rattle.jr_tree.specs.Depth.{exprs_depth, list_depth}
use Rattle.jr_tree.specs.Mirror.Exprs as x
use Rattle.jr_parse_laws.specs.declared.fault.Fault.{Fault}
use Rattle.jr_parse_laws.specs.declared.fault.Fault.TheVariants.{NoTree}
use Rattle.jr_parse_laws.specs.Parsers.{Parser, is_at, expect, ◌>>◌}
use Rattle.jr_parse_laws.proofs.Outcomes.{chosen, ok_err, err_is, is_symbol_is, Before, After, stops}
use Rattle.jr_parse_laws.proofs.Stops.{leading_nothing}
use Rattle.jr_parse_laws.proofs.Exact.{expect_sound}
use Rattle.jr_parse_starts.specs.Starts.{within}
use Rattle.jr_parse_expr.specs.Names.{name_of, primitive_at, dims, name}
use Rattle.jr_parse_expr.specs.Exprs as reader
use Rattle.jr_parse_expr.specs.Exprs.{Lead, Nothing, next_token}
use Rattle.jr_parse_expr.specs.Writing.{write_name, write_brackets, write_base, write_expr}
use Rattle.jr_parse_expr.specs.Follow.{IsExpr}
use Rattle.jr_parse_expr.proofs.NameReads.{dims_sound, name_sound, primitive_kind_back}
use Rattle.jr_parse_expr.proofs.Asked.{ReadsExprs, ReadsLists}
use Rattle.jr_parse_expr.proofs.Growths.{Growing, leading_then, leading_expr, leading_one, grows, none_grows, deep_grows, sample}
use Rattle.jr_parse_expr.proofs.NameGrowths.{name_grows, dims_stop, brackets_more, leading_name, leading_brackets, leading_base}
use Rattle.jr_parse_expr.proofs.PartGrowths.{Within, GrowsExprs, GrowsLists, missing, AreArgs, arguments_grow, sizes_grow}

module _ (room : ℕ) (inner : Lead → ℕ → Parser x.Expr) (list : Parser x.InitList) (reads : ReadsExprs room inner) (lists : ReadsLists room list) (growths : GrowsExprs room inner) (growing : GrowsLists room list) where
  -- a creation begins so
  abbrev pub Made : List Kind → Fault × List Kind → Type 0
  Made ts stop = Growing (Within 14) write_expr (suc room) (kind.Word k.New ∷ ts) stop

  pub a_new : (r : ℕ) (n : Name) → IsName n → IsExpr (suc r) 14 (x.New n x.no_exprs)
  a_new r n is = record { shaped = (is, tt); fits = (omega arith, refl); low = omega arith }

  empty_array : (r : ℕ) (b : Base) (more : ℕ) → IsBase b → 1 ≤ r → IsExpr (suc r) 14 (x.NewArray b x.no_exprs (suc more) (x.a_list (x.ListOf x.no_inits false)))
  empty_array r b more is some = record { shaped = (is, tt, lt-ltb 0 (suc more) (omega arith), tt); fits = (omega arith, refl); low = omega arith }

  sized_array : (r : ℕ) (b : Base) (size : x.Expr) (ds : x.Exprs) (more : ℕ) → IsBase b → IsExpr r 0 size → AreArgs r ds → IsExpr (suc r) 14 (x.NewArray b (x.more_exprs size ds) more x.no_list)
  sized_array r b size ds more is one are =
      let low = one.low in
      let others : exprs_depth ds ≤ r = are.1 in
      record { shaped = (is, (one.fits, one.shaped, are.0), refl, tt); fits = (omega arith, refl); low = omega arith }

  unsized_grows : (b : Base) (ts : List Kind) (stop : Fault × List Kind) → IsBase b → 1 ≤ room → reader.unsized room inner list b ts ≡ Err stop → Made (write_base b (kind.Sym y.OpenBracket ∷ kind.Sym y.CloseBracket ∷ ts)) stop
  unfolding reader.unsized
  unsized_grows b ts stop is some h =
      elim (stops (dims ts) _ stop h) [
        | Before e ↦
            (let s = dims_stop ts stop e in
            subst (λ ts. Made (write_base b (kind.Sym y.OpenBracket ∷ kind.Sym y.CloseBracket ∷ ts)) stop) (sym s.split)
            (subst (Made (write_base b (write_brackets (suc s.count) (kind.Sym y.OpenBracket ∷ s.rest)))) s.here
            (none_grows (suc room) s.rest (λ z. kind.Word k.New ∷ write_base b (write_brackets (suc s.count) (kind.Sym y.OpenBracket ∷ z)))
            (leading_then (leading_one (kind.Word k.New)) (leading_then (leading_base b) (leading_then (leading_brackets (suc s.count)) (leading_one (kind.Sym y.OpenBracket)))))
            (x.NewArray b x.no_exprs (suc (suc s.count)) (x.a_list (x.ListOf x.no_inits false))) (λ z. kind.Sym y.CloseBracket ∷ kind.Sym y.OpenBrace ∷ kind.Sym y.CloseBrace ∷ z)
            (λ z. ap (λ ts. kind.Word k.New ∷ write_base b ts) (brackets_more (suc s.count) (kind.Sym y.OpenBrace ∷ kind.Sym y.CloseBrace ∷ z))) (empty_array room b (suc s.count) is some))))
        | After n rest e d ↦
            (let found = dims_sound ts (n, rest) e in
            elim (stops (list rest) _ stop d) [
              | After l left i d ↦ absurd (ok_err d)
              | Before i ↦
                  subst (λ ts. Made (write_base b (kind.Sym y.OpenBracket ∷ kind.Sym y.CloseBracket ∷ ts)) stop) (sym found.0)
                  (grows room (suc room) rest stop (λ z. kind.Word k.New ∷ write_base b (write_brackets (suc n) z)) (leading_then (leading_one (kind.Word k.New)) (leading_then (leading_base b) (leading_brackets (suc n))))
                  (λ l. x.NewArray b x.no_exprs (suc n) (x.a_list l)) (λ z. z) (λ a z. refl)
                  (λ r l p. (suc r, record { shaped = (is, tt, lt-ltb 0 (suc n) (omega arith), p.0); fits = (omega arith, refl); low = let d : list_depth l ≤ r = p.1 in omega arith }))
                  (λ l p. record { shaped = (is, tt, lt-ltb 0 (suc n) (omega arith), p.0); fits = (omega arith, refl); low = let d : list_depth l ≤ room = p.1 in omega arith }) (growing.grow some rest stop i))
            ])
      ]

  sized_grows : (b : Base) (ts : List Kind) (stop : Fault × List Kind) → IsBase b → 1 ≤ room → reader.sized room inner list b ts ≡ Err stop → Made (write_base b (kind.Sym y.OpenBracket ∷ ts)) stop
  unfolding reader.sized
  sized_grows b ts stop is some h =
      elim (stops (inner Nothing 0 ts) _ stop h) [
        | Before e ↦
            grows room (suc room) ts stop (λ z. kind.Word k.New ∷ write_base b (kind.Sym y.OpenBracket ∷ z)) (leading_then (leading_one (kind.Word k.New)) (leading_then (leading_base b) (leading_one (kind.Sym y.OpenBracket))))
            (λ v. x.NewArray b (x.more_exprs v x.no_exprs) 0 x.no_list) (λ z. kind.Sym y.CloseBracket ∷ z) (λ a z. refl)
            (λ r a one. (suc r, sized_array r b a x.no_exprs 0 is one (tt, omega arith))) (λ a one. sized_array room b a x.no_exprs 0 is one (tt, omega arith)) (growths.grow some 0 ts stop (omega arith) e)
        | After v rest e d ↦
            (let found = reads.sound 0 ts (v, rest) (omega arith) e in
            subst (λ ts. Made (write_base b (kind.Sym y.OpenBracket ∷ ts)) stop) (sym found.written)
            (elim (stops (expect y.CloseBracket rest) _ stop d) [
              | Before i ↦
                  subst (Made (write_base b (kind.Sym y.OpenBracket ∷ write_expr v rest))) (missing y.CloseBracket rest stop i)
                  (none_grows (suc room) rest (λ z. kind.Word k.New ∷ write_base b (kind.Sym y.OpenBracket ∷ write_expr v z))
                  (leading_then (leading_one (kind.Word k.New)) (leading_then (leading_base b) (leading_then (leading_one (kind.Sym y.OpenBracket)) (leading_expr v)))) (x.NewArray b (x.more_exprs v x.no_exprs) 0 x.no_list)
                  (λ z. kind.Sym y.CloseBracket ∷ z) (λ z. refl) (sized_array room b v x.no_exprs 0 is found.is (tt, omega arith)))
              | After u left i d ↦
                  (elim (stops (reader.sizes room inner list left) _ stop d) [
                    | After p end j d ↦ absurd (ok_err d)
                    | Before j ↦
                        subst (λ us. Made (write_base b (kind.Sym y.OpenBracket ∷ write_expr v us)) stop) (sym (expect_sound y.CloseBracket rest (u, left) i))
                        (grows room (suc room) left stop (λ z. kind.Word k.New ∷ write_base b (kind.Sym y.OpenBracket ∷ write_expr v (kind.Sym y.CloseBracket ∷ z)))
                        (leading_then (leading_one (kind.Word k.New)) (leading_then (leading_base b) (leading_then (leading_one (kind.Sym y.OpenBracket)) (leading_then (leading_expr v) (leading_one (kind.Sym y.CloseBracket))))))
                        (λ p. x.NewArray b (x.more_exprs v p.0) p.1 x.no_list) (λ z. z) (λ a z. refl)
                        (λ r a are. (suc (max r room), sized_array (max r room) b v a.0 a.1 is (record { shaped = found.is.shaped; fits = found.is.fits; low = let l = found.is.low in omega arith }) (are.0, (let l : exprs_depth a.0 ≤ r = are.1 in omega arith))))
                        (λ a are. sized_array room b v a.0 a.1 is found.is are) (sizes_grow room inner list reads lists growths growing some left stop j))
                  ])
            ]))
      ]

  array_grows : (b : Base) (ts : List Kind) (stop : Fault × List Kind) → IsBase b → 1 ≤ room → reader.array room inner list b ts ≡ Err stop → Made (write_base b (kind.Sym y.OpenBracket ∷ ts)) stop
  unfolding reader.array
  array_grows b [] stop is some h = sized_grows b [] stop is some h
  array_grows b (token ∷ ts) stop is some h =
      elim (chosen (is_at y.CloseBracket (token ∷ ts)) _ _ _ h) [
        | inl t ↦ subst (λ token. Made (write_base b (kind.Sym y.OpenBracket ∷ token ∷ ts)) stop) (sym (is_symbol_is y.CloseBracket token t.0)) (unsized_grows b ts stop is some t.1)
        | inr t ↦ sized_grows b (token ∷ ts) stop is some t.1
      ]

  -- an array with one size
  tall_array : (b : Base) → IsBase b → IsExpr 2 14 (x.NewArray b (x.more_exprs sample x.no_exprs) 0 x.no_list)
  tall_array b is = sized_array 1 b sample x.no_exprs 0 is (record { shaped = tt; fits = (omega arith, refl); low = omega arith }) (tt, omega arith)

  -- behind a name, no token that can stand there
  name_none : (n : Name) (us : List Kind) → IsName n → Made (write_name n us) (NoTree, us)
  name_none n us is =
      none_grows (suc room) us (λ z. kind.Word k.New ∷ write_name n z) (leading_then (leading_one (kind.Word k.New)) (leading_name n)) (x.New n x.no_exprs) (λ z. kind.Sym y.OpenParen ∷ kind.Sym y.CloseParen ∷ z) (λ z. refl) (a_new room n is)

  pub created_grows : (n : Name) (us : List Kind) (stop : Fault × List Kind) → IsName n → next_token (reader.created_by room inner list n) us ≡ Err stop → Made (write_name n us) stop
  created_grows n [] stop is h = subst (Made (write_name n [])) (err_is h) (name_none n [] is)
  created_grows n (kind.Sym y.OpenParen ∷ us) stop is h =
      elim (stops (reader.arguments room inner list us) _ stop h) [
        | After all rest e d ↦ absurd (ok_err d)
        | Before e ↦
            grows room (suc room) us stop (λ z. kind.Word k.New ∷ write_name n (kind.Sym y.OpenParen ∷ z)) (leading_then (leading_one (kind.Word k.New)) (leading_then (leading_name n) (leading_one (kind.Sym y.OpenParen))))
            (x.New n) (λ z. z) (λ a z. refl) (λ r a are. (suc r, record { shaped = (is, are.0); fits = (omega arith, refl); low = let l : exprs_depth a ≤ r = are.1 in omega arith }))
            (λ a are. record { shaped = (is, are.0); fits = (omega arith, refl); low = let l : exprs_depth a ≤ room = are.1 in omega arith }) (arguments_grow room inner list reads lists growths growing us stop e)
      ]
  created_grows n (kind.Sym y.OpenBracket ∷ us) stop is h =
      elim (chosen (ltb room 1) _ _ _ h) [
        | inr t ↦ array_grows (base.Named n) us stop is (ltb-false room 1 t.0) t.1
        | inl t ↦
            subst (Made (write_name n (kind.Sym y.OpenBracket ∷ us))) (err_is t.1)
            (deep_grows (suc room) (kind.Sym y.OpenBracket) us (λ z. kind.Word k.New ∷ write_name n z) (leading_then (leading_one (kind.Word k.New)) (leading_name n)) (x.New n x.no_exprs)
            (λ z. kind.Sym y.OpenParen ∷ kind.Sym y.CloseParen ∷ z) (λ z. refl) (a_new room n is) 2 (x.NewArray (base.Named n) (x.more_exprs sample x.no_exprs) 0 x.no_list) (λ z. kind.Word k.This ∷ kind.Sym y.CloseBracket ∷ z) (λ z. refl)
            (tall_array (base.Named n) is))
      ]
  created_grows n (token ∷ us) stop is h = subst (Made (write_name n (token ∷ us))) (err_is h) (name_none n (token ∷ us) is)

  primitive_grows : (token : Kind) (p : Primitive) (ts : List Kind) (stop : Fault × List Kind) → token ≡ kind.Word (primitive_word p)
      → within 1 room token (expect y.OpenBracket >> reader.array room inner list (base.Primitive p)) ts ≡ Err stop → Made (token ∷ ts) stop
  primitive_grows token p ts stop same h =
      elim (chosen (ltb room 1) _ _ _ h) [
        | inl t ↦
            subst (Made (token ∷ ts)) (err_is t.1)
            (deep_grows (suc room) token ts (λ z. kind.Word k.New ∷ z) (leading_one (kind.Word k.New)) (x.New (name_of ([] ∷ [])) x.no_exprs) (λ z. kind.Ident [] ∷ kind.Sym y.OpenParen ∷ kind.Sym y.CloseParen ∷ z) (λ z. refl)
            (a_new room (name_of ([] ∷ [])) refl) 2 (x.NewArray (base.Primitive p) (x.more_exprs sample x.no_exprs) 0 x.no_list) (λ z. kind.Sym y.OpenBracket ∷ kind.Word k.This ∷ kind.Sym y.CloseBracket ∷ z)
            (λ z. ap (λ token. kind.Word k.New ∷ token ∷ kind.Sym y.OpenBracket ∷ kind.Word k.This ∷ kind.Sym y.CloseBracket ∷ z) (sym same)) (tall_array (base.Primitive p) tt))
        | inr t ↦
            (let some = ltb-false room 1 t.0 in
            subst (λ token. Made (token ∷ ts) stop) (sym same)
            (elim (stops (expect y.OpenBracket ts) _ stop t.1) [
              | Before e ↦
                  subst (Made (kind.Word (primitive_word p) ∷ ts)) (missing y.OpenBracket ts stop e)
                  (none_grows (suc room) ts (λ z. kind.Word k.New ∷ kind.Word (primitive_word p) ∷ z) (leading_then (leading_one (kind.Word k.New)) (leading_one (kind.Word (primitive_word p))))
                  (x.NewArray (base.Primitive p) (x.more_exprs sample x.no_exprs) 0 x.no_list) (λ z. kind.Sym y.OpenBracket ∷ kind.Word k.This ∷ kind.Sym y.CloseBracket ∷ z) (λ z. refl)
                  (sized_array room (base.Primitive p) sample x.no_exprs 0 tt (record { shaped = tt; fits = (omega arith, refl); low = some }) (tt, omega arith)))
              | After u rest e d ↦
                  subst (λ ts. Made (kind.Word (primitive_word p) ∷ ts) stop) (sym (expect_sound y.OpenBracket ts (u, rest) e)) (array_grows (base.Primitive p) rest stop tt some d)
            ]))
      ]

  pub by_grows : (o : Option Primitive) (ts : List Kind) (stop : Fault × List Kind) → primitive_at ts ≡ o → reader.creation_by room inner list o ts ≡ Err stop → Made ts stop
  by_grows None ts stop p h =
      elim (stops (name ts) _ stop h) [
        | Before e ↦
            grows room (suc room) ts stop (λ z. kind.Word k.New ∷ z) (leading_one (kind.Word k.New)) (λ n. x.New n x.no_exprs) (λ z. kind.Sym y.OpenParen ∷ kind.Sym y.CloseParen ∷ z) (λ a z. refl) (λ r n is. (suc r, a_new r n is))
            (λ n is. a_new room n is) (name_grows room ts stop e)
        | After n rest e d ↦ (let found = name_sound ts (n, rest) e in subst (λ ts. Made ts stop) (sym found.1) (created_grows n rest stop found.0 d))
      ]
  by_grows (Some q) [] stop p h = absurd (cc)
  by_grows (Some q) (token ∷ ts) stop p h = primitive_grows token q ts stop (primitive_kind_back token q p) h

  pub creation_grows : (ts : List Kind) (stop : Fault × List Kind) → reader.creation room inner list ts ≡ Err stop → Growing (Within 12) write_expr (suc room) (kind.Word k.New ∷ ts) stop
  unfolding reader.creation
  creation_grows ts stop h =
      grows (suc room) (suc room) (kind.Word k.New ∷ ts) stop (λ z. z) leading_nothing (λ e. e) (λ z. z) (λ e z. refl) (λ r e is. (r, looser r e is)) (λ e is. looser (suc room) e is) (by_grows (primitive_at ts) ts stop refl h) where
        looser : (r : ℕ) (e : x.Expr) → IsExpr r 14 e → IsExpr r 12 e
        looser r e is = record { shaped = is.shaped; fits = (let t = is.fits.0 in omega arith, is.fits.1); low = is.low }
