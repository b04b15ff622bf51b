-- Where reading a cast or parentheses stops, what stands before begins one.
use Rattle.std.proofs.Common.{◌≡◌, ℕ, suc, ◌<◌, ◌≤◌, max, true, false, ◌&&◌, List, [], ◌∷◌, ◌++◌, length, length-append, Option, Some, None, Ok, Err, refl, sym, ap, ◌∙◌, subst, ◌⊎◌, inl, inr, arith}
use Rattle.std.proofs.lemmas.Bool.{not_from_false, and_left, and_right}
use Rattle.jr_base.specs.declared.text.Text.{Text}
use Rattle.jr_base.specs.declared.kind.Kind.{Kind}
use Rattle.jr_base.specs.declared.kind.Kind.TheVariants as kind
use Rattle.jr_base.specs.declared.kind.Symbol.TheVariants as y
use Rattle.jr_base.specs.declared.kind.Keyword.TheVariants as k
use Rattle.jr_tree.specs.declared.tree.Name.{Name}
use Rattle.jr_tree.specs.declared.tree.Primitive.{Primitive}
use Rattle.jr_tree.specs.declared.tree.Base.{Base}
use Rattle.jr_tree.specs.declared.tree.Base.TheVariants as base
use Rattle.jr_tree.specs.Shape.{level, is_signed, is_named, IsName, IsBase, IsShapedExpr}
use Rattle.jr_tree.specs.Mirror.Exprs as x
use Rattle.jr_parse_laws.specs.declared.fault.Fault.{Fault}
use Rattle.jr_parse_laws.specs.declared.fault.Fault.TheVariants.{NoTree, TooDeep, OutOfMemory}
use Rattle.jr_parse_laws.specs.Parsers.{Parser, and_then, first, is_at, expect}
use Rattle.jr_parse_laws.specs.Viable.{Begun, Deeper}
use Rattle.jr_parse_laws.proofs.Outcomes.{chosen, ok_err, err_is, is_symbol_is, Before, After, stops}
use Rattle.jr_parse_laws.proofs.Stops.{Leading}
use Rattle.jr_parse_laws.proofs.Exact.{expect_sound}
use Rattle.jr_parse_starts.specs.Starts.{begins_cast_operand, next_is, starts_expr}
use Rattle.jr_parse_expr.specs.Names.{name_of, type_of, primitive_kind, dims, element, Dotted, Plain, Enclosing, dotted}
use Rattle.jr_parse_expr.specs.Exprs as reader
use Rattle.jr_parse_expr.specs.Exprs.{Lead, Nothing, Named, Indexed, skipping, closed}
use Rattle.jr_parse_expr.specs.Writing.{write_all, write_name, write_brackets, write_base, write_expr}
use Rattle.jr_parse_expr.specs.Follow.{IsExpr}
use Rattle.jr_parse_expr.proofs.NameReads.{dims_sound, element_sound, dotted_sound, has_parts, all_append}
use Rattle.jr_parse_expr.proofs.Asked.{ReadsExprs, ReadsLists}
use Rattle.jr_parse_expr.proofs.Parentheses.{not_named, begun_unsigned}
use Rattle.jr_parse_expr.proofs.Growths.{Growing, leading_then, leading_expr, leading_one, grows, none_grows, deep_grows, sample, sample_is, starter}
use Rattle.jr_parse_expr.proofs.NameGrowths.{element_grows, dims_stop, dotted_stop, brackets_more, leading_name, leading_brackets, leading_base}
use Rattle.jr_parse_expr.proofs.PartGrowths.{NoLevel, Deep, Refused, Within, GrowsExprs, GrowsLists, missing}

-- ---- what a cast to a name takes

abbrev IsPlain : ℕ → x.Expr → Type 0
IsPlain r e = IsExpr r 12 e × (is_signed e ≡ false)

plain_first : (e : x.Expr) (f : Kind) (fs ts tail more : List Kind) → ts ≡ f ∷ tail → next_is begins_cast_operand (first ts) ≡ true → write_expr e [] ≡ f ∷ more → IsShapedExpr e → 12 ≤ level e → is_signed e ≡ false
plain_first e f fs ts tail more one starts two s t =
    begun_unsigned e [] (ap (λ (ts : List Kind). next_is begins_cast_operand (first ts)) (two) ∙ sym (ap (λ (ts : List Kind). next_is begins_cast_operand (first ts)) one) ∙ starts) s t

viable_plain : (room : ℕ) (ts rest : List Kind) → 1 ≤ room → next_is begins_cast_operand (first ts) ≡ true → (b : Begun (Within 12 room) write_expr rest ts) → (front more : List Kind) → ts ≡ front ++ rest → write_expr b.tree [] ≡ front ++ more
    → Begun (IsPlain room) write_expr rest ts
viable_plain room ts rest some starts b [] more one two =
    record { tree = sample; is = (sample_is room 12 some (omega arith), refl); more = λ z. kind.Word k.This ∷ z; alike = λ z. record { front = []; one = one; two = refl } }
viable_plain room ts rest some starts b (f ∷ fs) more one two =
    record { tree = b.tree; is = (b.is, plain_first b.tree f fs ts (fs ++ rest) (fs ++ more) one starts two b.is.shaped b.is.fits.0); more = b.more; alike = b.alike }

deeper_plain : (r : ℕ) (ts rest : List Kind) → next_is begins_cast_operand (first ts) ≡ true → length rest < length ts → (b : Begun (Within 12 r) write_expr rest ts) → (front more : List Kind) → ts ≡ front ++ rest → write_expr b.tree [] ≡ front ++ more
    → Begun (IsPlain r) write_expr rest ts
deeper_plain r ts rest starts shorter b [] more one two = absurd (let same = ap (λ (ts : List Kind). length ts) one in omega arith)
deeper_plain r ts rest starts shorter b (f ∷ fs) more one two =
    record { tree = b.tree; is = (b.is, plain_first b.tree f fs ts (fs ++ rest) (fs ++ more) one starts two b.is.shaped b.is.fits.0); more = b.more; alike = b.alike }

split_shorter : (front : List Kind) (token : Kind) (rest ts : List Kind) → ts ≡ front ++ token ∷ rest → length rest < length ts
split_shorter front token rest ts e = let same = ap (λ (ts : List Kind). length ts) e in let joined = length-append front (token ∷ rest) in omega arith

plain_deeper : (f : Fault) (room : ℕ) (ts rest : List Kind) → next_is begins_cast_operand (first ts) ≡ true → Begun (Within 12 room) write_expr rest ts → Deeper (Within 12) write_expr f rest ts → Deeper IsPlain write_expr f rest ts
plain_deeper NoTree room ts rest starts v d = tt
plain_deeper TooDeep room ts [] starts v d = absurd d
plain_deeper TooDeep room ts (token ∷ rest) starts v d =
    let a = v.alike [] in
    let b = d.1.alike [] in
    (d.0, deeper_plain d.0 ts rest starts (split_shorter a.front token rest ts a.one) d.1 b.front (d.1.more []) b.one b.two)
plain_deeper OutOfMemory room ts rest starts v d = absurd d

plain_grows : (room : ℕ) (ts : List Kind) (stop : Fault × List Kind) → 1 ≤ room → next_is begins_cast_operand (first ts) ≡ true → Growing (Within 12) write_expr room ts stop → Growing IsPlain write_expr room ts stop
plain_grows room ts stop some starts g = record {
  viable = let a = g.viable.alike [] in viable_plain room ts stop.1 some starts g.viable a.front (g.viable.more []) a.one a.two;
  deeper = plain_deeper stop.0 room ts stop.1 starts g.viable g.deeper;
}

module _ (room : ℕ) (inner : Lead → ℕ → Parser x.Expr) (list : Parser x.InitList) (reads : ReadsExprs room inner) (lists : ReadsLists room list) (growths : GrowsExprs room inner) (growing : GrowsLists room list) (some : 1 ≤ room) where
  -- a tree begins so, behind an open parenthesis
  abbrev Inside : List Kind → Fault × List Kind → Type 0
  Inside ts stop = Growing (Within 12) write_expr (suc room) (kind.Sym y.OpenParen ∷ ts) stop

  -- ---- casts

  a_cast : (r : ℕ) (b : Base) (n : ℕ) (v : x.Expr) → IsBase b → IsExpr r 12 v → (is_named b && is_signed v) ≡ false → IsExpr (suc r) 12 (x.Cast (type_of b n) v)
  a_cast r b n v is one plain = let low = one.low in record { shaped = (is, one.fits, not_from_false _ plain, one.shaped); fits = (omega arith, refl); low = omega arith }

  sample_cast : (b : Base) (n : ℕ) → IsBase b → IsExpr (suc room) 12 (x.Cast (type_of b n) sample)
  sample_cast b n is = a_cast room b n sample is (sample_is room 12 some (omega arith)) (and_right (is_named b) false refl)

  leading_cast : (b : Base) (n : ℕ) → Leading (λ z. kind.Sym y.OpenParen ∷ write_base b (write_brackets n z))
  leading_cast b n = leading_then (leading_one (kind.Sym y.OpenParen)) (leading_then (leading_base b) (leading_brackets n))

  -- a missing token behind a type
  cast_none : (b : Base) (n : ℕ) (rest : List Kind) → IsBase b → Inside (write_base b (write_brackets n rest)) (NoTree, rest)
  cast_none b n rest is =
      none_grows (suc room) rest (λ z. kind.Sym y.OpenParen ∷ write_base b (write_brackets n z)) (leading_cast b n) (x.Cast (type_of b n) sample) (λ z. kind.Sym y.CloseParen ∷ kind.Word k.This ∷ z) (λ z. refl) (sample_cast b n is)

  -- a bracket that is not closed
  cast_open : (b : Base) (n : ℕ) (rest : List Kind) → IsBase b → Inside (write_base b (write_brackets n (kind.Sym y.OpenBracket ∷ rest))) (NoTree, rest)
  cast_open b n rest is =
      none_grows (suc room) rest (λ z. kind.Sym y.OpenParen ∷ write_base b (write_brackets n (kind.Sym y.OpenBracket ∷ z))) (leading_then (leading_cast b n) (leading_one (kind.Sym y.OpenBracket))) (x.Cast (type_of b (suc n)) sample)
      (λ z. kind.Sym y.CloseBracket ∷ kind.Sym y.CloseParen ∷ kind.Word k.This ∷ z) (λ z. ap (λ ts. kind.Sym y.OpenParen ∷ write_base b ts) (brackets_more n (kind.Sym y.CloseParen ∷ kind.Word k.This ∷ z))) (sample_cast b (suc n) is)

  cast_grows : (b : Base) (n : ℕ) (ts vs : List Kind) (stop : Fault × List Kind) → IsBase b → (next_is begins_cast_operand (first vs) ≡ true ⊎ (is_named b ≡ false)) → ts ≡ write_base b (write_brackets n (kind.Sym y.CloseParen ∷ vs))
      → reader.cast room inner list b n vs ≡ Err stop → Inside ts stop
  cast_grows b n ts vs stop is begins same h =
      elim (stops (inner Nothing 12 vs) _ stop h) [
        | After v rest e d ↦ absurd (ok_err d)
        | Before e ↦
            (let part = growths.grow some 12 vs stop (omega arith) e in
            let leading = leading_then (leading_cast b n) (leading_one (kind.Sym y.CloseParen)) in
            subst (λ ts. Inside ts stop) (sym same)
            (elim begins [
              | inl t ↦
                  grows room (suc room) vs stop (λ z. kind.Sym y.OpenParen ∷ write_base b (write_brackets n (kind.Sym y.CloseParen ∷ z))) leading (x.Cast (type_of b n)) (λ z. z) (λ a z. refl)
                  (λ r v p. (suc r, a_cast r b n v is p.0 (and_right (is_named b) (is_signed v) p.1))) (λ v p. a_cast room b n v is p.0 (and_right (is_named b) (is_signed v) p.1)) (plain_grows room vs stop some t part)
              | inr f ↦
                  grows room (suc room) vs stop (λ z. kind.Sym y.OpenParen ∷ write_base b (write_brackets n (kind.Sym y.CloseParen ∷ z))) leading (x.Cast (type_of b n)) (λ z. z) (λ a z. refl)
                  (λ r v p. (suc r, a_cast r b n v is p (and_left (is_named b) (is_signed v) f))) (λ v p. a_cast room b n v is p (and_left (is_named b) (is_signed v) f)) part
            ]))
      ]

  primitive_grows : (token : Kind) (p : Primitive) (ts : List Kind) (stop : Fault × List Kind) → primitive_kind token ≡ Some p → reader.primitive_cast room inner list (token ∷ ts) ≡ Err stop → Inside (token ∷ ts) stop
  unfolding reader.primitive_cast
  primitive_grows token p ts stop q h =
      elim (stops (element (token ∷ ts)) _ stop h) [
        | Before e ↦
            grows room (suc room) (token ∷ ts) stop (λ z. kind.Sym y.OpenParen ∷ z) (leading_one (kind.Sym y.OpenParen)) (λ b. x.Cast (type_of b 0) sample) (λ z. kind.Sym y.CloseParen ∷ kind.Word k.This ∷ z) (λ a z. refl)
            (λ r b is. (suc room, sample_cast b 0 is)) (λ b is. sample_cast b 0 is) (element_grows room (token ∷ ts) stop e)
        | After b rest e d ↦
            (let found = element_sound (token ∷ ts) (b, rest) e in
            subst (λ ts. Inside ts stop) (sym found.written)
            (elim (stops (dims rest) _ stop d) [
              | Before i ↦
                  (let s = dims_stop rest stop i in
                  subst (λ ts. Inside (write_base b ts) stop) (sym s.split) (subst (Inside (write_base b (write_brackets s.count (kind.Sym y.OpenBracket ∷ s.rest)))) s.here (cast_open b s.count s.rest found.is)))
              | After n left i d ↦
                  (let pairs = dims_sound rest (n, left) i in
                  subst (λ ts. Inside (write_base b ts) stop) (sym pairs.0)
                  (elim (stops (expect y.CloseParen left) _ stop d) [
                    | Before j ↦ subst (Inside (write_base b (write_brackets n left))) (missing y.CloseParen left stop j) (cast_none b n left found.is)
                    | After u end j d ↦
                        cast_grows b n (write_base b (write_brackets n left)) end stop found.is (inr (not_named b p (token ∷ ts) rest found.is q found.written))
                        (ap (λ ts. write_base b (write_brackets n ts)) (expect_sound y.CloseParen left (u, end) j)) d
                  ]))
            ]))
      ]

  -- ---- parentheses

  a_paren : (r : ℕ) (e : x.Expr) → IsExpr r 0 e → IsExpr (suc r) 12 (x.Paren e)
  a_paren r e is = let low = is.low in record { shaped = (is.fits, is.shaped); fits = (omega arith, refl); low = omega arith }

  closed_grows : (ts : List Kind) (stop : Fault × List Kind) → and_then (inner Nothing 0 ts) closed ≡ Err stop → Inside ts stop
  closed_grows ts stop h =
      elim (stops (inner Nothing 0 ts) closed stop h) [
        | Before e ↦
            grows room (suc room) ts stop (λ z. kind.Sym y.OpenParen ∷ z) (leading_one (kind.Sym y.OpenParen)) x.Paren (λ z. kind.Sym y.CloseParen ∷ z) (λ a z. refl) (λ r a is. (suc r, a_paren r a is)) (λ a is. a_paren room a is)
            (growths.grow some 0 ts stop (omega arith) e)
        | After v rest e d ↦
            (let found = reads.sound 0 ts (v, rest) (omega arith) e in
            elim (stops (expect y.CloseParen rest) _ stop d) [
              | After u left i d ↦ absurd (ok_err d)
              | Before i ↦
                  subst (λ ts. Inside ts stop) (sym found.written)
                  (subst (Inside (write_expr v rest)) (missing y.CloseParen rest stop i)
                  (none_grows (suc room) rest (λ z. kind.Sym y.OpenParen ∷ write_expr v z) (leading_then (leading_one (kind.Sym y.OpenParen)) (leading_expr v)) (x.Paren v) (λ z. kind.Sym y.CloseParen ∷ z) (λ z. refl) (a_paren room v found.is)))
            ])
      ]

  default_grows : (d : Dotted) (head : Text) (us vs : List Kind) (stop : Fault × List Kind) → dotted true [] head us ≡ Ok (d, vs) → and_then (inner (Named d) 0 vs) closed ≡ Err stop → Inside (kind.Ident head ∷ us) stop
  default_grows d head us vs stop e h =
      closed_grows (kind.Ident head ∷ us) stop (ap (λ o. and_then o closed) (reads.named 0 head us some ∙ ap (λ o. and_then o (λ d. inner (Named d) 0)) e) ∙ h)

  array_cast_grows : (n : Name) (vs : List Kind) (stop : Fault × List Kind) → IsName n → is_at y.CloseBracket vs ≡ true → skipping (reader.array_cast room inner list n) vs ≡ Err stop → Inside (write_name n (kind.Sym y.OpenBracket ∷ vs)) stop
  unfolding reader.array_cast
  array_cast_grows n [] stop is q h = absurd (cc)
  array_cast_grows n (token ∷ vs) stop is q h =
      subst (λ token. Inside (write_name n (kind.Sym y.OpenBracket ∷ token ∷ vs)) stop) (sym (is_symbol_is y.CloseBracket token q))
      (elim (stops (dims vs) _ stop h) [
        | Before e ↦
            (let s = dims_stop vs stop e in
            subst (λ ts. Inside (write_name n (kind.Sym y.OpenBracket ∷ kind.Sym y.CloseBracket ∷ ts)) stop) (sym s.split)
            (subst (Inside (write_base (base.Named n) (write_brackets (suc s.count) (kind.Sym y.OpenBracket ∷ s.rest)))) s.here (cast_open (base.Named n) (suc s.count) s.rest is)))
        | After m rest e d ↦
            (let pairs = dims_sound vs (m, rest) e in
            subst (λ ts. Inside (write_name n (kind.Sym y.OpenBracket ∷ kind.Sym y.CloseBracket ∷ ts)) stop) (sym pairs.0)
            (elim (stops (expect y.CloseParen rest) _ stop d) [
              | Before i ↦ subst (Inside (write_base (base.Named n) (write_brackets (suc m) rest))) (missing y.CloseParen rest stop i) (cast_none (base.Named n) (suc m) rest is)
              | After u left i d ↦
                  (let closing = expect_sound y.CloseParen rest (u, left) i in
                  elim (chosen (next_is begins_cast_operand (first left)) _ _ _ d) [
                    | inl t ↦
                        cast_grows (base.Named n) (suc m) (write_name n (kind.Sym y.OpenBracket ∷ kind.Sym y.CloseBracket ∷ write_brackets m rest)) left stop is (inl t.0)
                        (ap (λ ts. write_name n (kind.Sym y.OpenBracket ∷ kind.Sym y.CloseBracket ∷ write_brackets m ts)) closing) t.1
                    | inr t ↦
                        subst (λ ts. Inside (write_name n (kind.Sym y.OpenBracket ∷ kind.Sym y.CloseBracket ∷ write_brackets m ts)) stop) (sym closing)
                        (subst (Inside (write_base (base.Named n) (write_brackets (suc m) (kind.Sym y.CloseParen ∷ left)))) (err_is t.1)
                        (none_grows (suc room) left (λ z. kind.Sym y.OpenParen ∷ write_name n (write_brackets (suc m) (kind.Sym y.CloseParen ∷ z))) (leading_then (leading_cast (base.Named n) (suc m)) (leading_one (kind.Sym y.CloseParen)))
                        (x.Cast (type_of (base.Named n) (suc m)) sample) (λ z. kind.Word k.This ∷ z) (λ z. refl) (sample_cast (base.Named n) (suc m) is)))
                  ])
            ]))
      ])

  -- where no level is left behind a bracket
  index_deep : (n : Name) (vs : List Kind) (stop : Fault × List Kind) → IsName n → NoLevel starts_expr vs stop → Inside (write_name n (kind.Sym y.OpenBracket ∷ vs)) stop
  index_deep n vs stop is (Refused f e) = subst (Inside (write_name n (kind.Sym y.OpenBracket ∷ vs))) e (cast_open (base.Named n) 0 vs is)
  index_deep n [] stop is (Deep f e) = absurd (cc)
  index_deep n (token ∷ vs) stop is (Deep f e) =
      let s = starter token f in
      let low = s.is.low in
      subst (Inside (write_name n (kind.Sym y.OpenBracket ∷ token ∷ vs))) e
      (deep_grows (suc room) token vs (λ z. kind.Sym y.OpenParen ∷ write_name n (kind.Sym y.OpenBracket ∷ z)) (leading_then (leading_one (kind.Sym y.OpenParen)) (leading_then (leading_name n) (leading_one (kind.Sym y.OpenBracket))))
      (x.Cast (type_of (base.Named n) 1) sample) (λ z. kind.Sym y.CloseBracket ∷ kind.Sym y.CloseParen ∷ kind.Word k.This ∷ z) (λ z. refl) (sample_cast (base.Named n) 1 is)
      (suc (suc (max 1 s.levels))) (x.Paren (x.Index (x.NameExpr n) s.tree)) (λ z. s.more (kind.Sym y.CloseBracket ∷ kind.Sym y.CloseParen ∷ z))
      (λ z. ap (λ ts. kind.Sym y.OpenParen ∷ write_name n (kind.Sym y.OpenBracket ∷ ts)) (s.spelled (kind.Sym y.CloseBracket ∷ kind.Sym y.CloseParen ∷ z)))
      (a_paren (suc (max 1 s.levels)) (x.Index (x.NameExpr n) s.tree)
      (record { shaped = (((omega arith, refl), refl), is, (omega arith, s.is.fits.1), s.is.shaped); fits = (omega arith, refl); low = omega arith })))

  plain_in_grows : (before : List Text) (last head : Text) (us vs : List Kind) (stop : Fault × List Kind) → dotted true [] head us ≡ Ok (Plain before last, vs) → kind.Ident head ∷ us ≡ write_all (before ++ last ∷ []) vs
      → reader.dotted_in_parens room inner list (Plain before last) vs ≡ Err stop → Inside (kind.Ident head ∷ us) stop
  unfolding reader.dotted_in_parens reader.name_in_parens reader.bracket_in_parens
  plain_in_grows before last head us [] stop e same h = default_grows (Plain before last) head us [] stop e h
  plain_in_grows before last head us (kind.Sym y.CloseParen ∷ vs) stop e same h =
      elim (chosen (next_is begins_cast_operand (first vs)) _ _ _ h) [
        | inl t ↦ cast_grows (base.Named (name_of (before ++ last ∷ []))) 0 (kind.Ident head ∷ us) vs stop (has_parts before last) (inl t.0) same t.1
        | inr t ↦ absurd (ok_err t.1)
      ]
  plain_in_grows before last head us (kind.Sym y.OpenBracket ∷ vs) stop e same h =
      let n = name_of (before ++ last ∷ []) in
      elim (chosen (is_at y.CloseBracket vs) _ _ _ h) [
        | inl t ↦ subst (λ ts. Inside ts stop) (sym same) (array_cast_grows n vs stop (has_parts before last) t.0 t.1)
        | inr t ↦
            (elim (stops (inner (Indexed n) 0 vs) closed stop t.1) [
              | Before i ↦
                  (elim (growths.indexed before last vs stop i) [
                    | inl j ↦ default_grows (Plain before last) head us (kind.Sym y.OpenBracket ∷ vs) stop e (ap (λ o. and_then o closed) j)
                    | inr j ↦ subst (λ ts. Inside ts stop) (sym same) (index_deep n vs stop (has_parts before last) j)
                  ])
              | After v rest i d ↦
                  default_grows (Plain before last) head us (kind.Sym y.OpenBracket ∷ vs) stop e (ap (λ o. and_then o closed) (reads.out_of_bracket 0 before last vs (v, rest) i) ∙ d)
            ])
      ]
  plain_in_grows before last head us (token ∷ vs) stop e same h = default_grows (Plain before last) head us (token ∷ vs) stop e h

  dotted_in_grows : (d : Dotted) (head : Text) (us vs : List Kind) (stop : Fault × List Kind) → dotted true [] head us ≡ Ok (d, vs) → reader.dotted_in_parens room inner list d vs ≡ Err stop → Inside (kind.Ident head ∷ us) stop
  unfolding reader.dotted_in_parens
  dotted_in_grows (Plain before last) head us vs stop e h = plain_in_grows before last head us vs stop e (dotted_sound true [] head us (Plain before last, vs) e).written h
  dotted_in_grows (Enclosing before last) head us vs stop e h = default_grows (Enclosing before last) head us vs stop e h

  -- a name that ends in a dot
  dot_grows : (front : List Text) (final : Text) (rest : List Kind) → Inside (write_all (front ++ final ∷ []) (kind.Sym y.Dot ∷ rest)) (NoTree, rest)
  dot_grows front final rest =
      let n = name_of (front ++ final ∷ []) in
      none_grows (suc room) rest (λ z. kind.Sym y.OpenParen ∷ write_name n (kind.Sym y.Dot ∷ z)) (leading_then (leading_one (kind.Sym y.OpenParen)) (leading_then (leading_name n) (leading_one (kind.Sym y.Dot))))
      (x.Paren (x.NameExpr (name_of ((front ++ final ∷ []) ++ [] ∷ [])))) (λ z. kind.Ident [] ∷ kind.Sym y.CloseParen ∷ z) (λ z. ap (λ ts. kind.Sym y.OpenParen ∷ ts) (all_append front final ([] ∷ []) (kind.Sym y.CloseParen ∷ z)))
      (a_paren room (x.NameExpr (name_of ((front ++ final ∷ []) ++ [] ∷ []))) (record { shaped = has_parts (front ++ final ∷ []) []; fits = (omega arith, refl); low = some }))

  by_grows : (o : Option Primitive) (token : Kind) (ts : List Kind) (stop : Fault × List Kind) → primitive_kind token ≡ o → reader.in_parens_by room inner list o token (token ∷ ts) ≡ Err stop → Inside (token ∷ ts) stop
  by_grows (Some p) token ts stop q h = primitive_grows token p ts stop q h
  by_grows None (kind.Ident head) ts stop q h =
      elim (stops (dotted true [] head ts) _ stop h) [
        | Before e ↦
            (let s = dotted_stop [] head ts stop e in
            subst (λ ts. Inside ts stop) (sym s.split) (subst (Inside (write_all (s.front ++ s.final ∷ []) (kind.Sym y.Dot ∷ s.rest))) s.here (dot_grows s.front s.final s.rest)))
        | After d rest e i ↦ dotted_in_grows d head ts rest stop e i
      ]
  by_grows None token ts stop q h = closed_grows (token ∷ ts) stop h

  pub in_parens_grow : (ts : List Kind) (stop : Fault × List Kind) → reader.in_parens room inner list ts ≡ Err stop → Inside ts stop
  unfolding reader.in_parens
  in_parens_grow [] stop h =
      subst (Inside []) (err_is h)
      (none_grows (suc room) [] (λ z. kind.Sym y.OpenParen ∷ z) (leading_one (kind.Sym y.OpenParen)) (x.Paren sample) (λ z. kind.Word k.This ∷ kind.Sym y.CloseParen ∷ z) (λ z. refl) (a_paren room sample (sample_is room 0 some (omega arith))))
  in_parens_grow (token ∷ ts) stop h = by_grows (primitive_kind token) token ts stop refl h
