-- Reading casts and parentheses is exact in both directions.
use Rattle.std.proofs.Common.{◌≡◌, ℕ, zero, suc, ◌≤◌, Bool, true, false, not, ◌&&◌, List, [], ◌∷◌, ◌++◌, Option, Some, None, Ok, refl, sym, ap, ◌∙◌, subst, ◌⊎◌, inl, inr, arith}
use Rattle.std.proofs.lemmas.Bool.{not-true, not-false, not_from_false, and_left, and_right, true≢false}
use Rattle.jr_base.specs.declared.text.Text.{Text}
use Rattle.jr_base.specs.declared.kind.Kind.{Kind}
use Rattle.jr_base.specs.declared.kind.Kind.TheVariants as kind
use Rattle.jr_base.specs.declared.kind.Symbol.TheVariants as y
use Rattle.jr_base.specs.declared.kind.Keyword.TheVariants as k
use Rattle.jr_tree.specs.declared.tree.Name.{Name}
use Rattle.jr_tree.specs.declared.tree.Primitive.{Primitive}
use Rattle.jr_tree.specs.declared.tree.Base.{Base}
use Rattle.jr_tree.specs.declared.tree.Base.TheVariants as base
use Rattle.jr_tree.specs.declared.tree.TypeUse.{TypeUse}
use Rattle.jr_tree.specs.Words.{primitive_word}
use Rattle.jr_tree.specs.Shape.{is_empty, level, is_name, is_named, is_signed, IsName, IsBase, IsShapedExpr}
use Rattle.jr_tree.specs.Depth.{expr_depth}
use Rattle.jr_tree.specs.Mirror.Exprs as x
use Rattle.jr_parse_laws.specs.Parsers.{Parser, and_then, first, is_at, begins_with, expect}
use Rattle.jr_parse_laws.proofs.Outcomes.{bind_ok, chosen, ok_is, err_ok, is_symbol_is}
use Rattle.jr_parse_laws.proofs.Exact.{expect_sound}
use Rattle.jr_parse_starts.specs.Starts.{begins_cast_operand, begins_operand, next_is, starts_expr}
use Rattle.jr_parse_expr.specs.Names.{name_of, type_of, primitive_kind, primitive_at, dims, element, Dotted, Plain, Enclosing, dotted}
use Rattle.jr_parse_expr.specs.Exprs.{Lead, Nothing, Named, Indexed, skipping, closed, cast, primitive_cast, name_in_parens, array_cast, bracket_in_parens, dotted_in_parens, in_parens_by, in_parens}
use Rattle.jr_parse_expr.specs.Writing.{write_parts, write_all, write_name, write_brackets, write_base, write_type, write_dotted, write_expr}
use Rattle.jr_parse_expr.specs.Follow.{Unless, LastEnds, Ends, IsExpr}
use Rattle.jr_parse_expr.proofs.Beginnings.{begins_any, begins_tight}
use Rattle.jr_parse_expr.proofs.Followers.{unless}
use Rattle.jr_parse_expr.proofs.NameReads.{base_named, dotted_name, dotted_sound, dims_read, dims_sound, element_read, element_sound, has_parts, primitive_here}
use Rattle.jr_parse_expr.proofs.Asked.{Found, ReadsExprs, Operand, depth_pos}
use Rattle.jr_parse_expr.proofs.Arguments.{whole_read}

not_primitive : (token : Kind) → begins_operand token ≡ true → primitive_kind token ≡ None
not_primitive (kind.Word k.Boolean) h = absurd (cc)
not_primitive (kind.Word k.Byte) h = absurd (cc)
not_primitive (kind.Word k.Short) h = absurd (cc)
not_primitive (kind.Word k.Char) h = absurd (cc)
not_primitive (kind.Word k.Int) h = absurd (cc)
not_primitive (kind.Word k.Long) h = absurd (cc)
not_primitive token h = refl

abbrev past_one : List Kind → List Kind
past_one [] = []
past_one (token ∷ ts) = ts

-- a cast to a name takes no sign (JLS 15.16)
pub begun_unsigned : (e : x.Expr) (rest : List Kind) → next_is begins_cast_operand (first (write_expr e rest)) ≡ true → IsShapedExpr e → 12 ≤ level e → is_signed e ≡ false
begun_unsigned (x.Unary y.Plus value) rest h s t = absurd (cc)
begun_unsigned (x.Unary y.Minus value) rest h s t = absurd (cc)
begun_unsigned (x.Unary _ value) rest h s t = refl
begun_unsigned (x.PreStep y.PlusPlus value) rest h s t = absurd (cc)
begun_unsigned (x.PreStep y.MinusMinus value) rest h s t = absurd (cc)
begun_unsigned (x.PreStep _ value) rest h s t = absurd (let g = s.0 in cc)
begun_unsigned e rest h s t = refl

pub not_named : (b : Base) (p : Primitive) (ts us : List Kind) → IsBase b → primitive_at ts ≡ Some p → ts ≡ write_base b us → is_named b ≡ false
not_named (base.Primitive q) p ts us is g e = refl
not_named (base.Named n) p ts us is g e = absurd (none_some (sym (base_named n.parts us is) ∙ sym (ap primitive_at e) ∙ g)) where
  none_some : {A : Type 0} {a : A} → None ≡ Some a → ⊥
  none_some e = cc

abbrev is_identifier : List Kind → Bool
is_identifier (kind.Ident name ∷ ts) = true
is_identifier _ = false

all_begins : (all : List Text) (ts : List Kind) → not (is_empty all) ≡ true → is_identifier (write_all all ts) ≡ true
all_begins [] ts some = absurd (cc)
all_begins (head ∷ all) ts some = refl

-- what begins with no identifier is no name
name_begins_only : (e : x.Expr) (token : Kind) (ts rest : List Kind) → is_identifier (token ∷ ts) ≡ false → IsShapedExpr e → token ∷ ts ≡ write_expr e rest → is_name e ≡ false
name_begins_only (x.NameExpr n) token ts rest h s e = absurd (true≢false (sym (all_begins n.parts rest s) ∙ sym (ap is_identifier e) ∙ h))
name_begins_only e token ts rest h s same = refl

-- whether a name is closed at once
abbrev is_close : Dotted → List Kind → Bool
is_close (Plain before last) ts = is_at y.CloseParen ts
is_close (Enclosing before last) ts = false

all_next : (all : List Text) (head : Text) (us vs rest : List Kind) (d : Dotted) → not (is_empty all) ≡ true → kind.Ident head ∷ us ≡ write_all all (kind.Sym y.CloseParen ∷ rest) → dotted true [] head us ≡ Ok (d, vs)
    → is_close d vs ≡ true
all_next [] head us vs rest d some e h = absurd (cc)
all_next (first_part ∷ all) head us vs rest d some e h =
    let same_head : head ≡ first_part = cc in
    let same : us ≡ write_parts all (kind.Sym y.CloseParen ∷ rest) = cc in
    let read = dotted_name true [] head all (kind.Sym y.CloseParen ∷ rest) refl in
    ap (λ (p : Dotted × List Kind). is_close p.0 p.1) (sym (ok_is (sym read.read ∙ ap (dotted true [] head) (sym same) ∙ h)))

named_next : (e : x.Expr) (head : Text) (us vs rest : List Kind) (d : Dotted) → IsShapedExpr e → kind.Ident head ∷ us ≡ write_expr e (kind.Sym y.CloseParen ∷ rest) → dotted true [] head us ≡ Ok (d, vs)
    → is_name e ≡ true → is_close d vs ≡ true
named_next (x.NameExpr n) head us vs rest d s e h named = all_next n.parts head us vs rest d s e h
named_next e head us vs rest d s same h named = absurd (cc)

module _ (room : ℕ) (inner : Lead → ℕ → Parser x.Expr) (list : Parser x.InitList) (reads : ReadsExprs room inner) where
  -- ---- casts

  cast_read : (b : Base) (pairs : ℕ) (value : x.Expr) (rest : List Kind) → IsExpr room 12 value → Ends 12 value (first rest)
      → cast room inner list b pairs (write_expr value rest) ≡ Ok (x.Cast (type_of b pairs) value, rest)
  cast_read b pairs value rest is ended = rw (reads.complete 12 value rest is ended) refl

  primitive_cast_read : (p : Primitive) (pairs : ℕ) (value : x.Expr) (rest : List Kind) → IsExpr room 12 value → Ends 12 value (first rest)
      → in_parens room inner list (kind.Word (primitive_word p) ∷ write_brackets pairs (kind.Sym y.CloseParen ∷ write_expr value rest)) ≡ Ok (x.Cast (type_of (base.Primitive p) pairs) value, rest)
  unfolding in_parens primitive_cast
  primitive_cast_read p pairs value rest is ended =
      let us = kind.Sym y.CloseParen ∷ write_expr value rest in
      let ts = kind.Word (primitive_word p) ∷ write_brackets pairs us in
      ap (λ o. in_parens_by room inner list o (kind.Word (primitive_word p)) ts) (primitive_here p)
      ∙ rw (element_read (base.Primitive p) (write_brackets pairs us) tt tt, dims_read pairs us refl, reads.complete 12 value rest is ended) refl

  -- behind a name and its close
  close_read : (n : Name) (value : x.Expr) (rest : List Kind) → IsExpr room 12 value → Ends 12 value (first rest) → is_signed value ≡ false
      → name_in_parens room inner list n (write_expr value rest) ≡ Ok (x.Cast (type_of (base.Named n) 0) value, rest)
  unfolding name_in_parens
  close_read n value rest is ended plain =
      rw (begins_tight value rest is.shaped is.fits.0 plain (not-true _ is.fits.1), reads.complete 12 value rest is ended) refl

  brackets_read : (n : Name) (more : ℕ) (value : x.Expr) (rest : List Kind) → IsExpr room 12 value → Ends 12 value (first rest) → is_signed value ≡ false
      → bracket_in_parens room inner list n (kind.Sym y.CloseBracket ∷ write_brackets more (kind.Sym y.CloseParen ∷ write_expr value rest)) ≡ Ok (x.Cast (type_of (base.Named n) (suc more)) value, rest)
  unfolding bracket_in_parens array_cast
  brackets_read n more value rest is ended plain =
      rw (
        dims_read more (kind.Sym y.CloseParen ∷ write_expr value rest) refl,
        begins_tight value rest is.shaped is.fits.0 plain (not-true _ is.fits.1),
        reads.complete 12 value rest is ended,
      ) refl

  -- behind a name
  after_name_read : (before : List Text) (last : Text) (pairs : ℕ) (value : x.Expr) (rest : List Kind) → IsExpr room 12 value → Ends 12 value (first rest) → is_signed value ≡ false
      → dotted_in_parens room inner list (Plain before last) (write_brackets pairs (kind.Sym y.CloseParen ∷ write_expr value rest))
      ≡ Ok (x.Cast (type_of (base.Named (name_of (before ++ last ∷ []))) pairs) value, rest)
  unfolding dotted_in_parens
  after_name_read before last zero value rest is ended plain = close_read (name_of (before ++ last ∷ [])) value rest is ended plain
  after_name_read before last (suc more) value rest is ended plain = brackets_read (name_of (before ++ last ∷ [])) more value rest is ended plain

  no_dot : (pairs : ℕ) (us : List Kind) → begins_with y.Dot (first (write_brackets pairs (kind.Sym y.CloseParen ∷ us))) ≡ false
  no_dot zero us = refl
  no_dot (suc pairs) us = refl

  named_cast_read : (all : List Text) (pairs : ℕ) (value : x.Expr) (rest : List Kind) → not (is_empty all) ≡ true → IsExpr room 12 value → Ends 12 value (first rest) → is_signed value ≡ false
      → in_parens room inner list (write_all all (write_brackets pairs (kind.Sym y.CloseParen ∷ write_expr value rest))) ≡ Ok (x.Cast (type_of (base.Named (name_of all)) pairs) value, rest)
  unfolding in_parens
  named_cast_read [] pairs value rest some is ended plain = absurd (cc)
  named_cast_read (head ∷ all) pairs value rest some is ended plain =
      let us = write_brackets pairs (kind.Sym y.CloseParen ∷ write_expr value rest) in
      let d = dotted_name true [] head all us (no_dot pairs (write_expr value rest)) in
      rw d.read (after_name_read d.front d.last pairs value rest is ended plain ∙ ap (λ all. Ok (x.Cast (type_of (base.Named (name_of all)) pairs) value, rest)) d.parts)

  base_cast_read : (b : Base) (pairs : ℕ) (value : x.Expr) (rest : List Kind) → IsBase b → IsExpr room 12 value → Ends 12 value (first rest) → (is_named b && is_signed value) ≡ false
      → in_parens room inner list (write_base b (write_brackets pairs (kind.Sym y.CloseParen ∷ write_expr value rest))) ≡ Ok (x.Cast (type_of b pairs) value, rest)
  base_cast_read (base.Primitive p) pairs value rest some is ended plain = primitive_cast_read p pairs value rest is ended
  base_cast_read (base.Named n) pairs value rest some is ended plain = named_cast_read n.parts pairs value rest some is ended plain

  pub casts_read : (t : TypeUse) (value : x.Expr) (rest : List Kind) → IsShapedExpr (x.Cast t value) → expr_depth value ≤ room → Ends 12 value (first rest)
      → in_parens room inner list (write_type t (kind.Sym y.CloseParen ∷ write_expr value rest)) ≡ Ok (x.Cast t value, rest)
  casts_read t value rest s low ended =
      base_cast_read t.base t.dims value rest s.0 (record { shaped = s.3; fits = s.1; low = low }) ended (not-true _ s.2)

  -- ---- parentheses

  -- a name is all that is read of one
  name_alone : (e : x.Expr) (before : List Text) (last : Text) (ts vs rest : List Kind) → 1 ≤ room → ts ≡ write_all (before ++ last ∷ []) (kind.Sym y.CloseParen ∷ vs)
      → inner Nothing 0 ts ≡ Ok (e, kind.Sym y.CloseParen ∷ rest) → ◌≡◌ {A = x.Expr × List Kind} (x.NameExpr (name_of (before ++ last ∷ [])), kind.Sym y.CloseParen ∷ vs) (e, kind.Sym y.CloseParen ∷ rest)
  name_alone e before last ts vs rest some same h =
      let n = name_of (before ++ last ∷ []) in
      let is : IsExpr room 0 (x.NameExpr n) = record { shaped = has_parts before last; fits = (omega arith, refl); low = some } in
      let read = whole_read room inner list reads (x.NameExpr n) (kind.Sym y.CloseParen ∷ vs) is (record { cast = refl; none = refl }) in
      ok_is (sym read ∙ ap (inner Nothing 0) (sym same) ∙ h)

  abbrev Fine : x.Expr → List Kind → Type 0
  Fine e rest = is_name e ≡ true → next_is begins_cast_operand (first rest) ≡ false

  closing : (p : Parser x.Expr) (ts : List Kind) (e : x.Expr) (rest : List Kind) → p ts ≡ Ok (e, kind.Sym y.CloseParen ∷ rest) → and_then (p ts) closed ≡ Ok (x.Paren e, rest)
  closing p ts e rest h = rw h refl

  behind_bracket_read : (before : List Text) (last : Text) (vs : List Kind) (e : x.Expr) (rest : List Kind) → inner (Named (Plain before last)) 0 (kind.Sym y.OpenBracket ∷ vs) ≡ Ok (e, kind.Sym y.CloseParen ∷ rest)
      → bracket_in_parens room inner list (name_of (before ++ last ∷ [])) vs ≡ Ok (x.Paren e, rest)
  unfolding bracket_in_parens
  behind_bracket_read before last [] e rest h = closing (inner (Indexed (name_of (before ++ last ∷ []))) 0) [] e rest (reads.into_bracket 0 before last [] _ h)
  behind_bracket_read before last (kind.Sym y.CloseBracket ∷ vs) e rest h =
      absurd (reads.no_index 0 (name_of (before ++ last ∷ [])) vs _ (reads.into_bracket 0 before last (kind.Sym y.CloseBracket ∷ vs) _ h))
  behind_bracket_read before last (token ∷ vs) e rest h = closing (inner (Indexed (name_of (before ++ last ∷ []))) 0) (token ∷ vs) e rest (reads.into_bracket 0 before last (token ∷ vs) _ h)

  plain_read : (before : List Text) (last : Text) (ts us : List Kind) (e : x.Expr) (rest : List Kind) → 1 ≤ room → Fine e rest → ts ≡ write_all (before ++ last ∷ []) us
      → inner Nothing 0 ts ≡ Ok (e, kind.Sym y.CloseParen ∷ rest) → inner (Named (Plain before last)) 0 us ≡ Ok (e, kind.Sym y.CloseParen ∷ rest)
      → dotted_in_parens room inner list (Plain before last) us ≡ Ok (x.Paren e, rest)
  unfolding dotted_in_parens name_in_parens
  plain_read before last ts [] e rest some fine same g h = closing (inner (Named (Plain before last)) 0) [] e rest h
  plain_read before last ts (kind.Sym y.CloseParen ∷ vs) e rest some fine same g h =
      let alone = name_alone e before last ts vs rest some same g in
      let is_one : x.NameExpr (name_of (before ++ last ∷ [])) ≡ e = ap (λ (p : x.Expr × List Kind). p.0) alone in
      let ends_same : vs ≡ rest = ap (λ (p : x.Expr × List Kind). past_one p.1) alone in
      let free : next_is begins_cast_operand (first vs) ≡ false = subst (λ (ts : List Kind). next_is begins_cast_operand (first ts) ≡ false) (sym ends_same) (fine (ap is_name (sym is_one))) in
      rw free (ap (λ (p : x.Expr × List Kind). Ok (x.Paren p.0, past_one p.1)) alone)
  plain_read before last ts (kind.Sym y.OpenBracket ∷ vs) e rest some fine same g h = behind_bracket_read before last vs e rest h
  plain_read before last ts (token ∷ vs) e rest some fine same g h = closing (inner (Named (Plain before last)) 0) (token ∷ vs) e rest h

  dotted_read : (d : Dotted) (ts us : List Kind) (e : x.Expr) (rest : List Kind) → 1 ≤ room → Fine e rest → ts ≡ write_dotted d us
      → inner Nothing 0 ts ≡ Ok (e, kind.Sym y.CloseParen ∷ rest) → inner (Named d) 0 us ≡ Ok (e, kind.Sym y.CloseParen ∷ rest)
      → dotted_in_parens room inner list d us ≡ Ok (x.Paren e, rest)
  unfolding dotted_in_parens
  dotted_read (Plain before last) ts us e rest some fine same g h = plain_read before last ts us e rest some fine same g h
  dotted_read (Enclosing before last) ts us e rest some fine same g h = closing (inner (Named (Enclosing before last)) 0) us e rest h

  from_read : (ts : List Kind) (e : x.Expr) (rest : List Kind) → 1 ≤ room → Fine e rest → starts_expr (first ts) ≡ true → inner Nothing 0 ts ≡ Ok (e, kind.Sym y.CloseParen ∷ rest)
      → in_parens room inner list ts ≡ Ok (x.Paren e, rest)
  unfolding in_parens
  from_read [] e rest some fine starts h = absurd (cc)
  from_read (kind.Ident head ∷ us) e rest some fine starts h =
      let d = bind_ok (dotted true [] head us) (λ d. inner (Named d) 0) (e, kind.Sym y.CloseParen ∷ rest) (sym (reads.named 0 head us some) ∙ h) in
      let found = dotted_sound true [] head us d.0 d.1 in
      rw d.1 (dotted_read d.0.0 (kind.Ident head ∷ us) d.0.1 e rest some fine found.written h d.2)
  from_read (token ∷ us) e rest some fine starts h =
      ap (λ o. in_parens_by room inner list o token (token ∷ us)) (not_primitive token starts) ∙ closing (inner Nothing 0) (token ∷ us) e rest h

  pub parens_read : (e : x.Expr) (rest : List Kind) → IsExpr room 0 e → LastEnds (x.Paren e) (first rest) → in_parens room inner list (write_expr e (kind.Sym y.CloseParen ∷ rest)) ≡ Ok (x.Paren e, rest)
  parens_read e rest is ended =
      let low = is.low in
      let pos = depth_pos e in
      from_read (write_expr e (kind.Sym y.CloseParen ∷ rest)) e rest (omega arith)
      (λ named. subst (λ b. Unless (not b) (next_is begins_cast_operand (first rest) ≡ false)) named ended)
      (begins_any e (kind.Sym y.CloseParen ∷ rest) is.shaped (not-true _ is.fits.1))
      (whole_read room inner list reads e (kind.Sym y.CloseParen ∷ rest) is (record { cast = refl; none = refl }))

  -- ---- what was read

  cast_made : (b : Base) (pairs : ℕ) (ts vs : List Kind) (r : x.Expr × List Kind) → IsBase b → (next_is begins_cast_operand (first vs) ≡ true ⊎ (is_named b ≡ false))
      → ts ≡ write_base b (write_brackets pairs (kind.Sym y.CloseParen ∷ vs)) → cast room inner list b pairs vs ≡ Ok r → Operand room (kind.Sym y.OpenParen ∷ ts) r
  cast_made b pairs ts vs r is begins same h =
      let e = bind_ok (inner Nothing 12 vs) _ r h in
      let value = reads.sound 12 vs e.0 (omega arith) e.1 in
      let low = value.is.low in
      subst (Operand room (kind.Sym y.OpenParen ∷ ts)) (ok_is e.2)
      (record {
        shaped = (
          is,
          value.is.fits,
          not_from_false _ (elim begins [
            | inl t ↦ and_right _ _ (begun_unsigned e.0.0 e.0.1 (subst (λ (ts : List Kind). next_is begins_cast_operand (first ts) ≡ true) value.written t) value.is.shaped value.is.fits.0)
            | inr f ↦ and_left _ _ f
          ]),
          value.is.shaped,
        );
        tight = omega arith;
        not_least = refl;
        low = omega arith;
        written = ap (λ us. kind.Sym y.OpenParen ∷ us) (same ∙ ap (λ us. write_base b (write_brackets pairs (kind.Sym y.CloseParen ∷ us))) value.written);
        ended = value.ended;
      })

  primitive_sound : (token : Kind) (p : Primitive) (ts : List Kind) (r : x.Expr × List Kind) → primitive_kind token ≡ Some p → primitive_cast room inner list (token ∷ ts) ≡ Ok r → Operand room (kind.Sym y.OpenParen ∷ token ∷ ts) r
  unfolding primitive_cast
  primitive_sound token p ts r g h =
      let b = bind_ok (element (token ∷ ts)) _ r h in
      let found = element_sound (token ∷ ts) b.0 b.1 in
      let n = bind_ok (dims b.0.1) _ r b.2 in
      let pairs = dims_sound b.0.1 n.0 n.1 in
      let c = bind_ok (expect y.CloseParen n.0.1) _ r n.2 in
      let closed_at = expect_sound y.CloseParen n.0.1 c.0 c.1 in
      cast_made b.0.0 n.0.0 (token ∷ ts) c.0.1 r found.is (inr (not_named b.0.0 p (token ∷ ts) b.0.1 found.is g found.written))
      (found.written ∙ ap (write_base b.0.0) (pairs.0 ∙ ap (write_brackets n.0.0) closed_at)) c.2

  paren_made : (ts : List Kind) (e : x.Expr) (rest : List Kind) → Found room 0 ts (e, kind.Sym y.CloseParen ∷ rest) → Fine e rest → Operand room (kind.Sym y.OpenParen ∷ ts) (x.Paren e, rest)
  paren_made ts e rest found fine =
      let low = found.is.low in
      record {
        shaped = (found.is.fits, found.is.shaped);
        tight = omega arith;
        not_least = refl;
        low = omega arith;
        written = ap (λ us. kind.Sym y.OpenParen ∷ us) found.written;
        ended = unless (not (is_name e)) (next_is begins_cast_operand (first rest) ≡ false) (λ h. fine (not-false _ h));
      }

  record Closed (p : Parser x.Expr) (ts : List Kind) (r : x.Expr × List Kind) : Type 0 where
    inside : x.Expr
    rest : List Kind
    read : p ts ≡ Ok (inside, kind.Sym y.CloseParen ∷ rest)
    made : (x.Paren inside, rest) ≡ r

  closed_sound : (p : Parser x.Expr) (ts : List Kind) (r : x.Expr × List Kind) → and_then (p ts) closed ≡ Ok r → Closed p ts r
  closed_sound p ts r h =
      let a = bind_ok (p ts) closed r h in
      let b = bind_ok (expect y.CloseParen a.0.1) _ r a.2 in
      record { inside = a.0.0; rest = b.0.1; read = a.1 ∙ ap (λ us. Ok (a.0.0, us)) (expect_sound y.CloseParen a.0.1 b.0 b.1); made = ok_is b.2 }

  default_sound : (d : Dotted) (head : Text) (us vs : List Kind) (r : x.Expr × List Kind) → 1 ≤ room → dotted true [] head us ≡ Ok (d, vs) → is_close d vs ≡ false
      → and_then (inner (Named d) 0 vs) closed ≡ Ok r → Operand room (kind.Sym y.OpenParen ∷ kind.Ident head ∷ us) r
  default_sound d head us vs r some e open_at h =
      let c = closed_sound (inner (Named d) 0) vs r h in
      let read : inner Nothing 0 (kind.Ident head ∷ us) ≡ Ok (c.inside, kind.Sym y.CloseParen ∷ c.rest) =
      reads.named 0 head us some ∙ ap (λ o. and_then o (λ d. inner (Named d) 0)) e ∙ c.read in
      let found = reads.sound 0 (kind.Ident head ∷ us) (c.inside, kind.Sym y.CloseParen ∷ c.rest) (omega arith) read in
      subst (Operand room (kind.Sym y.OpenParen ∷ kind.Ident head ∷ us)) c.made
      (paren_made (kind.Ident head ∷ us) c.inside c.rest found
      (λ named. absurd (true≢false (sym (named_next c.inside head us vs c.rest d found.is.shaped found.written e named) ∙ open_at))))

  array_cast_sound : (n : Name) (ts vs : List Kind) (r : x.Expr × List Kind) → IsName n → ts ≡ write_name n (kind.Sym y.OpenBracket ∷ vs) → is_at y.CloseBracket vs ≡ true → skipping (array_cast room inner list n) vs ≡ Ok r
      → Operand room (kind.Sym y.OpenParen ∷ ts) r
  unfolding array_cast
  array_cast_sound n ts [] r is same q h = absurd (cc)
  array_cast_sound n ts (token ∷ vs) r is same q h =
      let m = bind_ok (dims vs) _ r h in
      let pairs = dims_sound vs m.0 m.1 in
      let c = bind_ok (expect y.CloseParen m.0.1) _ r m.2 in
      let closed_at = expect_sound y.CloseParen m.0.1 c.0 c.1 in
      elim (chosen (next_is begins_cast_operand (first c.0.1)) _ _ _ c.2) [
        | inl t ↦
            cast_made (base.Named n) (suc m.0.0) ts c.0.1 r is (inl t.0)
            (same ∙ ap (λ token. write_name n (kind.Sym y.OpenBracket ∷ token ∷ vs)) (is_symbol_is y.CloseBracket token q)
            ∙ ap (λ us. write_name n (kind.Sym y.OpenBracket ∷ kind.Sym y.CloseBracket ∷ us)) (pairs.0 ∙ ap (write_brackets m.0.0) closed_at)) t.1
        | inr t ↦ absurd (err_ok t.1)
      ]

  plain_sound : (before : List Text) (last head : Text) (us vs : List Kind) (r : x.Expr × List Kind) → 1 ≤ room → dotted true [] head us ≡ Ok (Plain before last, vs)
      → kind.Ident head ∷ us ≡ write_all (before ++ last ∷ []) vs → dotted_in_parens room inner list (Plain before last) vs ≡ Ok r → Operand room (kind.Sym y.OpenParen ∷ kind.Ident head ∷ us) r
  unfolding dotted_in_parens name_in_parens bracket_in_parens
  plain_sound before last head us [] r some e same h = default_sound (Plain before last) head us [] r some e refl h
  plain_sound before last head us (kind.Sym y.CloseParen ∷ vs) r some e same h =
      elim (chosen (next_is begins_cast_operand (first vs)) _ _ _ h) [
        | inl t ↦ cast_made (base.Named (name_of (before ++ last ∷ []))) 0 (kind.Ident head ∷ us) vs r (has_parts before last) (inl t.0) same t.1
        | inr t ↦
            subst (Operand room (kind.Sym y.OpenParen ∷ kind.Ident head ∷ us)) (ok_is t.1)
            (record {
              shaped = ((omega arith, refl), has_parts before last);
              tight = omega arith;
              not_least = refl;
              low = omega arith;
              written = ap (λ us. kind.Sym y.OpenParen ∷ us) same;
              ended = t.0;
            })
      ]
  plain_sound before last head us (kind.Sym y.OpenBracket ∷ vs) r some e same h =
      elim (chosen (is_at y.CloseBracket vs) _ _ _ h) [
        | inl t ↦ array_cast_sound (name_of (before ++ last ∷ [])) (kind.Ident head ∷ us) vs r (has_parts before last) same t.0 t.1
        | inr t ↦
            (let c = closed_sound (inner (Indexed (name_of (before ++ last ∷ []))) 0) vs r t.1 in
            let out = reads.out_of_bracket 0 before last vs _ c.read in
            default_sound (Plain before last) head us (kind.Sym y.OpenBracket ∷ vs) r some e refl (closing (inner (Named (Plain before last)) 0) (kind.Sym y.OpenBracket ∷ vs) c.inside c.rest out ∙ ap Ok c.made))
      ]
  plain_sound before last head us (token ∷ vs) r some e same h = default_sound (Plain before last) head us (token ∷ vs) r some e refl h

  dotted_in_sound : (d : Dotted) (head : Text) (us vs : List Kind) (r : x.Expr × List Kind) → 1 ≤ room → dotted true [] head us ≡ Ok (d, vs)
      → dotted_in_parens room inner list d vs ≡ Ok r → Operand room (kind.Sym y.OpenParen ∷ kind.Ident head ∷ us) r
  unfolding dotted_in_parens
  dotted_in_sound (Plain before last) head us vs r some e h = plain_sound before last head us vs r some e (dotted_sound true [] head us (Plain before last, vs) e).written h
  dotted_in_sound (Enclosing before last) head us vs r some e h = default_sound (Enclosing before last) head us vs r some e refl h

  by_sound : (o : Option Primitive) (token : Kind) (ts : List Kind) (r : x.Expr × List Kind) → 1 ≤ room → primitive_kind token ≡ o → in_parens_by room inner list o token (token ∷ ts) ≡ Ok r
      → Operand room (kind.Sym y.OpenParen ∷ token ∷ ts) r
  by_sound (Some p) token ts r some g h = primitive_sound token p ts r g h
  by_sound None (kind.Ident head) ts r some g h =
      let d = bind_ok (dotted true [] head ts) _ r h in
      dotted_in_sound d.0.0 head ts d.0.1 r some d.1 d.2
  by_sound None token ts r some g h =
      let c = closed_sound (inner Nothing 0) (token ∷ ts) r h in
      let found = reads.sound 0 (token ∷ ts) (c.inside, kind.Sym y.CloseParen ∷ c.rest) (omega arith) c.read in
      subst (Operand room (kind.Sym y.OpenParen ∷ token ∷ ts)) c.made
      (paren_made (token ∷ ts) c.inside c.rest found
      (λ named. absurd (true≢false (sym named ∙ name_begins_only c.inside token ts (kind.Sym y.CloseParen ∷ c.rest) refl found.is.shaped found.written))))

  pub in_parens_sound : (ts : List Kind) (r : x.Expr × List Kind) → 1 ≤ room → in_parens room inner list ts ≡ Ok r → Operand room (kind.Sym y.OpenParen ∷ ts) r
  unfolding in_parens
  in_parens_sound [] r some h = absurd (err_ok h)
  in_parens_sound (token ∷ ts) r some h = by_sound (primitive_kind token) token ts r some refl h
