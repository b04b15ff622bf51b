-- Reading creations is exact in both directions.
use Rattle.std.proofs.Common.{◌≡◌, ℕ, zero, suc, ◌≤◌, true, false, ltb, List, [], ◌∷◌, Option, Some, None, Ok, refl, sym, ap, ◌∙◌, subst, inl, inr, arith}
use Rattle.std.proofs.lemmas.Bool.{not-true, le-ltb, lt-ltb}
use Rattle.jr_base.specs.declared.kind.Kind.{Kind}
use Rattle.jr_base.specs.declared.kind.Kind.TheVariants as kind
use Rattle.jr_base.specs.declared.kind.Symbol.TheVariants as y
use Rattle.jr_base.specs.declared.kind.Keyword.TheVariants as k
use Rattle.jr_tree.specs.declared.tree.Name.{Name}
use Rattle.jr_tree.specs.declared.tree.Primitive.{Primitive}
use Rattle.jr_tree.specs.declared.tree.Base.{Base}
use Rattle.jr_tree.specs.declared.tree.Base.TheVariants as base
use Rattle.jr_tree.specs.Words.{primitive_word}
use Rattle.jr_tree.specs.Shape.{array_fits, IsName, IsBase, IsShapedExpr, IsShapedList, IsShapedAnyList, AreShapedExprs}
use Rattle.jr_tree.specs.Depth.{expr_depth, list_depth, exprs_depth, any_list_depth}
use Rattle.jr_tree.specs.Mirror.Exprs as x
use Rattle.jr_parse_laws.specs.Parsers.{Parser, first, is_at, begins_with, expect}
use Rattle.jr_parse_laws.proofs.Outcomes.{bind_ok, chosen, ok_is, err_ok, is_symbol_is}
use Rattle.jr_parse_laws.proofs.Exact.{expect_sound}
use Rattle.jr_parse_expr.specs.Names.{primitive_at, dims, name}
use Rattle.jr_parse_expr.specs.Exprs.{Lead, Nothing, next_token, arguments, sizes, sized, unsized, array, created_by, creation_by, creation}
use Rattle.jr_parse_expr.specs.Writing.{write_name, write_brackets, write_base, write_expr, write_exprs, write_dims, write_any_list, write_list}
use Rattle.jr_parse_expr.specs.Follow.{LastEnds, IsExpr}
use Rattle.jr_parse_expr.proofs.Beginnings.{begins_any}
use Rattle.jr_parse_expr.proofs.NameReads.{behind_sound, dims_read, dims_sound, name_read, name_sound, base_named, primitive_kind_back, primitive_here}
use Rattle.jr_parse_expr.proofs.Asked.{ReadsExprs, ReadsLists, Operand, depth_pos, list_depth_pos, exprs_listed, starts_no_bracket}
use Rattle.jr_parse_expr.proofs.Arguments.{whole_read, arguments_read, arguments_sound, write_sizes, sizes_read, sizes_sound}

list_no_bracket : (l : x.InitList) (rest : List Kind) → begins_with y.OpenBracket (first (write_list l rest)) ≡ false
list_no_bracket (x.ListOf all b) rest = refl

module _ (room : ℕ) (inner : Lead → ℕ → Parser x.Expr) (list : Parser x.InitList) (reads : ReadsExprs room inner) (lists : ReadsLists room list) where
  -- ---- arrays, behind the first open bracket

  sized_read : (b : Base) (size : x.Expr) (ds : x.Exprs) (more : ℕ) (rest : List Kind) → IsExpr room 0 size → AreShapedExprs ds → exprs_depth ds ≤ room → begins_with y.OpenBracket (first rest) ≡ false
      → array room inner list b (write_expr size (kind.Sym y.CloseBracket ∷ write_sizes room inner list reads ds more rest)) ≡ Ok (x.NewArray b (x.more_exprs size ds) more x.no_list, rest)
  unfolding array sized
  sized_read b size ds more rest is s low h =
      let ts = write_sizes room inner list reads ds more rest in
      rw (
        starts_no_bracket (write_expr size (kind.Sym y.CloseBracket ∷ ts)) (begins_any size (kind.Sym y.CloseBracket ∷ ts) is.shaped (not-true _ is.fits.1)),
        whole_read room inner list reads size (kind.Sym y.CloseBracket ∷ ts) is (record { cast = refl; none = refl }),
        sizes_read room inner list reads ds more rest s low h,
      ) (ap (λ ds. Ok (x.NewArray b (x.more_exprs size ds) more x.no_list, rest)) (exprs_listed ds))

  unsized_read : (b : Base) (more : ℕ) (l : x.InitList) (rest : List Kind) → IsShapedList l → list_depth l ≤ room
      → array room inner list b (kind.Sym y.CloseBracket ∷ write_brackets more (write_list l rest)) ≡ Ok (x.NewArray b x.no_exprs (suc more) (x.a_list l), rest)
  unfolding array unsized
  unsized_read b more l rest s low = rw (dims_read more (write_list l rest) (list_no_bracket l rest), lists.complete l rest s low) refl

  record ArrayFound (b : Base) (ts : List Kind) (r : x.Expr × List Kind) : Type 0 where
    sizes_of : x.Exprs
    more : ℕ
    items : x.AnyList
    made : x.NewArray b sizes_of more items ≡ r.0
    shaped : AreShapedExprs sizes_of
    fits : array_fits sizes_of more items ≡ true
    shaped_items : IsShapedAnyList items
    low : exprs_depth sizes_of ≤ room
    low_items : any_list_depth items ≤ room
    written : kind.Sym y.OpenBracket ∷ ts ≡ write_dims sizes_of (write_brackets more (write_any_list items r.1))
    ended : LastEnds (x.NewArray b sizes_of more items) (first r.1)

  sized_sound : (b : Base) (ts : List Kind) (r : x.Expr × List Kind) → sized room inner list b ts ≡ Ok r → ArrayFound b ts r
  unfolding sized
  sized_sound b ts r h =
      let e = bind_ok (inner Nothing 0 ts) _ r h in
      let size = reads.sound 0 ts e.0 (omega arith) e.1 in
      let c = bind_ok (expect y.CloseBracket e.0.1) _ r e.2 in
      let closed = expect_sound y.CloseBracket e.0.1 c.0 c.1 in
      let d = bind_ok (sizes room inner list c.0.1) _ r c.2 in
      let found = sizes_sound room inner list reads c.0.1 d.0 d.1 in
      let low_size = size.is.low in
      let low_more : exprs_depth (x.exprs d.0.0.0) ≤ room = found.low in
      subst (ArrayFound b ts) (ok_is d.2)
      (record {
        sizes_of = x.more_exprs e.0.0 (x.exprs d.0.0.0);
        more = d.0.0.1;
        items = x.no_list;
        made = refl;
        shaped = (size.is.fits, size.is.shaped, found.shaped);
        fits = refl;
        shaped_items = tt;
        low = omega arith;
        low_items = omega arith;
        written = ap (λ us. kind.Sym y.OpenBracket ∷ us) (size.written ∙ ap (write_expr e.0.0) (closed ∙ ap (λ us. kind.Sym y.CloseBracket ∷ us) found.written));
        ended = found.ended;
      })

  unsized_sound : (b : Base) (ts : List Kind) (r : x.Expr × List Kind) → unsized room inner list b ts ≡ Ok r → ArrayFound b (kind.Sym y.CloseBracket ∷ ts) r
  unfolding unsized
  unsized_sound b ts r h =
      let n = bind_ok (dims ts) _ r h in
      let found = dims_sound ts n.0 n.1 in
      let l = bind_ok (list n.0.1) _ r n.2 in
      let items = lists.sound n.0.1 l.0 l.1 in
      subst (ArrayFound b (kind.Sym y.CloseBracket ∷ ts)) (ok_is l.2)
      (record {
        sizes_of = x.no_exprs;
        more = suc n.0.0;
        items = x.a_list l.0.0;
        made = refl;
        shaped = tt;
        fits = lt-ltb 0 (suc n.0.0) (omega arith);
        shaped_items = items.shaped;
        low = omega arith;
        low_items = items.low;
        written = ap (λ us. kind.Sym y.OpenBracket ∷ kind.Sym y.CloseBracket ∷ us) (found.0 ∙ ap (write_brackets n.0.0) items.written);
        ended = tt;
      })

  array_sound : (b : Base) (ts : List Kind) (r : x.Expr × List Kind) → array room inner list b ts ≡ Ok r → ArrayFound b ts r
  unfolding array
  array_sound b [] r h = sized_sound b [] r h
  array_sound b (token ∷ ts) r h =
      elim (chosen (is_at y.CloseBracket (token ∷ ts)) _ _ _ h) [
        | inl t ↦ subst (λ token. ArrayFound b (token ∷ ts) r) (sym (is_symbol_is y.CloseBracket token t.0)) (unsized_sound b ts r t.1)
        | inr t ↦ sized_sound b (token ∷ ts) r t.1
      ]

  -- ---- creations, behind `new`

  pub new_read : (class : Name) (args : x.Exprs) (rest : List Kind) → IsName class → AreShapedExprs args → exprs_depth args ≤ room
      → creation room inner list (write_name class (kind.Sym y.OpenParen ∷ write_exprs args (kind.Sym y.CloseParen ∷ rest))) ≡ Ok (x.New class args, rest)
  unfolding creation
  new_read class args rest is s low =
      let us = write_exprs args (kind.Sym y.CloseParen ∷ rest) in
      let ts = write_name class (kind.Sym y.OpenParen ∷ us) in
      ap (λ o. creation_by room inner list o ts) (base_named class.parts (kind.Sym y.OpenParen ∷ us) is)
      ∙ rw (name_read class (kind.Sym y.OpenParen ∷ us) is refl, arguments_read room inner list reads args rest s low) (ap (λ args. Ok (x.New class args, rest)) (exprs_listed args))

  array_read : (b : Base) (us : List Kind) (e : x.Expr) (rest : List Kind) → IsBase b → 1 ≤ room → array room inner list b us ≡ Ok (e, rest)
      → creation room inner list (write_base b (kind.Sym y.OpenBracket ∷ us)) ≡ Ok (e, rest)
  unfolding creation
  array_read (base.Primitive p) us e rest is some h =
      ap (λ o. creation_by room inner list o (kind.Word (primitive_word p) ∷ kind.Sym y.OpenBracket ∷ us)) (primitive_here p) ∙ rw (le-ltb room 1 some) h
  array_read (base.Named n) us e rest is some h =
      ap (λ o. creation_by room inner list o (write_name n (kind.Sym y.OpenBracket ∷ us))) (base_named n.parts (kind.Sym y.OpenBracket ∷ us) is)
      ∙ rw (name_read n (kind.Sym y.OpenBracket ∷ us) is refl, le-ltb room 1 some) h

  pub new_array_read : (b : Base) (ds : x.Exprs) (more : ℕ) (l : x.AnyList) (rest : List Kind) → IsShapedExpr (x.NewArray b ds more l) → expr_depth (x.NewArray b ds more l) ≤ suc room
      → LastEnds (x.NewArray b ds more l) (first rest)
      → creation room inner list (write_base b (write_dims ds (write_brackets more (write_any_list l rest)))) ≡ Ok (x.NewArray b ds more l, rest)
  new_array_read b x.no_exprs more x.no_list rest s low ended = absurd (let f = s.2 in cc)
  new_array_read b x.no_exprs zero (x.a_list l) rest s low ended = absurd (let f = s.2 in cc)
  new_array_read b x.no_exprs (suc more) (x.a_list l) rest s low ended =
      let pos = list_depth_pos l in
      array_read b _ _ _ s.0 (omega arith) (unsized_read b more l rest s.3 (omega arith))
  new_array_read b (x.more_exprs size ds) more x.no_list rest s low ended =
      let pos = depth_pos size in
      array_read b _ _ _ s.0 (omega arith) (sized_read b size ds more rest (record { shaped = s.1.1; fits = s.1.0; low = omega arith }) s.1.2 (omega arith) ended)
  new_array_read b (x.more_exprs size ds) more (x.a_list l) rest s low ended = absurd (let f = s.2 in cc)

  made_array : (b : Base) (ts us : List Kind) (r : x.Expr × List Kind) → IsBase b → ts ≡ write_base b (kind.Sym y.OpenBracket ∷ us) → ArrayFound b us r → Operand room (kind.Word k.New ∷ ts) r
  made_array b ts us r is e f =
      let low = f.low in
      let low_items = f.low_items in
      subst (λ made. Operand room (kind.Word k.New ∷ ts) (made, r.1)) f.made
      (record {
        shaped = (is, f.shaped, f.fits, f.shaped_items);
        tight = omega arith;
        not_least = refl;
        low = omega arith;
        written = ap (λ us. kind.Word k.New ∷ us) (e ∙ ap (write_base b) f.written);
        ended = f.ended;
      })

  pub created_sound : (n : Name) (ts us : List Kind) (r : x.Expr × List Kind) → IsName n → ts ≡ write_name n us → next_token (created_by room inner list n) us ≡ Ok r → Operand room (kind.Word k.New ∷ ts) r
  created_sound n ts [] r is e h = absurd (err_ok h)
  created_sound n ts (kind.Sym y.OpenParen ∷ us) r is e h =
      let a = bind_ok (arguments room inner list us) _ r h in
      let found = arguments_sound room inner list reads us a.0 a.1 in
      let low : exprs_depth (x.exprs a.0.0) ≤ room = found.low in
      subst (Operand room (kind.Word k.New ∷ ts)) (ok_is a.2)
      (record {
        shaped = (is, found.shaped);
        tight = omega arith;
        not_least = refl;
        low = omega arith;
        written = ap (λ us. kind.Word k.New ∷ us) (e ∙ ap (λ us. write_name n (kind.Sym y.OpenParen ∷ us)) found.written);
        ended = tt;
      })
  created_sound n ts (kind.Sym y.OpenBracket ∷ us) r is e h =
      elim (chosen (ltb room 1) _ _ _ h) [
        | inl t ↦ absurd (err_ok t.1)
        | inr t ↦ made_array (base.Named n) ts us r is e (array_sound (base.Named n) us r t.1)
      ]
  created_sound n ts (token ∷ us) r is e h = absurd (err_ok h)

  pub by_sound : (o : Option Primitive) (ts : List Kind) (r : x.Expr × List Kind) → primitive_at ts ≡ o → creation_by room inner list o ts ≡ Ok r → Operand room (kind.Word k.New ∷ ts) r
  by_sound None ts r g h =
      let n = bind_ok (name ts) _ r h in
      let found = name_sound ts n.0 n.1 in
      created_sound n.0.0 ts n.0.1 r found.0 found.1 n.2
  by_sound (Some p) [] r g h = absurd (err_ok h)
  by_sound (Some p) (token ∷ ts) r g h =
      elim (chosen (ltb room 1) _ _ _ h) [
        | inl t ↦ absurd (err_ok t.1)
        | inr t ↦
            (let b = behind_sound y.OpenBracket (array room inner list (base.Primitive p)) ts r t.1 in
            made_array (base.Primitive p) (token ∷ ts) b.0 r tt (ap (λ token. token ∷ ts) (primitive_kind_back token p g) ∙ ap (λ us. kind.Word (primitive_word p) ∷ us) b.1) (array_sound (base.Primitive p) b.0 r b.2))
      ]

  pub creation_sound : (ts : List Kind) (r : x.Expr × List Kind) → creation room inner list ts ≡ Ok r → Operand room (kind.Word k.New ∷ ts) r
  unfolding creation
  creation_sound ts r h = by_sound (primitive_at ts) ts r refl h
