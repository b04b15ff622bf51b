-- Reading initializers and lists of them is exact in both directions.
use Rattle.std.proofs.Common.{◌≡◌, ℕ, zero, suc, ◌≤◌, Bool, true, false, cond, List, [], ◌∷◌, length, Option, Some, None, Ok, refl, sym, ap, ◌∙◌, subst, inl, inr, arith}
use Rattle.std.proofs.lemmas.Bool.{not-true, or_right}
use Rattle.jr_base.specs.declared.kind.Kind.{Kind}
use Rattle.jr_base.specs.declared.kind.Kind.TheVariants as kind
use Rattle.jr_base.specs.declared.kind.Symbol.TheVariants as y
use Rattle.jr_tree.specs.Shape.{IsShapedInit, IsShapedList, AreShapedInits}
use Rattle.jr_tree.specs.Depth.{init_depth, inits_depth, list_depth}
use Rattle.jr_tree.specs.Mirror.Exprs as x
use Rattle.jr_parse_laws.specs.Parsers.{Parser, Outcome, first, is_at, is_symbol, expect, pure}
use Rattle.jr_parse_laws.proofs.Outcomes.{bind_ok, chosen, ok_is, is_symbol_is}
use Rattle.jr_parse_laws.proofs.Exact.{expect_sound}
use Rattle.jr_parse_starts.specs.Starts.{is_open_brace, begins_operand, starts_expr, starts_list, starts_init}
use Rattle.jr_parse_expr.specs.Exprs.{Lead, Nothing, skipping, init_of, after_item_from, after_item, items, braces}
use Rattle.jr_parse_expr.specs.Writing.{write_comma, write_expr, write_list, write_init, write_inits, write_more}
use Rattle.jr_parse_expr.specs.Follow.{InitEnds}
use Rattle.jr_parse_expr.proofs.Written.{init_longer}
use Rattle.jr_parse_expr.proofs.Beginnings.{begins_any}
use Rattle.jr_parse_expr.proofs.Followers.{Closes, ends_before}
use Rattle.jr_parse_expr.proofs.Asked.{ReadsExprs, ReadsLists, ListFound}

abbrev pub listed_inits : x.Inits → List x.Init
listed_inits x.no_inits = []
listed_inits (x.more_inits i all) = i ∷ listed_inits all

pub inits_listed : (all : x.Inits) → x.inits (listed_inits all) ≡ all
inits_listed x.no_inits = refl
inits_listed (x.more_inits i all) = ap (x.more_inits i) (inits_listed all)

starts_no_list : (o : Option Kind) → starts_expr o ≡ true → starts_list o ≡ false
starts_no_list None h = refl
starts_no_list (Some (kind.Sym y.OpenBrace)) h = absurd (cc)
starts_no_list (Some token) h = refl

expr_starts_init : (o : Option Kind) → starts_expr o ≡ true → starts_init o ≡ true
expr_starts_init None h = absurd (cc)
expr_starts_init (Some token) h = or_right (is_open_brace token) (begins_operand token) h

list_starts : (l : x.InitList) (rest : List Kind) → starts_list (first (write_list l rest)) ≡ true
list_starts (x.ListOf all b) rest = refl

list_starts_init : (l : x.InitList) (rest : List Kind) → starts_init (first (write_list l rest)) ≡ true
list_starts_init (x.ListOf all b) rest = refl

pub init_begins : (i : x.Init) (rest : List Kind) → IsShapedInit i → starts_init (first (write_init i rest)) ≡ true
init_begins (x.Value value) rest s = expr_starts_init (first (write_expr value rest)) (begins_any value rest s.1 (not-true _ s.0.1))
init_begins (x.Listed l) rest s = list_starts_init l rest

-- what may follow an initializer that goes on with nothing
pub init_ends : (i : x.Init) (o : Option Kind) → IsShapedInit i → Closes o → InitEnds i o
init_ends (x.Value value) o s c = ends_before 0 value o s.1 c
init_ends (x.Listed l) o s c = tt

pub record InitFound (room : ℕ) (ts : List Kind) (r : x.Init × List Kind) : Type 0 where
  pub shaped : IsShapedInit r.0
  pub low : init_depth r.0 ≤ room
  pub written : ts ≡ write_init r.0 r.1
  pub ended : InitEnds r.0 (first r.1)

module _ (room : ℕ) (inner : Lead → ℕ → Parser x.Expr) (list : Parser x.InitList) (reads : ReadsExprs room inner) (lists : ReadsLists room list) where
  pub init_read : (i : x.Init) (rest : List Kind) → IsShapedInit i → init_depth i ≤ room → InitEnds i (first rest) → init_of room inner list (write_init i rest) ≡ Ok (i, rest)
  unfolding init_of
  init_read (x.Value value) rest s low ended =
      rw (
        starts_no_list (first (write_expr value rest)) (begins_any value rest s.1 (not-true _ s.0.1)),
        reads.complete 0 value rest (record { shaped = s.1; fits = s.0; low = low }) ended,
      ) refl
  init_read (x.Listed l) rest s low ended = rw (list_starts l rest, lists.complete l rest s low) refl

  pub init_sound : (ts : List Kind) (r : x.Init × List Kind) → init_of room inner list ts ≡ Ok r → InitFound room ts r
  unfolding init_of
  init_sound ts r h =
      elim (chosen (starts_list (first ts)) _ _ _ h) [
        | inl t ↦
            (let a = bind_ok (list ts) _ r t.1 in
            let found = lists.sound ts a.0 a.1 in
            subst (InitFound room ts) (ok_is a.2) (record { shaped = found.shaped; low = found.low; written = found.written; ended = tt }))
        | inr t ↦
            (let a = bind_ok (inner Nothing 0 ts) _ r t.1 in
            let found = reads.sound 0 ts a.0 (omega arith) a.1 in
            subst (InitFound room ts) (ok_is a.2) (record { shaped = (found.is.fits, found.is.shaped); low = found.is.low; written = found.written; ended = found.ended }))
      ]

  -- ---- the items of a list

  abbrev pub closing : Bool → List Kind → List Kind
  closing b rest = write_comma b (kind.Sym y.CloseBrace ∷ rest)

  closes_more : (all : x.Inits) (b : Bool) (rest : List Kind) → Closes (first (write_more all (closing b rest)))
  closes_more x.no_inits true rest = record { cast = refl; none = refl }
  closes_more x.no_inits false rest = record { cast = refl; none = refl }
  closes_more (x.more_inits i all) b rest = record { cast = refl; none = refl }

  from_read : (turns : ℕ) (all : x.Inits) (b : Bool) (rest : List Kind) → length (write_more all (closing b rest)) ≤ turns → AreShapedInits all → inits_depth all ≤ room
      → after_item_from room inner list turns (write_more all (closing b rest)) ≡ Ok ((listed_inits all, b), kind.Sym y.CloseBrace ∷ rest)
  from_read zero x.no_inits true rest l s low = absurd (omega arith)
  from_read zero x.no_inits false rest l s low = refl
  from_read zero (x.more_inits i all) b rest l s low = absurd (omega arith)
  from_read (suc turns) x.no_inits true rest l s low = refl
  from_read (suc turns) x.no_inits false rest l s low = refl
  from_read (suc turns) (x.more_inits i all) b rest l s low =
      let ts = write_more all (closing b rest) in
      let long = init_longer i ts in
      rw (
        init_begins i ts s.0,
        init_read i ts s.0 (omega arith) (init_ends i (first ts) s.0 (closes_more all b rest)),
        from_read turns all b rest (omega arith) s.1 (omega arith),
      ) refl

  items_read : (all : x.Inits) (b : Bool) (rest : List Kind) → AreShapedInits all → inits_depth all ≤ room
      → items room inner list (write_inits all (closing b rest)) ≡ Ok ((listed_inits all, b), kind.Sym y.CloseBrace ∷ rest)
  unfolding items after_item
  items_read x.no_inits true rest s low = refl
  items_read x.no_inits false rest s low = refl
  items_read (x.more_inits i all) b rest s low =
      let ts = write_more all (closing b rest) in
      rw (
        init_begins i ts s.0,
        init_read i ts s.0 (omega arith) (init_ends i (first ts) s.0 (closes_more all b rest)),
        from_read (length ts) all b rest (omega arith) s.1 (omega arith),
      ) refl

  pub braces_read : (l : x.InitList) (rest : List Kind) → IsShapedList l → list_depth l ≤ suc room → braces room inner list (write_list l rest) ≡ Ok (l, rest)
  unfolding braces
  braces_read (x.ListOf all b) rest s low = rw (items_read all b rest s (omega arith)) (ap (λ all. Ok (x.ListOf all b, rest)) (inits_listed all))

  pub record ItemsFound (write : x.Inits → List Kind → List Kind) (ts : List Kind) (r : (List x.Init × Bool) × List Kind) : Type 0 where
    pub shaped : AreShapedInits (x.inits r.0.0)
    pub low : inits_depth (x.inits r.0.0) ≤ room
    pub written : ts ≡ write (x.inits r.0.0) (write_comma r.0.1 r.1)

  no_more : (ts : List Kind) → ItemsFound write_more ts (([], false), ts)
  no_more ts = record { shaped = tt; low = omega arith; written = refl }

  from_sound : (turns : ℕ) (ts : List Kind) (r : (List x.Init × Bool) × List Kind) → after_item_from room inner list turns ts ≡ Ok r → ItemsFound write_more ts r
  from_sound zero ts r h = subst (ItemsFound write_more ts) (ok_is h) (no_more ts)
  from_sound (suc turns) [] r h = subst (ItemsFound write_more []) (ok_is h) (no_more [])
  from_sound (suc turns) (token ∷ ts) r h =
      elim (chosen (is_symbol y.Comma token) _ _ _ h) [
        | inl t ↦
            subst (λ token. ItemsFound write_more (token ∷ ts) r) (sym (is_symbol_is y.Comma token t.0))
            (elim (chosen (starts_init (first ts)) _ _ _ t.1) [
              | inl q ↦
                  (let i = bind_ok (init_of room inner list ts) _ r q.1 in
                  let one = init_sound ts i.0 i.1 in
                  let c = bind_ok (after_item_from room inner list turns i.0.1) _ r i.2 in
                  let others = from_sound turns i.0.1 c.0 c.1 in
                  let low_one : init_depth i.0.0 ≤ room = one.low in
                  let low_others : inits_depth (x.inits c.0.0.0) ≤ room = others.low in
                  subst (ItemsFound write_more (kind.Sym y.Comma ∷ ts)) (ok_is c.2)
                  (record {
                    shaped = (one.shaped, others.shaped);
                    low = omega arith;
                    written = ap (λ us. kind.Sym y.Comma ∷ us) (one.written ∙ ap (write_init i.0.0) others.written);
                  }))
              | inr q ↦ subst (ItemsFound write_more (kind.Sym y.Comma ∷ ts)) (ok_is q.1) (record { shaped = tt; low = omega arith; written = refl })
            ])
        | inr t ↦ subst (ItemsFound write_more (token ∷ ts)) (ok_is t.1) (no_more (token ∷ ts))
      ]

  comma_sound : (ts : List Kind) (r : (List x.Init × Bool) × List Kind) → cond {A = Outcome (List x.Init × Bool)} (is_at y.Comma ts) (skipping (pure ([], true)) ts) (Ok (([], false), ts)) ≡ Ok r
      → ItemsFound write_inits ts r
  comma_sound [] r h = subst (ItemsFound write_inits []) (ok_is h) (record { shaped = tt; low = omega arith; written = refl })
  comma_sound (token ∷ ts) r h =
      elim (chosen (is_symbol y.Comma token) _ _ _ h) [
        | inl t ↦ subst (ItemsFound write_inits (token ∷ ts)) (ok_is t.1) (record { shaped = tt; low = omega arith; written = ap (λ token. token ∷ ts) (is_symbol_is y.Comma token t.0) })
        | inr t ↦ subst (ItemsFound write_inits (token ∷ ts)) (ok_is t.1) (record { shaped = tt; low = omega arith; written = refl })
      ]

  pub items_sound : (ts : List Kind) (r : (List x.Init × Bool) × List Kind) → items room inner list ts ≡ Ok r → ItemsFound write_inits ts r
  unfolding items after_item
  items_sound ts r h =
      elim (chosen (starts_init (first ts)) _ _ _ h) [
        | inl q ↦
            (let i = bind_ok (init_of room inner list ts) _ r q.1 in
            let one = init_sound ts i.0 i.1 in
            let c = bind_ok (after_item_from room inner list (length i.0.1) i.0.1) _ r i.2 in
            let others = from_sound (length i.0.1) i.0.1 c.0 c.1 in
            let low_one : init_depth i.0.0 ≤ room = one.low in
            let low_others : inits_depth (x.inits c.0.0.0) ≤ room = others.low in
            subst (ItemsFound write_inits ts) (ok_is c.2)
            (record { shaped = (one.shaped, others.shaped); low = omega arith; written = one.written ∙ ap (write_init i.0.0) others.written }))
        | inr q ↦ comma_sound ts r q.1
      ]

  pub braces_sound : (ts : List Kind) (r : x.InitList × List Kind) → braces room inner list ts ≡ Ok r → ListFound (suc room) ts r
  unfolding braces
  braces_sound ts r h =
      let a = bind_ok (expect y.OpenBrace ts) _ r h in
      let opened = expect_sound y.OpenBrace ts a.0 a.1 in
      let b = bind_ok (items room inner list a.0.1) _ r a.2 in
      let found = items_sound a.0.1 b.0 b.1 in
      let c = bind_ok (expect y.CloseBrace b.0.1) _ r b.2 in
      let closed = expect_sound y.CloseBrace b.0.1 c.0 c.1 in
      let low : inits_depth (x.inits b.0.0.0) ≤ room = found.low in
      subst (ListFound (suc room) ts) (ok_is c.2)
      (record {
        shaped = found.shaped;
        low = omega arith;
        written = opened ∙ ap (λ us. kind.Sym y.OpenBrace ∷ us) (found.written ∙ ap (λ us. write_inits (x.inits b.0.0.0) (write_comma b.0.0.1 us)) closed);
      })
