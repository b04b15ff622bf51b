-- What the loops over sizes in brackets and over initializers keep.
use Rattle.std.proofs.Common.{◌≡◌, ℕ, zero, suc, ◌+◌, ◌-◌, zero-add, ◌<◌, ◌≤◌, Bool, true, false, cond, List, [], ◌∷◌, ◌++◌, drop, length, Ok, Err, refl, sym, ap, ◌∙◌, append_assoc, append-nil, arith}
use Rattle.jr_base.specs.declared.kind.Symbol.{Symbol}
use Rattle.jr_base.specs.declared.kind.Symbol.TheVariants as y
use Rattle.jr_base.specs.declared.kind.Kind.{Kind}
use Rattle.jr_tree.specs.Mirror.Exprs as x
use Rattle.jr_parse_laws.specs.declared.fault.Fault.{Fault}
use Rattle.jr_parse_laws.specs.declared.fault.Fault.TheVariants.{NoTree, TooDeep, OutOfMemory}
use Rattle.jr_parse_laws.specs.Parsers.{Outcome, Parser, and_then, pure, first, is_at, expect, Fails, ◌>>=◌, ◌>>◌}
use Rattle.jr_parse_laws.proofs.Outcomes.{and_then_when, cond_same, cond_alike}
use Rattle.jr_parse_laws.proofs.Turns.{Keeps, expect_keeps}
use Rattle.jr_parse_expr.specs.Names.{dims}
use Rattle.jr_parse_starts.specs.Starts.{starts_init}
use Rattle.jr_parse_expr.specs.Exprs as spec
use Rattle.jr_parse_expr.specs.Exprs.{Lead, Nothing}
use Rattle.jr_parse_expr.specs.Steps.{with_sizes, with_items}

skip_alike : {A : Type 0} (p q : Parser A) (ts : List Kind) → ((us : List Kind) → suc (length us) ≡ length ts → p us ≡ q us) → spec.skipping p ts ≡ spec.skipping q ts
skip_alike p q [] h = refl
skip_alike p q (token ∷ us) h = h us (omega arith)

-- what is read behind one more
sizes_alike : (front : List x.Expr) (e : x.Expr) (o : Outcome (List x.Expr × ℕ)) → with_sizes front (and_then o (λ r. pure (e ∷ r.0, r.1))) ≡ with_sizes (front ++ e ∷ []) o
sizes_alike front e (Ok p) = ap (λ (all : List x.Expr). Ok ((all, p.0.1), p.1)) (sym (append_assoc front (e ∷ []) p.0.0))
sizes_alike front e (Err f) = refl

items_alike : (front : List x.Init) (i : x.Init) (o : Outcome (List x.Init × Bool)) → with_items front (and_then o (λ r. pure (i ∷ r.0, r.1))) ≡ with_items (front ++ i ∷ []) o
items_alike front i (Ok p) = ap (λ (all : List x.Init). Ok ((all, p.0.1), p.1)) (sym (append_assoc front (i ∷ []) p.0.0))
items_alike front i (Err f) = refl

module _ (room : ℕ) (inner : Lead → ℕ → Parser x.Expr) (list : Parser x.InitList) (inner_keeps : (lead : Lead) (least : ℕ) → Keeps (inner lead least)) (init_keeps : Keeps (spec.init_of room inner list)) where
  -- ---- sizes

  sizes_more_turns : (turns : ℕ) (ts : List Kind) → length ts ≤ turns → spec.sizes_from room inner list (suc turns) ts ≡ spec.sizes_from room inner list turns ts
  sizes_more_turns zero [] h = refl
  sizes_more_turns zero (token ∷ ts) h = absurd (omega arith)
  sizes_more_turns (suc turns) ts h =
      cond_same (is_at y.OpenBracket ts) _ _ (Ok (([], 0), ts))
      (λ _. skip_alike _ _ ts
      (λ us l. cond_alike (is_at y.CloseBracket us) _ _ _
      (λ _. and_then_when (inner Nothing 0 us) _ _
      (λ e mid p. and_then_when (expect y.CloseBracket mid) _ _
      (λ u rest q.
      let a = inner_keeps Nothing 0 us e mid p in
      let b = expect_keeps y.CloseBracket mid u rest q in
      ap (λ o. and_then o (λ r. pure (e ∷ r.0, r.1))) (sizes_more_turns turns rest (omega arith)))))))

  sizes_enough : (d : ℕ) (ts : List Kind) → spec.sizes_from room inner list (d + length ts) ts ≡ spec.sizes_from room inner list (length ts) ts
  sizes_enough zero ts = rw zero-add refl
  sizes_enough (suc d) ts =
      let e : suc d + length ts ≡ suc (d + length ts) = omega arith in
      ap (λ n. spec.sizes_from room inner list n ts) e ∙ sizes_more_turns (d + length ts) ts (omega arith) ∙ sizes_enough d ts

  sizes_fewer : (n : ℕ) (ts : List Kind) → length ts ≤ n → spec.sizes_from room inner list n ts ≡ spec.sizes room inner list ts
  unfolding spec.sizes
  sizes_fewer n ts h = let d : n ≡ (n - length ts) + length ts = omega arith in ap (λ n. spec.sizes_from room inner list n ts) d ∙ sizes_enough (n - length ts) ts

  pub sizes_done : (front : List x.Expr) (ts : List Kind) → is_at y.OpenBracket ts ≡ false → with_sizes front (spec.sizes room inner list ts) ≡ Ok ((front, 0), ts)
  unfolding spec.sizes
  sizes_done front [] h = ap (λ (all : List x.Expr). Ok ((all, 0), [])) (append-nil front)
  sizes_done front (token ∷ ts) h = rw h (ap (λ (all : List x.Expr). Ok ((all, 0), token ∷ ts)) (append-nil front))

  -- behind an open bracket
  sizes_turn : (ts : List Kind) → is_at y.OpenBracket ts ≡ true → is_at y.CloseBracket (drop 1 ts) ≡ false
      → spec.sizes room inner list ts ≡ and_then (inner Nothing 0 (drop 1 ts)) (λ e. expect y.CloseBracket >> (spec.sizes room inner list >>= (λ r. pure (e ∷ r.0, r.1))))
  unfolding spec.sizes
  sizes_turn [] h g = absurd (cc)
  sizes_turn (token ∷ ts) h g =
      rw (h, g)
      (and_then_when (inner Nothing 0 ts) _ _
      (λ e mid p. and_then_when (expect y.CloseBracket mid) _ _
      (λ u rest q.
      let a = inner_keeps Nothing 0 ts e mid p in
      let b = expect_keeps y.CloseBracket mid u rest q in
      ap (λ o. and_then o (λ r. pure (e ∷ r.0, r.1))) (sizes_fewer (length ts) rest (omega arith)))))

  pub sizes_more : (front : List x.Expr) (ts : List Kind) (e : x.Expr) (mid : List Kind) (u : Unit {0}) (rest : List Kind) → is_at y.OpenBracket ts ≡ true → is_at y.CloseBracket (drop 1 ts) ≡ false
      → inner Nothing 0 (drop 1 ts) ≡ Ok (e, mid) → expect y.CloseBracket mid ≡ Ok (u, rest) → with_sizes front (spec.sizes room inner list ts) ≡ with_sizes (front ++ e ∷ []) (spec.sizes room inner list rest)
  sizes_more front ts e mid u rest h g p q = rw (sizes_turn ts h g, p, q) (sizes_alike front e (spec.sizes room inner list rest))

  pub sizes_fails : (front : List x.Expr) (ts : List Kind) (f : Fault) (new : List Kind) → is_at y.OpenBracket ts ≡ true → is_at y.CloseBracket (drop 1 ts) ≡ false
      → Fails (inner Nothing 0 (drop 1 ts)) f new → Fails (with_sizes front (spec.sizes room inner list ts)) f new
  sizes_fails front ts NoTree new h g p = rw (sizes_turn ts h g, p) refl
  sizes_fails front ts TooDeep new h g p = rw (sizes_turn ts h g, p) refl
  sizes_fails front ts OutOfMemory new h g p = tt

  pub sizes_unclosed : (front : List x.Expr) (ts : List Kind) (e : x.Expr) (mid : List Kind) (f : Fault) (new : List Kind) → is_at y.OpenBracket ts ≡ true → is_at y.CloseBracket (drop 1 ts) ≡ false
      → inner Nothing 0 (drop 1 ts) ≡ Ok (e, mid) → Fails (expect y.CloseBracket mid) f new → Fails (with_sizes front (spec.sizes room inner list ts)) f new
  sizes_unclosed front ts e mid NoTree new h g p q = rw (sizes_turn ts h g, p, q) refl
  sizes_unclosed front ts e mid TooDeep new h g p q = rw (sizes_turn ts h g, p, q) refl
  sizes_unclosed front ts e mid OutOfMemory new h g p q = tt

  -- the empty pairs
  sizes_end : (ts : List Kind) → is_at y.OpenBracket ts ≡ true → is_at y.CloseBracket (drop 1 ts) ≡ true → spec.sizes room inner list ts ≡ and_then (dims (drop 1 (drop 1 ts))) (λ more. pure ([], suc more))
  unfolding spec.sizes
  sizes_end [] h g = absurd (cc)
  sizes_end (token ∷ []) h g = absurd (cc)
  sizes_end (token ∷ next ∷ ts) h g = rw (h, g) refl

  pub sizes_last : (front : List x.Expr) (ts : List Kind) (n : ℕ) (rest : List Kind) → is_at y.OpenBracket ts ≡ true → is_at y.CloseBracket (drop 1 ts) ≡ true
      → dims (drop 1 (drop 1 ts)) ≡ Ok (n, rest) → with_sizes front (spec.sizes room inner list ts) ≡ Ok ((front, suc n), rest)
  sizes_last front ts n rest h g p = rw (sizes_end ts h g, p) (ap (λ (all : List x.Expr). Ok ((all, suc n), rest)) (append-nil front))

  pub sizes_last_fails : (front : List x.Expr) (ts : List Kind) (f : Fault) (new : List Kind) → is_at y.OpenBracket ts ≡ true → is_at y.CloseBracket (drop 1 ts) ≡ true
      → Fails (dims (drop 1 (drop 1 ts))) f new → Fails (with_sizes front (spec.sizes room inner list ts)) f new
  sizes_last_fails front ts NoTree new h g p = rw (sizes_end ts h g, p) refl
  sizes_last_fails front ts TooDeep new h g p = rw (sizes_end ts h g, p) refl
  sizes_last_fails front ts OutOfMemory new h g p = tt

  -- ---- initializers

  items_more_turns : (turns : ℕ) (ts : List Kind) → length ts ≤ turns → spec.after_item_from room inner list (suc turns) ts ≡ spec.after_item_from room inner list turns ts
  items_more_turns zero [] h = refl
  items_more_turns zero (token ∷ ts) h = absurd (omega arith)
  items_more_turns (suc turns) ts h =
      cond_same (is_at y.Comma ts) _ _ (Ok (([], false), ts))
      (λ _. skip_alike _ _ ts
      (λ us l. cond_same (starts_init (first us)) _ _ (Ok (([], true), us))
      (λ _. and_then_when (spec.init_of room inner list us) _ _
      (λ i rest p. let a = init_keeps us i rest p in ap (λ o. and_then o (λ r. pure (i ∷ r.0, r.1))) (items_more_turns turns rest (omega arith))))))

  items_enough : (d : ℕ) (ts : List Kind) → spec.after_item_from room inner list (d + length ts) ts ≡ spec.after_item_from room inner list (length ts) ts
  items_enough zero ts = rw zero-add refl
  items_enough (suc d) ts =
      let e : suc d + length ts ≡ suc (d + length ts) = omega arith in
      ap (λ n. spec.after_item_from room inner list n ts) e ∙ items_more_turns (d + length ts) ts (omega arith) ∙ items_enough d ts

  items_fewer : (n : ℕ) (ts : List Kind) → length ts ≤ n → spec.after_item_from room inner list n ts ≡ spec.after_item room inner list ts
  unfolding spec.after_item
  items_fewer n ts h = let d : n ≡ (n - length ts) + length ts = omega arith in ap (λ n. spec.after_item_from room inner list n ts) d ∙ items_enough (n - length ts) ts

  pub items_done : (front : List x.Init) (ts : List Kind) → is_at y.Comma ts ≡ false → with_items front (spec.after_item room inner list ts) ≡ Ok ((front, false), ts)
  unfolding spec.after_item
  items_done front [] h = ap (λ (all : List x.Init). Ok ((all, false), [])) (append-nil front)
  items_done front (token ∷ ts) h = rw h (ap (λ (all : List x.Init). Ok ((all, false), token ∷ ts)) (append-nil front))

  pub items_open : (front : List x.Init) (ts : List Kind) → is_at y.Comma ts ≡ true → starts_init (first (drop 1 ts)) ≡ false → with_items front (spec.after_item room inner list ts) ≡ Ok ((front, true), drop 1 ts)
  unfolding spec.after_item
  items_open front [] h g = absurd (cc)
  items_open front (token ∷ ts) h g = rw (h, g) (ap (λ (all : List x.Init). Ok ((all, true), ts)) (append-nil front))

  items_turn : (ts : List Kind) → is_at y.Comma ts ≡ true → starts_init (first (drop 1 ts)) ≡ true
      → spec.after_item room inner list ts ≡ and_then (spec.init_of room inner list (drop 1 ts)) (λ i. spec.after_item room inner list >>= (λ r. pure (i ∷ r.0, r.1)))
  unfolding spec.after_item
  items_turn [] h g = absurd (cc)
  items_turn (token ∷ ts) h g =
      rw (h, g)
      (and_then_when (spec.init_of room inner list ts) _ _
      (λ i rest p. let a = init_keeps ts i rest p in ap (λ o. and_then o (λ r. pure (i ∷ r.0, r.1))) (items_fewer (length ts) rest (omega arith))))

  pub items_more : (front : List x.Init) (ts : List Kind) (i : x.Init) (rest : List Kind) → is_at y.Comma ts ≡ true → starts_init (first (drop 1 ts)) ≡ true
      → spec.init_of room inner list (drop 1 ts) ≡ Ok (i, rest) → with_items front (spec.after_item room inner list ts) ≡ with_items (front ++ i ∷ []) (spec.after_item room inner list rest)
  items_more front ts i rest h g p = rw (items_turn ts h g, p) (items_alike front i (spec.after_item room inner list rest))

  pub items_fails : (front : List x.Init) (ts : List Kind) (f : Fault) (new : List Kind) → is_at y.Comma ts ≡ true → starts_init (first (drop 1 ts)) ≡ true
      → Fails (spec.init_of room inner list (drop 1 ts)) f new → Fails (with_items front (spec.after_item room inner list ts)) f new
  items_fails front ts NoTree new h g p = rw (items_turn ts h g, p) refl
  items_fails front ts TooDeep new h g p = rw (items_turn ts h g, p) refl
  items_fails front ts OutOfMemory new h g p = tt
