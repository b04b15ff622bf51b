-- How an operand or an expression goes on.
use Rattle.std.proofs.Common.{◌≡◌, ℕ, ◌<◌, ◌≤◌, Bool, true, false, not, cond, ◌||◌, ◌&&◌, ltb, Option, Some, None, refl, ◌∙◌, inl, inr, arith}
use Rattle.std.proofs.lemmas.Bool.{cases_Bool, ltb-false, le-ltb, or_parts, and_parts, not-true, not-false, not_from_true}
use Rattle.jr_base.specs.declared.kind.Kind.{Kind}
use Rattle.jr_base.specs.declared.kind.Kind.TheVariants as kind
use Rattle.jr_base.specs.declared.kind.Symbol.{Symbol}
use Rattle.jr_base.specs.declared.kind.Symbol.TheVariants as y
use Rattle.jr_base.specs.declared.kind.Keyword.TheVariants as k
use Rattle.jr_tree.specs.Levels.{binary_level, is_assignment, is_step}
use Rattle.jr_tree.specs.Shape.{level, is_target, is_new_array}
use Rattle.jr_tree.specs.Mirror.Exprs as x
use Rattle.jr_parse_laws.specs.Parsers.{Parser, pure}
use Rattle.jr_parse_expr.specs.Exprs.{Lead, suffix, selected, indexed, operator, operator_by, choice, binary, assigned, tested}
use Rattle.jr_parse_expr.specs.Follow.{is_tight, has_suffix, has_operator_by, has_operator}

module _ (room : ℕ) (inner : Lead → ℕ → Parser x.Expr) (list : Parser x.InitList) where
  -- a dot, a bracket or a step
  pub data Suffixed (left : x.Expr) (o : Option Symbol) (r : Option (Parser x.Expr)) : Type 0 where
    Ended : has_suffix left o ≡ false → r ≡ None → Suffixed left o r
    Selects : o ≡ Some y.Dot → 14 ≤ level left → r ≡ Some (selected room inner list left) → Suffixed left o r
    Indexes : o ≡ Some y.OpenBracket → 14 ≤ level left → is_new_array left ≡ false → r ≡ Some (indexed room inner list left) → Suffixed left o r
    Steps : (s : Symbol) → o ≡ Some s → is_step s ≡ true → 13 ≤ level left → r ≡ Some (pure (x.PostStep left s)) → Suffixed left o r

  pub tight_is : (e : x.Expr) (least : ℕ) → not (ltb (level e) least) ≡ true → least ≤ level e
  tight_is e least h = ltb-false (level e) least (not-true _ h)

  select_view : (left : x.Expr) (b : Bool) → is_tight left 14 ≡ b → Suffixed left (Some y.Dot) (cond b (Some (selected room inner list left)) None)
  select_view left true h = Selects refl (tight_is left 14 h) refl
  select_view left false h = Ended h refl

  index_view : (left : x.Expr) (b : Bool) → (is_tight left 14 && not (is_new_array left)) ≡ b → Suffixed left (Some y.OpenBracket) (cond b (Some (indexed room inner list left)) None)
  index_view left true h = let p = and_parts _ _ h in Indexes refl (tight_is left 14 p.0) (not-true _ p.1) refl
  index_view left false h = Ended h refl

  pub step_view : (left : x.Expr) (s : Symbol) (b : Bool) → (is_step s && is_tight left 13) ≡ b → has_suffix left (Some s) ≡ (is_step s && is_tight left 13)
      → Suffixed left (Some s) (cond b (Some (pure (x.PostStep left s))) None)
  step_view left s true h e = let p = and_parts _ _ h in Steps s refl p.0 (tight_is left 13 p.1) refl
  step_view left s false h e = Ended (e ∙ h) refl

  pub suffix_view : (left : x.Expr) (o : Option Symbol) → Suffixed left o (suffix room inner list left o)
  suffix_view left None = Ended refl refl
  suffix_view left (Some y.Dot) = select_view left (is_tight left 14) refl
  suffix_view left (Some y.OpenBracket) = index_view left (is_tight left 14 && not (is_new_array left)) refl
  suffix_view left (Some s) = step_view left s (is_step s && is_tight left 13) refl refl

  -- an operator
  pub data Operated (least : ℕ) (left : x.Expr) (o : Option Kind) (r : Option (Parser x.Expr)) : Type 0 where
    Over : has_operator least left o ≡ false → r ≡ None → Operated least left o r
    Chooses : o ≡ Some (kind.Sym y.Question) → least ≤ 1 → 2 ≤ level left → r ≡ Some (choice room inner list left) → Operated least left o r
    Computes : (op : Symbol) → o ≡ Some (kind.Sym op) → 0 < binary_level op → least ≤ binary_level op → binary_level op ≤ level left → r ≡ Some (binary room inner list left op) → Operated least left o r
    Assigns : (op : Symbol) → o ≡ Some (kind.Sym op) → is_assignment op ≡ true → least ≤ 0 → is_target left ≡ true → r ≡ Some (assigned room inner list left op) → Operated least left o r
    Tests : o ≡ Some (kind.Word k.Instanceof) → least ≤ 8 → 8 ≤ level left → r ≡ Some (tested room inner list left) → Operated least left o r

  choose_view : (least : ℕ) (left : x.Expr) (b : Bool) → (ltb 1 least || ltb (level left) 2) ≡ b
      → Operated least left (Some (kind.Sym y.Question)) (cond b None (Some (choice room inner list left)))
  choose_view least left true h = Over (not_from_true _ h) refl
  choose_view least left false h = let p = or_parts _ _ h in Chooses refl (ltb-false 1 least p.0) (ltb-false (level left) 2 p.1) refl

  test_view : (least : ℕ) (left : x.Expr) (b : Bool) → (ltb 8 least || ltb (level left) 8) ≡ b
      → Operated least left (Some (kind.Word k.Instanceof)) (cond b None (Some (tested room inner list left)))
  test_view least left true h = Over (not_from_true _ h) refl
  test_view least left false h = let p = or_parts _ _ h in Tests refl (ltb-false 8 least p.0) (ltb-false (level left) 8 p.1) refl

  assign_view : (least : ℕ) (left : x.Expr) (op : Symbol) (b : Bool) → (ltb 0 least || not (is_target left)) ≡ b → is_assignment op ≡ true
      → (b ≡ true → has_operator least left (Some (kind.Sym op)) ≡ false)
      → Operated least left (Some (kind.Sym op)) (cond b None (Some (assigned room inner list left op)))
  assign_view least left op true h a e = Over (e refl) refl
  assign_view least left op false h a e = let p = or_parts _ _ h in Assigns op refl a (ltb-false 0 least p.0) (not-false _ p.1) refl

  binary_view : (least : ℕ) (left : x.Expr) (op : Symbol) (b : Bool) → (ltb (binary_level op) 1 || (ltb (binary_level op) least || ltb (level left) (binary_level op))) ≡ b
      → (b ≡ true → has_operator least left (Some (kind.Sym op)) ≡ false)
      → Operated least left (Some (kind.Sym op)) (cond b None (Some (binary room inner list left op)))
  binary_view least left op true h e = Over (e refl) refl
  binary_view least left op false h e =
      let p = or_parts _ _ h in
      let q = or_parts _ _ p.1 in
      let pos : 1 ≤ binary_level op = ltb-false (binary_level op) 1 p.0 in
      Computes op refl (omega arith) (ltb-false (binary_level op) least q.0) (ltb-false (level left) (binary_level op) q.1) refl

  by_view : (least : ℕ) (left : x.Expr) (op : Symbol) → has_operator least left (Some (kind.Sym op)) ≡ has_operator_by least left op
      → Operated least left (Some (kind.Sym op)) (operator_by room inner list least left op)
  by_view least left op e =
      elim (cases_Bool (is_assignment op)) [
        | inl t ↦
            rw t (assign_view least left op (ltb 0 least || not (is_target left)) refl t (λ b. e ∙ rw (t, b) refl))
        | inr f ↦
            rw f (binary_view least left op (ltb (binary_level op) 1 || (ltb (binary_level op) least || ltb (level left) (binary_level op))) refl (λ b. e ∙ rw (f, b) refl))
      ]

  pub operator_view : (least : ℕ) (left : x.Expr) (o : Option Kind) → Operated least left o (operator room inner list least left o)
  operator_view least left None = Over refl refl
  operator_view least left (Some (kind.Sym y.Question)) = choose_view least left (ltb 1 least || ltb (level left) 2) refl
  operator_view least left (Some (kind.Sym op)) = by_view least left op refl
  operator_view least left (Some (kind.Word k.Instanceof)) = test_view least left (ltb 8 least || ltb (level left) 8) refl
  operator_view least left (Some token) = Over refl refl

  -- ---- what is taken, and what is not

  pub suffix_none : (left : x.Expr) (o : Option Symbol) → has_suffix left o ≡ false → suffix room inner list left o ≡ None
  suffix_none left None h = refl
  suffix_none left (Some y.Dot) h = rw h refl
  suffix_none left (Some y.OpenBracket) h = rw h refl
  suffix_none left (Some y.PlusPlus) h = rw h refl
  suffix_none left (Some y.MinusMinus) h = rw h refl
  suffix_none left (Some s) h = refl

  pub takes_dot : (left : x.Expr) → 14 ≤ level left → suffix room inner list left (Some y.Dot) ≡ Some (selected room inner list left)
  takes_dot left h = rw (le-ltb (level left) 14 h) refl

  pub takes_bracket : (left : x.Expr) → 14 ≤ level left → is_new_array left ≡ false → suffix room inner list left (Some y.OpenBracket) ≡ Some (indexed room inner list left)
  takes_bracket left h n = rw (le-ltb (level left) 14 h, n) refl

  pub takes_step : (left : x.Expr) (s : Symbol) → 13 ≤ level left → is_step s ≡ true → suffix room inner list left (Some s) ≡ Some (pure (x.PostStep left s))
  takes_step left y.PlusPlus h e = rw (le-ltb (level left) 13 h) refl
  takes_step left y.MinusMinus h e = rw (le-ltb (level left) 13 h) refl
  takes_step left _ h e = absurd (cc)

  by_none : (least : ℕ) (left : x.Expr) (op : Symbol) → has_operator_by least left op ≡ false → operator_by room inner list least left op ≡ None
  by_none least left op h =
      elim (cases_Bool (is_assignment op)) [
        | inl t ↦ (let g = rw t at h in rw (t, not-false _ g) refl)
        | inr f ↦ (let g = rw f at h in rw (f, not-false _ g) refl)
      ]

  pub operator_none : (least : ℕ) (left : x.Expr) (o : Option Kind) → has_operator least left o ≡ false → operator room inner list least left o ≡ None
  operator_none least left None h = refl
  operator_none least left (Some (kind.Sym y.Question)) h = rw (not-false _ h) refl
  operator_none least left (Some (kind.Sym op)) h = by_none least left op h
  operator_none least left (Some (kind.Word k.Instanceof)) h = rw (not-false _ h) refl
  operator_none least left (Some token) h = refl

  pub takes_question : (least : ℕ) (left : x.Expr) → least ≤ 1 → 2 ≤ level left → operator room inner list least left (Some (kind.Sym y.Question)) ≡ Some (choice room inner list left)
  takes_question least left h l = rw (le-ltb 1 least h, le-ltb (level left) 2 l) refl

  pub takes_test : (least : ℕ) (left : x.Expr) → least ≤ 8 → 8 ≤ level left → operator room inner list least left (Some (kind.Word k.Instanceof)) ≡ Some (tested room inner list left)
  takes_test least left h l = rw (le-ltb 8 least h, le-ltb (level left) 8 l) refl

  -- no symbol is two kinds of operator
  binary_only : (op : Symbol) → 0 < binary_level op → is_assignment op ≡ false
  binary_only y.OrOr h = refl
  binary_only y.AndAnd h = refl
  binary_only y.Or h = refl
  binary_only y.Caret h = refl
  binary_only y.And h = refl
  binary_only y.Equal h = refl
  binary_only y.NotEqual h = refl
  binary_only y.Less h = refl
  binary_only y.Greater h = refl
  binary_only y.LessEqual h = refl
  binary_only y.GreaterEqual h = refl
  binary_only y.ShiftLeft h = refl
  binary_only y.ShiftRight h = refl
  binary_only y.ShiftRightUnsigned h = refl
  binary_only y.Plus h = refl
  binary_only y.Minus h = refl
  binary_only y.Star h = refl
  binary_only y.Slash h = refl
  binary_only y.Percent h = refl
  binary_only _ h = absurd (omega arith)

  by_symbol : (least : ℕ) (left : x.Expr) (op : Symbol) → 0 < binary_level op → operator room inner list least left (Some (kind.Sym op)) ≡ operator_by room inner list least left op
  by_symbol least left y.Question h = absurd (omega arith)
  by_symbol least left op h = refl

  pub takes_binary : (least : ℕ) (left : x.Expr) (op : Symbol) → 0 < binary_level op → least ≤ binary_level op → binary_level op ≤ level left
      → operator room inner list least left (Some (kind.Sym op)) ≡ Some (binary room inner list left op)
  takes_binary least left op p h l =
      by_symbol least left op p ∙ rw (binary_only op p, le-ltb (binary_level op) 1 (omega arith), le-ltb (binary_level op) least h, le-ltb (level left) (binary_level op) l) refl

  by_assignment : (least : ℕ) (left : x.Expr) (op : Symbol) → is_assignment op ≡ true → operator room inner list least left (Some (kind.Sym op)) ≡ operator_by room inner list least left op
  by_assignment least left y.Question h = absurd (cc)
  by_assignment least left op h = refl

  pub takes_assignment : (least : ℕ) (left : x.Expr) (op : Symbol) → least ≤ 0 → is_assignment op ≡ true → is_target left ≡ true
      → operator room inner list least left (Some (kind.Sym op)) ≡ Some (assigned room inner list left op)
  takes_assignment least left op h a t = by_assignment least left op a ∙ rw (a, le-ltb 0 least h, t) refl
