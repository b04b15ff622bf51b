-- What the loops over suffixes and operators keep: each turn adds a level.
use Rattle.std.proofs.Common.{◌≡◌, ℕ, zero, suc, ◌+◌, ◌<◌, ◌≤◌, max, Bool, true, false, cond, ltb, List, [], ◌∷◌, drop, length, Option, Some, None, Ok, Err, refl, sym, ap, ◌∙◌, subst, inl, inr, arith}
use Rattle.std.specs.Option.{option_map}
use Rattle.std.proofs.lemmas.Bool.{le-ltb, lt-ltb, ltb-false}
use Rattle.jr_base.specs.declared.text.Text.{Text}
use Rattle.jr_base.specs.declared.kind.Symbol.{Symbol}
use Rattle.jr_base.specs.declared.kind.Symbol.TheVariants as y
use Rattle.jr_base.specs.declared.kind.Keyword.TheVariants as k
use Rattle.jr_base.specs.declared.kind.Kind.{Kind}
use Rattle.jr_base.specs.declared.kind.Kind.TheVariants as kind
use Rattle.jr_tree.specs.Levels.{binary_level, is_assignment, is_step}
use Rattle.jr_tree.specs.Shape.{level, is_target, is_new_array}
use Rattle.std.specs.Prelude.{nat_lt, not, ◌&&◌, ◌||◌}
use Rattle.jr_tree.specs.Depth.{expr_depth}
use Rattle.jr_tree.specs.Mirror.Exprs as x
use Rattle.jr_parse_laws.specs.declared.fault.Fault.{Fault}
use Rattle.jr_parse_laws.specs.declared.fault.Fault.TheVariants.{NoTree, TooDeep, OutOfMemory}
use Rattle.jr_parse_laws.specs.Parsers.{Outcome, Parser, and_then, deep, pure, first, is_at, is_symbol, symbol_at, expect, identifier, Fails, ◌>>=◌, ◌>>◌}
use Rattle.jr_parse_laws.proofs.Outcomes.{and_then_when, bind_ok, chosen, cond_alike, err_ok, ok_is}
use Rattle.jr_parse_expr.specs.declared.suffix.Suffix.{Suffix}
use Rattle.jr_parse_expr.specs.declared.suffix.Suffix.TheVariants as s
use Rattle.jr_parse_expr.specs.declared.operator.Operation.{Operation}
use Rattle.jr_parse_expr.specs.declared.operator.Operation.TheVariants as o
use Rattle.jr_parse_expr.specs.Names.{type_use}
use Rattle.jr_parse_expr.specs.Exprs as spec
use Rattle.jr_parse_expr.specs.Exprs.{Lead, Nothing}
use Rattle.jr_parse_expr.specs.Steps.{suffix_of, suffixed, operation_of, binary_operation_of, operated}

skip_alike : {A : Type 0} (p q : Parser A) (ts : List Kind) → ((us : List Kind) → p us ≡ q us) → spec.skipping p ts ≡ spec.skipping q ts
skip_alike p q [] h = refl
skip_alike p q (token ∷ us) h = h us

-- ---- turns, by what is chosen at each

module _ (room : ℕ) (inner : Lead → ℕ → Parser x.Expr) (list : Parser x.InitList) {K : Type 0} (choose : x.Expr → List Kind → Option K) (parse : x.Expr → K → Parser x.Expr)
    (turns_of : ℕ → x.Expr → Parser x.Expr)
    (last_is : (left : x.Expr) (ts : List Kind) → turns_of zero left ts ≡ spec.turn room inner list left (option_map (parse left) (choose left ts)) (λ e. deep) ts)
    (more_is : (turns : ℕ) (left : x.Expr) (ts : List Kind) → turns_of (suc turns) left ts ≡ spec.turn room inner list left (option_map (parse left) (choose left ts)) (turns_of turns) ts)
    (ends : (left : x.Expr) → choose left [] ≡ None)
    (grows : (left : x.Expr) (key : K) (us : List Kind) (e : x.Expr) (rest : List Kind) → parse left key us ≡ Ok (e, rest) → expr_depth left < expr_depth e) where
  turn_alike : (left : x.Expr) (chosen : Option K) (f g : x.Expr → Parser x.Expr) (ts : List Kind)
      → ((us : List Kind) (key : K) (e : x.Expr) (rest : List Kind) → expr_depth left ≤ room → parse left key us ≡ Ok (e, rest) → f e rest ≡ g e rest)
      → spec.turn room inner list left (option_map (parse left) chosen) f ts ≡ spec.turn room inner list left (option_map (parse left) chosen) g ts
  turn_alike left None f g ts h = refl
  turn_alike left (Some key) f g ts h =
      cond_alike (ltb room (expr_depth left)) _ _ _
      (λ low. skip_alike (parse left key >>= f) (parse left key >>= g) ts (λ us. and_then_when (parse left key us) f g (λ e rest r. h us key e rest (ltb-false room (expr_depth left) low) r)))

  more_turns : (turns : ℕ) (left : x.Expr) (ts : List Kind) → suc room ≤ turns + expr_depth left → turns_of (suc turns) left ts ≡ turns_of turns left ts
  more_turns zero left ts h = more_is zero left ts ∙ turn_alike left (choose left ts) (turns_of zero) (λ e. deep) ts (λ us key e rest low r. absurd (omega arith)) ∙ sym (last_is left ts)
  more_turns (suc turns) left ts h =
      more_is (suc turns) left ts
      ∙ turn_alike left (choose left ts) (turns_of (suc turns)) (turns_of turns) ts (λ us key e rest low r. let l = grows left key us e rest r in more_turns turns e rest (omega arith))
      ∙ sym (more_is turns left ts)

  pub chain_more : (left : x.Expr) (ts : List Kind) (key : K) (e : x.Expr) (rest : List Kind) → choose left ts ≡ Some key → expr_depth left ≤ room → parse left key (drop 1 ts) ≡ Ok (e, rest)
      → turns_of (suc room) left ts ≡ turns_of (suc room) e rest
  chain_more left [] key e rest c low r = absurd (let h = sym (ends left) ∙ c in cc)
  chain_more left (token ∷ ts) key e rest c low r =
      more_is room left (token ∷ ts) ∙ rw (c, le-ltb room (expr_depth left) low, r) (let l = grows left key ts e rest r in sym (more_turns room e rest (omega arith)))

  pub chain_fails : (left : x.Expr) (ts : List Kind) (key : K) (f : Fault) (new : List Kind) → choose left ts ≡ Some key → expr_depth left ≤ room → Fails (parse left key (drop 1 ts)) f new
      → Fails (turns_of (suc room) left ts) f new
  chain_fails left ts key OutOfMemory new c low r = tt
  chain_fails left [] key NoTree new c low r = absurd (let h = sym (ends left) ∙ c in cc)
  chain_fails left [] key TooDeep new c low r = absurd (let h = sym (ends left) ∙ c in cc)
  chain_fails left (token ∷ ts) key NoTree new c low r = more_is room left (token ∷ ts) ∙ rw (c, le-ltb room (expr_depth left) low, r) refl
  chain_fails left (token ∷ ts) key TooDeep new c low r = more_is room left (token ∷ ts) ∙ rw (c, le-ltb room (expr_depth left) low, r) refl

  pub chain_deep : (left : x.Expr) (ts : List Kind) (key : K) → choose left ts ≡ Some key → room < expr_depth left → turns_of (suc room) left ts ≡ Err (TooDeep, ts)
  chain_deep left ts key c high = more_is room left ts ∙ rw (c, lt-ltb room (expr_depth left) high) refl

  pub chain_over : (left : x.Expr) (ts : List Kind) → choose left ts ≡ None → turns_of (suc room) left ts ≡ Ok (left, ts)
  chain_over left ts c = more_is room left ts ∙ rw c refl

-- ---- choices as data

pub some_if : {A B : Type 0} (b : Bool) (f : A → B) (a : A) → cond b (Some (f a)) None ≡ option_map f (cond b (Some a) None)
some_if true f a = refl
some_if false f a = refl

some_unless : {A B : Type 0} (b : Bool) (f : A → B) (a : A) → cond b None (Some (f a)) ≡ option_map f (cond b None (Some a))
some_unless true f a = refl
some_unless false f a = refl

either : {A B : Type 0} (b u v : Bool) (f : A → B) (a c : A) → cond b (cond u None (Some (f a))) (cond v None (Some (f c))) ≡ option_map f (cond b (cond u None (Some a)) (cond v None (Some c)))
either true true v f a c = refl
either true false v f a c = refl
either false u true f a c = refl
either false u false f a c = refl

module _ (room : ℕ) (inner : Lead → ℕ → Parser x.Expr) (list : Parser x.InitList) where
  pub suffix_is : (left : x.Expr) (c : Option Symbol) → spec.suffix room inner list left c ≡ option_map (suffixed room inner list left) (suffix_of left c)
  suffix_is left (Some y.Dot) = some_if (not (nat_lt (level left) 14)) (suffixed room inner list left) s.Member
  suffix_is left (Some y.OpenBracket) = some_if (not (nat_lt (level left) 14) && not (is_new_array left)) (suffixed room inner list left) s.Index
  suffix_is left (Some symbol) = some_if (is_step symbol && not (nat_lt (level left) 13)) (suffixed room inner list left) (s.Step symbol)
  suffix_is left None = refl

  binary_operation_is : (least : ℕ) (left : x.Expr) (op : Symbol) → spec.operator_by room inner list least left op ≡ option_map (operated room inner list left) (binary_operation_of least left op)
  binary_operation_is least left op =
      either (is_assignment op) (nat_lt 0 least || not (is_target left)) (nat_lt (binary_level op) 1 || (nat_lt (binary_level op) least || nat_lt (level left) (binary_level op))) (operated room inner list left)
      (o.Assign op) (o.Binary op)

  operator_is : (least : ℕ) (left : x.Expr) (c : Option Kind) → spec.operator room inner list least left c ≡ option_map (operated room inner list left) (operation_of least left c)
  operator_is least left (Some (kind.Sym y.Question)) = some_unless (nat_lt 1 least || nat_lt (level left) 2) (operated room inner list left) o.Choice
  operator_is least left (Some (kind.Sym op)) = binary_operation_is least left op
  operator_is least left (Some (kind.Word k.Instanceof)) = some_unless (nat_lt 8 least || nat_lt (level left) 8) (operated room inner list left) o.Test
  operator_is least left _ = refl

  -- ---- what each choice adds to

  call_grows : (left : x.Expr) (method : Text) (us : List Kind) (e : x.Expr) (rest : List Kind) → spec.call_or room inner list (x.a_receiver (x.Of left)) method (x.Select left method) us ≡ Ok (e, rest) → expr_depth left < expr_depth e
  call_grows left method [] e rest h = let d = ap (λ (y : x.Expr × List Kind). expr_depth y.0) (ok_is h) in omega arith
  call_grows left method (token ∷ us) e rest h =
      elim (chosen (is_symbol y.OpenParen token) (and_then (spec.arguments room inner list us) (λ args. pure (x.Call (x.a_receiver (x.Of left)) method (x.exprs args)))) (Ok (x.Select left method, token ∷ us)) (Ok (e, rest)) h) [
        | inl c ↦
            (let a = bind_ok (spec.arguments room inner list us) _ (e, rest) c.1 in
            let d = ap (λ (y : x.Expr × List Kind). expr_depth y.0) (ok_is a.2) in
            omega arith)
        | inr c ↦ (let d = ap (λ (y : x.Expr × List Kind). expr_depth y.0) (ok_is c.1) in omega arith)
      ]

  pub suffix_grows : (left : x.Expr) (key : Suffix) (us : List Kind) (e : x.Expr) (rest : List Kind) → suffixed room inner list left key us ≡ Ok (e, rest) → expr_depth left < expr_depth e
  suffix_grows left s.Member us e rest h = let a = bind_ok (identifier us) _ (e, rest) h in call_grows left a.0.0 a.0.1 e rest a.2
  suffix_grows left s.Index us e rest h =
      let a = bind_ok (inner Nothing 0 us) _ (e, rest) h in
      let b = bind_ok (expect y.CloseBracket a.0.1) _ (e, rest) a.2 in
      let d = ap (λ (y : x.Expr × List Kind). expr_depth y.0) (ok_is b.2) in
      omega arith
  suffix_grows left (s.Step symbol) us e rest h = let d = ap (λ (y : x.Expr × List Kind). expr_depth y.0) (ok_is h) in omega arith

  operation_grows : (left : x.Expr) (key : Operation) (us : List Kind) (e : x.Expr) (rest : List Kind) → operated room inner list left key us ≡ Ok (e, rest) → expr_depth left < expr_depth e
  operation_grows left o.Choice us e rest h =
      let a = bind_ok (inner Nothing 0 us) _ (e, rest) h in
      let b = bind_ok (expect y.Colon a.0.1) _ (e, rest) a.2 in
      let c = bind_ok (inner Nothing 1 b.0.1) _ (e, rest) b.2 in
      let d = ap (λ (y : x.Expr × List Kind). expr_depth y.0) (ok_is c.2) in
      omega arith
  operation_grows left (o.Assign op) us e rest h =
      let a = bind_ok (inner Nothing 0 us) _ (e, rest) h in let d = ap (λ (y : x.Expr × List Kind). expr_depth y.0) (ok_is a.2) in omega arith
  operation_grows left (o.Binary op) us e rest h =
      let a = bind_ok (inner Nothing (suc (binary_level op)) us) _ (e, rest) h in let d = ap (λ (y : x.Expr × List Kind). expr_depth y.0) (ok_is a.2) in omega arith
  operation_grows left o.Test us e rest h = let a = bind_ok (type_use us) _ (e, rest) h in let d = ap (λ (y : x.Expr × List Kind). expr_depth y.0) (ok_is a.2) in omega arith

  pub suffix_ends : (left : x.Expr) → suffix_of left (symbol_at []) ≡ None
  suffix_ends left = refl

  suffixes_last : (left : x.Expr) (ts : List Kind) → spec.suffixes_from room inner list zero left ts ≡ spec.turn room inner list left (option_map (suffixed room inner list left) (suffix_of left (symbol_at ts))) (λ e. deep) ts
  suffixes_last left ts = ap (λ c. spec.turn room inner list left c (λ e. deep) ts) (suffix_is left (symbol_at ts))

  suffixes_turn : (turns : ℕ) (left : x.Expr) (ts : List Kind)
      → spec.suffixes_from room inner list (suc turns) left ts ≡ spec.turn room inner list left (option_map (suffixed room inner list left) (suffix_of left (symbol_at ts))) (spec.suffixes_from room inner list turns) ts
  suffixes_turn turns left ts = ap (λ c. spec.turn room inner list left c (spec.suffixes_from room inner list turns) ts) (suffix_is left (symbol_at ts))

  pub suffixes_more : (left : x.Expr) (ts : List Kind) (key : Suffix) (e : x.Expr) (rest : List Kind) → suffix_of left (symbol_at ts) ≡ Some key → expr_depth left ≤ room
      → suffixed room inner list left key (drop 1 ts) ≡ Ok (e, rest) → (spec.suffixes room inner list left ts ≡ spec.suffixes room inner list e rest) × (expr_depth left < expr_depth e)
  unfolding spec.suffixes
  suffixes_more left ts key e rest c low r = (
    chain_more room inner list (λ left ts. suffix_of left (symbol_at ts)) (suffixed room inner list) (spec.suffixes_from room inner list) suffixes_last suffixes_turn suffix_ends suffix_grows left ts key e rest c low r,
    suffix_grows left key (drop 1 ts) e rest r,
  )

  pub suffixes_fails : (left : x.Expr) (ts : List Kind) (key : Suffix) (f : Fault) (new : List Kind) → suffix_of left (symbol_at ts) ≡ Some key → expr_depth left ≤ room
      → Fails (suffixed room inner list left key (drop 1 ts)) f new → Fails (spec.suffixes room inner list left ts) f new
  unfolding spec.suffixes
  suffixes_fails left ts key f new c low r =
      chain_fails room inner list (λ left ts. suffix_of left (symbol_at ts)) (suffixed room inner list) (spec.suffixes_from room inner list) suffixes_last suffixes_turn suffix_ends suffix_grows left ts key f new c low r

  pub suffixes_deep : (left : x.Expr) (ts : List Kind) (key : Suffix) → suffix_of left (symbol_at ts) ≡ Some key → room < expr_depth left → spec.suffixes room inner list left ts ≡ Err (TooDeep, ts)
  unfolding spec.suffixes
  suffixes_deep left ts key c high =
      chain_deep room inner list (λ left ts. suffix_of left (symbol_at ts)) (suffixed room inner list) (spec.suffixes_from room inner list) suffixes_last suffixes_turn suffix_ends suffix_grows left ts key c high

  pub suffixes_over : (left : x.Expr) (ts : List Kind) → suffix_of left (symbol_at ts) ≡ None → spec.suffixes room inner list left ts ≡ Ok (left, ts)
  unfolding spec.suffixes
  suffixes_over left ts c =
      chain_over room inner list (λ left ts. suffix_of left (symbol_at ts)) (suffixed room inner list) (spec.suffixes_from room inner list) suffixes_last suffixes_turn suffix_ends suffix_grows left ts c

  operator_ends : (least : ℕ) (left : x.Expr) → operation_of least left (first []) ≡ None
  operator_ends least left = refl

  climb_last : (least : ℕ) (left : x.Expr) (ts : List Kind)
      → spec.climb_from room inner list zero least left ts ≡ spec.turn room inner list left (option_map (operated room inner list left) (operation_of least left (first ts))) (λ e. deep) ts
  climb_last least left ts = ap (λ c. spec.turn room inner list left c (λ e. deep) ts) (operator_is least left (first ts))

  climb_turn : (least turns : ℕ) (left : x.Expr) (ts : List Kind)
      → spec.climb_from room inner list (suc turns) least left ts ≡ spec.turn room inner list left (option_map (operated room inner list left) (operation_of least left (first ts))) (spec.climb_from room inner list turns least) ts
  climb_turn least turns left ts = ap (λ c. spec.turn room inner list left c (spec.climb_from room inner list turns least) ts) (operator_is least left (first ts))

  pub climb_more : (least : ℕ) (left : x.Expr) (ts : List Kind) (key : Operation) (e : x.Expr) (rest : List Kind) → operation_of least left (first ts) ≡ Some key → expr_depth left ≤ room
      → operated room inner list left key (drop 1 ts) ≡ Ok (e, rest) → (spec.climb room inner list least left ts ≡ spec.climb room inner list least e rest) × (expr_depth left < expr_depth e)
  unfolding spec.climb
  climb_more least left ts key e rest c low r = (
    chain_more room inner list (λ left ts. operation_of least left (first ts)) (operated room inner list) (λ turns. spec.climb_from room inner list turns least) (climb_last least) (climb_turn least) (operator_ends least) operation_grows left ts key e rest c low r,
    operation_grows left key (drop 1 ts) e rest r,
  )

  pub climb_fails : (least : ℕ) (left : x.Expr) (ts : List Kind) (key : Operation) (f : Fault) (new : List Kind) → operation_of least left (first ts) ≡ Some key → expr_depth left ≤ room
      → Fails (operated room inner list left key (drop 1 ts)) f new → Fails (spec.climb room inner list least left ts) f new
  unfolding spec.climb
  climb_fails least left ts key f new c low r =
      chain_fails room inner list (λ left ts. operation_of least left (first ts)) (operated room inner list) (λ turns. spec.climb_from room inner list turns least) (climb_last least) (climb_turn least) (operator_ends least) operation_grows left ts key f new c low r

  pub climb_deep : (least : ℕ) (left : x.Expr) (ts : List Kind) (key : Operation) → operation_of least left (first ts) ≡ Some key → room < expr_depth left → spec.climb room inner list least left ts ≡ Err (TooDeep, ts)
  unfolding spec.climb
  climb_deep least left ts key c high =
      chain_deep room inner list (λ left ts. operation_of least left (first ts)) (operated room inner list) (λ turns. spec.climb_from room inner list turns least) (climb_last least) (climb_turn least) (operator_ends least) operation_grows left ts key c high

  pub climb_over : (least : ℕ) (left : x.Expr) (ts : List Kind) → operation_of least left (first ts) ≡ None → spec.climb room inner list least left ts ≡ Ok (left, ts)
  unfolding spec.climb
  climb_over least left ts c =
      chain_over room inner list (λ left ts. operation_of least left (first ts)) (operated room inner list) (λ turns. spec.climb_from room inner list turns least) (climb_last least) (climb_turn least) (operator_ends least) operation_grows left ts c
