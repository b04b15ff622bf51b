-- A loop that takes what it has read as a part of what it reads, a level at each turn.
use Rattle.std.proofs.Common.{◌≡◌, ℕ, zero, suc, ◌+◌, ◌<◌, ◌≤◌, ltb, List, [], ◌∷◌, Option, Some, None, Ok, refl, sym, ap, ◌∙◌, subst, inl, inr, arith, Err, ◌⊎◌}
use Rattle.std.proofs.lemmas.Bool.{ltb-false, ltb-true, le-ltb}
use Rattle.jr_base.specs.declared.kind.Kind.{Kind}
use Rattle.jr_tree.specs.Mirror.Exprs as x
use Rattle.jr_tree.specs.Depth.{expr_depth}
use Rattle.jr_parse_laws.specs.declared.fault.Fault.{Fault}
use Rattle.jr_parse_laws.specs.declared.fault.Fault.TheVariants.{TooDeep}
use Rattle.jr_parse_laws.specs.Parsers.{Parser, and_then, deep}
use Rattle.jr_parse_laws.proofs.Outcomes.{bind_ok, and_then_when, chosen, cond_alike, ok_is, err_ok, ok_err, err_is, Before, After, stops}
use Rattle.jr_parse_expr.specs.Exprs.{Lead, turn}

module _ (room : ℕ) (inner : Lead → ℕ → Parser x.Expr) (list : Parser x.InitList) where
  turn_alike : (left : x.Expr) (o : Option (Parser x.Expr)) (f g : x.Expr → Parser x.Expr) (ts : List Kind)
      → ((p : Parser x.Expr) → o ≡ Some p → expr_depth left ≤ room → (e : x.Expr) (us rest : List Kind) → p us ≡ Ok (e, rest) → f e rest ≡ g e rest)
      → turn room inner list left o f ts ≡ turn room inner list left o g ts
  turn_alike left None f g ts h = refl
  turn_alike left (Some p) f g [] h = refl
  turn_alike left (Some p) f g (k ∷ ts) h =
      cond_alike (ltb room (expr_depth left)) _ _ _ (λ e. and_then_when (p ts) f g (λ a rest i. h p refl (ltb-false room (expr_depth left) e) a ts rest i))

  -- what a turn did
  pub data Turned (left : x.Expr) (o : Option (Parser x.Expr)) (on : x.Expr → Parser x.Expr) (ts : List Kind) (y : x.Expr × List Kind) : Type 0 where
    Stayed : o ≡ None → (left, ts) ≡ y → Turned left o on ts y
    Went : (p : Parser x.Expr) (k : Kind) (us : List Kind) → o ≡ Some p → ts ≡ k ∷ us → expr_depth left ≤ room → and_then (p us) on ≡ Ok y → Turned left o on ts y

  pub turned : (left : x.Expr) (o : Option (Parser x.Expr)) (on : x.Expr → Parser x.Expr) (ts : List Kind) (y : x.Expr × List Kind) → turn room inner list left o on ts ≡ Ok y → Turned left o on ts y
  turned left None on ts y h = Stayed refl (ok_is h)
  turned left (Some p) on [] y h =
      elim (chosen (ltb room (expr_depth left)) _ _ _ h) [
        | inl t ↦ absurd (err_ok t.1)
        | inr t ↦ absurd (err_ok t.1)
      ]
  turned left (Some p) on (k ∷ ts) y h =
      elim (chosen (ltb room (expr_depth left)) _ _ _ h) [
        | inl t ↦ absurd (err_ok t.1)
        | inr t ↦ Went p k ts refl refl (ltb-false room (expr_depth left) t.0) t.1
      ]

  -- where a turn stopped
  data TurnStop (left : x.Expr) (o : Option (Parser x.Expr)) (on : x.Expr → Parser x.Expr) (ts : List Kind) (stop : Fault × List Kind) : Type 0 where
    TooHigh : (p : Parser x.Expr) (k : Kind) (us : List Kind) → o ≡ Some p → ts ≡ k ∷ us → room < expr_depth left → (TooDeep, k ∷ us) ≡ stop → TurnStop left o on ts stop
    Inside : (p : Parser x.Expr) (k : Kind) (us : List Kind) → o ≡ Some p → ts ≡ k ∷ us → expr_depth left ≤ room → p us ≡ Err stop → TurnStop left o on ts stop
    Later : (p : Parser x.Expr) (k : Kind) (us : List Kind) (e : x.Expr) (rest : List Kind) → o ≡ Some p → ts ≡ k ∷ us → expr_depth left ≤ room → p us ≡ Ok (e, rest) → on e rest ≡ Err stop → TurnStop left o on ts stop
    AtEnd : (p : Parser x.Expr) → o ≡ Some p → ts ≡ [] → TurnStop left o on ts stop

  turn_stop : (left : x.Expr) (o : Option (Parser x.Expr)) (on : x.Expr → Parser x.Expr) (ts : List Kind) (stop : Fault × List Kind) → turn room inner list left o on ts ≡ Err stop → TurnStop left o on ts stop
  turn_stop left None on ts stop h = absurd (ok_err h)
  turn_stop left (Some p) on [] stop h = AtEnd p refl refl
  turn_stop left (Some p) on (k ∷ ts) stop h =
      elim (chosen (ltb room (expr_depth left)) _ _ _ h) [
        | inl t ↦ TooHigh p k ts refl refl (ltb-true room (expr_depth left) t.0) (err_is t.1)
        | inr t ↦
            (elim (stops (p ts) on stop t.1) [
              | Before e ↦ Inside p k ts refl refl (ltb-false room (expr_depth left) t.0) e
              | After e rest i d ↦ Later p k ts e rest refl refl (ltb-false room (expr_depth left) t.0) i d
            ])
      ]

  module _ (step : x.Expr → List Kind → Option (Parser x.Expr)) (loop : ℕ → x.Expr → Parser x.Expr)
      (last : (left : x.Expr) (ts : List Kind) → loop zero left ts ≡ turn room inner list left (step left ts) (λ e. deep) ts)
      (next : (turns : ℕ) (left : x.Expr) (ts : List Kind) → loop (suc turns) left ts ≡ turn room inner list left (step left ts) (loop turns) ts)
      (raises : (left : x.Expr) (ts : List Kind) (p : Parser x.Expr) → step left ts ≡ Some p → (us : List Kind) (e : x.Expr) (rest : List Kind) → p us ≡ Ok (e, rest) → expr_depth left < expr_depth e) where
    -- no turn is wanted past the last level
    more_turns : (turns : ℕ) (left : x.Expr) (ts : List Kind) → suc room ≤ turns + expr_depth left → loop (suc turns) left ts ≡ loop turns left ts
    more_turns zero left ts h = next zero left ts ∙ turn_alike left (step left ts) (loop zero) (λ e. deep) ts (λ p s low e us rest i. absurd (omega arith)) ∙ sym (last left ts)
    more_turns (suc turns) left ts h =
        next (suc turns) left ts
        ∙ turn_alike left (step left ts) (loop (suc turns)) (loop turns) ts (λ p s low e us rest i. let r = raises left ts p s us e rest i in more_turns turns e rest (omega arith))
        ∙ sym (next turns left ts)

    pub stays : (left : x.Expr) (ts : List Kind) → step left ts ≡ None → loop (suc room) left ts ≡ Ok (left, ts)
    stays left ts h = next room left ts ∙ ap (λ o. turn room inner list left o (loop room) ts) h

    pub goes : (left : x.Expr) (k : Kind) (ts : List Kind) (p : Parser x.Expr) → step left (k ∷ ts) ≡ Some p → expr_depth left ≤ room
        → loop (suc room) left (k ∷ ts) ≡ and_then (p ts) (loop (suc room))
    goes left k ts p h low =
        next room left (k ∷ ts) ∙ ap (λ o. turn room inner list left o (loop room) (k ∷ ts)) h
        ∙ rw (le-ltb room (expr_depth left) low)
        (and_then_when (p ts) (loop room) (loop (suc room)) (λ e rest i. let r = raises left (k ∷ ts) p h ts e rest i in sym (more_turns room e rest (omega arith))))

    -- a turn, and then the loop again
    pub unrolls : (left : x.Expr) (ts : List Kind) → loop (suc room) left ts ≡ turn room inner list left (step left ts) (loop (suc room)) ts
    unrolls left ts =
        next room left ts
        ∙ turn_alike left (step left ts) (loop room) (loop (suc room)) ts (λ p s low e us rest i. let r = raises left ts p s us e rest i in sym (more_turns room e rest (omega arith)))

    -- what holds before each turn holds at the end
    pub keeps : (Holds : x.Expr → List Kind → Type 0)
        → ((left : x.Expr) (k : Kind) (ts : List Kind) (p : Parser x.Expr) (e : x.Expr) (rest : List Kind) → Holds left (k ∷ ts) → step left (k ∷ ts) ≡ Some p → expr_depth left ≤ room → p ts ≡ Ok (e, rest) → Holds e rest)
        → (turns : ℕ) (left : x.Expr) (ts : List Kind) (y : x.Expr × List Kind) → Holds left ts → loop turns left ts ≡ Ok y → Holds y.0 y.1 × (step y.0 y.1 ≡ None)
    keeps Holds kept zero left ts y holds h =
        elim (turned left (step left ts) (λ e. deep) ts y (sym (last left ts) ∙ h)) [
          | Stayed none same ↦ subst (λ (y : x.Expr × List Kind). Holds y.0 y.1 × (step y.0 y.1 ≡ None)) same (holds, none)
          | Went p k us here shape low went ↦ absurd (let b = bind_ok (p us) (λ e. deep) y went in err_ok b.2)
        ]
    keeps Holds kept (suc turns) left ts y holds h =
        elim (turned left (step left ts) (loop turns) ts y (sym (next turns left ts) ∙ h)) [
          | Stayed none same ↦ subst (λ (y : x.Expr × List Kind). Holds y.0 y.1 × (step y.0 y.1 ≡ None)) same (holds, none)
          | Went p k us here shape low went ↦
              (let b = bind_ok (p us) (loop turns) y went in
              keeps Holds kept turns b.0.0 b.0.1 y
              (kept left k us p b.0.0 b.0.1 (subst (Holds left) shape holds) (subst (λ ts. step left ts ≡ Some p) shape here) low b.1)
              b.2)
        ]

    -- where the loop stopped: in a turn, or before one for which no level is left
    pub record Halt (Holds : x.Expr → List Kind → Type 0) (stop : Fault × List Kind) : Type 0 where
      pub left : x.Expr
      pub token : Kind
      pub us : List Kind
      pub p : Parser x.Expr
      pub holds : Holds left (token ∷ us)
      pub here : step left (token ∷ us) ≡ Some p
      pub why : ((expr_depth left ≤ room) × (p us ≡ Err stop)) ⊎ ((room < expr_depth left) × ((TooDeep, token ∷ us) ≡ stop))

    none_some : {A : Type 0} {a : A} → None ≡ Some a → ⊥
    none_some e = cc

    pub halts : (Holds : x.Expr → List Kind → Type 0)
        → ((left : x.Expr) (k : Kind) (ts : List Kind) (p : Parser x.Expr) (e : x.Expr) (rest : List Kind) → Holds left (k ∷ ts) → step left (k ∷ ts) ≡ Some p → expr_depth left ≤ room → p ts ≡ Ok (e, rest) → Holds e rest)
        → ((left : x.Expr) → step left [] ≡ None)
        → (turns : ℕ) (left : x.Expr) (ts : List Kind) (stop : Fault × List Kind) → suc room ≤ turns + expr_depth left → Holds left ts → loop turns left ts ≡ Err stop → Halt Holds stop
    halts Holds kept ends zero left ts stop fuel holds h =
        elim (turn_stop left (step left ts) (λ e. deep) ts stop (sym (last left ts) ∙ h)) [
          | TooHigh p k us here shape high same ↦
              record { left = left; token = k; us = us; p = p; holds = subst (Holds left) shape holds; here = subst (λ ts. step left ts ≡ Some p) shape here; why = inr (high, same) }
          | Inside p k us here shape low e ↦ absurd (omega arith)
          | Later p k us e rest here shape low i d ↦ absurd (omega arith)
          | AtEnd p here shape ↦ absurd (none_some (sym (ends left) ∙ subst (λ ts. step left ts ≡ Some p) shape here))
        ]
    halts Holds kept ends (suc turns) left ts stop fuel holds h =
        elim (turn_stop left (step left ts) (loop turns) ts stop (sym (next turns left ts) ∙ h)) [
          | TooHigh p k us here shape high same ↦
              record { left = left; token = k; us = us; p = p; holds = subst (Holds left) shape holds; here = subst (λ ts. step left ts ≡ Some p) shape here; why = inr (high, same) }
          | Inside p k us here shape low e ↦
              record { left = left; token = k; us = us; p = p; holds = subst (Holds left) shape holds; here = subst (λ ts. step left ts ≡ Some p) shape here; why = inl (low, e) }
          | Later p k us e rest here shape low i d ↦
              (let up = raises left ts p here us e rest i in
              halts Holds kept ends turns e rest stop (omega arith) (kept left k us p e rest (subst (Holds left) shape holds) (subst (λ ts. step left ts ≡ Some p) shape here) low i) d)
          | AtEnd p here shape ↦ absurd (none_some (sym (ends left) ∙ subst (λ ts. step left ts ≡ Some p) shape here))
        ]
