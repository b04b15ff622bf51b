-- Expressions and lists by the levels that are left.
use Rattle.std.proofs.Common.{◌≡◌, ℕ, zero, suc, ◌-◌, ◌<◌, Bool, true, false, cond, List, Option, refl, sym, ap, ◌∙◌, subst, arith}
use Rattle.jr_base.specs.declared.kind.Kind.{Kind}
use Rattle.jr_parse_laws.specs.declared.fault.Fault.{Fault}
use Rattle.jr_parse_laws.specs.declared.fault.Fault.TheVariants.{NoTree, TooDeep}
use Rattle.jr_parse_laws.specs.Parsers.{Outcome, Fails, deep, refuse, first}
use Rattle.jr_parse_starts.specs.Starts.{no_level, starts_expr, starts_list}
use Rattle.jr_parse_expr.specs.Exprs.{Lead, expr, list, effect, operations, effects, braces, below, goes_on}

one_less : (room : ℕ) → 0 < room → room ≡ suc (room - 1)
one_less room h = omega arith

pub expr_lowest : (room : ℕ) (lead : Lead) (least : ℕ) (ts : List Kind) → room ≡ 0 → expr room lead least ts ≡ no_level starts_expr ts
unfolding expr
expr_lowest room lead least ts h = ap (λ n. expr n lead least ts) h

pub expr_below : (room : ℕ) (lead : Lead) (least : ℕ) (ts : List Kind) → 0 < room → expr room lead least ts ≡ operations (room - 1) (expr (room - 1)) (list (room - 1)) lead least ts
unfolding expr
expr_below room lead least ts h = ap (λ n. expr n lead least ts) (one_less room h)

pub list_lowest : (room : ℕ) (ts : List Kind) → room ≡ 0 → list room ts ≡ no_level starts_list ts
unfolding list
list_lowest room ts h = ap (λ n. list n ts) h

pub list_below : (room : ℕ) (ts : List Kind) → 0 < room → list room ts ≡ braces (room - 1) (expr (room - 1)) (list (room - 1)) ts
unfolding list
list_below room ts h = ap (λ n. list n ts) (one_less room h)

pub effect_lowest : (room : ℕ) (lead : Lead) (ts : List Kind) → room ≡ 0 → effect room lead ts ≡ no_level (goes_on lead) ts
unfolding effect
effect_lowest room lead ts h = ap (λ n. effect n lead ts) h

below_is : (room : ℕ) → 0 < room → below (room - 1) ≡ room - 2
below_is zero h = absurd (omega arith)
below_is (suc zero) h = refl
below_is (suc (suc room)) h =
    let one : suc (suc room) - 1 ≡ suc room = omega arith in
    let two : suc (suc room) - 2 ≡ room = omega arith in
    ap below one ∙ sym two

-- the levels of the parts of what is no statement by itself are one less
pub effect_below : (room low : ℕ) (lead : Lead) (ts : List Kind) → 0 < room → low ≡ room - 2
    → effect room lead ts ≡ effects (room - 1) (expr (room - 1)) (list (room - 1)) (expr low) (list low) lead ts
unfolding effect
effect_below room low lead ts h l =
    ap (λ n. effect n lead ts) (one_less room h) ∙ ap (λ n. effects (room - 1) (expr (room - 1)) (list (room - 1)) (expr n) (list n) lead ts) (below_is room h ∙ sym l)

-- ---- where no level is left

fails_by : (A : Type 0) (b : Bool) (ts : List Kind) (f : Fault) → f ≡ cond b TooDeep NoTree → Fails {A = A} (cond b (deep ts) (refuse ts)) f ts
fails_by A true ts f h = subst (λ (f : Fault). Fails {A = A} (deep ts) f ts) (sym h) refl
fails_by A false ts f h = subst (λ (f : Fault). Fails {A = A} (refuse ts) f ts) (sym h) refl

pub lowest_fails : (A : Type 0) (starts : Option Kind → Bool) (ts : List Kind) (f : Fault) → f ≡ cond (starts (first ts)) TooDeep NoTree → Fails {A = A} (no_level starts ts) f ts
lowest_fails A starts ts f h = fails_by A (starts (first ts)) ts f h
