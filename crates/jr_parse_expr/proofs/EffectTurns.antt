-- What the loop over the suffixes of an expression that stands as a statement keeps: each turn adds a level.
use Rattle.std.proofs.Common.{◌≡◌, ℕ, zero, suc, ◌<◌, ◌≤◌, Bool, true, false, cond, ltb, List, [], ◌∷◌, drop, Option, Some, None, Ok, Err, refl, sym, ap, ◌∙◌, subst, inl, inr, arith}
use Rattle.std.specs.Option.{option_map}
use Rattle.std.specs.Prelude.{nat_lt, not, ◌&&◌}
use Rattle.std.proofs.lemmas.Bool.{cases_lt, le-ltb, lt-ltb}
use Rattle.jr_base.specs.declared.kind.Symbol.{Symbol}
use Rattle.jr_base.specs.declared.kind.Symbol.TheVariants as y
use Rattle.jr_base.specs.declared.kind.Kind.{Kind}
use Rattle.jr_base.specs.declared.kind.Kind.TheVariants as kind
use Rattle.jr_tree.specs.Levels.{is_step}
use Rattle.jr_tree.specs.Shape.{level, is_new_array}
use Rattle.jr_tree.specs.Depth.{expr_depth}
use Rattle.jr_tree.specs.Mirror.Exprs as x
use Rattle.jr_parse_laws.specs.declared.fault.Fault.{Fault}
use Rattle.jr_parse_laws.specs.declared.fault.Fault.TheVariants.{TooDeep}
use Rattle.jr_parse_laws.specs.Parsers.{Outcome, Parser, deep, symbol_at, Fails}
use Rattle.jr_parse_laws.proofs.Outcomes.{chosen, err_ok}
use Rattle.jr_parse_expr.specs.declared.suffix.Suffix.{Suffix}
use Rattle.jr_parse_expr.specs.declared.suffix.Suffix.TheVariants as s
use Rattle.jr_parse_starts.specs.Starts.{within}
use Rattle.jr_parse_expr.specs.Exprs as spec
use Rattle.jr_parse_expr.specs.Exprs.{Lead, below}
use Rattle.jr_parse_expr.specs.Steps.{suffix_of, suffixed}
use Rattle.jr_parse_expr.specs.Begun.{levels_for, effect_suffixed}
use Rattle.jr_parse_expr.proofs.Turning.{chain_more, chain_fails, chain_deep, chain_over, some_if, suffix_grows}

chosen_some : {A : Type 0} (b : Bool) (a c : A) → cond b (Some a) None ≡ Some c → a ≡ c
chosen_some true a c h = cc
chosen_some false a c h = absurd (cc)

not_index : {A : Type 0} (key : Suffix) → levels_for 0 key ≡ 0 → key ≡ s.Index → A
not_index key low h = absurd (let e = ap (levels_for 0) h in omega arith)

index_at : (left : x.Expr) (ts : List Kind) → suffix_of left (symbol_at ts) ≡ Some s.Index → kind.Sym y.OpenBracket ∷ drop 1 ts ≡ ts
index_at left [] h = absurd (cc)
index_at left (kind.Sym y.OpenBracket ∷ ts) h = refl
index_at left (kind.Sym y.Dot ∷ ts) h = not_index s.Member refl (chosen_some (not (nat_lt (level left) 14)) s.Member s.Index h)
index_at left (kind.Sym symbol ∷ ts) h = not_index (s.Step symbol) refl (chosen_some (is_step symbol && not (nat_lt (level left) 13)) (s.Step symbol) s.Index h)
index_at left (token ∷ ts) h = absurd (cc)

levels_low : (height room : ℕ) (key : Suffix) → levels_for height key ≤ room → height ≤ room
levels_low height room s.Member h = h
levels_low height room s.Index h = omega arith
levels_low height room (s.Step symbol) h = h

module _ (room : ℕ) (inner : Lead → ℕ → Parser x.Expr) (list : Parser x.InitList) (low : Lead → ℕ → Parser x.Expr) (low_list : Parser x.InitList) where
  -- behind the token, which is put back where levels are wanting
  abbrev tested : x.Expr → Suffix → Parser x.Expr
  tested left s.Index = within (suc (expr_depth left)) room (kind.Sym y.OpenBracket) (spec.indexed (below room) low low_list left)
  tested left key = suffixed room inner list left key

  suffix_is : (left : x.Expr) (c : Option Symbol) → spec.effect_suffix room inner list low low_list left c ≡ option_map (tested left) (suffix_of left c)
  suffix_is left (Some y.Dot) = some_if (not (nat_lt (level left) 14)) (tested left) s.Member
  suffix_is left (Some y.OpenBracket) = some_if (not (nat_lt (level left) 14) && not (is_new_array left)) (tested left) s.Index
  suffix_is left (Some symbol) = some_if (is_step symbol && not (nat_lt (level left) 13)) (tested left) (s.Step symbol)
  suffix_is left None = refl

  grows : (left : x.Expr) (key : Suffix) (us : List Kind) (e : x.Expr) (rest : List Kind) → tested left key us ≡ Ok (e, rest) → expr_depth left < expr_depth e
  grows left s.Member us e rest h = suffix_grows room inner list left s.Member us e rest h
  grows left s.Index us e rest h =
      elim (chosen (ltb room (suc (expr_depth left))) (deep (kind.Sym y.OpenBracket ∷ us)) (spec.indexed (below room) low low_list left us) (Ok (e, rest)) h) [
        | inl t ↦ absurd (err_ok t.1)
        | inr t ↦ suffix_grows (below room) low low_list left s.Index us e rest t.1
      ]
  grows left (s.Step symbol) us e rest h = suffix_grows room inner list left (s.Step symbol) us e rest h

  ends : (left : x.Expr) → suffix_of left (symbol_at []) ≡ None
  ends left = refl

  last : (left : x.Expr) (ts : List Kind) → spec.effect_suffixes_from room inner list low low_list zero left ts ≡ spec.turn room inner list left (option_map (tested left) (suffix_of left (symbol_at ts))) (λ e. deep) ts
  last left ts = ap (λ c. spec.turn room inner list left c (λ e. deep) ts) (suffix_is left (symbol_at ts))

  next : (turns : ℕ) (left : x.Expr) (ts : List Kind)
      → spec.effect_suffixes_from room inner list low low_list (suc turns) left ts ≡ spec.turn room inner list left (option_map (tested left) (suffix_of left (symbol_at ts))) (spec.effect_suffixes_from room inner list low low_list turns) ts
  next turns left ts = ap (λ c. spec.turn room inner list left c (spec.effect_suffixes_from room inner list low low_list turns) ts) (suffix_is left (symbol_at ts))

  -- where there are levels, the test does nothing
  tested_is : (low_room : ℕ) (left : x.Expr) (key : Suffix) (us : List Kind) → levels_for (expr_depth left) key ≤ room
      → tested left key us ≡ effect_suffixed room inner list low_room low low_list left key us
  tested_is low_room left s.Member us h = refl
  tested_is low_room left s.Index us h = rw (le-ltb room (suc (expr_depth left)) h) refl
  tested_is low_room left (s.Step symbol) us h = refl

  too_deep : (left : x.Expr) (ts : List Kind) → suffix_of left (symbol_at ts) ≡ Some s.Index → room < suc (expr_depth left) → tested left s.Index (drop 1 ts) ≡ Err (TooDeep, ts)
  too_deep left ts c high = rw (lt-ltb room (suc (expr_depth left)) high) (ap (λ ts. Err (TooDeep, ts)) (index_at left ts c))

  pub effect_more : (low_room : ℕ) (left : x.Expr) (ts : List Kind) (key : Suffix) (e : x.Expr) (rest : List Kind) → suffix_of left (symbol_at ts) ≡ Some key → levels_for (expr_depth left) key ≤ room
      → effect_suffixed room inner list low_room low low_list left key (drop 1 ts) ≡ Ok (e, rest)
      → (spec.effect_suffixes room inner list low low_list left ts ≡ spec.effect_suffixes room inner list low low_list e rest) × (expr_depth left < expr_depth e)
  unfolding spec.effect_suffixes
  effect_more low_room left ts key e rest c h r =
      let read : tested left key (drop 1 ts) ≡ Ok (e, rest) = tested_is low_room left key (drop 1 ts) h ∙ r in (
        chain_more room inner list (λ left ts. suffix_of left (symbol_at ts)) tested (spec.effect_suffixes_from room inner list low low_list) last next ends grows left ts key e rest c (levels_low (expr_depth left) room key h) read,
        grows left key (drop 1 ts) e rest read,
      )

  pub effect_fails : (low_room : ℕ) (left : x.Expr) (ts : List Kind) (key : Suffix) (f : Fault) (new : List Kind) → suffix_of left (symbol_at ts) ≡ Some key → levels_for (expr_depth left) key ≤ room
      → Fails (effect_suffixed room inner list low_room low low_list left key (drop 1 ts)) f new → Fails (spec.effect_suffixes room inner list low low_list left ts) f new
  unfolding spec.effect_suffixes
  effect_fails low_room left ts key f new c h r =
      chain_fails room inner list (λ left ts. suffix_of left (symbol_at ts)) tested (spec.effect_suffixes_from room inner list low low_list) last next ends grows left ts key f new c (levels_low (expr_depth left) room key h)
      (subst (λ (o : Outcome x.Expr). Fails o f new) (sym (tested_is low_room left key (drop 1 ts) h)) r)

  deep_by : (left : x.Expr) (ts : List Kind) (key : Suffix) → suffix_of left (symbol_at ts) ≡ Some key → room < levels_for (expr_depth left) key → spec.effect_suffixes_from room inner list low low_list (suc room) left ts ≡ Err (TooDeep, ts)
  deep_by left ts s.Member c high =
      chain_deep room inner list (λ left ts. suffix_of left (symbol_at ts)) tested (spec.effect_suffixes_from room inner list low low_list) last next ends grows left ts s.Member c high
  deep_by left ts s.Index c high =
      elim (cases_lt room (expr_depth left)) [
        | inl over ↦ chain_deep room inner list (λ left ts. suffix_of left (symbol_at ts)) tested (spec.effect_suffixes_from room inner list low low_list) last next ends grows left ts s.Index c over
        | inr fits ↦ chain_fails room inner list (λ left ts. suffix_of left (symbol_at ts)) tested (spec.effect_suffixes_from room inner list low low_list) last next ends grows left ts s.Index TooDeep ts c fits (too_deep left ts c high)
      ]
  deep_by left ts (s.Step symbol) c high =
      chain_deep room inner list (λ left ts. suffix_of left (symbol_at ts)) tested (spec.effect_suffixes_from room inner list low low_list) last next ends grows left ts (s.Step symbol) c high

  pub effect_deep : (left : x.Expr) (ts : List Kind) (key : Suffix) → suffix_of left (symbol_at ts) ≡ Some key → room < levels_for (expr_depth left) key → spec.effect_suffixes room inner list low low_list left ts ≡ Err (TooDeep, ts)
  unfolding spec.effect_suffixes
  effect_deep left ts key c high = deep_by left ts key c high

  pub effect_over : (left : x.Expr) (ts : List Kind) → suffix_of left (symbol_at ts) ≡ None → spec.effect_suffixes room inner list low low_list left ts ≡ Ok (left, ts)
  unfolding spec.effect_suffixes
  effect_over left ts c = chain_over room inner list (λ left ts. suffix_of left (symbol_at ts)) tested (spec.effect_suffixes_from room inner list low low_list) last next ends grows left ts c
