-- An expression that stands as a statement is read the same whatever stands behind, and with more levels.
use Rattle.std.proofs.Common.{◌≡◌, ℕ, zero, suc, ◌+◌, ◌<◌, ◌≤◌, Bool, true, false, not, ◌&&◌, cond, ltb, List, [], ◌∷◌, ◌++◌, length, Option, Some, None, Ok, Err, refl, sym, ap, ◌∙◌, subst, inl, inr, arith}
use Rattle.std.proofs.lemmas.Bool.{cases_Bool, ltb-false, le-ltb, ltb-true, true≢false}
use Rattle.jr_base.specs.declared.text.Text.{Text}
use Rattle.jr_base.specs.declared.kind.Kind.{Kind}
use Rattle.jr_base.specs.declared.kind.Kind.TheVariants as kind
use Rattle.jr_base.specs.declared.kind.Symbol.{Symbol}
use Rattle.jr_base.specs.declared.kind.Symbol.TheVariants as y
use Rattle.jr_base.specs.declared.kind.Keyword.TheVariants as k
use Rattle.jr_tree.specs.declared.tree.Name.{Name}
use Rattle.jr_tree.specs.declared.tree.Primitive.{Primitive}
use Rattle.jr_tree.specs.Levels.{is_assignment, is_step}
use Rattle.jr_tree.specs.Shape.{is_target, is_statement, is_new_array}
use Rattle.jr_tree.specs.Depth.{expr_depth}
use Rattle.jr_tree.specs.Mirror.Exprs as x
use Rattle.jr_parse_laws.specs.declared.fault.Fault.{Fault}
use Rattle.jr_parse_laws.specs.declared.fault.Fault.TheVariants.{NoTree, TooDeep, OutOfMemory}
use Rattle.jr_parse_laws.specs.Parsers.{Outcome, Parser, and_then, first, symbol_at, is_at, pure, refuse, deep, expect, ◌>>=◌, ◌>>◌}
use Rattle.jr_parse_laws.specs.Viable.{Wider}
use Rattle.jr_parse_laws.proofs.Outcomes.{no_first, err_is, ok_err, err_ok}
use Rattle.jr_parse_starts.specs.Starts.{is_plain_literal, within, over}
use Rattle.jr_parse_expr.specs.Names.{name, primitive_at, Dotted, dotted_from, dotted}
use Rattle.jr_parse_expr.specs.Exprs as reader
use Rattle.jr_parse_expr.specs.Exprs.{Lead, Nothing, Named, Indexed, This, Super, skipping, next_token, below}
use Rattle.jr_parse_expr.specs.Follow.{is_tight}
use Rattle.jr_parse_expr.proofs.Asked.{ReadsExprs, ReadsLists}
use Rattle.jr_parse_expr.proofs.Loops.{unrolls}
use Rattle.jr_parse_expr.proofs.Steps.{suffix_view}
use Rattle.jr_parse_expr.proofs.Chains.{index_raises, suffix_raises}
use Rattle.jr_parse_expr.proofs.Locals.{Again, Kept, Local, here, along, local_pure, local_refuse, kept_bind, local_skip, local_on, on_kept, by_room, local_over, cond_local, local_if, looks_at, kept_same, kept_cond}
use Rattle.jr_parse_expr.proofs.NameLocals.{name_local, looks_primitive, dotted_local}
use Rattle.jr_parse_expr.proofs.ExprLocals.{NearExprs, bind, by_first, after_dotted_local, after_bracket_local, super_local, created_local, creation_by_local, closed_by, first_prefix, looks_symbol}
use Rattle.jr_parse_expr.proofs.LevelLocals.{turn_kept, suffix_alike, first_prefix_local}
use Rattle.jr_parse_expr.proofs.EffectReads.{any_dotted}
use Rattle.jr_parse_expr.proofs.EffectChains as effects

-- ---- one level less on both sides

pub below_both : (room other : ℕ) → room ≤ other → below room ≤ below other
below_both zero other le = omega arith
below_both (suc room) zero le = absurd (omega arith)
below_both (suc room) (suc other) le = omega arith

down : (f : Fault) (room other : ℕ) → Wider f room other → Wider f (below room) (below other)
down NoTree room other h = below_both room other h
down TooDeep room other h = ap below h
down OutOfMemory room other h = h

lifted : {A : Type 0} (room other : ℕ) (le : room ≤ other) (le' : below room ≤ below other) (q : Parser A) (ts : List Kind) (o : Outcome A) → Kept (below room) (below other) le' q ts o → Kept room other le q ts o
lifted room other le le' q ts (Ok r) a = a
lifted room other le le' q ts (Err stop) k = λ wider. k (down stop.0 room other wider)

-- ---- a name at the head, with a level for `this` and without

abbrev is_refusal : Fault → Bool
is_refusal NoTree = true
is_refusal TooDeep = false
is_refusal OutOfMemory = false

refused_up : (turns : ℕ) (before : List Text) (last : Text) (ts w : List Kind) → dotted_from false turns before last ts ≡ Err (NoTree, w) → dotted_from true turns before last ts ≡ Err (NoTree, w)
refused_up zero before last ts w h = absurd (ok_err h)
refused_up (suc turns) before last [] w h = absurd (ok_err h)
refused_up (suc turns) before last (kind.Sym y.Dot ∷ []) w h = h
refused_up (suc turns) before last (kind.Sym y.Dot ∷ kind.Ident part ∷ ts) w h = refused_up turns (before ++ last ∷ []) part ts w h
refused_up (suc turns) before last (kind.Sym y.Dot ∷ kind.Word k.This ∷ ts) w h = absurd (true≢false (sym (ap (λ (s : Fault × List Kind). is_refusal s.0) (err_is h))))
refused_up (suc turns) before last (kind.Sym y.Dot ∷ token ∷ ts) w h = h
refused_up (suc turns) before last (token ∷ ts) w h = absurd (ok_err h)

more_refused : (before : List Text) (last : Text) (ts w : List Kind) → dotted false before last ts ≡ Err (NoTree, w) → dotted true before last ts ≡ Err (NoTree, w)
unfolding dotted
more_refused before last ts w h = refused_up (length ts) before last ts w h

dotted_wider : (room other : ℕ) (le : room ≤ other) → room < other → (before : List Text) (last : Text) (ts : List Kind) (o : Outcome Dotted) → Kept room other le (dotted false before last) ts o → Kept room other le (dotted true before last) ts o
dotted_wider room other le less before last ts (Ok r) a = record { front = a.front; split = a.split; again = λ w e. any_dotted false before last (a.front ++ w) (r.0, w) (a.again w e) }
dotted_wider room other le less before last ts (Err (NoTree, rest)) k = λ wider. let a = k wider in record { front = a.front; split = a.split; again = λ w e. more_refused before last (a.front ++ w) w (a.again w e) }
dotted_wider room other le less before last ts (Err (TooDeep, rest)) k = λ wider. absurd (let same : other ≡ room = wider in omega arith)
dotted_wider room other le less before last ts (Err (OutOfMemory, rest)) k = λ wider. absurd wider

pub flag_local : (room other : ℕ) (le : room ≤ other) (levels : ℕ) (before : List Text) (last : Text) (b b' : Bool) → ltb room levels ≡ b → ltb other levels ≡ b' → Local room other le (dotted (not b) before last) (dotted (not b') before last)
flag_local room other le levels before last true true e f ts = dotted_local room other le false before last ts
flag_local room other le levels before last false false e f ts = dotted_local room other le true before last ts
flag_local room other le levels before last true false e f ts =
    dotted_wider room other le (let l = ltb-false other levels f in let s : room < levels = ltb-true room levels e in omega arith) before last ts (dotted false before last ts) (dotted_local room other le false before last ts)
flag_local room other le levels before last false true e f ts = absurd (let l = ltb-false room levels e in let s : other < levels = ltb-true other levels f in omega arith)

-- ---- the readers that take a token, as told by that token

module _ (room : ℕ) (inner : Lead → ℕ → Parser x.Expr) (list : Parser x.InitList) (under : Lead → ℕ → Parser x.Expr) (under_list : Parser x.InitList) where
  abbrev made : Name → Parser x.Expr
  made n us = cond (is_at y.OpenBracket us) (next_token (reader.created_by (below room) under under_list n) us) (next_token (reader.created_by room inner list n) us)

  made_is : (n : Name) (us : List Kind) → made n us ≡ next_token (reader.effect_created_by room inner list under under_list n) us
  made_is n [] = refl
  made_is n (kind.Sym y.OpenBracket ∷ us) = refl
  made_is n (token ∷ us) = refl

  abbrev first_effect : Option Kind → Parser x.Expr
  first_effect None = refuse
  first_effect (Some (kind.Ident head)) = skipping (dotted (not (ltb room 1)) [] head >>= reader.after_dotted room inner list)
  first_effect (Some (kind.Word k.This)) = over 1 room (skipping (pure (x.This None)))
  first_effect (Some (kind.Word k.Super)) = skipping (reader.super_member room inner list)
  first_effect (Some (kind.Word k.New)) = skipping (reader.effect_creation room inner list under under_list)
  first_effect (Some (kind.Sym y.OpenParen)) = over 2 room (skipping (under Nothing 0 >>= reader.closed))
  first_effect (Some (kind.Sym s)) = λ us. cond (is_step s) (first_prefix room inner list s us) (refuse us)
  first_effect (Some token) = λ us. cond (is_plain_literal token) (over 1 room (skipping (pure (x.Lit token))) us) (refuse us)

  first_effect_is : (us : List Kind) → first_effect (first us) us ≡ reader.effect_operand room inner list under under_list Nothing us
  first_effect_is [] = refl
  first_effect_is (kind.Ident head ∷ us) = refl
  first_effect_is (kind.Word k.This ∷ us) = refl
  first_effect_is (kind.Word k.Super ∷ us) = refl
  first_effect_is (kind.Word k.New ∷ us) = refl
  first_effect_is (kind.Sym y.OpenParen ∷ us) = refl
  first_effect_is (kind.Sym s ∷ us) = refl
  first_effect_is (token ∷ us) = refl

  -- a turn of the loop, where an index takes a level more
  abbrev a_turn : x.Expr → (x.Expr → Parser x.Expr) → Option Symbol → Parser x.Expr
  a_turn left on (Some y.OpenBracket) = λ us. cond (is_tight left 14 && not (is_new_array left)) (over (suc (expr_depth left)) room (skipping (reader.indexed (below room) under under_list left >>= on)) us) (Ok (left, us))
  a_turn left on (Some s) = reader.turn room inner list left (reader.suffix room inner list left (Some s)) on
  a_turn left on None = pure left

  deeper_turn : (d : ℕ) (o : Outcome x.Expr) (on : x.Expr → Parser x.Expr) (us : List Kind) (b c : Bool) → ltb room (suc d) ≡ b → ltb room d ≡ c
      → cond {A = Outcome x.Expr} b (Err (TooDeep, us)) (and_then o on) ≡ cond {A = Outcome x.Expr} c (Err (TooDeep, us)) (and_then (cond {A = Outcome x.Expr} b (Err (TooDeep, us)) o) on)
  deeper_turn d o on us true true e f = refl
  deeper_turn d o on us true false e f = refl
  deeper_turn d o on us false false e f = refl
  deeper_turn d o on us false true e f = absurd (let l = ltb-false room (suc d) e in let s : room < d = ltb-true room d f in omega arith)

  bracket_turn : (left : x.Expr) (on : x.Expr → Parser x.Expr) (us : List Kind) (b : Bool)
      → cond {A = Outcome x.Expr} b (over (suc (expr_depth left)) room (skipping (reader.indexed (below room) under under_list left >>= on)) (kind.Sym y.OpenBracket ∷ us)) (Ok (left, kind.Sym y.OpenBracket ∷ us))
      ≡ reader.turn room inner list left (cond b (Some (within (suc (expr_depth left)) room (kind.Sym y.OpenBracket) (reader.indexed (below room) under under_list left))) None) on (kind.Sym y.OpenBracket ∷ us)
  bracket_turn left on us true = deeper_turn (expr_depth left) (reader.indexed (below room) under under_list left us) on (kind.Sym y.OpenBracket ∷ us) (ltb room (suc (expr_depth left))) (ltb room (expr_depth left)) refl refl
  bracket_turn left on us false = refl

  a_turn_is : (left : x.Expr) (on : x.Expr → Parser x.Expr) (us : List Kind) → a_turn left on (symbol_at us) us ≡ reader.turn room inner list left (reader.effect_suffix room inner list under under_list left (symbol_at us)) on us
  a_turn_is left on [] = refl
  a_turn_is left on (kind.Sym y.OpenBracket ∷ us) = bracket_turn left on us (is_tight left 14 && not (is_new_array left))
  a_turn_is left on (kind.Sym s ∷ us) = refl
  a_turn_is left on (token ∷ us) = refl

module _ (room other : ℕ) (le : room ≤ other) (le' : below room ≤ below other) (inner inner' : Lead → ℕ → Parser x.Expr) (list list' : Parser x.InitList) (reads : ReadsExprs room inner) (reads' : ReadsExprs other inner')
    (near : NearExprs room other le inner inner') (near_list : Local room other le list list')
    (under under' : Lead → ℕ → Parser x.Expr) (under_list under_list' : Parser x.InitList) (low : ReadsExprs (below room) under) (low' : ReadsExprs (below other) under')
    (low_near : NearExprs (below room) (below other) le' under under') (low_near_list : Local (below room) (below other) le' under_list under_list')
    (lists' : ReadsLists other list') (low_lists' : ReadsLists (below other) under_list') where
  abbrev L : {A : Type 0} → Parser A → Parser A → Type 0
  L p q = Local room other le p q

  then : {A B : Type 0} (p q : Parser A) (f g : A → Parser B) → L p q → ((a : A) → L (f a) (g a)) → L (p >>= f) (q >>= g)
  then p q f g one next = bind room other le inner inner' list list' reads reads' near near_list p q f g one next

  -- what is near a level lower
  lift : {A : Type 0} (p q : Parser A) → Local (below room) (below other) le' p q → L p q
  lift p q one ts = lifted room other le le' q ts (p ts) (one ts)

  -- ---- creations

  made_local : (n : Name) → L (made room inner list under under_list n) (made other inner' list' under' under_list' n)
  made_local n =
      local_if room other le (is_at y.OpenBracket) (next_token (reader.created_by (below room) under under_list n)) (next_token (reader.created_by (below other) under' under_list' n))
      (next_token (reader.created_by room inner list n)) (next_token (reader.created_by other inner' list' n)) (looks_at room other le y.OpenBracket)
      (lift (next_token (reader.created_by (below room) under under_list n)) (next_token (reader.created_by (below other) under' under_list' n))
      (created_local (below room) (below other) le' under under' under_list under_list' low low' low_near low_near_list n))
      (created_local room other le inner inner' list list' reads reads' near near_list n)

  named_local : (n : Name) → L (next_token (reader.effect_created_by room inner list under under_list n)) (next_token (reader.effect_created_by other inner' list' under' under_list' n))
  named_local n ts =
      subst (Kept room other le (next_token (reader.effect_created_by other inner' list' under' under_list' n)) ts) (made_is room inner list under under_list n ts)
      (kept_same room other le (made other inner' list' under' under_list' n) (next_token (reader.effect_created_by other inner' list' under' under_list' n)) (made_is other inner' list' under' under_list' n) ts
      (made room inner list under under_list n ts) (made_local n ts))

  effect_creation_by_local : (o : Option Primitive) → L (reader.effect_creation_by room inner list under under_list o) (reader.effect_creation_by other inner' list' under' under_list' o)
  effect_creation_by_local None ts =
      then name name (λ n. next_token (reader.effect_created_by room inner list under under_list n)) (λ n. next_token (reader.effect_created_by other inner' list' under' under_list' n)) (name_local room other le) named_local ts
  effect_creation_by_local (Some p) ts =
      lift (reader.creation_by (below room) under under_list (Some p)) (reader.creation_by (below other) under' under_list' (Some p))
      (creation_by_local (below room) (below other) le' under under' under_list under_list' low low' low_near low_near_list (Some p)) ts

  effect_creation_local : L (reader.effect_creation room inner list under under_list) (reader.effect_creation other inner' list' under' under_list')
  effect_creation_local =
      local_on room other le primitive_at (reader.effect_creation_by room inner list under under_list) (reader.effect_creation_by other inner' list' under' under_list') (looks_primitive room other le) effect_creation_by_local

  -- ---- what stands in front

  paren_local : L (under Nothing 0 >>= reader.closed) (under' Nothing 0 >>= reader.closed)
  paren_local =
      closed_by room other le inner inner' list list' reads reads' near near_list (under Nothing 0) (under' Nothing 0) y.CloseParen (λ e. pure (x.Paren e)) (λ e. pure (x.Paren e)) (lift (under Nothing 0) (under' Nothing 0) (low_near.plain 0))
      (λ e. local_pure room other le (x.Paren e))

  first_effect_local : (o : Option Kind) → L (first_effect room inner list under under_list o) (first_effect other inner' list' under' under_list' o)
  first_effect_local None ts = local_refuse room other le ts
  first_effect_local (Some (kind.Ident head)) ts =
      local_skip room other le (dotted (not (ltb room 1)) [] head >>= reader.after_dotted room inner list) (dotted (not (ltb other 1)) [] head >>= reader.after_dotted other inner' list')
      (then (dotted (not (ltb room 1)) [] head) (dotted (not (ltb other 1)) [] head) (reader.after_dotted room inner list) (reader.after_dotted other inner' list') (flag_local room other le 1 [] head (ltb room 1) (ltb other 1) refl refl)
      (after_dotted_local room other le inner inner' list list' reads reads' near near_list)) ts
  first_effect_local (Some (kind.Word k.This)) ts =
      local_over room other le 1 (skipping (pure (x.This None))) (skipping (pure (x.This None))) (local_skip room other le (pure (x.This None)) (pure (x.This None)) (local_pure room other le (x.This None))) ts
  first_effect_local (Some (kind.Word k.Super)) ts =
      local_skip room other le (reader.super_member room inner list) (reader.super_member other inner' list') (super_local room other le inner inner' list list' reads reads' near near_list) ts
  first_effect_local (Some (kind.Word k.New)) ts =
      local_skip room other le (reader.effect_creation room inner list under under_list) (reader.effect_creation other inner' list' under' under_list') effect_creation_local ts
  first_effect_local (Some (kind.Sym y.OpenParen)) ts =
      local_over room other le 2 (skipping (under Nothing 0 >>= reader.closed)) (skipping (under' Nothing 0 >>= reader.closed)) (local_skip room other le (under Nothing 0 >>= reader.closed) (under' Nothing 0 >>= reader.closed) paren_local) ts
  first_effect_local (Some (kind.Sym s)) ts = sign_local s ts where
    sign_local : (s : Symbol) → L (λ us. cond (is_step s) (first_prefix room inner list s us) (refuse us)) (λ us. cond (is_step s) (first_prefix other inner' list' s us) (refuse us))
    sign_local s =
        cond_local room other le (first_prefix room inner list s) (first_prefix other inner' list' s) refuse refuse (first_prefix_local room other le inner inner' list list' reads reads' near near_list s) (local_refuse room other le) (is_step s)
  first_effect_local (Some token) ts = plain_local token ts where
    plain_local : (token : Kind) → L (λ us. cond (is_plain_literal token) (over 1 room (skipping (pure (x.Lit token))) us) (refuse us)) (λ us. cond (is_plain_literal token) (over 1 other (skipping (pure (x.Lit token))) us) (refuse us))
    plain_local token =
        cond_local room other le (over 1 room (skipping (pure (x.Lit token)))) (over 1 other (skipping (pure (x.Lit token)))) refuse refuse
        (local_over room other le 1 (skipping (pure (x.Lit token))) (skipping (pure (x.Lit token))) (local_skip room other le (pure (x.Lit token)) (pure (x.Lit token)) (local_pure room other le (x.Lit token))))
        (local_refuse room other le) (is_plain_literal token)

  operand_local : (lead : Lead) → L (reader.effect_operand room inner list under under_list lead) (reader.effect_operand other inner' list' under' under_list' lead)
  operand_local Nothing =
      by_first room other le inner inner' list list' reads reads' near near_list (first_effect room inner list under under_list) (first_effect other inner' list' under' under_list')
      (reader.effect_operand room inner list under under_list Nothing) (reader.effect_operand other inner' list' under' under_list' Nothing) (first_effect_is room inner list under under_list) (first_effect_is other inner' list' under' under_list')
      first_effect_local
  operand_local (Named d) = after_dotted_local room other le inner inner' list list' reads reads' near near_list d
  operand_local (Indexed n) =
      lift (reader.after_bracket (below room) under under_list n) (reader.after_bracket (below other) under' under_list' n) (after_bracket_local (below room) (below other) le' under under' under_list under_list' low low' low_near low_near_list n)
  operand_local This = local_pure room other le (x.This None)
  operand_local Super = super_local room other le inner inner' list list' reads reads' near near_list

  -- ---- what stands behind an operand

  index_local : (left : x.Expr) → L (reader.indexed (below room) under under_list left) (reader.indexed (below other) under' under_list' left)
  index_local left =
      closed_by room other le inner inner' list list' reads reads' near near_list (under Nothing 0) (under' Nothing 0) y.CloseBracket (λ at. pure (x.Index left at)) (λ at. pure (x.Index left at)) (lift (under Nothing 0) (under' Nothing 0) (low_near.plain 0))
      (λ at. local_pure room other le (x.Index left at))

  abbrev Next : x.Expr → (x.Expr → Parser x.Expr) → (x.Expr → Parser x.Expr) → Type 0
  Next left on on' = (e : x.Expr) (rest : List Kind) → expr_depth left < expr_depth e → expr_depth left ≤ room → Kept room other le (on' e) rest (on e rest)

  index_kept : (left : x.Expr) (on on' : x.Expr → Parser x.Expr) (ts : List Kind) → Next left on on' → expr_depth left ≤ room
      → Kept room other le (skipping (reader.indexed (below other) under' under_list' left >>= on')) ts (skipping (reader.indexed (below room) under under_list left >>= on) ts)
  index_kept left on on' [] next l = λ wider. here room other le (skipping (reader.indexed (below other) under' under_list' left >>= on')) (λ w. Err (NoTree, w)) [] (λ w e. let n = no_first w e in rw n refl)
  index_kept left on on' (token ∷ ts) next l =
      along room other le (reader.indexed (below other) under' under_list' left >>= on') (skipping (reader.indexed (below other) under' under_list' left >>= on')) token ts (and_then (reader.indexed (below room) under under_list left ts) on) (λ us. refl)
      (kept_bind room other le (reader.indexed (below other) under' under_list' left) on on' ts (reader.indexed (below room) under under_list left ts) (index_local left ts)
      (λ r e. next r.0 r.1 (index_raises (below room) under under_list left ts r e) l))

  turn_local : (left : x.Expr) (on on' : x.Expr → Parser x.Expr) (o : Option Symbol) (ts : List Kind) → Next left on on' → Kept room other le (a_turn other inner' list' under' under_list' left on' o) ts (a_turn room inner list under under_list left on o ts)
  turn_local left on on' None ts next = local_pure room other le left ts
  turn_local left on on' (Some y.OpenBracket) ts next =
      kept_cond room other le (is_tight left 14 && not (is_new_array left)) (over (suc (expr_depth left)) other (skipping (reader.indexed (below other) under' under_list' left >>= on'))) (pure left) ts
      (over (suc (expr_depth left)) room (skipping (reader.indexed (below room) under under_list left >>= on)) ts) (Ok (left, ts))
      (λ t. by_room room other le (suc (expr_depth left)) (skipping (reader.indexed (below other) under' under_list' left >>= on')) ts (skipping (reader.indexed (below room) under under_list left >>= on) ts)
      (ltb room (suc (expr_depth left))) refl (λ b. index_kept left on on' ts next (let l = ltb-false room (suc (expr_depth left)) b in omega arith)))
      (λ f. local_pure room other le left ts)
  turn_local left on on' (Some s) ts next = other_turn s ts where
    other_turn : (s : Symbol) (ts : List Kind) → Kept room other le (λ us. reader.turn other inner' list' left (reader.suffix other inner' list' left (Some s)) on' us) ts (reader.turn room inner list left (reader.suffix room inner list left (Some s)) on ts)
    other_turn s ts =
        turn_kept room other le inner inner' list list' reads reads' near near_list left (reader.suffix room inner list left (Some s)) (reader.suffix other inner' list' left (Some s)) on on' ts
        (suffix_alike room other le inner inner' list list' reads reads' near near_list left (Some s))
        (λ p q l us r i. next r.0 r.1 (suffix_raises room inner list left (Some s) (reader.suffix room inner list left (Some s)) p (suffix_view room inner list left (Some s)) q us r.0 r.1 i) l)

  unroll : (left : x.Expr) (us : List Kind) → reader.effect_suffixes other inner' list' under' under_list' left us
      ≡ reader.turn other inner' list' left (reader.effect_suffix other inner' list' under' under_list' left (symbol_at us)) (reader.effect_suffixes other inner' list' under' under_list') us
  unfolding reader.effect_suffixes
  unroll left us =
      unrolls other inner' list' (effects.step other inner' list' under' under_list') (reader.effect_suffixes_from other inner' list' under' under_list') (λ left ts. refl) (λ turns left ts. refl)
      (effects.raises other inner' list' under' under_list' reads' lists' low' low_lists') left us

  a_turn_kept : (left : x.Expr) (on : x.Expr → Parser x.Expr) (ts : List Kind) → Next left on (reader.effect_suffixes other inner' list' under' under_list')
      → Kept room other le (reader.effect_suffixes other inner' list' under' under_list' left) ts (reader.turn room inner list left (reader.effect_suffix room inner list under under_list left (symbol_at ts)) on ts)
  a_turn_kept left on ts next =
      subst (Kept room other le (reader.effect_suffixes other inner' list' under' under_list' left) ts) (a_turn_is room inner list under under_list left on ts)
      (kept_same room other le (λ us. a_turn other inner' list' under' under_list' left (reader.effect_suffixes other inner' list' under' under_list') (symbol_at us) us) (reader.effect_suffixes other inner' list' under' under_list' left)
      (λ us. a_turn_is other inner' list' under' under_list' left (reader.effect_suffixes other inner' list' under' under_list') us ∙ sym (unroll left us)) ts (a_turn room inner list under under_list left on (symbol_at ts) ts)
      (on_kept room other le symbol_at (λ o us. a_turn other inner' list' under' under_list' left (reader.effect_suffixes other inner' list' under' under_list') o us) looks_symbol ts (a_turn room inner list under under_list left on (symbol_at ts) ts)
      (turn_local left on (reader.effect_suffixes other inner' list' under' under_list') (symbol_at ts) ts next)))

  turns_kept : (turns : ℕ) (left : x.Expr) (ts : List Kind) → suc room ≤ turns + expr_depth left
      → Kept room other le (reader.effect_suffixes other inner' list' under' under_list' left) ts (reader.effect_suffixes_from room inner list under under_list turns left ts)
  turns_kept zero left ts l = a_turn_kept left (λ e. deep) ts (λ e rest up low. absurd (omega arith))
  turns_kept (suc turns) left ts l = a_turn_kept left (reader.effect_suffixes_from room inner list under under_list turns) ts (λ e rest up low. turns_kept turns e rest (omega arith))

  suffixes_local : (left : x.Expr) → L (reader.effect_suffixes room inner list under under_list left) (reader.effect_suffixes other inner' list' under' under_list' left)
  unfolding reader.effect_suffixes
  suffixes_local left ts = turns_kept (suc room) left ts (omega arith)

  -- ---- how it ends

  assigned_local : (left : x.Expr) (op : Symbol) → L (reader.assigned room inner list left op) (reader.assigned other inner' list' left op)
  assigned_local left op = then (inner Nothing 0) (inner' Nothing 0) (λ v. pure (x.Assign left op v)) (λ v. pure (x.Assign left op v)) (near.plain 0) (λ v. local_pure room other le (x.Assign left op v))

  abbrev alone : x.Expr → Parser x.Expr
  alone left us = cond (is_statement left) (Ok (left, us)) (refuse us)

  alone_local : (left : x.Expr) → L (alone left) (alone left)
  alone_local left = cond_local room other le (pure left) (pure left) refuse refuse (local_pure room other le left) (local_refuse room other le) (is_statement left)

  end_by_local : (left : x.Expr) (o : Option Symbol) → L (reader.effect_end_by room inner list left o) (reader.effect_end_by other inner' list' left o)
  end_by_local left None ts = alone_local left ts
  end_by_local left (Some op) ts =
      cond_local room other le (over (expr_depth left) room (skipping (reader.assigned room inner list left op))) (over (expr_depth left) other (skipping (reader.assigned other inner' list' left op))) (alone left) (alone left)
      (local_over room other le (expr_depth left) (skipping (reader.assigned room inner list left op)) (skipping (reader.assigned other inner' list' left op))
      (local_skip room other le (reader.assigned room inner list left op) (reader.assigned other inner' list' left op) (assigned_local left op))) (alone_local left) (is_assignment op && is_target left) ts

  end_local : (left : x.Expr) → L (reader.effect_end room inner list left) (reader.effect_end other inner' list' left)
  unfolding reader.effect_end
  end_local left = local_on room other le symbol_at (reader.effect_end_by room inner list left) (reader.effect_end_by other inner' list' left) looks_symbol (end_by_local left)

  pub effects_local : (lead : Lead) → L (reader.effects room inner list under under_list lead) (reader.effects other inner' list' under' under_list' lead)
  unfolding reader.effects
  effects_local lead =
      then (reader.effect_operand room inner list under under_list lead >>= reader.effect_suffixes room inner list under under_list) (reader.effect_operand other inner' list' under' under_list' lead >>= reader.effect_suffixes other inner' list' under' under_list')
      (reader.effect_end room inner list) (reader.effect_end other inner' list')
      (then (reader.effect_operand room inner list under under_list lead) (reader.effect_operand other inner' list' under' under_list' lead) (reader.effect_suffixes room inner list under under_list)
      (reader.effect_suffixes other inner' list' under' under_list') (operand_local lead) suffixes_local) end_local
