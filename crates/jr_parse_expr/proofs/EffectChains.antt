-- Where the rest of an expression that stands as a statement stops, what stands before begins one.
use Rattle.std.proofs.Common.{◌≡◌, ℕ, zero, suc, ◌<◌, ◌≤◌, max, Bool, true, false, not, ◌&&◌, cond, ltb, List, [], ◌∷◌, ◌++◌, length, Option, Some, None, Ok, Err, refl, sym, ap, ◌∙◌, subst, ◌⊎◌, inl, inr, arith}
use Rattle.std.proofs.lemmas.Bool.{and_parts, and_right, true≢false, not-true, not_from_false, ltb-false, ltb-true}
use Rattle.jr_base.specs.declared.text.Text.{Text}
use Rattle.jr_base.specs.declared.kind.Kind.{Kind}
use Rattle.jr_base.specs.declared.kind.Kind.TheVariants as kind
use Rattle.jr_base.specs.declared.kind.Symbol.{Symbol}
use Rattle.jr_base.specs.declared.kind.Symbol.TheVariants as y
use Rattle.jr_base.specs.declared.kind.Keyword.TheVariants as k
use Rattle.jr_tree.specs.Levels.{is_assignment, is_step}
use Rattle.jr_tree.specs.Shape.{level, is_least, is_name, is_new_array, is_target, is_statement, IsShapedExpr}
use Rattle.jr_tree.specs.Depth.{expr_depth}
use Rattle.jr_tree.specs.Mirror.Exprs as x
use Rattle.jr_parse_laws.specs.declared.fault.Fault.{Fault}
use Rattle.jr_parse_laws.specs.declared.fault.Fault.TheVariants.{NoTree, TooDeep}
use Rattle.jr_parse_laws.specs.Parsers.{Outcome, Parser, and_then, first, symbol_of, symbol_at, expect, identifier, pure}
use Rattle.jr_parse_laws.proofs.Outcomes.{bind_ok, chosen, ok_is, err_ok, ok_err, err_is, some_is, Before, After, stops}
use Rattle.jr_parse_laws.proofs.Exact.{identifier_token}
use Rattle.jr_parse_starts.specs.Starts.{within, over, begins_cast_operand, next_is}
use Rattle.jr_parse_expr.specs.Names.{name_of}
use Rattle.jr_parse_expr.specs.Exprs as reader
use Rattle.jr_parse_expr.specs.Exprs.{Lead, Nothing, skipping, below}
use Rattle.jr_parse_expr.specs.Writing.{write_all, write_expr}
use Rattle.jr_parse_expr.specs.Follow.{symbol_next, has_suffix, is_tight, IsExpr, IsEffect}
use Rattle.jr_parse_expr.proofs.Beginnings.{target_tight, target_not_least}
use Rattle.jr_parse_expr.proofs.Loops.{Halt, stays, goes, halts, keeps}
use Rattle.jr_parse_expr.proofs.Steps.{suffix_view, suffix_none, tight_is}
use Rattle.jr_parse_expr.proofs.Asked.{ReadsExprs, ReadsLists, Operand, depth_pos}
use Rattle.jr_parse_expr.proofs.Operands.{shaped_receiver, low_receiver, received}
use Rattle.jr_parse_expr.proofs.Chains as chains
use Rattle.jr_parse_expr.proofs.Chains.{at_next, symbol_is_of, suffix_sound}
use Rattle.jr_parse_expr.proofs.ExprReads.{last_of}
use Rattle.jr_parse_expr.proofs.Growths.{Growing, leading_then, leading_expr, leading_one, grows, none_grows, deep_grows, sample, sample_is}
use Rattle.jr_parse_expr.proofs.PartGrowths.{GrowsExprs, GrowsLists, missing}
use Rattle.jr_parse_expr.proofs.LevelGrowths.{before_dot}
use Rattle.jr_parse_expr.proofs.FreeReads.{Fronted, Whole, Left, front_sound, cast_free}
use Rattle.jr_parse_expr.proofs.EffectReads.{below_le, to_below, take_up, none_down, operand_up}
use Rattle.jr_parse_expr.proofs.EffectFronts.{Front, is_callable, Ready, Statement, Small, Callable, call_ready, front_is}
use Rattle.jr_parse_expr.proofs.EffectGrowths.{Grown, a_step, with_more, effect_call_grows, first_grows}

none_some : {A : Type 0} {a : A} → None ≡ Some a → ⊥
none_some e = cc

index_low : (n d a : ℕ) → suc d ≤ n → a ≤ below n → suc (max d a) ≤ n
index_low zero d a h l = absurd (omega arith)
index_low (suc n) d a h l = omega arith

below_two : (room d : ℕ) → 1 ≤ d → suc d ≤ room → (1 ≤ below room) × (suc (suc (below room)) ≤ suc room)
below_two zero d some h = absurd (omega arith)
below_two (suc room) d some h = (omega arith, omega arith)

module _ (room : ℕ) (inner : Lead → ℕ → Parser x.Expr) (list : Parser x.InitList) (under : Lead → ℕ → Parser x.Expr) (under_list : Parser x.InitList) where
  -- ---- how what was read goes on

  pub data Goes (left : x.Expr) (o : Option Symbol) (q : Option (Parser x.Expr)) : Type 0 where
    Over : q ≡ None → Goes left o q
    Selects : o ≡ Some y.Dot → 14 ≤ level left → q ≡ Some (reader.selected room inner list left) → Goes left o q
    Indexes : o ≡ Some y.OpenBracket → 14 ≤ level left → is_new_array left ≡ false
        → q ≡ Some (within (suc (expr_depth left)) room (kind.Sym y.OpenBracket) (reader.indexed (below room) under under_list left)) → Goes left o q
    Steps : (s : Symbol) → o ≡ Some s → is_step s ≡ true → 13 ≤ level left → q ≡ Some (pure (x.PostStep left s)) → Goes left o q

  select_goes : (left : x.Expr) (b : Bool) → is_tight left 14 ≡ b → Goes left (Some y.Dot) (cond b (Some (reader.selected room inner list left)) None)
  select_goes left true h = Selects refl (tight_is room inner list left 14 h) refl
  select_goes left false h = Over refl

  index_goes : (left : x.Expr) (b : Bool) → (is_tight left 14 && not (is_new_array left)) ≡ b
      → Goes left (Some y.OpenBracket) (cond b (Some (within (suc (expr_depth left)) room (kind.Sym y.OpenBracket) (reader.indexed (below room) under under_list left))) None)
  index_goes left true h = let p = and_parts _ _ h in Indexes refl (tight_is room inner list left 14 p.0) (not-true _ p.1) refl
  index_goes left false h = Over refl

  step_goes : (left : x.Expr) (s : Symbol) (b : Bool) → (is_step s && is_tight left 13) ≡ b → Goes left (Some s) (cond b (Some (pure (x.PostStep left s))) None)
  step_goes left s true h = let p = and_parts _ _ h in Steps s refl p.0 (tight_is room inner list left 13 p.1) refl
  step_goes left s false h = Over refl

  pub goes_view : (left : x.Expr) (o : Option Symbol) → Goes left o (reader.effect_suffix room inner list under under_list left o)
  goes_view left None = Over refl
  goes_view left (Some y.Dot) = select_goes left (is_tight left 14) refl
  goes_view left (Some y.OpenBracket) = index_goes left (is_tight left 14 && not (is_new_array left)) refl
  goes_view left (Some s) = step_goes left s (is_step s && is_tight left 13) refl

  abbrev pub step : x.Expr → List Kind → Option (Parser x.Expr)
  step left ts = reader.effect_suffix room inner list under under_list left (symbol_at ts)

  module _ (reads : ReadsExprs room inner) (lists : ReadsLists room list) (low_reads : ReadsExprs (below room) under) (low_lists : ReadsLists (below room) under_list) where
    pub raises : (left : x.Expr) (ts : List Kind) (p : Parser x.Expr) → step left ts ≡ Some p → (us : List Kind) (e : x.Expr) (rest : List Kind) → p us ≡ Ok (e, rest) → expr_depth left < expr_depth e
    raises left ts p s us e rest h =
        let t = take_up room inner list under under_list reads lists low_reads low_lists left (symbol_at ts) p us (e, rest) s h in
        chains.raises room inner list left ts t.p t.here us e rest t.same

    ready_by : (left : x.Expr) (o : Option Symbol) (q : Option (Parser x.Expr)) (p : Parser x.Expr) (us : List Kind) (r : x.Expr × List Kind) → Goes left o q → q ≡ Some p → p us ≡ Ok r → Ready room r.0
    ready_by left o q p us r (Over n) s h = absurd (none_some (sym n ∙ s))
    ready_by left o q p us r (Selects d t n) s h =
        let a = bind_ok (identifier us) _ r (ap (λ (p : Parser x.Expr). p us) (some_is (sym n ∙ s)) ∙ h) in
        call_ready room inner list (x.a_receiver (x.Of left)) a.0.0 (x.Select left a.0.0) a.0.1 r refl a.2
    ready_by left o q p us r (Indexes d t l n) s h =
        elim (chosen (ltb room (suc (expr_depth left))) _ _ _ (ap (λ (p : Parser x.Expr). p us) (some_is (sym n ∙ s)) ∙ h)) [
          | inl c ↦ absurd (err_ok c.1)
          | inr c ↦
              (let a = bind_ok (under Nothing 0 us) _ r c.1 in
              let b = bind_ok (expect y.CloseBracket a.0.1) _ r a.2 in
              let at = low_reads.sound 0 us a.0 (omega arith) a.1 in
              subst (λ (r : x.Expr × List Kind). Ready room r.0) (ok_is b.2) (Small (omega arith) (index_low room (expr_depth left) (expr_depth a.0.0) (ltb-false room (suc (expr_depth left)) c.0) at.is.low)))
        ]
    ready_by left o q p us r (Steps op d t l n) s h = subst (λ (r : x.Expr × List Kind). Ready room r.0) (ok_is (ap (λ (p : Parser x.Expr). p us) (some_is (sym n ∙ s)) ∙ h)) (Statement refl)

    abbrev pub Holds : List Kind → x.Expr → List Kind → Type 0
    Holds ts left us = Operand room ts (left, us) × Ready room left

    kept : (ts : List Kind) (left : x.Expr) (token : Kind) (us : List Kind) (p : Parser x.Expr) (e : x.Expr) (rest : List Kind) → Holds ts left (token ∷ us) → step left (token ∷ us) ≡ Some p → expr_depth left ≤ room → p us ≡ Ok (e, rest) → Holds ts e rest
    kept ts left token us p e rest holds s low h =
        let t = take_up room inner list under under_list reads lists low_reads low_lists left (symbol_of token) p us (e, rest) s h in (
          suffix_sound room inner list reads lists ts left token us (reader.suffix room inner list left (symbol_of token)) t.p (e, rest) holds.0 (suffix_view room inner list left (symbol_of token)) t.here low t.same,
          ready_by left (symbol_of token) (step left (token ∷ us)) p us (e, rest) (goes_view left (symbol_of token)) s h,
        )

    effects_halt : (ts : List Kind) (left : x.Expr) (us : List Kind) (stop : Fault × List Kind) → Holds ts left us → reader.effect_suffixes room inner list under under_list left us ≡ Err stop
        → Halt room inner list step (reader.effect_suffixes_from room inner list under under_list) (λ left ts. refl) (λ turns left ts. refl) raises (λ left us. Holds ts left us) stop
    unfolding reader.effect_suffixes
    effects_halt ts left us stop found h =
        halts room inner list step (reader.effect_suffixes_from room inner list under under_list) (λ left ts. refl) (λ turns left ts. refl) raises (λ left us. Holds ts left us) (kept ts)
        (λ left. refl) (suc room) left us stop (omega arith) found h

    effects_keep : (ts : List Kind) (left : x.Expr) (us : List Kind) (r : x.Expr × List Kind) → Holds ts left us → reader.effect_suffixes room inner list under under_list left us ≡ Ok r → Holds ts r.0 r.1
    unfolding reader.effect_suffixes
    effects_keep ts left us r found h =
        (keeps room inner list step (reader.effect_suffixes_from room inner list under under_list) (λ left ts. refl) (λ turns left ts. refl) raises (λ left us. Holds ts left us) (kept ts) (suc room) left us r found h).0

    pub effects_go : (left : x.Expr) (token : Kind) (ts : List Kind) (p : Parser x.Expr) → reader.effect_suffix room inner list under under_list left (symbol_of token) ≡ Some p → expr_depth left ≤ room
        → reader.effect_suffixes room inner list under under_list left (token ∷ ts) ≡ and_then (p ts) (reader.effect_suffixes room inner list under under_list)
    unfolding reader.effect_suffixes
    effects_go left token ts p h low = goes room inner list step (reader.effect_suffixes_from room inner list under under_list) (λ left ts. refl) (λ turns left ts. refl) raises left token ts p h low

    effects_stay : (left : x.Expr) (ts : List Kind) → has_suffix left (symbol_next (first ts)) ≡ false → reader.effect_suffixes room inner list under under_list left ts ≡ Ok (left, ts)
    unfolding reader.effect_suffixes
    effects_stay left ts h =
        stays room inner list step (reader.effect_suffixes_from room inner list under under_list) (λ left ts. refl) (λ turns left ts. refl) raises left ts
        (none_down room inner list under under_list reads lists low_reads low_lists left (symbol_at ts) (suffix_none room inner list left (symbol_at ts) (ap (has_suffix left) (at_next ts) ∙ h)))

-- ---- what was read becomes a statement

pub record Fronts (room : ℕ) (left : x.Expr) : Type 0 where
  pub tree : x.Expr
  pub is : IsEffect (suc room) tree
  pub after : List Kind → List Kind
  pub spelled : (z : List Kind) → write_expr tree z ≡ write_expr left (after z)

callable_fronts : (room : ℕ) (left : x.Expr) → IsShapedExpr left → expr_depth left ≤ suc room → is_callable left ≡ true → Fronts room left
callable_fronts room (x.NameExpr n) s low c =
    let l = last_of n.parts s in
    let d = low_receiver 0 l.0 in
    record {
      tree = x.Call (reader.receiver_of l.0) l.1 x.no_exprs;
      is = record { is = (refl, (shaped_receiver l.0, tt)); low = omega arith };
      after = λ z. kind.Sym y.OpenParen ∷ kind.Sym y.CloseParen ∷ z;
      spelled = λ z. sym (received l.0 l.1 (kind.Sym y.OpenParen ∷ kind.Sym y.CloseParen ∷ z)) ∙ ap (λ all. write_all all (kind.Sym y.OpenParen ∷ kind.Sym y.CloseParen ∷ z)) (sym l.2);
    }
callable_fronts room (x.Select object member) s low c =
    record { tree = x.Call (x.a_receiver (x.Of object)) member x.no_exprs; is = record { is = (refl, (s, tt)); low = omega arith }; after = λ z. kind.Sym y.OpenParen ∷ kind.Sym y.CloseParen ∷ z; spelled = λ z. refl }
callable_fronts room (x.SuperSelect member) s low c =
    record { tree = x.Call (x.a_receiver x.Super) member x.no_exprs; is = record { is = (refl, (tt, tt)); low = omega arith }; after = λ z. kind.Sym y.OpenParen ∷ kind.Sym y.CloseParen ∷ z; spelled = λ z. refl }
callable_fronts room _ s low c = absurd (cc)

fronts : (room : ℕ) (left : x.Expr) → IsShapedExpr left → is_least left ≡ false → expr_depth left ≤ suc room → Ready room left → Fronts room left
fronts room left s plain low (Statement h) = record { tree = left; is = record { is = (h, s); low = low }; after = λ z. z; spelled = λ z. refl }
fronts room left s plain low (Small t l) = record { tree = x.PostStep left y.PlusPlus; is = a_step room left y.PlusPlus s t plain refl l; after = λ z. kind.Sym y.PlusPlus ∷ z; spelled = λ z. refl }
fronts room left s plain low (Callable c) = callable_fronts room left s low c

module _ (room : ℕ) (inner : Lead → ℕ → Parser x.Expr) (list : Parser x.InitList) (reads : ReadsExprs room inner) (lists : ReadsLists room list) (growths : GrowsExprs room inner) (growing : GrowsLists room list)
    (under : Lead → ℕ → Parser x.Expr) (under_list : Parser x.InitList) (low_reads : ReadsExprs (below room) under) (low_lists : ReadsLists (below room) under_list)
    (low_growths : GrowsExprs (below room) under) (low_growing : GrowsLists (below room) under_list) where
  abbrev G : List Kind → Fault × List Kind → Type 0
  G = Grown room inner list reads lists growths growing

  front_none : (ts : List Kind) (left : x.Expr) (us : List Kind) → ts ≡ write_expr left us → Fronts room left → G ts (NoTree, us)
  front_none ts left us same f = subst (λ ts. G ts (NoTree, us)) (sym same) (none_grows (suc room) us (write_expr left) (leading_expr left) f.tree f.after f.spelled f.is)

  front_deep : (ts : List Kind) (left : x.Expr) (token : Kind) (us : List Kind) → ts ≡ write_expr left (token ∷ us) → Fronts room left
      → (deep : ℕ) (tall : x.Expr) (past : List Kind → List Kind) → ((z : List Kind) → write_expr tall z ≡ write_expr left (token ∷ past z)) → IsEffect deep tall → G ts (TooDeep, token ∷ us)
  front_deep ts left token us same f deep tall past spelled is =
      subst (λ ts. G ts (TooDeep, token ∷ us)) (sym same) (deep_grows (suc room) token us (write_expr left) (leading_expr left) f.tree f.after f.spelled f.is deep tall past spelled is)

  a_call : (left : x.Expr) (name : Text) (r : ℕ) → IsShapedExpr left → expr_depth left ≤ r → (((14 ≤ level left) × (not (is_least left) ≡ true)) × (not (is_name left) ≡ true)) → IsEffect (suc r) (x.Call (x.a_receiver (x.Of left)) name x.no_exprs)
  a_call left name r s low fits = record { is = (refl, ((fits, s), tt)); low = omega arith }

  an_index : (r : ℕ) (left at : x.Expr) → IsShapedExpr left → expr_depth left ≤ r → 14 ≤ level left → is_least left ≡ false → is_new_array left ≡ false → IsExpr r 0 at → IsEffect (suc (suc r)) (x.PostStep (x.Index left at) y.PlusPlus)
  an_index r left at s low tight plain no_array one =
      let l = one.low in
      a_step (suc r) (x.Index left at) y.PlusPlus (((tight, not_from_false _ plain), not_from_false _ no_array), s, one.fits, one.shaped) (omega arith) refl refl (omega arith)

  at_room : (r most : ℕ) (e : x.Expr) → IsExpr r 0 e → r ≤ most → IsExpr most 0 e
  at_room r most e is le = record { shaped = is.shaped; fits = is.fits; low = let l = is.low in omega arith }

  dot_of : (ts : List Kind) (left : x.Expr) (token : Kind) (us : List Kind) → Operand room ts (left, token ∷ us) → token ≡ kind.Sym y.Dot → 14 ≤ level left → (((14 ≤ level left) × (not (is_least left) ≡ true)) × (not (is_name left) ≡ true))
  dot_of ts left token us found dot tight = before_dot room inner list reads lists growths growing ts left token us found dot tight

  tall_index : (ts : List Kind) (left : x.Expr) (token : Kind) (us : List Kind) → Operand room ts (left, token ∷ us) → Ready room left → token ≡ kind.Sym y.OpenBracket → 14 ≤ level left → is_new_array left ≡ false → G ts (TooDeep, token ∷ us)
  tall_index ts left token us found ready bracket t l =
      let r = max 1 (expr_depth left) in
      front_deep ts left token us found.written (fronts room left found.shaped found.not_least found.low ready) (suc (suc r)) (x.PostStep (x.Index left sample) y.PlusPlus)
      (λ z. kind.Word k.This ∷ kind.Sym y.CloseBracket ∷ kind.Sym y.PlusPlus ∷ z) (λ z. ap (λ token. write_expr left (token ∷ kind.Word k.This ∷ kind.Sym y.CloseBracket ∷ kind.Sym y.PlusPlus ∷ z)) (sym bracket))
      (an_index r left sample found.shaped (omega arith) t found.not_least l (sample_is r 0 (omega arith) (omega arith)))

  index_grows : (ts : List Kind) (left : x.Expr) (token : Kind) (us : List Kind) (stop : Fault × List Kind) → Operand room ts (left, token ∷ us) → token ≡ kind.Sym y.OpenBracket → 14 ≤ level left → is_new_array left ≡ false → suc (expr_depth left) ≤ room
      → reader.indexed (below room) under under_list left us ≡ Err stop → G ts stop
  index_grows ts left token us stop found bracket tight plain low h =
      let same : ts ≡ write_expr left (kind.Sym y.OpenBracket ∷ us) = found.written ∙ ap (λ token. write_expr left (token ∷ us)) bracket in
      let two = below_two room (expr_depth left) (depth_pos left) low in
      let deep : expr_depth left ≤ below room = to_below (expr_depth left) room low in
      let s = found.shaped in
      let least = found.not_least in
      subst (λ ts. G ts stop) (sym same)
      (elim (stops (under Nothing 0 us) _ stop h) [
        | Before e ↦
            grows (below room) (suc room) us stop (λ z. write_expr left (kind.Sym y.OpenBracket ∷ z)) (leading_then (leading_expr left) (leading_one (kind.Sym y.OpenBracket))) (λ at. x.PostStep (x.Index left at) y.PlusPlus)
            (λ z. kind.Sym y.CloseBracket ∷ kind.Sym y.PlusPlus ∷ z) (λ a z. refl)
            (λ r a one. (suc (suc (max r (below room))), an_index (max r (below room)) left a s (omega arith) tight least plain (at_room r (max r (below room)) a one (omega arith))))
            (λ a one. with_more (suc (suc (below room))) (suc room) (x.PostStep (x.Index left a) y.PlusPlus) (an_index (below room) left a s deep tight least plain one) two.1) (low_growths.grow two.0 0 us stop (omega arith) e)
        | After v rest e d ↦
            (let at = low_reads.sound 0 us (v, rest) (omega arith) e in
            elim (stops (expect y.CloseBracket rest) _ stop d) [
              | After u end i d ↦ absurd (ok_err d)
              | Before i ↦
                  subst (λ us. G (write_expr left (kind.Sym y.OpenBracket ∷ us)) stop) (sym at.written)
                  (subst (G (write_expr left (kind.Sym y.OpenBracket ∷ write_expr v rest))) (missing y.CloseBracket rest stop i)
                  (none_grows (suc room) rest (λ z. write_expr left (kind.Sym y.OpenBracket ∷ write_expr v z)) (leading_then (leading_expr left) (leading_then (leading_one (kind.Sym y.OpenBracket)) (leading_expr v)))
                  (x.PostStep (x.Index left v) y.PlusPlus) (λ z. kind.Sym y.CloseBracket ∷ kind.Sym y.PlusPlus ∷ z) (λ z. refl)
                  (with_more (suc (suc (below room))) (suc room) (x.PostStep (x.Index left v) y.PlusPlus) (an_index (below room) left v s deep tight least plain at.is) two.1)))
            ])
      ])

  select_grows : (ts : List Kind) (left : x.Expr) (token : Kind) (us : List Kind) (stop : Fault × List Kind) → Operand room ts (left, token ∷ us) → token ≡ kind.Sym y.Dot → 14 ≤ level left → expr_depth left ≤ room
      → reader.selected room inner list left us ≡ Err stop → G ts stop
  select_grows ts left token us stop found dot tight low h =
      let fits = dot_of ts left token us found dot tight in
      let same : ts ≡ write_expr left (kind.Sym y.Dot ∷ us) = found.written ∙ ap (λ token. write_expr left (token ∷ us)) dot in
      elim (stops (identifier us) _ stop h) [
        | Before e ↦
            subst (λ ts. G ts stop) (sym same)
            (subst (G (write_expr left (kind.Sym y.Dot ∷ us))) (identifier_token.stops us stop e)
            (none_grows (suc room) us (λ z. write_expr left (kind.Sym y.Dot ∷ z)) (leading_then (leading_expr left) (leading_one (kind.Sym y.Dot))) (x.Call (x.a_receiver (x.Of left)) [] x.no_exprs)
            (λ z. kind.Ident [] ∷ kind.Sym y.OpenParen ∷ kind.Sym y.CloseParen ∷ z) (λ z. refl) (a_call left [] room found.shaped low fits)))
        | After member rest e d ↦
            effect_call_grows room inner list reads lists growths growing (x.a_receiver (x.Of left)) member (x.Select left member) ts rest stop (fits, found.shaped) low
            (same ∙ ap (λ us. write_expr left (kind.Sym y.Dot ∷ us)) (identifier_token.took us (member, rest) e)) d
      ]

  suffix_grows : (ts : List Kind) (left : x.Expr) (token : Kind) (us : List Kind) (q : Option (Parser x.Expr)) (p : Parser x.Expr) (stop : Fault × List Kind) → Operand room ts (left, token ∷ us) → Ready room left
      → Goes room inner list under under_list left (symbol_of token) q → q ≡ Some p → expr_depth left ≤ room → p us ≡ Err stop → G ts stop
  suffix_grows ts left token us q p stop found ready (Over n) s low g = absurd (none_some (sym n ∙ s))
  suffix_grows ts left token us q p stop found ready (Selects h t n) s low g =
      select_grows ts left token us stop found (symbol_is_of token y.Dot h) t low (ap (λ (p : Parser x.Expr). p us) (some_is (sym n ∙ s)) ∙ g)
  suffix_grows ts left token us q p stop found ready (Indexes h t l n) s low g =
      let bracket = symbol_is_of token y.OpenBracket h in
      elim (chosen (ltb room (suc (expr_depth left))) _ _ _ (ap (λ (p : Parser x.Expr). p us) (some_is (sym n ∙ s)) ∙ g)) [
        | inl c ↦ subst (G ts) (ap (λ (token : Kind). (TooDeep, token ∷ us)) bracket ∙ err_is c.1) (tall_index ts left token us found ready bracket t l)
        | inr c ↦ index_grows ts left token us stop found bracket t l (ltb-false room (suc (expr_depth left)) c.0) c.1
      ]
  suffix_grows ts left token us q p stop found ready (Steps op h t l n) s low g = absurd (ok_err (ap (λ (p : Parser x.Expr). p us) (some_is (sym n ∙ s)) ∙ g))

  suffix_deep : (ts : List Kind) (left : x.Expr) (token : Kind) (us : List Kind) (q : Option (Parser x.Expr)) (p : Parser x.Expr) → Operand room ts (left, token ∷ us) → Ready room left
      → Goes room inner list under under_list left (symbol_of token) q → q ≡ Some p → G ts (TooDeep, token ∷ us)
  suffix_deep ts left token us q p found ready (Over n) s = absurd (none_some (sym n ∙ s))
  suffix_deep ts left token us q p found ready (Selects h t n) s =
      let dot = symbol_is_of token y.Dot h in
      front_deep ts left token us found.written (fronts room left found.shaped found.not_least found.low ready) (suc (expr_depth left)) (x.Call (x.a_receiver (x.Of left)) [] x.no_exprs)
      (λ z. kind.Ident [] ∷ kind.Sym y.OpenParen ∷ kind.Sym y.CloseParen ∷ z) (λ z. ap (λ token. write_expr left (token ∷ kind.Ident [] ∷ kind.Sym y.OpenParen ∷ kind.Sym y.CloseParen ∷ z)) (sym dot))
      (a_call left [] (expr_depth left) found.shaped (omega arith) (dot_of ts left token us found dot t))
  suffix_deep ts left token us q p found ready (Indexes h t l n) s = tall_index ts left token us found ready (symbol_is_of token y.OpenBracket h) t l
  suffix_deep ts left token us q p found ready (Steps op h t l n) s =
      let here = symbol_is_of token op h in
      front_deep ts left token us found.written (fronts room left found.shaped found.not_least found.low ready) (suc (expr_depth left)) (x.PostStep left op) (λ z. z)
      (λ z. ap (λ token. write_expr left (token ∷ z)) (sym here)) (a_step (expr_depth left) left op found.shaped l found.not_least t (omega arith))

  chain_grows : (ts : List Kind) (left : x.Expr) (us : List Kind) (stop : Fault × List Kind) → Operand room ts (left, us) → Ready room left → reader.effect_suffixes room inner list under under_list left us ≡ Err stop → G ts stop
  chain_grows ts left us stop found ready h =
      let s = effects_halt room inner list under under_list reads lists low_reads low_lists ts left us stop (found, ready) h in
      elim s.why [
        | inl w ↦
            suffix_grows ts s.left s.token s.us (step room inner list under under_list s.left (s.token ∷ s.us)) s.p stop s.holds.0 s.holds.1 (goes_view room inner list under under_list s.left (symbol_of s.token)) s.here w.0 w.1
        | inr w ↦
            subst (G ts) w.1 (suffix_deep ts s.left s.token s.us (step room inner list under under_list s.left (s.token ∷ s.us)) s.p s.holds.0 s.holds.1 (goes_view room inner list under under_list s.left (symbol_of s.token)) s.here)
      ]

  -- ---- how it ends

  alone_grows : (ts : List Kind) (left : x.Expr) (us : List Kind) (stop : Fault × List Kind) → ts ≡ write_expr left us → Fronts room left → cond {A = Outcome x.Expr} (is_statement left) (Ok (left, us)) (Err (NoTree, us)) ≡ Err stop → G ts stop
  alone_grows ts left us stop same f h =
      elim (chosen (is_statement left) _ _ _ h) [
        | inl t ↦ absurd (ok_err t.1)
        | inr t ↦ subst (G ts) (err_is t.1) (front_none ts left us same f)
      ]

  an_assignment : (r : ℕ) (left : x.Expr) (op : Symbol) (value : x.Expr) → is_assignment op ≡ true → is_target left ≡ true → IsShapedExpr left → expr_depth left ≤ r → IsExpr r 0 value → IsEffect (suc r) (x.Assign left op value)
  an_assignment r left op value u target s low one = record { is = (refl, (u, target, s, one.fits, one.shaped)); low = let l = one.low in omega arith }

  assign_grows : (ts : List Kind) (left : x.Expr) (us : List Kind) (op : Symbol) (stop : Fault × List Kind) → Operand room ts (left, us) → Ready room left → symbol_at us ≡ Some op → is_assignment op ≡ true → is_target left ≡ true
      → over (expr_depth left) room (skipping (reader.assigned room inner list left op)) us ≡ Err stop → G ts stop
  assign_grows ts left [] op stop found ready here u target h = absurd (none_some here)
  assign_grows ts left (token ∷ us) op stop found ready here u target h =
      let is = symbol_is_of token op here in
      let s = found.shaped in
      elim (chosen (ltb room (expr_depth left)) _ _ _ h) [
        | inl c ↦
            subst (G ts) (err_is c.1)
            (front_deep ts left token us found.written (fronts room left s found.not_least found.low ready) (suc (max 1 (expr_depth left))) (x.Assign left op sample) (λ z. kind.Word k.This ∷ z)
            (λ z. ap (λ token. write_expr left (token ∷ kind.Word k.This ∷ z)) (sym is)) (an_assignment (max 1 (expr_depth left)) left op sample u target s (omega arith) (sample_is (max 1 (expr_depth left)) 0 (omega arith) (omega arith))))
        | inr c ↦
            (let low = ltb-false room (expr_depth left) c.0 in
            let pos = depth_pos left in
            elim (stops (inner Nothing 0 us) _ stop c.1) [
              | After v rest e d ↦ absurd (ok_err d)
              | Before e ↦
                  subst (λ ts. G ts stop) (sym (found.written ∙ ap (λ token. write_expr left (token ∷ us)) is))
                  (grows room (suc room) us stop (λ z. write_expr left (kind.Sym op ∷ z)) (leading_then (leading_expr left) (leading_one (kind.Sym op))) (x.Assign left op) (λ z. z) (λ a z. refl)
                  (λ r v one. (suc (max r room), an_assignment (max r room) left op v u target s (omega arith) (at_room r (max r room) v one (omega arith))))
                  (λ v one. an_assignment room left op v u target s low one) (growths.grow (omega arith) 0 us stop (omega arith) e))
            ])
      ]

  end_grows : (ts : List Kind) (left : x.Expr) (us : List Kind) (o : Option Symbol) (stop : Fault × List Kind) → Operand room ts (left, us) → Ready room left → symbol_at us ≡ o → reader.effect_end_by room inner list left o us ≡ Err stop → G ts stop
  end_grows ts left us None stop found ready here h = alone_grows ts left us stop found.written (fronts room left found.shaped found.not_least found.low ready) h
  end_grows ts left us (Some op) stop found ready here h =
      elim (chosen (is_assignment op && is_target left) _ _ _ h) [
        | inl t ↦ (let p = and_parts (is_assignment op) (is_target left) t.0 in assign_grows ts left us op stop found ready here p.0 p.1 t.1)
        | inr t ↦ alone_grows ts left us stop found.written (fronts room left found.shaped found.not_least found.low ready) t.1
      ]

  -- ---- all of it

  paren_end : (ts : List Kind) (inside : x.Expr) (us : List Kind) (o : Option Symbol) (stop : Fault × List Kind) → ts ≡ write_expr (x.Paren inside) us → Fronts room (x.Paren inside)
      → reader.effect_end_by room inner list (x.Paren inside) o us ≡ Err stop → G ts stop
  paren_end ts inside us None stop same f h = alone_grows ts (x.Paren inside) us stop same f h
  paren_end ts inside us (Some op) stop same f h =
      elim (chosen (is_assignment op && false) _ _ _ h) [
        | inl t ↦ absurd (true≢false (sym t.0 ∙ and_right (is_assignment op) false refl))
        | inr t ↦ alone_grows ts (x.Paren inside) us stop same f t.1
      ]

  abbrev Read : List Kind → x.Expr × List Kind → Type 0
  Read ts r = reader.effect_operand room inner list under under_list Nothing ts ≡ Ok r

  sound : (ts : List Kind) (r : x.Expr × List Kind) → Read ts r → Fronted room inner list reads lists ts r
  sound ts r i = front_sound room inner list reads lists ts r (operand_up room inner list under under_list reads lists low_reads low_lists Nothing ts r i)

  front : (ts : List Kind) (r : x.Expr × List Kind) → Read ts r → Front room ts r
  front ts r i = front_is room inner list under under_list reads lists low_reads low_lists ts r i

  behind_front : (ts : List Kind) (left : x.Expr) (us : List Kind) (stop : Fault × List Kind) → Read ts (left, us) → reader.effect_suffixes room inner list under under_list left us ≡ Err stop → G ts stop
  behind_front ts left us stop i d =
      elim (sound ts (left, us) i) [
        | Whole found ↦ chain_grows ts left us stop found (front ts (left, us) i).ready d
        | Left inside paren cast ↦ absurd (ok_err (sym (effects_stay room inner list under under_list reads lists low_reads low_lists left us (cast_free left (first us) cast)) ∙ d))
      ]

  behind_chain : (ts : List Kind) (left : x.Expr) (us : List Kind) (r : x.Expr × List Kind) (stop : Fault × List Kind) → Read ts (left, us) → reader.effect_suffixes room inner list under under_list left us ≡ Ok r
      → reader.effect_end_by room inner list r.0 (symbol_at r.1) r.1 ≡ Err stop → G ts stop
  behind_chain ts left us r stop i d h =
      elim (sound ts (left, us) i) [
        | Whole found ↦
            (let holds = effects_keep room inner list under under_list reads lists low_reads low_lists ts left us r (found, (front ts (left, us) i).ready) d in
            end_grows ts r.0 r.1 (symbol_at r.1) stop holds.0 holds.1 refl h)
        | Left inside paren cast ↦
            (let same = ok_is (sym (effects_stay room inner list under under_list reads lists low_reads low_lists left us (cast_free left (first us) cast)) ∙ d) in
            let f = front ts (left, us) i in
            let ended = subst (λ (r : x.Expr × List Kind). reader.effect_end_by room inner list r.0 (symbol_at r.1) r.1 ≡ Err stop) (sym same) h in
            subst (λ (left : x.Expr). ts ≡ write_expr left us → Fronts room left → reader.effect_end_by room inner list left (symbol_at us) us ≡ Err stop → G ts stop) (sym paren)
            (paren_end ts inside us (symbol_at us) stop) f.written (fronts room left f.shaped f.plain f.low f.ready) ended)
      ]

  pub effects_grow : (ts : List Kind) (stop : Fault × List Kind) → reader.effects room inner list under under_list Nothing ts ≡ Err stop → G ts stop
  unfolding reader.effects reader.effect_end
  effects_grow ts stop h =
      elim (stops (and_then (reader.effect_operand room inner list under under_list Nothing ts) (reader.effect_suffixes room inner list under under_list)) (reader.effect_end room inner list) stop h) [
        | Before e ↦
            (elim (stops (reader.effect_operand room inner list under under_list Nothing ts) (reader.effect_suffixes room inner list under under_list) stop e) [
              | Before i ↦ first_grows room inner list reads lists growths growing under under_list low_reads low_lists low_growths low_growing ts stop i
              | After left us i d ↦ behind_front ts left us stop i d
            ])
        | After e rest g d ↦
            (let a = bind_ok (reader.effect_operand room inner list under under_list Nothing ts) (reader.effect_suffixes room inner list under under_list) (e, rest) g in
            behind_chain ts a.0.0 a.0.1 (e, rest) stop a.1 a.2 d)
      ]
