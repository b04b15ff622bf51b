-- Where reading a level of expressions stops, what stands before begins one.
use Rattle.std.proofs.Common.{◌≡◌, ℕ, suc, ◌<◌, ◌≤◌, max, true, false, not, List, [], ◌∷◌, Option, Some, None, Ok, Err, refl, sym, ap, ◌∙◌, subst, inl, inr, arith}
use Rattle.std.proofs.lemmas.Bool.{not_from_false}
use Rattle.jr_base.specs.declared.text.Text.{Text}
use Rattle.jr_base.specs.declared.kind.Kind.{Kind}
use Rattle.jr_base.specs.declared.kind.Kind.TheVariants as kind
use Rattle.jr_base.specs.declared.kind.Symbol.{Symbol}
use Rattle.jr_base.specs.declared.kind.Symbol.TheVariants as y
use Rattle.jr_base.specs.declared.kind.Keyword.TheVariants as k
use Rattle.jr_tree.specs.declared.tree.TypeUse.{TypeUse}
use Rattle.jr_tree.specs.declared.tree.Base.TheVariants as base
use Rattle.jr_tree.specs.Levels.{binary_level, is_assignment, is_step}
use Rattle.jr_tree.specs.Shape.{level, is_least, is_name, is_new_array, is_target, IsTypeUse, IsShapedExpr}
use Rattle.jr_tree.specs.Depth.{expr_depth}
use Rattle.jr_tree.specs.Mirror.Exprs as x
use Rattle.jr_parse_laws.specs.declared.fault.Fault.{Fault}
use Rattle.jr_parse_laws.specs.declared.fault.Fault.TheVariants.{TooDeep}
use Rattle.jr_parse_laws.specs.Parsers.{Parser, and_then, symbol_of, expect, identifier}
use Rattle.jr_parse_laws.proofs.Outcomes.{bind_ok, ok_err, some_is, Before, After, stops}
use Rattle.jr_parse_laws.proofs.Stops.{leading_nothing}
use Rattle.jr_parse_laws.proofs.Exact.{expect_sound, identifier_token}
use Rattle.jr_parse_expr.specs.Names.{name_of, type_of, type_use}
use Rattle.jr_parse_expr.specs.Exprs as reader
use Rattle.jr_parse_expr.specs.Exprs.{Lead, Nothing}
use Rattle.jr_parse_expr.specs.Writing.{write_expr}
use Rattle.jr_parse_expr.specs.Follow.{IsExpr}
use Rattle.jr_parse_expr.proofs.Beginnings.{binary_low}
use Rattle.jr_parse_expr.proofs.Steps.{Suffixed, Ended, Selects, Indexes, Steps, suffix_view, Operated, Over, Chooses, Computes, Assigns, Tests, operator_view}
use Rattle.jr_parse_expr.proofs.Asked.{ReadsExprs, ReadsLists, Operand, depth_pos}
use Rattle.jr_parse_expr.proofs.Operands.{operand_sound}
use Rattle.jr_parse_expr.proofs.Chains.{symbol_is_of, no_name_before_dot, suffixes_halt, suffixes_sound}
use Rattle.jr_parse_expr.proofs.Climbs.{Climbed, climb_halt}
use Rattle.jr_parse_expr.proofs.Growths.{Growing, leading_then, leading_expr, leading_one, grows, none_grows, deep_grows, sample, sample_is}
use Rattle.jr_parse_expr.proofs.NameGrowths.{type_grows}
use Rattle.jr_parse_expr.proofs.PartGrowths.{Within, GrowsExprs, GrowsLists, missing, call_grows}
use Rattle.jr_parse_expr.proofs.OperandGrowths.{operand_grows}

none_some : {A : Type 0} {a : A} → None ≡ Some a → ⊥
none_some e = cc

module _ (room : ℕ) (inner : Lead → ℕ → Parser x.Expr) (list : Parser x.InitList) (reads : ReadsExprs room inner) (lists : ReadsLists room list) (growths : GrowsExprs room inner) (growing : GrowsLists room list) where
  -- an expression from a level on begins so
  abbrev Starts : ℕ → List Kind → Fault × List Kind → Type 0
  Starts least ts stop = Growing (Within least) write_expr (suc room) ts stop

  -- ---- behind an operand

  pub before_dot : (ts : List Kind) (left : x.Expr) (token : Kind) (us : List Kind) → Operand room ts (left, token ∷ us) → token ≡ kind.Sym y.Dot → 14 ≤ level left → (((14 ≤ level left) × (not (is_least left) ≡ true)) × (not (is_name left) ≡ true))
  before_dot ts left token us found dot tight = ((tight, not_from_false _ found.not_least), not_from_false _ (no_name_before_dot left token found.ended dot))

  a_select : (r : ℕ) (left : x.Expr) (name : Text) → IsShapedExpr left → expr_depth left ≤ r → (((14 ≤ level left) × (not (is_least left) ≡ true)) × (not (is_name left) ≡ true)) → IsExpr (suc r) 12 (x.Select left name)
  a_select r left name s low fits = record { shaped = (fits, s); fits = (omega arith, refl); low = omega arith }

  an_index : (r : ℕ) (left at : x.Expr) → IsShapedExpr left → expr_depth left ≤ r → 14 ≤ level left → is_least left ≡ false → is_new_array left ≡ false → IsExpr r 0 at → IsExpr (suc r) 12 (x.Index left at)
  an_index r left at s low tight plain no_array one =
      let l = one.low in
      record { shaped = (((tight, not_from_false _ plain), not_from_false _ no_array), s, one.fits, one.shaped); fits = (omega arith, refl); low = omega arith }

  a_step : (r : ℕ) (left : x.Expr) (op : Symbol) → IsShapedExpr left → expr_depth left ≤ r → 13 ≤ level left → is_least left ≡ false → is_step op ≡ true → IsExpr (suc r) 12 (x.PostStep left op)
  a_step r left op s low tight plain u = record { shaped = (u, (tight, not_from_false _ plain), s); fits = (omega arith, refl); low = omega arith }

  selected_grows : (ts : List Kind) (left : x.Expr) (token : Kind) (us : List Kind) (stop : Fault × List Kind) → Operand room ts (left, token ∷ us) → token ≡ kind.Sym y.Dot → 14 ≤ level left → expr_depth left ≤ room
      → reader.selected room inner list left us ≡ Err stop → Starts 12 ts stop
  selected_grows ts left token us stop found dot tight low h =
      let fits = before_dot ts left token us found dot tight in
      let same : ts ≡ write_expr left (kind.Sym y.Dot ∷ us) = found.written ∙ ap (λ token. write_expr left (token ∷ us)) dot in
      elim (stops (identifier us) _ stop h) [
        | Before e ↦
            subst (λ ts. Starts 12 ts stop) (sym same)
            (subst (Starts 12 (write_expr left (kind.Sym y.Dot ∷ us))) (identifier_token.stops us stop e)
            (none_grows (suc room) us (λ z. write_expr left (kind.Sym y.Dot ∷ z)) (leading_then (leading_expr left) (leading_one (kind.Sym y.Dot))) (x.Select left []) (λ z. kind.Ident [] ∷ z) (λ z. refl) (a_select room left [] found.shaped low fits)))
        | After member rest e d ↦
            call_grows room inner list reads lists growths growing (x.a_receiver (x.Of left)) member (x.Select left member) ts rest stop (fits, found.shaped) low
            (same ∙ ap (λ us. write_expr left (kind.Sym y.Dot ∷ us)) (identifier_token.took us (member, rest) e)) d
      ]

  indexed_grows : (ts : List Kind) (left : x.Expr) (token : Kind) (us : List Kind) (stop : Fault × List Kind) → Operand room ts (left, token ∷ us) → token ≡ kind.Sym y.OpenBracket → 14 ≤ level left → is_new_array left ≡ false
      → 1 ≤ room → expr_depth left ≤ room → reader.indexed room inner list left us ≡ Err stop → Starts 12 ts stop
  indexed_grows ts left token us stop found bracket tight plain some low h =
      let same : ts ≡ write_expr left (kind.Sym y.OpenBracket ∷ us) = found.written ∙ ap (λ token. write_expr left (token ∷ us)) bracket in
      subst (λ ts. Starts 12 ts stop) (sym same)
      (elim (stops (inner Nothing 0 us) _ stop h) [
        | Before e ↦
            grows room (suc room) us stop (λ z. write_expr left (kind.Sym y.OpenBracket ∷ z)) (leading_then (leading_expr left) (leading_one (kind.Sym y.OpenBracket))) (x.Index left) (λ z. kind.Sym y.CloseBracket ∷ z) (λ a z. refl)
            (λ r a one. (suc (max r room), an_index (max r room) left a found.shaped (omega arith) tight found.not_least plain (record { shaped = one.shaped; fits = one.fits; low = let l = one.low in omega arith })))
            (λ a one. an_index room left a found.shaped low tight found.not_least plain one) (growths.grow some 0 us stop (omega arith) e)
        | After v rest e d ↦
            (let at = reads.sound 0 us (v, rest) (omega arith) e in
            elim (stops (expect y.CloseBracket rest) _ stop d) [
              | After u end i d ↦ absurd (ok_err d)
              | Before i ↦
                  subst (λ us. Starts 12 (write_expr left (kind.Sym y.OpenBracket ∷ us)) stop) (sym at.written)
                  (subst (Starts 12 (write_expr left (kind.Sym y.OpenBracket ∷ write_expr v rest))) (missing y.CloseBracket rest stop i)
                  (none_grows (suc room) rest (λ z. write_expr left (kind.Sym y.OpenBracket ∷ write_expr v z)) (leading_then (leading_expr left) (leading_then (leading_one (kind.Sym y.OpenBracket)) (leading_expr v))) (x.Index left v)
                  (λ z. kind.Sym y.CloseBracket ∷ z) (λ z. refl) (an_index room left v found.shaped low tight found.not_least plain at.is)))
            ])
      ])

  suffix_grows : (ts : List Kind) (left : x.Expr) (token : Kind) (us : List Kind) (q : Option (Parser x.Expr)) (p : Parser x.Expr) (stop : Fault × List Kind) → Operand room ts (left, token ∷ us) → Suffixed room inner list left (symbol_of token) q
      → q ≡ Some p → 1 ≤ room → expr_depth left ≤ room → p us ≡ Err stop → Starts 12 ts stop
  suffix_grows ts left token us q p stop found (Ended h n) s some low g = absurd (none_some (sym n ∙ s))
  suffix_grows ts left token us q p stop found (Selects h t n) s some low g =
      selected_grows ts left token us stop found (symbol_is_of token y.Dot h) t low (ap (λ (p : Parser x.Expr). p us) (some_is (sym n ∙ s)) ∙ g)
  suffix_grows ts left token us q p stop found (Indexes h t l n) s some low g =
      indexed_grows ts left token us stop found (symbol_is_of token y.OpenBracket h) t l some low (ap (λ (p : Parser x.Expr). p us) (some_is (sym n ∙ s)) ∙ g)
  suffix_grows ts left token us q p stop found (Steps op h t l n) s some low g = absurd (ok_err (ap (λ (p : Parser x.Expr). p us) (some_is (sym n ∙ s)) ∙ g))

  -- left is as high as there are levels, and goes on
  too_high : (least : ℕ) (ts : List Kind) (left : x.Expr) (token : Kind) (us : List Kind) → ts ≡ write_expr left (token ∷ us) → IsExpr (suc room) least left
      → (deep : ℕ) (tall : x.Expr) (past : List Kind → List Kind) → ((z : List Kind) → write_expr tall z ≡ write_expr left (token ∷ past z)) → IsExpr deep least tall → Starts least ts (TooDeep, token ∷ us)
  too_high least ts left token us same is deep tall past spelled is_tall =
      subst (λ ts. Starts least ts (TooDeep, token ∷ us)) (sym same) (deep_grows (suc room) token us (write_expr left) (leading_expr left) left (λ z. z) (λ z. refl) is deep tall past spelled is_tall)

  suffix_deep : (ts : List Kind) (left : x.Expr) (token : Kind) (us : List Kind) (q : Option (Parser x.Expr)) (p : Parser x.Expr) → Operand room ts (left, token ∷ us) → Suffixed room inner list left (symbol_of token) q → q ≡ Some p
      → Starts 12 ts (TooDeep, token ∷ us)
  suffix_deep ts left token us q p found (Ended h n) s = absurd (none_some (sym n ∙ s))
  suffix_deep ts left token us q p found (Selects h t n) s =
      let dot = symbol_is_of token y.Dot h in
      too_high 12 ts left token us found.written (record { shaped = found.shaped; fits = (found.tight, not_from_false _ found.not_least); low = found.low }) (suc (expr_depth left)) (x.Select left []) (λ z. kind.Ident [] ∷ z)
      (λ z. ap (λ token. write_expr left (token ∷ kind.Ident [] ∷ z)) (sym dot)) (a_select (expr_depth left) left [] found.shaped (omega arith) (before_dot ts left token us found dot t))
  suffix_deep ts left token us q p found (Indexes h t l n) s =
      let bracket = symbol_is_of token y.OpenBracket h in
      too_high 12 ts left token us found.written (record { shaped = found.shaped; fits = (found.tight, not_from_false _ found.not_least); low = found.low }) (suc (max 1 (expr_depth left))) (x.Index left sample) (λ z. kind.Word k.This ∷ kind.Sym y.CloseBracket ∷ z)
      (λ z. ap (λ token. write_expr left (token ∷ kind.Word k.This ∷ kind.Sym y.CloseBracket ∷ z)) (sym bracket))
      (an_index (max 1 (expr_depth left)) left sample found.shaped (omega arith) t found.not_least l (sample_is (max 1 (expr_depth left)) 0 (omega arith) (omega arith)))
  suffix_deep ts left token us q p found (Steps op h t l n) s =
      let here = symbol_is_of token op h in
      too_high 12 ts left token us found.written (record { shaped = found.shaped; fits = (found.tight, not_from_false _ found.not_least); low = found.low }) (suc (expr_depth left)) (x.PostStep left op) (λ z. z)
      (λ z. ap (λ token. write_expr left (token ∷ z)) (sym here)) (a_step (expr_depth left) left op found.shaped (omega arith) l found.not_least t)

  chain_grows : (ts : List Kind) (left : x.Expr) (us : List Kind) (stop : Fault × List Kind) → Operand room ts (left, us) → reader.suffixes room inner list left us ≡ Err stop → Starts 12 ts stop
  chain_grows ts left us stop found h =
      let s = suffixes_halt room inner list reads lists ts left us stop found h in
      elim s.why [
        | inl w ↦
            suffix_grows ts s.left s.token s.us (reader.suffix room inner list s.left (symbol_of s.token)) s.p stop s.holds (suffix_view room inner list s.left (symbol_of s.token)) s.here (let pos = depth_pos s.left in let low = w.0 in omega arith) w.0 w.1
        | inr w ↦
            subst (Starts 12 ts) w.1 (suffix_deep ts s.left s.token s.us (reader.suffix room inner list s.left (symbol_of s.token)) s.p s.holds (suffix_view room inner list s.left (symbol_of s.token)) s.here)
      ]

  -- ---- operators

  a_choice : (r least : ℕ) (c a b : x.Expr) → least ≤ 1 → 2 ≤ level c → IsExpr r least c → IsExpr r 0 a → IsExpr r 1 b → IsExpr (suc r) least (x.Cond c a b)
  a_choice r least c a b loose tight one two three =
      let l = one.low in
      let m = two.low in
      let n = three.low in
      record { shaped = ((tight, one.fits.1), one.shaped, two.fits, two.shaped, three.fits, three.shaped); fits = (loose, refl); low = omega arith }

  a_binary : (r least : ℕ) (left : x.Expr) (op : Symbol) (right : x.Expr) → 0 < binary_level op → least ≤ binary_level op → binary_level op ≤ level left → IsExpr r least left → IsExpr r (suc (binary_level op)) right
      → IsExpr (suc r) least (x.Binary left op right)
  a_binary r least left op right some loose tight one two =
      let l = one.low in
      let m = two.low in
      record { shaped = (some, (tight, one.fits.1), one.shaped, two.fits, two.shaped); fits = (loose, refl); low = omega arith }

  an_assignment : (r least : ℕ) (left : x.Expr) (op : Symbol) (value : x.Expr) → is_assignment op ≡ true → least ≤ 0 → is_target left ≡ true → IsExpr r least left → IsExpr r 0 value → IsExpr (suc r) least (x.Assign left op value)
  an_assignment r least left op value u loose target one two =
      let l = one.low in
      let m = two.low in
      record { shaped = (u, target, one.shaped, two.fits, two.shaped); fits = (loose, refl); low = omega arith }

  a_test : (r least : ℕ) (left : x.Expr) (ty : TypeUse) → least ≤ 8 → 8 ≤ level left → IsExpr r least left → IsTypeUse ty → IsExpr (suc r) least (x.IsA left ty)
  a_test r least left ty loose tight one is = let l = one.low in record { shaped = ((tight, one.fits.1), one.shaped, is); fits = (loose, refl); low = omega arith }

  -- with more levels, or as many as it has
  at_room : (r least : ℕ) (e : x.Expr) (from : ℕ) → IsExpr from least e → expr_depth e ≤ r → IsExpr r least e
  at_room r least e from is low = record { shaped = is.shaped; fits = is.fits; low = low }

  choice_grows : (least : ℕ) (ts : List Kind) (left : x.Expr) (us : List Kind) (stop : Fault × List Kind) → IsExpr (suc room) least left → ts ≡ write_expr left (kind.Sym y.Question ∷ us) → least ≤ 1 → 2 ≤ level left → 1 ≤ room → expr_depth left ≤ room
      → reader.choice room inner list left us ≡ Err stop → Starts least ts stop
  choice_grows least ts left us stop is same loose tight some low h =
      let one = at_room room least left (suc room) is low in
      let leading = leading_then (leading_expr left) (leading_one (kind.Sym y.Question)) in
      subst (λ ts. Starts least ts stop) (sym same)
      (elim (stops (inner Nothing 0 us) _ stop h) [
        | Before e ↦
            grows room (suc room) us stop (λ z. write_expr left (kind.Sym y.Question ∷ z)) leading (λ a. x.Cond left a sample) (λ z. kind.Sym y.Colon ∷ kind.Word k.This ∷ z) (λ a z. refl)
            (λ r a two. (suc (max r room), a_choice (max r room) least left a sample loose tight (at_room (max r room) least left (suc room) is (omega arith)) (at_room (max r room) 0 a r two (let l = two.low in omega arith)) (sample_is (max r room) 1 (omega arith) (omega arith))))
            (λ a two. a_choice room least left a sample loose tight one two (sample_is room 1 some (omega arith))) (growths.grow some 0 us stop (omega arith) e)
        | After a rest e d ↦
            (let yes = reads.sound 0 us (a, rest) (omega arith) e in
            let low_yes = yes.is.low in
            subst (λ us. Starts least (write_expr left (kind.Sym y.Question ∷ us)) stop) (sym yes.written)
            (elim (stops (expect y.Colon rest) _ stop d) [
              | Before i ↦
                  subst (Starts least (write_expr left (kind.Sym y.Question ∷ write_expr a rest))) (missing y.Colon rest stop i)
                  (none_grows (suc room) rest (λ z. write_expr left (kind.Sym y.Question ∷ write_expr a z)) (leading_then leading (leading_expr a)) (x.Cond left a sample) (λ z. kind.Sym y.Colon ∷ kind.Word k.This ∷ z) (λ z. refl)
                  (a_choice room least left a sample loose tight one yes.is (sample_is room 1 some (omega arith))))
              | After u end i d ↦
                  (elim (stops (inner Nothing 1 end) _ stop d) [
                    | After b last j d ↦ absurd (ok_err d)
                    | Before j ↦
                        subst (λ us. Starts least (write_expr left (kind.Sym y.Question ∷ write_expr a us)) stop) (sym (expect_sound y.Colon rest (u, end) i))
                        (grows room (suc room) end stop (λ z. write_expr left (kind.Sym y.Question ∷ write_expr a (kind.Sym y.Colon ∷ z))) (leading_then leading (leading_then (leading_expr a) (leading_one (kind.Sym y.Colon)))) (x.Cond left a) (λ z. z)
                        (λ b z. refl)
                        (λ r b three. (suc (max r room), a_choice (max r room) least left a b loose tight (at_room (max r room) least left (suc room) is (omega arith)) (at_room (max r room) 0 a room yes.is (omega arith)) (at_room (max r room) 1 b r three (let l = three.low in omega arith))))
                        (λ b three. a_choice room least left a b loose tight one yes.is three) (growths.grow some 1 end stop (omega arith) j))
                  ])
            ]))
      ])

  operator_grows : (least : ℕ) (ts : List Kind) (left : x.Expr) (token : Kind) (us : List Kind) (q : Option (Parser x.Expr)) (p : Parser x.Expr) (stop : Fault × List Kind) → IsExpr (suc room) least left → ts ≡ write_expr left (token ∷ us)
      → Operated room inner list least left (Some token) q → q ≡ Some p → 1 ≤ room → expr_depth left ≤ room → p us ≡ Err stop → Starts least ts stop
  operator_grows least ts left token us q p stop is same (Over h n) s some low g = absurd (none_some (sym n ∙ s))
  operator_grows least ts left token us q p stop is same (Chooses h t l n) s some low g =
      choice_grows least ts left us stop is (same ∙ ap (λ token. write_expr left (token ∷ us)) (some_is h)) t l some low (ap (λ (p : Parser x.Expr). p us) (some_is (sym n ∙ s)) ∙ g)
  operator_grows least ts left token us q p stop is same (Computes op h b t l n) s some low g =
      let top = binary_low op in
      elim (stops (inner Nothing (suc (binary_level op)) us) _ stop (ap (λ (p : Parser x.Expr). p us) (some_is (sym n ∙ s)) ∙ g)) [
        | After v rest e d ↦ absurd (ok_err d)
        | Before e ↦
            subst (λ ts. Starts least ts stop) (sym (same ∙ ap (λ token. write_expr left (token ∷ us)) (some_is h)))
            (grows room (suc room) us stop (λ z. write_expr left (kind.Sym op ∷ z)) (leading_then (leading_expr left) (leading_one (kind.Sym op))) (x.Binary left op) (λ z. z) (λ a z. refl)
            (λ r v two. (suc (max r room), a_binary (max r room) least left op v b t l (at_room (max r room) least left (suc room) is (omega arith)) (at_room (max r room) (suc (binary_level op)) v r two (let l = two.low in omega arith))))
            (λ v two. a_binary room least left op v b t l (at_room room least left (suc room) is low) two) (growths.grow some (suc (binary_level op)) us stop (omega arith) e))
      ]
  operator_grows least ts left token us q p stop is same (Assigns op h b t l n) s some low g =
      elim (stops (inner Nothing 0 us) _ stop (ap (λ (p : Parser x.Expr). p us) (some_is (sym n ∙ s)) ∙ g)) [
        | After v rest e d ↦ absurd (ok_err d)
        | Before e ↦
            subst (λ ts. Starts least ts stop) (sym (same ∙ ap (λ token. write_expr left (token ∷ us)) (some_is h)))
            (grows room (suc room) us stop (λ z. write_expr left (kind.Sym op ∷ z)) (leading_then (leading_expr left) (leading_one (kind.Sym op))) (x.Assign left op) (λ z. z) (λ a z. refl)
            (λ r v two. (suc (max r room), an_assignment (max r room) least left op v b t l (at_room (max r room) least left (suc room) is (omega arith)) (at_room (max r room) 0 v r two (let l = two.low in omega arith))))
            (λ v two. an_assignment room least left op v b t l (at_room room least left (suc room) is low) two) (growths.grow some 0 us stop (omega arith) e))
      ]
  operator_grows least ts left token us q p stop is same (Tests h t l n) s some low g =
      elim (stops (type_use us) _ stop (ap (λ (p : Parser x.Expr). p us) (some_is (sym n ∙ s)) ∙ g)) [
        | After v rest e d ↦ absurd (ok_err d)
        | Before e ↦
            subst (λ ts. Starts least ts stop) (sym (same ∙ ap (λ token. write_expr left (token ∷ us)) (some_is h)))
            (grows room (suc room) us stop (λ z. write_expr left (kind.Word k.Instanceof ∷ z)) (leading_then (leading_expr left) (leading_one (kind.Word k.Instanceof))) (x.IsA left) (λ z. z) (λ a z. refl)
            (λ r ty two. (suc room, a_test room least left ty t l (at_room room least left (suc room) is low) two)) (λ ty two. a_test room least left ty t l (at_room room least left (suc room) is low) two) (type_grows room us stop e))
      ]

  operator_deep : (least : ℕ) (ts : List Kind) (left : x.Expr) (token : Kind) (us : List Kind) (q : Option (Parser x.Expr)) (p : Parser x.Expr) → IsExpr (suc room) least left → ts ≡ write_expr left (token ∷ us)
      → Operated room inner list least left (Some token) q → q ≡ Some p → Starts least ts (TooDeep, token ∷ us)
  operator_deep least ts left token us q p is same (Over h n) s = absurd (none_some (sym n ∙ s))
  operator_deep least ts left token us q p is same (Chooses h t l n) s =
      let r = suc room in
      too_high least ts left token us same is (suc r) (x.Cond left sample sample) (λ z. kind.Word k.This ∷ kind.Sym y.Colon ∷ kind.Word k.This ∷ z)
      (λ z. ap (λ token. write_expr left (token ∷ kind.Word k.This ∷ kind.Sym y.Colon ∷ kind.Word k.This ∷ z)) (sym (some_is h))) (a_choice r least left sample sample t l is (sample_is r 0 (omega arith) (omega arith)) (sample_is r 1 (omega arith) (omega arith)))
  operator_deep least ts left token us q p is same (Computes op h b t l n) s =
      let r = suc room in
      let top = binary_low op in
      too_high least ts left token us same is (suc r) (x.Binary left op sample) (λ z. kind.Word k.This ∷ z) (λ z. ap (λ token. write_expr left (token ∷ kind.Word k.This ∷ z)) (sym (some_is h)))
      (a_binary r least left op sample b t l is (sample_is r (suc (binary_level op)) (omega arith) (omega arith)))
  operator_deep least ts left token us q p is same (Assigns op h b t l n) s =
      let r = suc room in
      too_high least ts left token us same is (suc r) (x.Assign left op sample) (λ z. kind.Word k.This ∷ z) (λ z. ap (λ token. write_expr left (token ∷ kind.Word k.This ∷ z)) (sym (some_is h)))
      (an_assignment r least left op sample b t l is (sample_is r 0 (omega arith) (omega arith)))
  operator_deep least ts left token us q p is same (Tests h t l n) s =
      let r = suc room in
      too_high least ts left token us same is (suc r) (x.IsA left (type_of (base.Named (name_of ([] ∷ []))) 0)) (λ z. kind.Ident [] ∷ z) (λ z. ap (λ token. write_expr left (token ∷ kind.Ident [] ∷ z)) (sym (some_is h)))
      (a_test r least left (type_of (base.Named (name_of ([] ∷ []))) 0) t l is refl)

  climb_grows : (least : ℕ) (ts : List Kind) (left : x.Expr) (us : List Kind) (stop : Fault × List Kind) → Climbed room inner list reads lists least ts (left, us) → reader.climb room inner list least left us ≡ Err stop → Starts least ts stop
  climb_grows least ts left us stop found h =
      let s = climb_halt room inner list reads lists least ts left us stop found h in
      elim s.why [
        | inl w ↦
            operator_grows least ts s.left s.token s.us (reader.operator room inner list least s.left (Some s.token)) s.p stop s.holds.is s.holds.written (operator_view room inner list least s.left (Some s.token)) s.here
            (let pos = depth_pos s.left in let low = w.0 in omega arith) w.0 w.1
        | inr w ↦
            subst (Starts least ts) w.1 (operator_deep least ts s.left s.token s.us (reader.operator room inner list least s.left (Some s.token)) s.p s.holds.is s.holds.written (operator_view room inner list least s.left (Some s.token)) s.here)
      ]

  -- ---- a level

  looser : (least : ℕ) (ts : List Kind) (stop : Fault × List Kind) → least ≤ 12 → Starts 12 ts stop → Starts least ts stop
  looser least ts stop le g =
      grows (suc room) (suc room) ts stop (λ z. z) leading_nothing (λ e. e) (λ z. z) (λ a z. refl) (λ r e is. (r, record { shaped = is.shaped; fits = (let t = is.fits.0 in omega arith, is.fits.1); low = is.low }))
      (λ e is. record { shaped = is.shaped; fits = (let t = is.fits.0 in omega arith, is.fits.1); low = is.low }) g

  pub level_grows : (least : ℕ) (ts : List Kind) (stop : Fault × List Kind) → least ≤ 12 → reader.operations room inner list Nothing least ts ≡ Err stop → Starts least ts stop
  unfolding reader.operations
  level_grows least ts stop le h =
      elim (stops (and_then (reader.operand room inner list Nothing ts) (reader.suffixes room inner list)) _ stop h) [
        | Before e ↦
            (elim (stops (reader.operand room inner list Nothing ts) _ stop e) [
              | Before i ↦ looser least ts stop le (operand_grows room inner list reads lists growths growing ts stop i)
              | After left us i d ↦ looser least ts stop le (chain_grows ts left us stop (operand_sound room inner list reads lists ts (left, us) i) d)
            ])
        | After left us e d ↦ after_chain left us e d
      ] where
        after_chain : (left : x.Expr) (us : List Kind) → and_then (reader.operand room inner list Nothing ts) (reader.suffixes room inner list) ≡ Ok (left, us) → reader.climb room inner list least left us ≡ Err stop → Starts least ts stop
        after_chain left us e d =
            let a = bind_ok (reader.operand room inner list Nothing ts) (reader.suffixes room inner list) (left, us) e in
            let chain = suffixes_sound room inner list reads lists ts a.0.0 a.0.1 (left, us) (operand_sound room inner list reads lists ts a.0 a.1) a.2 in
            let tight = chain.0.tight in
            climb_grows least ts left us stop
            (record { is = record { shaped = chain.0.shaped; fits = (omega arith, not_from_false _ chain.0.not_least); low = chain.0.low }; written = chain.0.written; ended = chain.0.ended; free = chain.1 }) d
