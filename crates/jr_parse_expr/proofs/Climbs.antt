-- Reading operators by how tightly they bind.
use Rattle.std.proofs.Common.{◌≡◌, ℕ, suc, ◌<◌, ◌≤◌, true, false, cond, List, ◌∷◌, Option, Some, None, Ok, refl, sym, ap, ◌∙◌, subst, arith, Err}
use Rattle.std.proofs.lemmas.Bool.{not-true, not_from_false}
use Rattle.jr_base.specs.declared.kind.Kind.{Kind}
use Rattle.jr_base.specs.declared.kind.Kind.TheVariants as kind
use Rattle.jr_base.specs.declared.kind.Symbol.{Symbol}
use Rattle.jr_base.specs.declared.kind.Symbol.TheVariants as y
use Rattle.jr_base.specs.declared.kind.Keyword.TheVariants as k
use Rattle.jr_tree.specs.Levels.{binary_level, is_assignment}
use Rattle.jr_tree.specs.Shape.{level, is_target}
use Rattle.jr_tree.specs.Depth.{expr_depth}
use Rattle.jr_tree.specs.Mirror.Exprs as x
use Rattle.jr_parse_laws.specs.declared.fault.Fault.{Fault}
use Rattle.jr_parse_laws.specs.Parsers.{Parser, Outcome, and_then, first, begins_with, expect}
use Rattle.jr_parse_laws.proofs.Outcomes.{bind_ok, ok_is, some_is}
use Rattle.jr_parse_laws.proofs.Exact.{expect_sound}
use Rattle.jr_parse_starts.specs.Starts.{begins_cast_operand, next_is}
use Rattle.jr_parse_expr.specs.Names.{type_use}
use Rattle.jr_parse_expr.specs.Exprs.{Lead, Nothing, suffixes, operand, choice, binary, assigned, tested, operator, turn, climb_from, climb, operations}
use Rattle.jr_parse_expr.specs.Writing.{write_expr, write_type}
use Rattle.jr_parse_expr.specs.Follow.{symbol_next, has_suffix, has_operator, LastEnds, Ends, IsExpr}
use Rattle.jr_parse_expr.proofs.Beginnings.{binary_low, target_tight, target_not_least}
use Rattle.jr_parse_expr.proofs.Followers.{needs, last_ends, suffix_free, dot_needs, bracket_needs}
use Rattle.jr_parse_expr.proofs.NameReads.{type_read, type_sound}
use Rattle.jr_parse_expr.proofs.Loops.{Halt, stays, goes, keeps, unrolls, halts}
use Rattle.jr_parse_expr.proofs.Steps.{Operated, Over, Chooses, Computes, Assigns, Tests, operator_view, operator_none, takes_question, takes_test, takes_binary, takes_assignment}
use Rattle.jr_parse_expr.proofs.Asked.{Found, ReadsExprs, ReadsLists}
use Rattle.jr_parse_expr.proofs.Arguments.{whole_read}
use Rattle.jr_parse_expr.proofs.Operands.{operand_sound}
use Rattle.jr_parse_expr.proofs.Chains.{loose_free, suffixes_stay, chain_read, suffixes_sound}

none_some : {A : Type 0} {a : A} → None ≡ Some a → ⊥
none_some e = cc

-- ---- which operators end what stands before them

binary_needs : (op : Symbol) → 0 < binary_level op → needs (Some (kind.Sym op)) ≡ binary_level op
binary_needs y.OrOr h = refl
binary_needs y.AndAnd h = refl
binary_needs y.Or h = refl
binary_needs y.Caret h = refl
binary_needs y.And h = refl
binary_needs y.Equal h = refl
binary_needs y.NotEqual h = refl
binary_needs y.Less h = refl
binary_needs y.Greater h = refl
binary_needs y.LessEqual h = refl
binary_needs y.GreaterEqual h = refl
binary_needs y.ShiftLeft h = refl
binary_needs y.ShiftRight h = refl
binary_needs y.ShiftRightUnsigned h = refl
binary_needs y.Plus h = refl
binary_needs y.Minus h = refl
binary_needs y.Star h = refl
binary_needs y.Slash h = refl
binary_needs y.Percent h = refl
binary_needs _ h = absurd (omega arith)

binary_no_cast : (op : Symbol) → 0 < binary_level op → next_is begins_cast_operand (Some (kind.Sym op)) ≡ false
binary_no_cast y.OpenParen h = absurd (omega arith)
binary_no_cast y.Not h = absurd (omega arith)
binary_no_cast y.Tilde h = absurd (omega arith)
binary_no_cast op h = refl

pub assignment_needs : (op : Symbol) → is_assignment op ≡ true → needs (Some (kind.Sym op)) ≡ 14
assignment_needs y.Question h = absurd (cc)
assignment_needs y.Dot h = absurd (cc)
assignment_needs y.OpenBracket h = absurd (cc)
assignment_needs y.PlusPlus h = absurd (cc)
assignment_needs y.MinusMinus h = absurd (cc)
assignment_needs op h = ap (λ b. cond b 14 (binary_level op)) h

pub assignment_no_cast : (op : Symbol) → is_assignment op ≡ true → next_is begins_cast_operand (Some (kind.Sym op)) ≡ false
assignment_no_cast y.OpenParen h = absurd (cc)
assignment_no_cast y.Not h = absurd (cc)
assignment_no_cast y.Tilde h = absurd (cc)
assignment_no_cast op h = refl

pub assignment_no_dot : (op : Symbol) → is_assignment op ≡ true → begins_with y.Dot (Some (kind.Sym op)) ≡ false
assignment_no_dot y.Dot h = absurd (cc)
assignment_no_dot op h = refl

pub assignment_no_bracket : (op : Symbol) → is_assignment op ≡ true → begins_with y.OpenBracket (Some (kind.Sym op)) ≡ false
assignment_no_bracket y.OpenBracket h = absurd (cc)
assignment_no_bracket op h = refl

pub assignment_free : (e : x.Expr) (op : Symbol) → is_assignment op ≡ true → has_suffix e (Some op) ≡ false
assignment_free e y.Dot h = absurd (cc)
assignment_free e y.OpenBracket h = absurd (cc)
assignment_free e y.PlusPlus h = absurd (cc)
assignment_free e y.MinusMinus h = absurd (cc)
assignment_free e op h = refl

module _ (room : ℕ) (inner : Lead → ℕ → Parser x.Expr) (list : Parser x.InitList) where
  -- ---- each operator adds a level

  choice_raises : (left : x.Expr) (ts : List Kind) (r : x.Expr × List Kind) → choice room inner list left ts ≡ Ok r → expr_depth left < expr_depth r.0
  choice_raises left ts r h =
      let a = bind_ok (inner Nothing 0 ts) _ r h in
      let b = bind_ok (expect y.Colon a.0.1) _ r a.2 in
      let c = bind_ok (inner Nothing 1 b.0.1) _ r b.2 in
      subst (λ (r : x.Expr × List Kind). expr_depth left < expr_depth r.0) (ok_is c.2) (omega arith)

  binary_raises : (left : x.Expr) (op : Symbol) (ts : List Kind) (r : x.Expr × List Kind) → binary room inner list left op ts ≡ Ok r → expr_depth left < expr_depth r.0
  binary_raises left op ts r h =
      let a = bind_ok (inner Nothing (suc (binary_level op)) ts) _ r h in
      subst (λ (r : x.Expr × List Kind). expr_depth left < expr_depth r.0) (ok_is a.2) (omega arith)

  assigned_raises : (left : x.Expr) (op : Symbol) (ts : List Kind) (r : x.Expr × List Kind) → assigned room inner list left op ts ≡ Ok r → expr_depth left < expr_depth r.0
  assigned_raises left op ts r h =
      let a = bind_ok (inner Nothing 0 ts) _ r h in
      subst (λ (r : x.Expr × List Kind). expr_depth left < expr_depth r.0) (ok_is a.2) (omega arith)

  tested_raises : (left : x.Expr) (ts : List Kind) (r : x.Expr × List Kind) → tested room inner list left ts ≡ Ok r → expr_depth left < expr_depth r.0
  tested_raises left ts r h =
      let a = bind_ok (type_use ts) _ r h in
      subst (λ (r : x.Expr × List Kind). expr_depth left < expr_depth r.0) (ok_is a.2) (omega arith)

  operator_raises : (least : ℕ) (left : x.Expr) (o : Option Kind) (q : Option (Parser x.Expr)) (p : Parser x.Expr) → Operated room inner list least left o q → q ≡ Some p
      → (us : List Kind) (e : x.Expr) (rest : List Kind) → p us ≡ Ok (e, rest) → expr_depth left < expr_depth e
  operator_raises least left o q p (Over h n) s us e rest g = absurd (none_some (sym n ∙ s))
  operator_raises least left o q p (Chooses h t l n) s us e rest g = choice_raises left us (e, rest) (ap (λ (p : Parser x.Expr). p us) (some_is (sym n ∙ s)) ∙ g)
  operator_raises least left o q p (Computes op h b t l n) s us e rest g = binary_raises left op us (e, rest) (ap (λ (p : Parser x.Expr). p us) (some_is (sym n ∙ s)) ∙ g)
  operator_raises least left o q p (Assigns op h b t l n) s us e rest g = assigned_raises left op us (e, rest) (ap (λ (p : Parser x.Expr). p us) (some_is (sym n ∙ s)) ∙ g)
  operator_raises least left o q p (Tests h t l n) s us e rest g = tested_raises left us (e, rest) (ap (λ (p : Parser x.Expr). p us) (some_is (sym n ∙ s)) ∙ g)

  operator_over : (least : ℕ) (left : x.Expr) (o : Option Kind) (q : Option (Parser x.Expr)) → Operated room inner list least left o q → q ≡ None → has_operator least left o ≡ false
  operator_over least left o q (Over h n) s = h
  operator_over least left o q (Chooses h t l n) s = absurd (none_some (sym s ∙ n))
  operator_over least left o q (Computes op h b t l n) s = absurd (none_some (sym s ∙ n))
  operator_over least left o q (Assigns op h b t l n) s = absurd (none_some (sym s ∙ n))
  operator_over least left o q (Tests h t l n) s = absurd (none_some (sym s ∙ n))

  module _ (least : ℕ) where
    abbrev pub step : x.Expr → List Kind → Option (Parser x.Expr)
    step left ts = operator room inner list least left (first ts)

    abbrev pub loop : ℕ → x.Expr → Parser x.Expr
    loop turns = climb_from room inner list turns least

    pub raises : (left : x.Expr) (ts : List Kind) (p : Parser x.Expr) → step left ts ≡ Some p → (us : List Kind) (e : x.Expr) (rest : List Kind) → p us ≡ Ok (e, rest) → expr_depth left < expr_depth e
    raises left ts p s us e rest h = operator_raises least left (first ts) (step left ts) p (operator_view room inner list least left (first ts)) s us e rest h

    pub climb_goes : (left : x.Expr) (token : Kind) (ts : List Kind) (p : Parser x.Expr) → operator room inner list least left (Some token) ≡ Some p → expr_depth left ≤ room
        → climb room inner list least left (token ∷ ts) ≡ and_then (p ts) (climb room inner list least)
    unfolding climb
    climb_goes left token ts p h low = goes room inner list step loop (λ left ts. refl) (λ turns left ts. refl) raises left token ts p h low

    pub climb_unroll : (left : x.Expr) (ts : List Kind) → climb room inner list least left ts ≡ turn room inner list left (operator room inner list least left (first ts)) (climb room inner list least) ts
    unfolding climb
    climb_unroll left ts = unrolls room inner list step loop (λ left ts. refl) (λ turns left ts. refl) raises left ts

    pub climb_stays : (left : x.Expr) (ts : List Kind) → has_operator least left (first ts) ≡ false → climb room inner list least left ts ≡ Ok (left, ts)
    unfolding climb
    climb_stays left ts h =
        stays room inner list step loop (λ left ts. refl) (λ turns left ts. refl) raises left ts (operator_none room inner list least left (first ts) h)

  module _ (reads : ReadsExprs room inner) (lists : ReadsLists room list) where
    -- ---- what is written is read

    abbrev whole : ℕ → List Kind → Outcome x.Expr
    whole least ts = and_then (and_then (operand room inner list Nothing ts) (suffixes room inner list)) (climb room inner list least)

    pub reaches : (least : ℕ) (e : x.Expr) (rest : List Kind) → IsExpr (suc room) least e → LastEnds e (first rest) → has_suffix e (symbol_next (first rest)) ≡ false
        → whole least (write_expr e rest) ≡ climb room inner list least e rest
    reaches least (x.Assign target op value) rest is ended free =
        let s = is.shaped in
        let low = is.low in
        let tight : level target ≡ 14 = target_tight target s.1 in
        let n : needs (Some (kind.Sym op)) ≡ 14 = assignment_needs op s.0 in
        let loose : least ≤ 0 = is.fits.0 in
        let ts = write_expr value rest in
        reaches least target (kind.Sym op ∷ ts) (record { shaped = s.2; fits = (omega arith, not_from_false _ (target_not_least target s.1)); low = omega arith })
        (last_ends target (Some (kind.Sym op)) s.2 (assignment_no_cast op s.0) (omega arith) (λ _. assignment_no_dot op s.0) (λ _. assignment_no_bracket op s.0))
        (assignment_free target op s.0)
        ∙ climb_goes least target (kind.Sym op) ts _ (takes_assignment room inner list least target op loose s.0 s.1) (omega arith)
        ∙ rw (reads.complete 0 value rest (record { shaped = s.4; fits = s.3; low = omega arith }) ended) refl
    reaches least (x.Cond c a b) rest is ended free =
        let s = is.shaped in
        let low = is.low in
        let loose : least ≤ 1 = is.fits.0 in
        let tight : 2 ≤ level c = s.0.0 in
        let us = kind.Sym y.Colon ∷ write_expr b rest in
        let ts = write_expr a us in
        reaches least c (kind.Sym y.Question ∷ ts) (record { shaped = s.1; fits = (omega arith, s.0.1); low = omega arith })
        (last_ends c (Some (kind.Sym y.Question)) s.1 refl tight (λ n. refl) (λ n. refl)) (suffix_free c (Some (kind.Sym y.Question)) (omega arith))
        ∙ climb_goes least c (kind.Sym y.Question) ts _ (takes_question room inner list least c loose tight) (omega arith)
        ∙ rw (
          whole_read room inner list reads a us (record { shaped = s.3; fits = s.2; low = omega arith }) (record { cast = refl; none = refl }),
          reads.complete 1 b rest (record { shaped = s.5; fits = s.4; low = omega arith }) ended,
        ) refl
    reaches least (x.Binary left op right) rest is ended free =
        let s = is.shaped in
        let low = is.low in
        let loose : least ≤ binary_level op = is.fits.0 in
        let tight : binary_level op ≤ level left = s.1.0 in
        let n : needs (Some (kind.Sym op)) ≡ binary_level op = binary_needs op s.0 in
        let top = binary_low op in
        let ts = write_expr right rest in
        reaches least left (kind.Sym op ∷ ts) (record { shaped = s.2; fits = (omega arith, s.1.1); low = omega arith })
        (last_ends left (Some (kind.Sym op)) s.2 (binary_no_cast op s.0) (omega arith) (λ _. dot_needs (Some (kind.Sym op)) (omega arith)) (λ _. bracket_needs (Some (kind.Sym op)) (omega arith)))
        (suffix_free left (Some (kind.Sym op)) (omega arith))
        ∙ climb_goes least left (kind.Sym op) ts _ (takes_binary room inner list least left op s.0 loose tight) (omega arith)
        ∙ rw (reads.complete (suc (binary_level op)) right rest (record { shaped = s.4; fits = s.3; low = omega arith }) ended) refl
    reaches least (x.IsA value ty) rest is ended free =
        let s = is.shaped in
        let low = is.low in
        let loose : least ≤ 8 = is.fits.0 in
        let tight : 8 ≤ level value = s.0.0 in
        let ts = write_type ty rest in
        reaches least value (kind.Word k.Instanceof ∷ ts) (record { shaped = s.1; fits = (omega arith, s.0.1); low = omega arith })
        (last_ends value (Some (kind.Word k.Instanceof)) s.1 refl tight (λ n. refl) (λ n. refl)) (suffix_free value (Some (kind.Word k.Instanceof)) (omega arith))
        ∙ climb_goes least value (kind.Word k.Instanceof) ts _ (takes_test room inner list least value loose tight) (omega arith)
        ∙ rw (type_read ty rest s.2 ended) refl
    reaches least e rest is ended free =
        ap (λ o. and_then o (climb room inner list least))
        (chain_read room inner list reads lists e rest is.shaped (omega arith) (not-true _ is.fits.1) is.low ended ∙ suffixes_stay room inner list e rest free)

    pub level_complete : (least : ℕ) (e : x.Expr) (rest : List Kind) → IsExpr (suc room) least e → Ends least e (first rest) → operations room inner list Nothing least (write_expr e rest) ≡ Ok (e, rest)
    unfolding operations
    level_complete least e rest is ended = reaches least e rest is ended.0 ended.1.0 ∙ climb_stays least e rest ended.1.1

    -- ---- what is read is written

    pub record Climbed (least : ℕ) (ts : List Kind) (r : x.Expr × List Kind) : Type 0 where
      pub is : IsExpr (suc room) least r.0
      pub written : ts ≡ write_expr r.0 r.1
      pub ended : LastEnds r.0 (first r.1)
      pub free : has_suffix r.0 (symbol_next (first r.1)) ≡ false

    choice_sound : (least : ℕ) (ts : List Kind) (left : x.Expr) (token : Kind) (us : List Kind) (r : x.Expr × List Kind) → Climbed least ts (left, token ∷ us) → token ≡ kind.Sym y.Question → least ≤ 1 → 2 ≤ level left
        → expr_depth left ≤ room → choice room inner list left us ≡ Ok r → Climbed least ts r
    choice_sound least ts left token us r found here loose tight low h =
        let a = bind_ok (inner Nothing 0 us) _ r h in
        let yes = reads.sound 0 us a.0 (omega arith) a.1 in
        let b = bind_ok (expect y.Colon a.0.1) _ r a.2 in
        let colon = expect_sound y.Colon a.0.1 b.0 b.1 in
        let c = bind_ok (inner Nothing 1 b.0.1) _ r b.2 in
        let other = reads.sound 1 b.0.1 c.0 (omega arith) c.1 in
        let low_yes = yes.is.low in
        let low_other = other.is.low in
        subst (Climbed least ts) (ok_is c.2)
        (record {
          is = record { shaped = ((tight, found.is.fits.1), found.is.shaped, yes.is.fits, yes.is.shaped, other.is.fits, other.is.shaped); fits = (loose, refl); low = omega arith };
          written = found.written ∙ ap (λ token. write_expr left (token ∷ us)) here
              ∙ ap (λ us. write_expr left (kind.Sym y.Question ∷ us)) (yes.written ∙ ap (write_expr a.0.0) (colon ∙ ap (λ us. kind.Sym y.Colon ∷ us) other.written));
          ended = other.ended;
          free = loose_free (x.Cond left a.0.0 c.0.0) (symbol_next (first c.0.1)) (omega arith);
        })

    binary_sound : (least : ℕ) (ts : List Kind) (left : x.Expr) (token : Kind) (us : List Kind) (op : Symbol) (r : x.Expr × List Kind) → Climbed least ts (left, token ∷ us) → token ≡ kind.Sym op → 0 < binary_level op
        → least ≤ binary_level op → binary_level op ≤ level left → expr_depth left ≤ room → binary room inner list left op us ≡ Ok r → Climbed least ts r
    binary_sound least ts left token us op r found here some loose tight low h =
        let top = binary_low op in
        let a = bind_ok (inner Nothing (suc (binary_level op)) us) _ r h in
        let right = reads.sound (suc (binary_level op)) us a.0 (omega arith) a.1 in
        let low_right = right.is.low in
        subst (Climbed least ts) (ok_is a.2)
        (record {
          is = record { shaped = (some, (tight, found.is.fits.1), found.is.shaped, right.is.fits, right.is.shaped); fits = (loose, refl); low = omega arith };
          written = found.written ∙ ap (λ token. write_expr left (token ∷ us)) here ∙ ap (λ us. write_expr left (kind.Sym op ∷ us)) right.written;
          ended = right.ended;
          free = loose_free (x.Binary left op a.0.0) (symbol_next (first a.0.1)) (omega arith);
        })

    assigned_sound : (least : ℕ) (ts : List Kind) (left : x.Expr) (token : Kind) (us : List Kind) (op : Symbol) (r : x.Expr × List Kind) → Climbed least ts (left, token ∷ us) → token ≡ kind.Sym op → is_assignment op ≡ true
        → least ≤ 0 → is_target left ≡ true → expr_depth left ≤ room → assigned room inner list left op us ≡ Ok r → Climbed least ts r
    assigned_sound least ts left token us op r found here some loose target low h =
        let a = bind_ok (inner Nothing 0 us) _ r h in
        let value = reads.sound 0 us a.0 (omega arith) a.1 in
        let low_value = value.is.low in
        subst (Climbed least ts) (ok_is a.2)
        (record {
          is = record { shaped = (some, target, found.is.shaped, value.is.fits, value.is.shaped); fits = (loose, refl); low = omega arith };
          written = found.written ∙ ap (λ token. write_expr left (token ∷ us)) here ∙ ap (λ us. write_expr left (kind.Sym op ∷ us)) value.written;
          ended = value.ended;
          free = loose_free (x.Assign left op a.0.0) (symbol_next (first a.0.1)) (omega arith);
        })

    tested_sound : (least : ℕ) (ts : List Kind) (left : x.Expr) (token : Kind) (us : List Kind) (r : x.Expr × List Kind) → Climbed least ts (left, token ∷ us) → token ≡ kind.Word k.Instanceof → least ≤ 8 → 8 ≤ level left
        → expr_depth left ≤ room → tested room inner list left us ≡ Ok r → Climbed least ts r
    tested_sound least ts left token us r found here loose tight low h =
        let a = bind_ok (type_use us) _ r h in
        let ty = type_sound us a.0 a.1 in
        subst (Climbed least ts) (ok_is a.2)
        (record {
          is = record { shaped = ((tight, found.is.fits.1), found.is.shaped, ty.is); fits = (loose, refl); low = omega arith };
          written = found.written ∙ ap (λ token. write_expr left (token ∷ us)) here ∙ ap (λ us. write_expr left (kind.Word k.Instanceof ∷ us)) ty.written;
          ended = ty.ended;
          free = loose_free (x.IsA left a.0.0) (symbol_next (first a.0.1)) (omega arith);
        })

    operator_sound : (least : ℕ) (ts : List Kind) (left : x.Expr) (token : Kind) (us : List Kind) (q : Option (Parser x.Expr)) (p : Parser x.Expr) (r : x.Expr × List Kind) → Climbed least ts (left, token ∷ us)
        → Operated room inner list least left (Some token) q → q ≡ Some p → expr_depth left ≤ room → p us ≡ Ok r → Climbed least ts r
    operator_sound least ts left token us q p r found (Over h n) s low g = absurd (none_some (sym n ∙ s))
    operator_sound least ts left token us q p r found (Chooses h t l n) s low g =
        choice_sound least ts left token us r found (some_is h) t l low (ap (λ (p : Parser x.Expr). p us) (some_is (sym n ∙ s)) ∙ g)
    operator_sound least ts left token us q p r found (Computes op h b t l n) s low g =
        binary_sound least ts left token us op r found (some_is h) b t l low (ap (λ (p : Parser x.Expr). p us) (some_is (sym n ∙ s)) ∙ g)
    operator_sound least ts left token us q p r found (Assigns op h b t l n) s low g =
        assigned_sound least ts left token us op r found (some_is h) b t l low (ap (λ (p : Parser x.Expr). p us) (some_is (sym n ∙ s)) ∙ g)
    operator_sound least ts left token us q p r found (Tests h t l n) s low g =
        tested_sound least ts left token us r found (some_is h) t l low (ap (λ (p : Parser x.Expr). p us) (some_is (sym n ∙ s)) ∙ g)

    -- where the climb stopped
    pub climb_halt : (least : ℕ) (ts : List Kind) (left : x.Expr) (us : List Kind) (stop : Fault × List Kind) → Climbed least ts (left, us) → climb room inner list least left us ≡ Err stop
        → Halt room inner list (step least) (loop least) (λ left ts. refl) (λ turns left ts. refl) (raises least) (λ left us. Climbed least ts (left, us)) stop
    unfolding climb
    climb_halt least ts left us stop found h =
        halts room inner list (step least) (loop least) (λ left ts. refl) (λ turns left ts. refl) (raises least) (λ left us. Climbed least ts (left, us))
        (λ left token us p e rest found s low g. operator_sound least ts left token us (step least left (token ∷ us)) p (e, rest) found (operator_view room inner list least left (Some token)) s low g)
        (λ left. refl) (suc room) left us stop (omega arith) found h

    climb_sound : (least : ℕ) (ts : List Kind) (left : x.Expr) (us : List Kind) (r : x.Expr × List Kind) → Climbed least ts (left, us) → climb room inner list least left us ≡ Ok r
        → Climbed least ts r × (has_operator least r.0 (first r.1) ≡ false)
    unfolding climb
    climb_sound least ts left us r found h =
        let kept = keeps room inner list (step least) (loop least) (λ left ts. refl) (λ turns left ts. refl) (raises least) (λ left us. Climbed least ts (left, us))
        (λ left token us p e rest found s low g. operator_sound least ts left token us (step least left (token ∷ us)) p (e, rest) found (operator_view room inner list least left (Some token)) s low g)
        (suc room) left us r found h in
        (kept.0, operator_over least r.0 (first r.1) (step least r.0 r.1) (operator_view room inner list least r.0 (first r.1)) kept.1)

    pub level_sound : (least : ℕ) (ts : List Kind) (r : x.Expr × List Kind) → least ≤ 12 → operations room inner list Nothing least ts ≡ Ok r → Found (suc room) least ts r
    unfolding operations
    level_sound least ts r some h =
        let b = bind_ok (and_then (operand room inner list Nothing ts) (suffixes room inner list)) _ r h in
        let a = bind_ok (operand room inner list Nothing ts) _ b.0 b.1 in
        let chain = suffixes_sound room inner list reads lists ts a.0.0 a.0.1 b.0 (operand_sound room inner list reads lists ts a.0 a.1) a.2 in
        let tight = chain.0.tight in
        let found : Climbed least ts b.0 = record {
          is = record { shaped = chain.0.shaped; fits = (omega arith, not_from_false _ chain.0.not_least); low = chain.0.low };
          written = chain.0.written;
          ended = chain.0.ended;
          free = chain.1;
        } in
        let climbed = climb_sound least ts b.0.0 b.0.1 r found b.2 in
        record { is = climbed.0.is; written = climbed.0.written; ended = (climbed.0.ended, (climbed.0.free, climbed.1)) }
