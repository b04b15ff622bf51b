-- `for`, from what its functions call (JLS 14.14.1).
use Rattle.std.proofs.Common.{◌≡◌, refl, sym, ◌∙◌, ap, subst, ℕ, suc, ◌+◌, ◌-◌, ◌<◌, ◌≤◌, ◌^◌, Bool, true, false, cond, List, [], ◌∷◌, ◌++◌, append-nil, append_assoc, map, length, Option, Some, None, nat_eq, nat_lt, arith}
use Rattle.std.proofs.lemmas.Bool.{false≢true}
use Rattle.std.proofs.lemmas.Bool.Decides.{Decides-eqb, Decides-ltb}
use Rattle.jr_core.specs.declared.code.Code.{Code}
use Rattle.jr_core.specs.declared.code.Code.TheVariants as c
use Rattle.jr_tree.specs.Rows.{label, end}
use Rattle.jr_codes.specs.declared.source.Source.{Source}
use Rattle.jr_codes.specs.Facts.{Facts}
use Rattle.jr_codes.specs.Making.{Below, code, unknown, AreBefore, Parted, Stands}
use Rattle.jr_codes.specs.Waiting.{front, behind, StandsBefore, TakesFront}
use Rattle.jr_codes.specs.Reads.{rows_of, facts, Becomes}
use Rattle.jr_codes.proofs.Fronts.{front_none, behind_none}
use Rattle.jr_expressions.specs.Statements.{is_list_of_expressions, row_behind, last_from, header_made, behind_header, body_made, updates_made, condition_made, for_made}
use Rattle.jr_expressions.proofs.Standing.{first_or, others, left_count}
use Rattle.jr_expressions.proofs.Operated.{one_counted, two_counted}
use Rattle.jr_elab.specs.Stacked.{TakesCondition, TakesEvals, TakesHeader, AddsEval}
use Rattle.jr_elab.proofs.Left.{none_added, not_none}

-- ---- expressions that become statements

front_one : (e row : ℕ) (a : Code) (old new : Below) → nat_lt row e ≡ true → old ≡ (row, a) ∷ new → front e old ≡ a ∷ front e new
front_one e row a old new lt is = ap (front e) is ∙ ap (λ b. cond b (a ∷ front e new) []) lt

behind_one : (e row : ℕ) (a : Code) (old new : Below) → nat_lt row e ≡ true → old ≡ (row, a) ∷ new → behind e old ≡ behind e new
behind_one e row a old new lt is = ap (behind e) is ∙ ap (λ b. cond b (behind e new) ((row, a) ∷ new)) lt

-- so far these are taken
pub record EvalsSo (e : ℕ) (first now : Below) (all : List Code) : Type 0 where
  pub taken : all ++ map c.Eval (front e now) ≡ map c.Eval (front e first)
  pub left : behind e now ≡ behind e first

pub evals_none : (e : ℕ) (first : Below) → EvalsSo e first first []
evals_none e first = record { taken = refl; left = refl }

pub evals_more : (e row : ℕ) (first old new : Below) (all after : List Code) → EvalsSo e first old all → StandsBefore e old (Some row) → AddsEval row old new all after → EvalsSo e first new after
evals_more e row first old new all after so lt one = record {
  taken = ap (λ xs. xs ++ map c.Eval (front e new)) one.adds ∙ append_assoc all (c.Eval one.value ∷ []) (map c.Eval (front e new))
      ∙ ap (λ xs. all ++ map c.Eval xs) (sym (front_one e row one.value old new lt one.was)) ∙ so.taken;
  left = sym (behind_one e row one.value old new lt one.was) ∙ so.left;
}

pub evals_all : (e : ℕ) (first now : Below) (all : List Code) → EvalsSo e first now all → StandsBefore e now None → TakesEvals e first now all
evals_all e first now all so last = record {
  taken = sym (append-nil all) ∙ ap (λ xs. all ++ map c.Eval xs) (sym (front_none e now last)) ∙ so.taken;
  left = sym (behind_none e now last) ∙ so.left;
}

-- ---- the header

pub header_evals : (f : Facts) (n e : ℕ) (old new : Below) (all : List Code) → e ≡ end f.rows n → is_list_of_expressions (label f.rows n) ≡ true → TakesEvals e old new all → TakesHeader f n true old new all
header_evals f n e old new all same is takes = record {
  taken = takes.taken ∙ ap (λ k. map c.Eval (front k old)) same ∙ ap (λ b. cond b (map c.Eval (front (end f.rows n) old)) (front (end f.rows n) old)) (sym is);
  left = takes.left ∙ ap (λ k. behind k old) same;
}

pub header_plain : (f : Facts) (n e : ℕ) (old new : Below) (all : List Code) → e ≡ end f.rows n → is_list_of_expressions (label f.rows n) ≡ false → TakesFront e old new all → TakesHeader f n true old new all
header_plain f n e old new all same is takes = record {
  taken = takes.taken ∙ ap (λ k. front k old) same ∙ ap (λ b. cond b (map c.Eval (front (end f.rows n) old)) (front (end f.rows n) old)) (sym is);
  left = takes.left ∙ ap (λ k. behind k old) same;
}

pub header_along : {f : Facts} {n : ℕ} {old new : Below} {all : List Code} (there : Bool) {is : Bool} → there ≡ is → TakesHeader f n is old new all → TakesHeader f n there old new all
header_along {f} {n} {old} {new} {all} there same h = subst (λ b. TakesHeader f n b old new all) (sym same) h

pub header_away : (f : Facts) (n : ℕ) (old : Below) → TakesHeader f n false old old []
header_away f n old = record { taken = refl; left = refl }

-- ---- the last of siblings

pub behind_is : (f : Facts) (n : ℕ) (there : Bool) {is : Bool} {row : ℕ} → there ≡ is → row ≡ row_behind f n is → row ≡ row_behind f n there
behind_is f n there {row = row} same is = is ∙ ap (row_behind f n) (sym same)

-- so far the last is sought from this row on
pub record LastSo (f : Facts) (from stop turn child : ℕ) : Type 0 where
  pub is : last_from f (stop - turn) child stop ≡ last_from f (stop - from) from stop
  pub inside : from < stop → child < stop

pub last_none : (f : Facts) (from stop : ℕ) → LastSo f from stop from from
last_none f from stop = record { is = refl; inside = λ lt. lt }

one_round : (turn stop : ℕ) → turn < stop → stop - turn ≡ suc (stop - (turn + 1))
one_round turn stop lt = omega (arith, lt)

last_step : (f : Facts) (turn stop child : ℕ) → turn < stop → last_from f (stop - turn) child stop ≡ cond (nat_lt (end f.rows child) stop) (last_from f (stop - (turn + 1)) (end f.rows child) stop) child
last_step f turn stop child lt = ap (λ k. last_from f k child stop) (one_round turn stop lt)

from_less : (from turn stop : ℕ) → from ≤ turn → turn < stop → from < stop
from_less from turn stop le lt = omega (arith, le, lt)

child_counted : (child stop bound : ℕ) → child < stop → stop < bound → child + 1 < bound
child_counted child stop bound lt le = omega (arith, lt, le)

less_true : (a b : ℕ) → a < b → nat_lt a b ≡ true
less_true a b lt = (Decides-ltb a b).1 lt

not_below : (a b : ℕ) → b ≤ a → a < b → ⊥
not_below a b le lt = omega (arith, le, lt)

less_false_by : (t : Bool) (a b : ℕ) → nat_lt a b ≡ t → b ≤ a → t ≡ false
less_false_by true a b lt le = absurd (not_below a b le ((Decides-ltb a b).0 lt))
less_false_by false a b lt le = refl

less_false : (a b : ℕ) → b ≤ a → nat_lt a b ≡ false
less_false a b le = less_false_by (nat_lt a b) a b refl le

pub last_more : (f : Facts) (from stop turn child next bound : ℕ) → LastSo f from stop turn child → from ≤ turn → turn < stop → stop < bound → (child + 1 < bound → next ≡ end f.rows child) → next < stop
    → LastSo f from stop (turn + 1) next
last_more f from stop turn child next bound so le lt few at less =
    let same : next ≡ end f.rows child = at (child_counted child stop bound (so.inside (from_less from turn stop le lt)) few) in
    record {
      is = ap (λ k. last_from f (stop - (turn + 1)) k stop) same ∙ sym (last_step f turn stop child lt
          ∙ ap (λ b. cond b (last_from f (stop - (turn + 1)) (end f.rows child) stop) child) (less_true (end f.rows child) stop (subst (λ k. k < stop) same less))) ∙ so.is;
      inside = λ any. less;
    }

pub last_found : (f : Facts) (from stop turn child next bound : ℕ) → LastSo f from stop turn child → from ≤ turn → turn < stop → stop < bound → (child + 1 < bound → next ≡ end f.rows child) → stop ≤ next
    → child ≡ last_from f (stop - from) from stop
last_found f from stop turn child next bound so le lt few at more =
    let same : next ≡ end f.rows child = at (child_counted child stop bound (so.inside (from_less from turn stop le lt)) few) in
    sym (last_step f turn stop child lt ∙ ap (λ b. cond b (last_from f (stop - (turn + 1)) (end f.rows child) stop) child) (less_false (end f.rows child) stop (subst (λ k. stop ≤ k) same more))) ∙ so.is

no_round : (turn stop : ℕ) → stop ≤ turn → stop - turn ≡ 0
no_round turn stop le = omega (arith, le)

pub last_end : (f : Facts) (from stop turn child : ℕ) → LastSo f from stop turn child → stop ≤ turn → child ≡ last_from f (stop - from) from stop
last_end f from stop turn child so le = sym (ap (λ k. last_from f k child stop) (no_round turn stop le)) ∙ so.is

-- ---- parts before a row and behind it, where some are left behind it

front_by : (b : Bool) (q p : ℕ × Code) (xs ys : List Code) (zs ws ps : Below) → (zs ≡ p ∷ ps → xs ≡ ys) → cond b zs ws ≡ p ∷ ps → cond b (q.1 ∷ xs) [] ≡ cond b (q.1 ∷ ys) []
front_by true q p xs ys zs ws ps same is = ap (λ all. q.1 ∷ all) (same is)
front_by false q p xs ys zs ws ps same is = refl

front_more : (e : ℕ) (parts rest ps : Below) (p : ℕ × Code) → behind e parts ≡ p ∷ ps → front e (parts ++ rest) ≡ front e parts
front_more e [] rest ps p is = absurd (not_none p ps (sym is))
front_more e (q ∷ qs) rest ps p is = front_by (nat_lt q.0 e) q p (front e (qs ++ rest)) (front e qs) (behind e qs) (q ∷ qs) ps (front_more e qs rest ps p) is

behind_by : (b : Bool) (q p : ℕ × Code) (xs zs qs rest ps : Below) → (zs ≡ p ∷ ps → xs ≡ zs ++ rest) → cond b zs (q ∷ qs) ≡ p ∷ ps → cond b xs (q ∷ (qs ++ rest)) ≡ cond b zs (q ∷ qs) ++ rest
behind_by true q p xs zs qs rest ps same is = same is
behind_by false q p xs zs qs rest ps same is = refl

behind_more : (e : ℕ) (parts rest ps : Below) (p : ℕ × Code) → behind e parts ≡ p ∷ ps → behind e (parts ++ rest) ≡ behind e parts ++ rest
behind_more e [] rest ps p is = absurd (not_none p ps (sym is))
behind_more e (q ∷ qs) rest ps p is = behind_by (nat_lt q.0 e) q p (behind e (qs ++ rest)) (behind e qs) qs rest ps (behind_more e qs rest ps p) is

before_by : (b : Bool) (e : ℕ) (zs ws : Below) → AreBefore e zs → AreBefore e ws → AreBefore e (cond b zs ws)
before_by true e zs ws one other = one
before_by false e zs ws one other = other

pub behind_before : (stop e : ℕ) (parts : Below) → AreBefore e parts → AreBefore e (behind stop parts)
behind_before stop e [] h = tt
behind_before stop e (p ∷ ps) h = before_by (nat_lt p.0 stop) e (behind stop ps) (p ∷ ps) (behind_before stop e ps h.1) h

-- ---- what stands behind the header

pub record HeaderSplit (f : Facts) (k e : ℕ) (there : Bool) (parts rest : Below) : Type 0 where
  pub front : header_made f k there (parts ++ rest) ≡ header_made f k there parts
  pub behind : behind_header f k there (parts ++ rest) ≡ behind_header f k there parts ++ rest
  pub before : AreBefore e (behind_header f k there parts)

header_split : (there : Bool) (f : Facts) (k e : ℕ) (parts rest ps : Below) (p : ℕ × Code) → AreBefore e parts → behind_header f k there parts ≡ p ∷ ps → HeaderSplit f k e there parts rest
header_split true f k e parts rest ps p inside is = record {
  front = ap (λ xs. cond (is_list_of_expressions (label f.rows k)) (map c.Eval xs) xs) (front_more (end f.rows k) parts rest ps p is);
  behind = behind_more (end f.rows k) parts rest ps p is;
  before = behind_before (end f.rows k) e parts inside;
}
header_split false f k e parts rest ps p inside is = record { front = refl; behind = refl; before = inside }

-- ---- what is taken is not more than there is

not_more : (a : ℕ) → a ≤ a
not_more a = omega arith

one_less : (a b : ℕ) → a ≤ b → a ≤ suc b
one_less a b le = omega (arith, le)

up_to : (a b d : ℕ) → a ≤ b → b ≤ d → a ≤ d
up_to a b d le more = omega (arith, le, more)

short_by : (b : Bool) (q : ℕ × Code) (zs qs : Below) → length zs ≤ length qs → length (cond b zs (q ∷ qs)) ≤ suc (length qs)
short_by true q zs qs le = one_less (length zs) (length qs) le
short_by false q zs qs le = not_more (suc (length qs))

behind_short : (e : ℕ) (all : Below) → length (behind e all) ≤ length all
behind_short e [] = not_more 0
behind_short e (q ∷ qs) = short_by (nat_lt q.0 e) q (behind e qs) qs (behind_short e qs)

fewer_by : (b : Bool) (q : ℕ × Code) (xs zs qs rest : Below) → (zs ≡ [] → length xs ≤ length rest) → cond b zs (q ∷ qs) ≡ [] → length (cond b xs (q ∷ (qs ++ rest))) ≤ length rest
fewer_by true q xs zs qs rest le none = le none
fewer_by false q xs zs qs rest le none = absurd (not_none q qs none)

behind_fewer : (e : ℕ) (parts rest : Below) → behind e parts ≡ [] → length (behind e (parts ++ rest)) ≤ length rest
behind_fewer e [] rest none = behind_short e rest
behind_fewer e (q ∷ qs) rest none = fewer_by (nat_lt q.0 e) q (behind e (qs ++ rest)) (behind e qs) qs rest (behind_fewer e qs rest) none

too_few : (a b : ℕ) → suc a ≤ b → a ≡ b → ⊥
too_few a b le same = omega (arith, le, same)

-- the body is taken off, and then less is left than stands behind the row
no_body : {row : ℕ} {body : Code} {after left : Below} (rest : Below) → after ≡ (row, body) ∷ left → length after ≤ length rest → length left ≡ length rest → ⊥
no_body {row} {body} {after} {left} rest taken le same = too_few (length left) (length rest) (subst (λ k. k ≤ length rest) (ap length taken) le) same

-- ---- the body

body_one : (n last : ℕ) (first : List Code) (on : Option Code) (update all : List Code) (body : Code) (r : ℕ × Code) (left parts rest new : Below) → update ≡ map c.Eval all
    → (last, body) ∷ left ≡ r ∷ rest → new ≡ (n, c.For first on update body) ∷ left → Stands (cond (nat_eq r.0 last) (code (c.For first on (map c.Eval all) r.1)) unknown) n parts rest new
body_one n last first on update all body r left parts rest new evals is st =
    let same : (last, body) ≡ r = ap (first_or r) is in
    subst (λ b. Stands (cond b (code (c.For first on (map c.Eval all) r.1)) unknown) n parts rest new) (sym ((Decides-eqb r.0 last).1 (ap (λ q. q.0) (sym same))))
    (st ∙ ap (λ xs. (n, c.For first on xs body) ∷ left) evals ∙ ap (λ q. (n, c.For first on (map c.Eval all) q.1) ∷ left) same ∙ ap (λ xs. (n, c.For first on (map c.Eval all) r.1) ∷ xs) (ap others is))

body_stands : (n last : ℕ) (first : List Code) (on : Option Code) (update : List Code) (body : Code) (q after mid left parts rest new behinds : Below) → behind last q ≡ behinds → mid ≡ q ++ rest
    → TakesEvals last mid after update → after ≡ (last, body) ∷ left → new ≡ (n, c.For first on update body) ∷ left → length left ≡ length rest → Stands (body_made first on (front last q) last behinds) n parts rest new
body_stands n last first on update body q after mid left parts rest new [] is was evals taken st same =
    absurd (no_body rest taken (subst (λ xs. length xs ≤ length rest) (sym (evals.left ∙ ap (behind last) was)) (behind_fewer last q rest is)) same)
body_stands n last first on update body q after mid left parts rest new (r ∷ []) is was evals taken st same =
    body_one n last first on update (front last q) body r left parts rest new
    (evals.taken ∙ ap (λ xs. map c.Eval (front last xs)) was ∙ ap (map c.Eval) (front_more last q rest [] r is))
    (sym taken ∙ evals.left ∙ ap (behind last) was ∙ behind_more last q rest [] r is ∙ ap (λ xs. xs ++ rest) is) st
body_stands n last first on update body q after mid left parts rest new (r ∷ (x ∷ xs)) is was evals taken st same =
    let over : left ≡ (x ∷ xs) ++ rest = ap others (sym taken ∙ evals.left ∙ ap (behind last) was ∙ behind_more last q rest (x ∷ xs) r is ∙ ap (λ ys. ys ++ rest) is) in
    absurd (not_none x xs (none_added (x ∷ xs) rest (sym (ap length over) ∙ same)))

-- ---- the condition

condition_one : (n row last : ℕ) (first : List Code) (a : Code) (p : ℕ × Code) (ps mid left parts rest new : Below) → mid ≡ p ∷ (ps ++ rest) → mid ≡ (row, a) ∷ left
    → (p.0 ≡ row → left ≡ ps ++ rest → Stands (updates_made first (Some a) last ps) n parts rest new) → Stands (cond (nat_eq p.0 row) (updates_made first (Some p.1) last ps) unknown) n parts rest new
condition_one n row last first a p ps mid left parts rest new is was next =
    let both : (row, a) ∷ left ≡ p ∷ (ps ++ rest) = sym was ∙ is in let same : p.0 ≡ row = ap (λ x. x.0) (sym (ap (first_or p) both)) in
    subst (λ b. Stands (cond b (updates_made first (Some p.1) last ps) unknown) n parts rest new) (sym ((Decides-eqb p.0 row).1 same))
    (subst (λ x. Stands (updates_made first (Some x) last ps) n parts rest new) (ap (λ x. x.1) (ap (first_or p) both)) (next same (ap others both)))

condition_stands : (has : Bool) (n row last : ℕ) (first : List Code) (on : Option Code) (p : ℕ × Code) (ps mid left parts rest new : Below) → mid ≡ p ∷ (ps ++ rest) → TakesCondition has row mid left on
    → ((has ≡ true → p.0 ≡ row) → (q : Below) → left ≡ q ++ rest → Stands (updates_made first on last q) n parts rest new) → Stands (condition_made first has row last (p ∷ ps)) n parts rest new
condition_stands true n row last first (Some a) p ps mid left parts rest new is took next =
    condition_one n row last first a p ps mid left parts rest new is took (λ same was. next (λ h. same) ps was)
condition_stands true n row last first None p ps mid left parts rest new is took next = absurd took
condition_stands false n row last first (Some a) p ps mid left parts rest new is took next = absurd took
condition_stands false n row last first None p ps mid left parts rest new is took next = next (λ h. absurd (false≢true h)) (p ∷ ps) (took ∙ is)

-- ---- the whole

-- what the code did
pub record ForDone (f : Facts) (n bound : ℕ) (has_first has_condition : Bool) (row up last : ℕ) (first : List Code) (on : Option Code) (update : List Code) (body : Code) (old mid left after rest new : Below) : Type 0 where
  pub counted : end f.rows n < bound
  pub row_is : row ≡ row_behind f (n + 1) has_first
  pub up_is : (has_condition ≡ true → row + 1 < bound) → up ≡ row_behind f row has_condition
  pub last_is : last ≡ last_from f (end f.rows n - up) up (end f.rows n)
  pub header : TakesHeader f (n + 1) has_first old mid first
  pub condition : TakesCondition has_condition row mid left on
  pub updates : TakesEvals last left after update
  pub taken : after ≡ (last, body) ∷ rest
  pub is : new ≡ (n, c.For first on update body) ∷ rest

header_fewer : (there : Bool) (f : Facts) (k : ℕ) (parts rest : Below) → behind_header f k there parts ≡ [] → length (behind_header f k there (parts ++ rest)) ≤ length rest
header_fewer true f k parts rest none = behind_fewer (end f.rows k) parts rest none
header_fewer false f k parts rest none = subst (λ xs. length (xs ++ rest) ≤ length rest) (sym none) (not_more (length rest))

condition_fewer : (has : Bool) (row : ℕ) (old new : Below) (on : Option Code) → TakesCondition has row old new on → length new ≤ length old
condition_fewer true row old new (Some a) took = subst (λ xs. length new ≤ length xs) (sym took) (one_less (length new) (length new) (not_more (length new)))
condition_fewer true row old new None took = absurd took
condition_fewer false row old new (Some a) took = absurd took
condition_fewer false row old new None took = subst (λ xs. length xs ≤ length old) (sym took) (not_more (length old))

-- something stands behind the header
none_behind : (f : Facts) (n bound : ℕ) (has_first has_condition : Bool) (row up last : ℕ) (first : List Code) (on : Option Code) (update : List Code) (body : Code) (old mid left after left_over new parts rest : Below)
    → ForDone f n bound has_first has_condition row up last first on update body old mid left after left_over new → old ≡ parts ++ rest → behind_header f (n + 1) has_first parts ≡ [] → length left_over ≡ length rest → ⊥
none_behind f n bound has_first has_condition row up last first on update body old mid left after left_over new parts rest done was none same =
    let header : length mid ≤ length rest = subst (λ xs. length xs ≤ length rest) (sym (done.header.left ∙ ap (behind_header f (n + 1) has_first) was)) (header_fewer has_first f (n + 1) parts rest none) in
    let behind_condition : length left ≤ length rest = up_to (length left) (length mid) (length rest) (condition_fewer has_condition row mid left on done.condition) header in
    no_body rest done.taken (up_to (length after) (length left) (length rest) (subst (λ xs. length xs ≤ length left) (sym done.updates.left) (behind_short last left)) behind_condition) same

part_counted : (k row e bound : ℕ) → k ≡ row → k < e → e < bound → row + 1 < bound
part_counted k row e bound same lt le = omega (arith, same, lt, le)

last_of : (f : Facts) (n bound : ℕ) (has : Bool) (row up last : ℕ) {to : ℕ} → row ≡ to → last ≡ last_from f (end f.rows n - up) up (end f.rows n) → up ≡ row_behind f row has
    → last ≡ last_from f (end f.rows n - row_behind f to has) (row_behind f to has) (end f.rows n)
last_of f n bound has row up last same last_is up_is =
    last_is ∙ ap (λ k. last_from f (end f.rows n - k) k (end f.rows n)) (up_is ∙ ap (λ k. row_behind f k has) same)

for_behind : (f : Facts) (n bound : ℕ) (has_first has_condition : Bool) (row up last : ℕ) (first : List Code) (on : Option Code) (update : List Code) (body : Code) (old mid left after left_over new parts rest behinds : Below)
    → ForDone f n bound has_first has_condition row up last first on update body old mid left after left_over new → Parted (end f.rows n) old parts rest → behind_header f (n + 1) has_first parts ≡ behinds → length left_over ≡ length rest
    → Stands (condition_made (header_made f (n + 1) has_first parts) has_condition (row_behind f (n + 1) has_first)
    (last_from f (end f.rows n - row_behind f (row_behind f (n + 1) has_first) has_condition) (row_behind f (row_behind f (n + 1) has_first) has_condition) (end f.rows n)) behinds) n parts rest new
for_behind f n bound has_first has_condition row up last first on update body old mid left after left_over new parts rest [] done h is over =
    absurd (none_behind f n bound has_first has_condition row up last first on update body old mid left after left_over new parts rest done h.is is over)
for_behind f n bound has_first has_condition row up last first on update body old mid left after left_over new parts rest (p ∷ ps) done h is over =
    let split : HeaderSplit f (n + 1) (end f.rows n) has_first parts rest = header_split has_first f (n + 1) (end f.rows n) parts rest ps p h.inside is in
    let here : first ≡ header_made f (n + 1) has_first parts = done.header.taken ∙ ap (header_made f (n + 1) has_first) h.is ∙ split.front in
    let there : mid ≡ p ∷ (ps ++ rest) = done.header.left ∙ ap (behind_header f (n + 1) has_first) h.is ∙ split.behind ∙ ap (λ xs. xs ++ rest) is in
    let less : AreBefore (end f.rows n) (p ∷ ps) = subst (AreBefore (end f.rows n)) is split.before in
    let stop : ℕ = last_from f (end f.rows n - row_behind f (row_behind f (n + 1) has_first) has_condition) (row_behind f (row_behind f (n + 1) has_first) has_condition) (end f.rows n) in
    condition_stands has_condition n (row_behind f (n + 1) has_first) stop (header_made f (n + 1) has_first parts) on p ps mid left parts rest new there
    (subst (λ k. TakesCondition has_condition k mid left on) done.row_is done.condition)
    (λ same q was.
    let at : last ≡ stop = last_of f n bound has_condition row up last done.row_is done.last_is
    (done.up_is (λ has. part_counted p.0 row (end f.rows n) bound (same has ∙ sym done.row_is) less.0 done.counted)) in
    body_stands n stop (header_made f (n + 1) has_first parts) on update body q after left left_over parts rest new (behind stop q) refl was
    (subst (λ k. TakesEvals k left after update) at done.updates) (done.taken ∙ ap (λ k. (k, body) ∷ left_over) at)
    (done.is ∙ ap (λ xs. (n, c.For xs on update body) ∷ left_over) here) over)

one_more : (n bound : ℕ) → n + 2 < bound → n + 1 + 1 < bound
one_more n bound lt = omega (arith, lt)

pub for_becomes : {s : Source} {n child e row up last : ℕ} {first : List Code} (on : Option Code) {update : List Code} {body : Code} {old mid left after rest new : Below} (has_first has_condition : Bool)
    → (n + 1 < 2 ^ 32 → child ≡ n + 1) → (n + 1 < 2 ^ 32 → e ≡ end (rows_of s) n) → e < 2 ^ 32 → ((has_first ≡ true → child + 1 < 2 ^ 32) → row ≡ row_behind (facts s) child has_first)
    → ((has_condition ≡ true → row + 1 < 2 ^ 32) → up ≡ row_behind (facts s) row has_condition) → last ≡ last_from (facts s) (e - up) up e
    → (child + 1 < 2 ^ 32 → TakesHeader (facts s) child has_first old mid first) → TakesCondition has_condition row mid left on → TakesEvals last left after update → after ≡ (last, body) ∷ rest
    → new ≡ (n, c.For first on update body) ∷ rest → Becomes s n (λ parts. for_made (facts s) n has_first has_condition parts) old new
for_becomes {s} {n} {child} {e} {row} {up} {last} {first} on {update} {body} {old} {mid} {left} {after} {rest} {new} has_first has_condition at ends fits row_is up_is last_is header condition updates taken is = record {
  stands = λ read parts more h one.
      let here : child ≡ n + 1 = at (one_counted read) in let same : e ≡ end (rows_of s) n = ends (one_counted read) in
      let counted : child + 1 < 2 ^ 32 = subst (λ k. k + 1 < 2 ^ 32) (sym here) (one_more n (2 ^ 32) (two_counted read)) in
      for_behind (facts s) n (2 ^ 32) has_first has_condition row up last first on update body old mid left after rest new parts more (behind_header (facts s) (n + 1) has_first parts)
      (record {
        counted = subst (λ k. k < 2 ^ 32) same fits;
        row_is = row_is (λ has. counted) ∙ ap (λ k. row_behind (facts s) k has_first) here;
        up_is = up_is;
        last_is = last_is ∙ ap (λ k. last_from (facts s) (k - up) up k) same;
        header = subst (λ k. TakesHeader (facts s) k has_first old mid first) here (header counted);
        condition = condition;
        updates = updates;
        taken = taken;
        is = is;
      }) h refl (left_count more is one);
}
