-- The rows right below a row, from the first one on.
use Rattle.std.proofs.Common.{◌≡◌, refl, sym, ◌∙◌, ap, subst, ℕ, zero, suc, ◌+◌, ◌-◌, ◌<◌, ◌≤◌, ◌^◌, Bool, true, false, cond, List, [], ◌∷◌, ◌++◌, append-nil, append_assoc, length, nat_eq, nat_lt, arith}
use Rattle.std.proofs.lemmas.Bool.{false≢true}
use Rattle.std.proofs.lemmas.Bool.Decides.{Decides-eqb, Decides-ltb}
use Rattle.std.proofs.lemmas.List.{get_or_past}
use Rattle.jr_tree.specs.declared.label.Label.TheVariants as is
use Rattle.jr_tree.specs.Rows.{Rows, parent, end}
use Rattle.jr_plain.specs.Enclosing.{children, children_from}

-- so far these are the rows right below this one
pub record ChildrenSo (p : Rows) (n count turn child : ℕ) (all : List ℕ) : Type 0 where
  pub so : count ≡ length p → n < count → all ++ children_from p n (count - turn) child ≡ children p n

all_rounds : (len : ℕ) → len - 0 ≡ len
all_rounds len = omega arith

next_fits : (n count bound : ℕ) → n < count → count < bound → n + 1 < bound
next_fits n count bound lt fits = omega (arith, lt, fits)

pub children_none : (p : Rows) (n count child : ℕ) → count < 2 ^ 32 → (n + 1 < 2 ^ 32 → child ≡ n + 1) → ChildrenSo p n count 0 child []
children_none p n count child fits at = record {
  so = λ counted lt. ap (λ k. children_from p n (count - 0) k) (at (next_fits n count (2 ^ 32) lt fits)) ∙ ap (λ k. children_from p n k (n + 1)) (all_rounds count ∙ counted);
}

one_round : (turn count : ℕ) → turn < count → count - turn ≡ suc (count - (turn + 1))
one_round turn count lt = omega (arith, lt)

child_step : (p : Rows) (n count turn child : ℕ) → turn < count
    → children_from p n (count - turn) child ≡ cond (nat_eq (parent p child) n) (child ∷ children_from p n (count - (turn + 1)) (end p child)) []
child_step p n count turn child lt = ap (λ k. children_from p n k child) (one_round turn count lt)

past_parent : (p : Rows) (k : ℕ) → length p ≤ k → parent p k ≡ k
past_parent p k le = ap (λ r. r.parent) (get_or_past p k (record { label = is.Skip; name = []; parent = k; end = k + 1; previous = k }) le)

not_less : (k len : ℕ) → (k < len → ⊥) → len ≤ k
not_less k len h = omega (arith, h)

less_than_itself : (n k len : ℕ) → n < len → k ≡ n → len ≤ k → ⊥
less_than_itself n k len lt same le = omega (arith, lt, same, le)

child_inside_by : (b : Bool) (p : Rows) (n k : ℕ) → nat_lt k (length p) ≡ b → parent p k ≡ n → n < length p → k < length p
child_inside_by true p n k lt same inside = (Decides-ltb k (length p)).0 lt
child_inside_by false p n k lt same inside =
    let past : length p ≤ k = not_less k (length p) (λ less. false≢true (sym lt ∙ (Decides-ltb k (length p)).1 less)) in
    absurd (less_than_itself n k (length p) inside (sym (past_parent p k past) ∙ same) past)

child_inside : (p : Rows) (n k : ℕ) → parent p k ≡ n → n < length p → k < length p
child_inside p n k same inside = child_inside_by (nat_lt k (length p)) p n k refl same inside

pub children_more : (p : Rows) (n count turn child over next : ℕ) (old new : List ℕ) → ChildrenSo p n count turn child old → count < 2 ^ 32 → turn < count → over ≡ parent p child → over ≡ n
    → new ≡ old ++ child ∷ [] → (child + 1 < 2 ^ 32 → next ≡ end p child) → ChildrenSo p n count (turn + 1) next new
children_more p n count turn child over next old new so fits lt above same adds at = record {
  so = λ counted inside.
      let up : parent p child ≡ n = sym above ∙ same in
      let within : child < length p = child_inside p n child up (subst (λ k. n < k) counted inside) in
      let here : next ≡ end p child = at (next_fits child (length p) (2 ^ 32) within (subst (λ k. k < 2 ^ 32) counted fits)) in
      let left : List ℕ = children_from p n (count - (turn + 1)) (end p child) in
      ap (λ k. new ++ children_from p n (count - (turn + 1)) k) here
      ∙ ap (λ xs. xs ++ left) adds ∙ append_assoc old (child ∷ []) left
      ∙ ap (λ xs. old ++ xs) (sym (child_step p n count turn child lt ∙ ap (λ b. cond b (child ∷ left) []) ((Decides-eqb (parent p child) n).1 up)))
      ∙ so.so counted inside;
}

apart_by : (b : Bool) (a n : ℕ) → nat_eq a n ≡ b → (a ≡ n → ⊥) → b ≡ false
apart_by true a n same apart = absurd (apart ((Decides-eqb a n).0 same))
apart_by false a n same apart = refl

pub children_found : (p : Rows) (n count turn child over : ℕ) (all : List ℕ) → ChildrenSo p n count turn child all → turn < count → over ≡ parent p child → (over ≡ n → ⊥) → count ≡ length p → n < count
    → all ≡ children p n
children_found p n count turn child over all so lt above apart counted inside =
    let left : List ℕ = children_from p n (count - (turn + 1)) (end p child) in
    sym (append-nil all)
    ∙ ap (λ xs. all ++ xs) (sym (child_step p n count turn child lt
    ∙ ap (λ b. cond b (child ∷ left) []) (apart_by (nat_eq (parent p child) n) (parent p child) n refl (λ same. apart (above ∙ same)))))
    ∙ so.so counted inside

no_round : (turn count : ℕ) → count ≤ turn → count - turn ≡ 0
no_round turn count le = omega (arith, le)

pub children_all : (p : Rows) (n count turn child : ℕ) (all : List ℕ) → ChildrenSo p n count turn child all → count ≤ turn → count ≡ length p → n < count → all ≡ children p n
children_all p n count turn child all so le counted inside =
    sym (append-nil all) ∙ ap (λ k. all ++ children_from p n k child) (sym (no_round turn count le)) ∙ so.so counted inside

-- ---- past the last row

above_itself : (n len : ℕ) → len ≤ n → len ≤ n + 1
above_itself n len le = omega (arith, le)

not_next : (n k : ℕ) → k ≡ n + 1 → k ≡ n → ⊥
not_next n k next same = omega (arith, next, same)

none_by : (rounds n : ℕ) (p : Rows) → nat_eq (parent p (n + 1)) n ≡ false → children_from p n rounds (n + 1) ≡ []
none_by zero n p away = refl
none_by (suc rounds) n p away = ap (λ b. cond b ((n + 1) ∷ children_from p n rounds (end p (n + 1))) []) away

pub children_past : (p : Rows) (n count : ℕ) → count ≡ length p → count ≤ n → [] ≡ children p n
children_past p n count counted past =
    let le : length p ≤ n = subst (λ k. k ≤ n) counted past in
    sym (none_by (length p) n p (apart_by (nat_eq (parent p (n + 1)) n) (parent p (n + 1)) n refl (λ same. not_next n (parent p (n + 1)) (past_parent p (n + 1) (above_itself n (length p) le)) same)))
