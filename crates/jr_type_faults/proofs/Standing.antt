-- Where rows stand below others, some of them past the last row.
use Rattle.std.proofs.Common.{◌≡◌, refl, sym, ◌∙◌, ap, arith, ℕ, ◌+◌, ◌<◌, ◌≤◌, Bool, true, false, cond, length, Option, Some, None, nat_eq, nat_lt, nat_le}
use Rattle.std.proofs.lemmas.Bool.{false_from_ne_true}
use Rattle.std.proofs.lemmas.Bool.Decides.{Decides-eqb, Decides-ltb}
use Rattle.std.proofs.lemmas.Option.{none-some, same_Some}
use Rattle.jr_tree.specs.Rows.{Rows, parent, end}
use Rattle.jr_plain.specs.Overloads.{Types}
use Rattle.jr_plain.specs.Typing.{first}
use Rattle.jr_plain.proofs.Bounds.{row_past}
use Rattle.jr_plain.proofs.Enclosed.{most}
use Rattle.jr_plain.proofs.Tests.{like}
use Rattle.jr_lookup.proofs.Instancing.{same_tests}
use Rattle.jr_rules.specs.TypedTests.{both_found}
use Rattle.jr_defs.specs.declared.referent.RowType.{RowType}
use Rattle.jr_supers.specs.Tabled.{first_child}

pub next_some : (n before over : ℕ) → before + 1 ≡ n → nat_eq before over ≡ nat_eq n (over + 1)
next_some n before over is = same_tests _ _ (before ≡ over) (Decides-eqb before over) (like (Decides-eqb n (over + 1)) (λ e. omega arith) (λ e. omega arith))

pub next_none : (n over : ℕ) → n ≡ 0 → false ≡ nat_eq n (over + 1)
next_none n over none = sym (false_from_ne_true _ (λ e. let same = (Decides-eqb n (over + 1)).0 e in absurd (omega arith)))

pub second_past : (p : Rows) (n : ℕ) → length p ≤ n → end p n ≡ n + 1
second_past p n le = ap (λ r. r.end) (row_past p n le)

unequal : (m n : ℕ) → m < n → nat_eq m n ≡ false
unequal m n lt = false_from_ne_true _ (λ e. let same = (Decides-eqb m n).0 e in absurd (omega arith))

-- a row does not stand where a row that is not there would end
pub second_far : (p : Rows) (n k : ℕ) → length p ≤ k → n < k + 1 → false ≡ nat_eq n (end p k)
second_far p n k le lt = sym (ap (nat_eq n) (second_past p k le) ∙ unequal n (k + 1) lt)

-- a row stands before the end of a row that is not there, where it does not stand behind that
pub before_end_past : (p : Rows) (n k : ℕ) → length p ≤ k → nat_le n k ≡ nat_lt n (end p k)
before_end_past p n k le = same_tests (nat_le n k) (nat_lt n (k + 1)) (n ≤ k) (most n k) (like (Decides-ltb n (k + 1)) (λ lt. omega arith) (λ low. omega arith)) ∙ sym (ap (nat_lt n) (second_past p k le))

-- ---- the first child

child_by : (b : Bool) (p : Rows) (types : Types) (n : ℕ) → nat_eq (parent p (n + 1)) n ≡ b → (m : ℕ) → cond b (Some (n + 1)) None ≡ Some m → (m ≡ n + 1) × (first p types n ≡ types m) × (b ≡ true)
child_by true p types n e m is = let same = sym (same_Some (n + 1) m is) in (same, ap (λ b. cond b (types (n + 1)) None) e ∙ ap types (sym same), refl)
child_by false p types n e m is = absurd (none-some m is)

pub child_is : (p : Rows) (types : Types) (n m : ℕ) → first_child p n ≡ Some m → (m ≡ n + 1) × (first p types n ≡ types m) × (nat_eq (parent p (n + 1)) n ≡ true)
child_is p types n m is = child_by (nat_eq (parent p (n + 1)) n) p types n refl m is

none_by : (b : Bool) (p : Rows) (n : ℕ) → cond b (Some (n + 1)) None ≡ None → b ≡ false
none_by true p n is = absurd (none-some (n + 1) (sym is))
none_by false p n is = refl

-- there is no first child
pub child_none : (p : Rows) (n : ℕ) → first_child p n ≡ None → nat_eq (parent p (n + 1)) n ≡ false
child_none p n is = none_by (nat_eq (parent p (n + 1)) n) p n is

pub first_none : (p : Rows) (types : Types) (n : ℕ) → first_child p n ≡ None → first p types n ≡ None
first_none p types n is = ap (λ b. cond b (types (n + 1)) None) (child_none p n is)

none_there : (to : Option RowType) (test : RowType → RowType → Bool) → both_found to None test ≡ false
none_there None test = refl
none_there (Some a) test = refl

-- where the second is not there, both do not pass
pub both_none : (to from : Option RowType) (test : RowType → RowType → Bool) → from ≡ None → false ≡ both_found to from test
both_none to from test none = sym (ap (λ o. both_found to o test) none ∙ none_there to test)
