-- Steps at each number from a first one on, rows, uses and units one by one.
use Rattle.std.proofs.Common.{◌≡◌, refl, sym, ◌∙◌, ap, ⊎_elim, arith, ℕ, zero, suc, ◌+◌, ◌<◌, ◌≤◌, Bool, true, false, cond, nat_lt, Decides, add-one}
use Rattle.std.proofs.lemmas.Bool.{false≢true, cases_lt}
use Rattle.std.proofs.lemmas.Bool.Decides.{Decides-ltb}
use Rattle.jr_draft.specs.Drafting.{Drafted}
use Rattle.jr_edits.specs.Place.{EditList}
use Rattle.jr_marks.specs.declared.marks.Marks.{Marks}
use Rattle.jr_inline.specs.Inlining.{Copies, Plan, by_each, last_copied, rows_between, rows_to, units_to, uses_between, with_one, with_row, with_use}

-- there is no step before the first number
pub each_none : {A : Type 0} (first : ℕ) (step : ℕ → A → A) (start : A) (n : ℕ) → n ≤ first → by_each first step start n ≡ start
each_none first step start zero le = refl
each_none first step start (suc n) le = by (nat_lt n first) (Decides-ltb n first) (each_none first step start n (omega arith))
  where
    by : (b : Bool) → Decides b (n < first) → by_each first step start n ≡ start → cond b (by_each first step start n) (step n (by_each first step start n)) ≡ start
    by true d h = h
    by false d h = absurd (false≢true (d.1 (omega arith)))

-- one step more
pub each_more : {A : Type 0} (first : ℕ) (step : ℕ → A → A) (start : A) (n : ℕ) (before more : A) → first ≤ n → before ≡ by_each first step start n → more ≡ step n before
    → more ≡ by_each first step start (n + 1)
each_more first step start n before more le h made = rw add-one (made ∙ ap (step n) h ∙ by (nat_lt n first) (Decides-ltb n first))
  where
    by : (b : Bool) → Decides b (n < first) → step n (by_each first step start n) ≡ cond b (by_each first step start n) (step n (by_each first step start n))
    by true d = let lt = d.0 refl in absurd (omega arith)
    by false d = refl

-- all steps up to before a number, where the last one stands there, or all stand before the first one
pub each_all : {A : Type 0} (first : ℕ) (step : ℕ → A → A) (start : A) (n behind : ℕ) → behind ≤ n → (first ≤ behind → n ≤ behind) → (behind < first → n ≤ first)
    → by_each first step start n ≡ by_each first step start behind
each_all first step start n behind past reached early = ⊎_elim
    (λ lt. let le = early lt in each_none first step start n le ∙ sym (each_none first step start behind (omega arith)))
    (λ le. let within = reached le in let same : n ≡ behind = omega arith in ap (by_each first step start) same) (cases_lt behind first)

-- ---- rows

pub rows_start : (plan : Plan) (first : ℕ) (d : Drafted) → record { draft = d; first = first } ≡ rows_to plan first d first
rows_start plan first d = sym (each_none first (with_row plan) (record { draft = d; first = first }) first (omega arith))

pub rows_more : (plan : Plan) (first : ℕ) (d : Drafted) (n : ℕ) (before more : Copies) → first ≤ n → before ≡ rows_to plan first d n → more ≡ with_row plan n before → more ≡ rows_to plan first d (n + 1)
rows_more plan first d n before more le h made = each_more first (with_row plan) (record { draft = d; first = first }) n before more le h made

pub rows_all : (plan : Plan) (first behind : ℕ) (d : Drafted) (n : ℕ) (before : Copies) (all : Drafted) → behind ≤ n → (first ≤ behind → n ≤ behind) → (behind < first → n ≤ first) → before ≡ rows_to plan first d n
    → all ≡ last_copied before behind → all ≡ rows_between plan first behind d
rows_all plan first behind d n before all past reached early h made =
    made ∙ ap (λ c. last_copied c behind) (h ∙ each_all first (with_row plan) (record { draft = d; first = first }) n behind past reached early)

-- ---- uses

pub uses_start : (marks : Marks) (plan : Plan) (first : ℕ) (edits : EditList) → edits ≡ uses_between marks plan first edits first
uses_start marks plan first edits = sym (each_none first (with_use marks plan) edits first (omega arith))

pub uses_more : (marks : Marks) (plan : Plan) (first : ℕ) (edits : EditList) (n : ℕ) (before more : EditList) → first ≤ n → before ≡ uses_between marks plan first edits n → more ≡ with_use marks plan n before → more ≡ uses_between marks plan first edits (n + 1)
uses_more marks plan first edits n before more le h made = each_more first (with_use marks plan) edits n before more le h made

pub uses_all : (marks : Marks) (plan : Plan) (first behind : ℕ) (edits : EditList) (n : ℕ) (all : EditList) → behind ≤ n → (first ≤ behind → n ≤ behind) → (behind < first → n ≤ first) → all ≡ uses_between marks plan first edits n
    → all ≡ uses_between marks plan first edits behind
uses_all marks plan first behind edits n all past reached early h = h ∙ each_all first (with_use marks plan) edits n behind past reached early

-- ---- units

pub units_more : (marks : Marks) (plan : Plan) (unit : ℕ) (before more : Drafted) → 2 ≤ unit → before ≡ units_to marks plan unit → more ≡ with_one marks plan unit before → more ≡ units_to marks plan (unit + 1)
units_more marks plan unit before more le h made = each_more 2 (with_one marks plan) (units_to marks plan 0) unit before more le h made

pub units_all : (marks : Marks) (plan : Plan) (unit count : ℕ) (draft : Drafted) → unit ≡ count → draft ≡ units_to marks plan unit → draft ≡ units_to marks plan count
units_all marks plan unit count draft same h = h ∙ ap (units_to marks plan) same
