-- Bodies round rows.
use Rattle.std.proofs.Common.{◌≡◌, ◌⊎◌, inl, inr, ⊎_elim, refl, sym, ◌∙◌, ap, subst, arith, ℕ, zero, suc, ◌+◌, ◌<◌, ◌≤◌, ◌^◌, Bool, true, false, not, ◌&&◌, if◌then◌else◌, List, [], ◌∷◌, ◌++◌, length, Option, Some, None, IfSome, nat_lt, slice_get, Decides}
use Rattle.std.specs.List.{Contains}
use Rattle.std.proofs.lemmas.Bool.{false≢true, cases_lt}
use Rattle.std.proofs.lemmas.List.{append-nil, get_or_past}
use Rattle.std.proofs.lemmas.List.Elements.{Contains-append_left, Contains-append_right, Contains-get_or}
use Rattle.std.proofs.lemmas.Option.{none-some, same_Some, slice_get_within, get_or_from_slice_get}
use Rattle.std.proofs.lemmas.Bool.Decides.{Decides-ltb, Decides-and}
use Rattle.jr_tree.specs.Rows.{Rows, parent, end}
use Rattle.jr_tree.specs.Tree.{IsTree}
use Rattle.jr_change.specs.declared.project.Project.{Project}
use Rattle.jr_locks.specs.Origins.{no_row}
use Rattle.jr_flow_defs.specs.Meaning.{Meaning}
use Rattle.jr_flow_defs.proofs.Searched.{contains_first}
use Rattle.jr_flow.specs.Bodies.{has_code_by, has_code, bodies_below}
use Rattle.jr_flow.proofs.Declaring.{body_below}
use Rattle.jr_flow.proofs.Gets.{get_pushed}
use Rattle.jr_flow.proofs.Linking.{get_of}
use Rattle.jr_kept.specs.Courses.{IsSeen, IsBody, IsBodyRound, AreBodies}

not_below : (a b : ℕ) → Decides (not (nat_lt b a)) (a ≤ b)
not_below a b = by (nat_lt b a) (Decides-ltb b a)
  where
    by : (t : Bool) → Decides t (b < a) → Decides (not t) (a ≤ b)
    by true tells = (λ e. absurd (false≢true e), λ le. let lt = tells.0 refl in absurd (omega (arith, le, lt)))
    by false tells = (λ e. ⊎_elim (λ lt. absurd (false≢true (tells.1 lt))) (λ le. le) (cases_lt b a), λ le. refl)

pub within_tells : (first end row : ℕ) → Decides (not (nat_lt row first) && nat_lt row end) ((first ≤ row) × (row < end))
within_tells first end row = Decides-and (not (nat_lt row first)) (nat_lt row end) (not_below first row) (Decides-ltb row end)

-- ---- the innermost body

pub row_body : (p : Rows) (n : ℕ) → has_code p n ≡ true → IsBody p n
row_body p n has = record { few = inside (cases_lt n (length p)); has = has }
  where
    inside : (n < length p) ⊎ (length p ≤ n) → n < length p
    inside (inl lt) = lt
    inside (inr past) = absurd (false≢true (sym (ap (λ r. has_code_by r.label p n) (get_or_past p n _ past)) ∙ has))

get_contained : (xs : List ℕ) (i k : ℕ) → slice_get xs i ≡ Some k → Contains xs k
get_contained xs i k e = subst (Contains xs) (get_or_from_slice_get xs i k 0 e) (Contains-get_or xs i 0 (slice_get_within xs i k e))

bodies_least : (p : Rows) (n i k : ℕ) → slice_get (bodies_below p n) i ≡ Some k → k < n
bodies_least p n i k e = (body_below p n k (get_contained (bodies_below p n) i k e)).0

bodies_rise : (p : Rows) (n i j a b : ℕ) → i < j → slice_get (bodies_below p n) i ≡ Some a → slice_get (bodies_below p n) j ≡ Some b → a < b
bodies_rise p zero i j a b lt e f = absurd (none-some a e)
bodies_rise p (suc n) i j a b lt e f = by (has_code p n) (λ g h. bodies_rise p n i j a b lt g h) (λ g. bodies_least p n i a g) e f
  where
    by : (t : Bool) → (slice_get (bodies_below p n) i ≡ Some a → slice_get (bodies_below p n) j ≡ Some b → a < b) → (slice_get (bodies_below p n) i ≡ Some a → a < n)
        → slice_get (bodies_below p n ++ (if t then n ∷ [] else [])) i ≡ Some a → slice_get (bodies_below p n ++ (if t then n ∷ [] else [])) j ≡ Some b → a < b
    by true early less g h = ⊎_elim
        (λ one. ⊎_elim (λ other. early one other) (λ last. let same = last.1 in let low = less one in omega (arith, same, low)) (get_pushed (bodies_below p n) n b j h))
        (λ last. let at = last.0 in ⊎_elim (λ other. let within = slice_get_within (bodies_below p n) j b other in absurd (omega (arith, at, within, lt))) (λ both. let end = both.0 in absurd (omega (arith, at, end, lt))) (get_pushed (bodies_below p n) n b j h))
        (get_pushed (bodies_below p n) n a i g)
    by false early less g h = early (subst (λ xs. slice_get xs i ≡ Some a) (append-nil (bodies_below p n)) g) (subst (λ xs. slice_get xs j ≡ Some b) (append-nil (bodies_below p n)) h)

below_body : (p : Rows) (n k : ℕ) → k < n → has_code p k ≡ true → Contains (bodies_below p n) k
below_body p zero k lt has = absurd (omega (arith, lt))
below_body p (suc n) k lt has = ⊎_elim
    (λ less. Contains-append_left (bodies_below p n) (if has_code p n then n ∷ [] else []) k (below_body p n k less has))
    (λ past. let same : k ≡ n = omega (arith, past, lt) in Contains-append_right (bodies_below p n) (if has_code p n then n ∷ [] else []) k (last same))
    (cases_lt k n)
  where
    last : k ≡ n → Contains (if has_code p n then n ∷ [] else []) k
    last same = subst (λ b. Contains (if b then n ∷ [] else []) k) (sym (subst (λ z. has_code p z ≡ true) same has)) (subst (Contains (n ∷ [])) (sym same) (contains_first n []))

pub bodies_are : (p : Rows) → AreBodies p (bodies_below p (length p))
bodies_are p = record {
  are = λ k among. let one = body_below p (length p) k among in record { few = one.0; has = one.1 };
  each = λ k is. below_body p (length p) k is.few is.has;
  rising = λ i j a b lt e f. bodies_rise p (length p) i j a b lt e f;
}

abbrev Holds : Rows → ℕ → ℕ → Type 0
Holds p row k = (k ≤ row) × (row < end p k)

-- the last of the first bodies in which the row stands
abbrev pub IsLastRound : Rows → ℕ → List ℕ → ℕ → Option ℕ → Type 0
IsLastRound p row all i None = (n k : ℕ) → n < i → slice_get all n ≡ Some k → Holds p row k → ⊥
IsLastRound p row all i (Some body) = IsBody p body × Holds p row body × ((n k : ℕ) → n < i → slice_get all n ≡ Some k → Holds p row k → k ≤ body)

pub round_begun : (p : Rows) (row : ℕ) (all : List ℕ) → IsLastRound p row all 0 None
round_begun p row all n k lt e h = absurd (omega (arith, lt))

pub round_next : (p : Rows) (row i body : ℕ) (all : List ℕ) (found : Option ℕ) (b : Bool) → AreBodies p all → IsBody p body → slice_get all i ≡ Some body → Decides b (Holds p row body) → IsLastRound p row all i found → IsLastRound p row all (i + 1) (if b then Some body else found)
round_next p row i body all found true are is at tells before = (
  is,
  tells.0 refl,
  λ n k lt e h. ⊎_elim
      (λ less. let low = are.rising n i k body less e at in omega (arith, low))
      (λ past. let same : n ≡ i = omega (arith, lt, past) in let one = same_Some k body (sym e ∙ ap (slice_get all) same ∙ at) in omega (arith, one))
      (cases_lt n i),
)
round_next p row i body all None false are is at tells before = λ n k lt e h. ⊎_elim
    (λ less. before n k less e h)
    (λ past. let same : n ≡ i = omega (arith, lt, past) in let one = same_Some k body (sym e ∙ ap (slice_get all) same ∙ at) in false≢true (tells.1 (subst (Holds p row) one h)))
    (cases_lt n i)
round_next p row i body all (Some last) false are is at tells before = (
  before.0,
  before.1,
  λ n k lt e h. ⊎_elim
      (λ less. before.2 n k less e h)
      (λ past. let same : n ≡ i = omega (arith, lt, past) in let one = same_Some k body (sym e ∙ ap (slice_get all) same ∙ at) in absurd (false≢true (tells.1 (subst (Holds p row) one h))))
      (cases_lt n i),
)

-- what all bodies tell
pub round_found : (p : Rows) (row i : ℕ) (all : List ℕ) (found : Option ℕ) → AreBodies p all → length all ≤ i → IsLastRound p row all i found → IfSome found (λ body. IsBodyRound p row body)
round_found p row i all None are le h = tt
round_found p row i all (Some body) are le h = record {
  is = h.0;
  from = h.1.0;
  to = h.1.1;
  inner = λ k is from to. let one = get_of all k (are.each k is) in let within = slice_get_within all one.0 k one.1 in h.2 one.0 k (omega (arith, le, within)) one.1 (from, to);
}

pub round_none : (p : Rows) (row i : ℕ) (all : List ℕ) (found : Option ℕ) → AreBodies p all → length all ≤ i → IsLastRound p row all i found → found ≡ None → (body : ℕ) → IsBodyRound p row body → ⊥
round_none p row i all None are le h e body round = let one = get_of all body (are.each body round.is) in let within = slice_get_within all one.0 body one.1 in h one.0 body (omega (arith, le, within)) one.1 (round.from, round.to)
round_none p row i all (Some last) are le h e body round = none-some last (sym e)

-- there is one at most
pub one_round : (p : Rows) (row a b : ℕ) → IsBodyRound p row a → IsBodyRound p row b → a ≡ b
one_round p row a b h k = let up = h.inner b k.is k.from k.to in let down = k.inner a h.is h.from h.to in omega (arith, up, down)

pub rows_few : (project : Project) (m : Meaning) → IsSeen project m → length project.marks.rows.now < 2 ^ 32
rows_few project m seen = let few = subst (λ p. length p + 3 < 2 ^ 32) seen.rows seen.view.few in omega (arith, few)

pub rows_numbered : (project : Project) (m : Meaning) → IsSeen project m → length project.marks.rows.now < no_row
rows_numbered project m seen = let few : length project.marks.rows.now + 3 < 4294967296 = subst (λ p. length p + 3 < 2 ^ 32) seen.rows seen.view.few in omega (arith, few)

-- no row stands before its parent
pub parent_before : (p : Rows) → IsTree p → (n : ℕ) → parent p n ≤ n
parent_before p tree zero = subst (λ k. k ≤ 0) (sym tree.root) (omega arith)
parent_before p tree (suc n) = ⊎_elim
    (λ lt. let less = tree.up (suc n) lt (omega arith) in omega (arith, less))
    (λ le. subst (λ k. k ≤ suc n) (sym (ap (λ r. r.parent) (get_or_past p (suc n) _ le))) (omega arith))
    (cases_lt (suc n) (length p))

-- ---- the body of a declaration

pub round_declared : (p : Rows) (row statement : ℕ) (found : Option ℕ) → parent p row ≡ statement → IfSome found (λ k. IsBodyRound p row k) → IfSome found (λ k. IsBodyRound p row k × (parent p row ≡ statement))
round_declared p row statement None e round = round
round_declared p row statement (Some body) e round = (round, e)
