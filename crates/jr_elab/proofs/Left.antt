-- What stood inside a row, by how much is left below it.
use Rattle.std.proofs.Common.{◌≡◌, refl, sym, ◌∙◌, ap, ℕ, suc, ◌+◌, ◌-◌, ◌≤◌, Bool, true, false, cond, List, [], ◌∷◌, ◌++◌, length, Option, nat_eq, nat_lt, arith}
use Rattle.std.proofs.lemmas.Bool.{false≢true}
use Rattle.std.proofs.lemmas.Bool.Decides.{Decides-eqb}
use Rattle.std.proofs.lemmas.List.{length-append}
use Rattle.jr_codes.specs.Making.{Below}
use Rattle.jr_codes.specs.Waiting.{is_top, front, behind}
use Rattle.jr_expressions.specs.Stacks.{AreFrom, AreRising, IsAlone, one_if}
use Rattle.jr_expressions.specs.Statements.{Part, code_part, case_part, group_part, catch_part, Parts, as_code, as_case, as_group, as_catch, those, is_code, is_group, is_in_group, is_in_try, all_are}
use Rattle.jr_expressions.proofs.Joined.{rising_from, those_from, those_joined}
use Rattle.jr_expressions.proofs.Standing.{first_or, others}

too_long : (a b : ℕ) → suc (a + b) ≡ b → ⊥
too_long a b h = omega (arith, h)

less_one : (a b : ℕ) → suc a ≡ suc b → a ≡ b
less_one a b h = omega (arith, h)

pub none_added : {T : Type 0} → (xs rest : List T) → length (xs ++ rest) ≡ length rest → xs ≡ []
none_added [] rest h = refl
none_added (p ∷ xs) rest h = absurd (too_long (length xs) (length rest) (sym (ap suc (length-append xs rest)) ∙ h))

-- ---- what is counted

one_more : (a b m : ℕ) → a + b ≡ m → suc a + b ≡ suc m
one_more a b m h = omega (arith, h)

none_more : (m : ℕ) → 0 + m ≡ m
none_more m = omega arith

split_by : {T : Type 0} → (b : Bool) (p : ℕ × T) (before : List T) (after ps : List (ℕ × T)) → length before + length after ≡ length ps
    → length (cond b (p.1 ∷ before) []) + length (cond b after (p ∷ ps)) ≡ suc (length ps)
split_by true p before after ps h = one_more (length before) (length after) (length ps) h
split_by false p before after ps h = none_more (suc (length ps))

split_count : {T : Type 0} → (e : ℕ) (all : List (ℕ × T)) → length (front e all) + length (behind e all) ≡ length all
split_count e [] = refl
split_count e (p ∷ ps) = split_by (nat_lt p.0 e) p (front e ps) (behind e ps) ps (split_count e ps)

rest_of : (a b m : ℕ) → a + b ≡ m → m - a ≡ b
rest_of a b m h = omega (arith, h)

-- the parts behind a row that ends here are the others
pub behind_count : {T : Type 0} → (e k : ℕ) (all : List (ℕ × T)) → k ≡ length (front e all) → length all - k ≡ length (behind e all)
behind_count e k all is = ap (λ m. length all - m) is ∙ rest_of (length (front e all)) (length (behind e all)) (length all) (split_count e all)

-- ---- codes

-- what is taken off is what stood inside, where as much is left as stands behind
pub parts_taken : (taken parts left rest : Below) → taken ++ left ≡ parts ++ rest → length left ≡ length rest → (parts ≡ taken) × (left ≡ rest)
parts_taken [] parts left rest is same = let none = none_added parts rest (sym (ap length is) ∙ same) in (none, is ∙ ap (λ xs. xs ++ rest) none)
parts_taken (t ∷ ts) [] left rest is same = absurd (too_long (length ts) (length left) (sym (ap suc (length-append ts left)) ∙ ap length is ∙ sym same))
parts_taken (t ∷ ts) (p ∷ ps) left rest is same =
    let behind = parts_taken ts ps left rest (ap others is) same in
    (ap (λ xs. p ∷ xs) behind.0 ∙ ap (λ x. x ∷ ts) (sym (ap (first_or t) is)), behind.1)

pub row_on_top : {T : Type 0} → (n : ℕ) (x : T) (left now : List (ℕ × T)) → now ≡ (n, x) ∷ left → is_top n now ≡ true
row_on_top n x left now is = ap (is_top n) is ∙ (Decides-eqb n n).1 refl

-- ---- parts of one kind

above_not : (k n : ℕ) → k ≡ n → n + 1 ≤ k → ⊥
above_not k n same le = omega (arith, same, le)

not_row : (b : Bool) (k n : ℕ) → nat_eq k n ≡ b → n + 1 ≤ k → b ≡ false
not_row true k n same le = let is = (Decides-eqb k n).0 same in absurd (above_not k n is le)
not_row false k n same le = refl

none_by : {T : Type 0} → (n : ℕ) (xs rest now : List (ℕ × T)) → AreFrom (n + 1) xs → now ≡ xs ++ rest → IsAlone n (length rest) now → xs ≡ []
none_by n [] rest now from is alone = refl
none_by n (p ∷ xs) rest now from is alone =
    none_added (p ∷ xs) rest (sym (ap length is) ∙ alone ∙ ap (λ b. one_if b (length rest)) (ap (is_top n) is ∙ not_row (nat_eq p.0 n) p.0 n refl from.0))

-- of a kind of which the row is none
pub none_inside : {T : Type 0} → (kind : Part → Option T) (n : ℕ) (inner outer : Parts) (now : List (ℕ × T)) → AreRising (n + 1) inner → now ≡ those kind (inner ++ outer)
    → IsAlone n (length (those kind outer)) now → those kind inner ≡ []
none_inside kind n inner outer now rising is alone =
    none_by n (those kind inner) (those kind outer) now (those_from kind (n + 1) inner (rising_from (n + 1) inner rising)) (is ∙ those_joined kind inner outer) alone

-- of the kind of the row
pub none_under : {T : Type 0} → (kind : Part → Option T) (n : ℕ) (x : T) (inner outer : Parts) (was now : List (ℕ × T)) → now ≡ (n, x) ∷ was → was ≡ those kind (inner ++ outer)
    → IsAlone n (length (those kind outer)) now → those kind inner ≡ []
none_under kind n x inner outer was now st is alone =
    none_added (those kind inner) (those kind outer)
    (sym (ap length (is ∙ those_joined kind inner outer))
    ∙ less_one (length was) (length (those kind outer)) (sym (ap length st) ∙ alone ∙ ap (λ b. one_if b (length (those kind outer))) (row_on_top n x was now st)))

-- ---- parts of which kinds there are

abbrev is_none : {T : Type 0} → List T → Bool
is_none [] = true
is_none (x ∷ xs) = false

pub not_none : {T : Type 0} → (x : T) (xs : List T) → x ∷ xs ≡ [] → ⊥
not_none x xs h = false≢true (ap is_none h)

pub only_codes : (parts : Parts) → those as_case parts ≡ [] → those as_group parts ≡ [] → those as_catch parts ≡ [] → all_are is_code parts ≡ true
only_codes [] cases groups catches = refl
only_codes ((n, code_part x) ∷ ps) cases groups catches = only_codes ps cases groups catches
only_codes ((n, case_part x) ∷ ps) cases groups catches = absurd (not_none (n, x) (those as_case ps) cases)
only_codes ((n, group_part x) ∷ ps) cases groups catches = absurd (not_none (n, x) (those as_group ps) groups)
only_codes ((n, catch_part x) ∷ ps) cases groups catches = absurd (not_none (n, x) (those as_catch ps) catches)

pub only_in_group : (parts : Parts) → those as_group parts ≡ [] → those as_catch parts ≡ [] → all_are is_in_group parts ≡ true
only_in_group [] groups catches = refl
only_in_group ((n, code_part x) ∷ ps) groups catches = only_in_group ps groups catches
only_in_group ((n, case_part x) ∷ ps) groups catches = only_in_group ps groups catches
only_in_group ((n, group_part x) ∷ ps) groups catches = absurd (not_none (n, x) (those as_group ps) groups)
only_in_group ((n, catch_part x) ∷ ps) groups catches = absurd (not_none (n, x) (those as_catch ps) catches)

pub only_in_try : (parts : Parts) → those as_case parts ≡ [] → those as_group parts ≡ [] → all_are is_in_try parts ≡ true
only_in_try [] cases groups = refl
only_in_try ((n, code_part x) ∷ ps) cases groups = only_in_try ps cases groups
only_in_try ((n, case_part x) ∷ ps) cases groups = absurd (not_none (n, x) (those as_case ps) cases)
only_in_try ((n, group_part x) ∷ ps) cases groups = absurd (not_none (n, x) (those as_group ps) groups)
only_in_try ((n, catch_part x) ∷ ps) cases groups = only_in_try ps cases groups

pub only_groups : (parts : Parts) → those as_code parts ≡ [] → those as_case parts ≡ [] → those as_catch parts ≡ [] → all_are is_group parts ≡ true
only_groups [] codes cases catches = refl
only_groups ((n, code_part x) ∷ ps) codes cases catches = absurd (not_none (n, x) (those as_code ps) codes)
only_groups ((n, case_part x) ∷ ps) codes cases catches = absurd (not_none (n, x) (those as_case ps) cases)
only_groups ((n, group_part x) ∷ ps) codes cases catches = only_groups ps codes cases catches
only_groups ((n, catch_part x) ∷ ps) codes cases catches = absurd (not_none (n, x) (those as_catch ps) catches)

pub no_parts : (parts : Parts) → those as_code parts ≡ [] → those as_case parts ≡ [] → those as_group parts ≡ [] → those as_catch parts ≡ [] → parts ≡ []
no_parts [] codes cases groups catches = refl
no_parts ((n, code_part x) ∷ ps) codes cases groups catches = absurd (not_none (n, x) (those as_code ps) codes)
no_parts ((n, case_part x) ∷ ps) codes cases groups catches = absurd (not_none (n, x) (those as_case ps) cases)
no_parts ((n, group_part x) ∷ ps) codes cases groups catches = absurd (not_none (n, x) (those as_group ps) groups)
no_parts ((n, catch_part x) ∷ ps) codes cases groups catches = absurd (not_none (n, x) (those as_catch ps) catches)
