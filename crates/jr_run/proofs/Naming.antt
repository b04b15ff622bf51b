-- Canonical names, from the rows of their identifiers (JLS 6.7).
use Rattle.std.proofs.Common.{◌≡◌, refl, sym, ◌∙◌, ap, ℕ, zero, suc, ◌+◌, ◌-◌, ◌<◌, ◌≤◌, Bool, true, false, cond, List, [], ◌∷◌, ◌++◌, append_assoc, append-nil, map, length, Option, Some, None, arith}
use Rattle.std.proofs.lemmas.Bool.{false≢true}
use Rattle.std.proofs.lemmas.List.{reverse-append}
use Rattle.std.proofs.lemmas.Option.{none-some, same_Some}
use Rattle.std.specs.Prelude.{Decides}
use Rattle.std.specs.Option.{option_map_or}
use Rattle.jr_base.specs.declared.text.Text.{Text}
use Rattle.jr_tree.specs.declared.label.Label.{Label}
use Rattle.jr_tree.specs.declared.label.Label.TheVariants as is
use Rattle.jr_tree.specs.Rows.{Rows, label, name, end}
use Rattle.jr_defs.specs.Packages.{identifiers, package_by, package_of, spelled}
use Rattle.jr_plain.specs.Enclosing.{declaring_type}
use Rattle.jr_plain.specs.Packages.{is_in_unit, unit_of}
use Rattle.jr_plain.proofs.Searches.{finds_first}
use Rattle.jr_places.specs.Packages.{is_package}
use Rattle.jr_run.specs.Names.{behind_dots, canonical_path, dotted, named, package_path, package_row, path_within}

-- ---- names

pub named_push : (p : Rows) (all : List ℕ) (n : ℕ) → named p (all ++ n ∷ []) ≡ name p n ∷ named p all
named_push p all n = ap (map (name p)) (reverse-append all (n ∷ []))

-- the names of so many rows from n on, from the last back
abbrev pub names_back : Rows → ℕ → ℕ → List Text
names_back p n zero = []
names_back p n (suc k) = name p (n + k) ∷ names_back p n k

next_row : (n k : ℕ) → n + 1 + k ≡ n + suc k
next_row n k = omega arith

same_row : (n : ℕ) → n + zero ≡ n
same_row n = omega arith

names_first : (p : Rows) (n k : ℕ) → names_back p (n + 1) k ++ name p n ∷ [] ≡ names_back p n (suc k)
names_first p n zero = ap (λ m. name p m ∷ []) (sym (same_row n))
names_first p n (suc k) = ap (λ m. name p m ∷ (names_back p (n + 1) k ++ name p n ∷ [])) (next_row n k) ∙ ap (λ xs. name p (n + suc k) ∷ xs) (names_first p n k)

identifiers_are : (p : Rows) (n more : ℕ) → identifiers p n more ≡ names_back p n (suc more)
identifiers_are p n zero = ap (λ m. name p m ∷ []) (sym (same_row n))
identifiers_are p n (suc more) = ap (λ xs. xs ++ name p n ∷ []) (identifiers_are p (n + 1) more) ∙ names_first p n (suc more)

pub names_none : (p : Rows) (n k : ℕ) (xs : List Text) → k ≡ 0 → xs ≡ names_back p n k ++ xs
names_none p n k xs none = sym (ap (λ j. names_back p n j ++ xs) none)

same_place : (n at : ℕ) → n ≤ at → n + (at - n) ≡ at
same_place n at le = omega (arith, le)

one_more : (n at : ℕ) → n ≤ at → at + 1 - n ≡ suc (at - n)
one_more n at le = omega (arith, le)

pub names_more : (p : Rows) (n at : ℕ) (old new : List ℕ) (xs : List Text) → n ≤ at → new ≡ old ++ at ∷ [] → named p old ≡ names_back p n (at - n) ++ xs → named p new ≡ names_back p n (at + 1 - n) ++ xs
names_more p n at old new xs le adds so =
    ap (named p) adds ∙ named_push p old at ∙ ap (λ ys. name p at ∷ ys) so
    ∙ ap (λ m. name p m ∷ (names_back p n (at - n) ++ xs)) (sym (same_place n at le)) ∙ ap (λ k. names_back p n k ++ xs) (sym (one_more n at le))

all_rows : (n stop e : ℕ) → n < e → e ≤ stop → stop ≤ e → stop - n ≡ suc (e - (n + 1))
all_rows n stop e lt le ge = omega (arith, lt, le, ge)

pub names_all : (p : Rows) (n stop : ℕ) (all : List ℕ) (xs : List Text) → n < end p n → end p n ≤ stop → stop ≤ end p n → named p all ≡ names_back p n (stop - n) ++ xs → named p all ≡ spelled p n ++ xs
names_all p n stop all xs lt le ge so = so ∙ ap (λ k. names_back p n k ++ xs) (all_rows n stop (end p n) lt le ge) ∙ ap (λ ys. ys ++ xs) (sym (identifiers_are p n (end p n - (n + 1))))

-- ---- packages

label_declares : (l : Label) (p : Rows) (u : ℕ) → is_package l ≡ true → package_by l p u ≡ spelled p (u + 2)
label_declares is.Package p u h = refl
label_declares _ p u h = absurd (false≢true h)

label_declares_none : (l : Label) (p : Rows) (u : ℕ) → is_package l ≡ false → package_by l p u ≡ []
label_declares_none is.Package p u h = absurd (false≢true (sym h))
label_declares_none _ p u h = refl

package_is : (p : Rows) (u : ℕ) (b : Bool) (o : Option ℕ) → o ≡ cond b (Some (u + 2)) None → (last : ℕ) → o ≡ Some last → (b ≡ true) × (last ≡ u + 2)
package_is p u true o is last found = (refl, sym (same_Some _ _ (sym is ∙ found)))
package_is p u false o is last found = absurd (none-some last (sym is ∙ found))

pub package_there : (p : Rows) (u last : ℕ) (found : Option ℕ) → found ≡ package_row p u → found ≡ Some last → last ≡ u + 2
package_there p u last found is some = (package_is p u (is_package (label p (u + 1))) found is last some).1

pub package_spelled : (p : Rows) (u last : ℕ) (found : Option ℕ) → found ≡ package_row p u → found ≡ Some last → spelled p last ≡ package_of p u
package_spelled p u last found is some =
    let h = package_is p u (is_package (label p (u + 1))) found is last some in
    ap (spelled p) h.1 ∙ sym (label_declares (label p (u + 1)) p u h.0)

package_no : (u : ℕ) (b : Bool) (o : Option ℕ) → o ≡ cond b (Some (u + 2)) None → o ≡ None → b ≡ false
package_no u true o is none = absurd (none-some (u + 2) (sym none ∙ is))
package_no u false o is none = refl

pub package_unnamed : (p : Rows) (u : ℕ) (found : Option ℕ) → found ≡ package_row p u → found ≡ None → package_of p u ≡ []
package_unnamed p u found is none = label_declares_none (label p (u + 1)) p u (package_no u (is_package (label p (u + 1))) found is none)

-- ---- the unit of a row

itself : (b : Bool) → Decides b (b ≡ true)
itself b = (λ h. h, λ h. h)

pub unit_inside : (p : Rows) (c u : ℕ) (found : Option ℕ) → found ≡ unit_of p c → found ≡ Some u → u < length p
unit_inside p c u found is some = ((finds_first (λ k. is_in_unit p k c) (λ k. is_in_unit p k c ≡ true) (λ k. itself (is_in_unit p k c)) (length p) u).0 (sym is ∙ some)).0

pub path_there : (p : Rows) (c u : ℕ) (found : Option ℕ) → found ≡ unit_of p c → found ≡ Some u → package_of p u ≡ package_path p c
path_there p c u found is some = sym (ap (λ o. option_map_or (package_of p) o []) (sym is ∙ some))

pub path_away : (p : Rows) (c : ℕ) (found : Option ℕ) → found ≡ unit_of p c → found ≡ None → package_path p c ≡ []
path_away p c found is none = ap (λ o. option_map_or (package_of p) o []) (sym is ∙ none)

-- ---- the types round a type

-- what is added is the rest of the path, before what was there
pub record PathSo (p : Rows) (class turn at : ℕ) (old all : List ℕ) : Type 0 where
  pub so : path_within p (length p - turn) at ++ named p all ≡ canonical_path p class ++ named p old

all_turns : (n : ℕ) → n - 0 ≡ n
all_turns n = omega arith

pub path_start : (p : Rows) (class : ℕ) (old : List ℕ) → PathSo p class 0 class old old
path_start p class old = record { so = ap (λ k. path_within p k class ++ named p old) (all_turns (length p)) }

one_turn : (n turn : ℕ) → turn < n → n - turn ≡ suc (n - (turn + 1))
one_turn n turn lt = omega (arith, lt)

no_turn : (n turn : ℕ) → n ≤ turn → n - turn ≡ 0
no_turn n turn le = omega (arith, le)

within_is : (p : Rows) (turn at : ℕ) (over : Option ℕ) → turn < length p → over ≡ declaring_type p at
    → path_within p (length p - turn) at ≡ option_map_or (λ d. path_within p (length p - (turn + 1)) d) over (package_path p at) ++ name p at ∷ []
within_is p turn at over lt is = ap (λ k. path_within p k at) (one_turn (length p) turn lt)
    ∙ ap (λ o. option_map_or (λ d. path_within p (length p - (turn + 1)) d) o (package_path p at) ++ name p at ∷ []) (sym is)

step_by : (p : Rows) (turn at : ℕ) (old new : List ℕ) (over : Option ℕ) → turn < length p → over ≡ declaring_type p at → new ≡ old ++ at ∷ []
    → option_map_or (λ d. path_within p (length p - (turn + 1)) d) over (package_path p at) ++ named p new ≡ path_within p (length p - turn) at ++ named p old
step_by p turn at old new over lt is adds =
    let before = option_map_or (λ d. path_within p (length p - (turn + 1)) d) over (package_path p at) in
    ap (λ xs. before ++ xs) (ap (named p) adds ∙ named_push p old at) ∙ sym (append_assoc before (name p at ∷ []) (named p old))
    ∙ ap (λ xs. xs ++ named p old) (sym (within_is p turn at over lt is))

pub path_more : (p : Rows) (class turn at over : ℕ) (start old new : List ℕ) (found : Option ℕ) → PathSo p class turn at start old → turn < length p → found ≡ declaring_type p at → found ≡ Some over → new ≡ old ++ at ∷ []
    → PathSo p class (turn + 1) over start new
path_more p class turn at over start old new found so lt is some adds = record {
  so = ap (λ o. option_map_or (λ d. path_within p (length p - (turn + 1)) d) o (package_path p at) ++ named p new) (sym some) ∙ step_by p turn at old new found lt is adds ∙ so.so;
}

pub path_last : (p : Rows) (class turn at : ℕ) (start old new all : List ℕ) (found : Option ℕ) → PathSo p class turn at start old → turn < length p → found ≡ declaring_type p at → found ≡ None → new ≡ old ++ at ∷ []
    → named p all ≡ package_path p at ++ named p new → named p all ≡ canonical_path p class ++ named p start
path_last p class turn at start old new all found so lt is none adds added =
    added ∙ ap (λ o. option_map_or (λ d. path_within p (length p - (turn + 1)) d) o (package_path p at) ++ named p new) (sym none) ∙ step_by p turn at old new found lt is adds ∙ so.so

pub path_end : (p : Rows) (class turn at : ℕ) (start all : List ℕ) → PathSo p class turn at start all → length p ≤ turn → named p all ≡ canonical_path p class ++ named p start
path_end p class turn at start all so le = ap (λ k. path_within p k at ++ named p all) (sym (no_turn (length p) turn le)) ∙ so.so

-- ---- dots

pub dots_more : (p : Rows) (old mid new all shown : Text) (left more : List ℕ) (at : ℕ) → left ≡ at ∷ more → mid ≡ old ++ 46 ∷ [] → new ≡ mid ++ shown → shown ≡ name p at → old ++ behind_dots (map (name p) left) ≡ all → new ++ behind_dots (map (name p) more) ≡ all
dots_more p old mid new all shown left more at same dot adds named so =
    ap (λ xs. xs ++ behind_dots (map (name p) more)) (adds ∙ ap (λ xs. mid ++ xs) named ∙ ap (λ xs. xs ++ name p at) dot ∙ append_assoc old (46 ∷ []) (name p at))
    ∙ append_assoc old (46 ∷ name p at) (behind_dots (map (name p) more)) ∙ ap (λ xs. old ++ behind_dots (map (name p) xs)) (sym same) ∙ so

pub dots_end : (p : Rows) (done all : Text) (left : List ℕ) → left ≡ [] → done ++ behind_dots (map (name p) left) ≡ all → done ≡ all
dots_end p done all left none so = sym (append-nil done) ∙ ap (λ xs. done ++ behind_dots (map (name p) xs)) (sym none) ∙ so

pub dots_first : (p : Rows) (old mid new : Text) (some rest : List ℕ) (first : ℕ) → some ≡ first ∷ rest → mid ≡ old ++ name p first → new ≡ mid ++ behind_dots (map (name p) rest) → new ≡ old ++ dotted (map (name p) some)
dots_first p old mid new some rest first same named so =
    so ∙ ap (λ xs. xs ++ behind_dots (map (name p) rest)) named ∙ append_assoc old (name p first) (behind_dots (map (name p) rest)) ∙ ap (λ xs. old ++ dotted (map (name p) xs)) (sym same)

pub dots_none : (p : Rows) (old : Text) (some : List ℕ) → some ≡ [] → old ≡ old ++ dotted (map (name p) some)
dots_none p old some none = sym (ap (λ xs. old ++ dotted (map (name p) xs)) none ∙ append-nil old)

-- ---- what is added before

pub front_is : (new old xs ys : List Text) → new ≡ xs ++ old → xs ≡ ys → new ≡ ys ++ old
front_is new old xs ys adds same = adds ∙ ap (λ zs. zs ++ old) same

pub front_none : (old ys : List Text) → ys ≡ [] → old ≡ ys ++ old
front_none old ys none = sym (ap (λ zs. zs ++ old) none)

pub last_counted : (u last len bound : ℕ) → last ≡ u + 2 → u < len → len + 3 < bound → last + 1 < bound
last_counted u last len bound is lt few = omega (arith, is, lt, few)
