-- Steps of loops that put names, texts, orders and rows together.
use Rattle.std.proofs.Common.{◌≡◌, refl, sym, ◌∙◌, ap, ap₂, subst, ⊎_elim, arith, ℕ, zero, suc, ◌+◌, ◌-◌, ◌<◌, ◌≤◌, Bool, true, false, cond, not, ◌&&◌, List, [], ◌∷◌, ◌++◌, length, map, codes, Option, Some, None, nat_eq, nat_le, nat_lt, Decides, add-one, append_assoc, append-nil}
use Rattle.std.proofs.lemmas.Bool.{false≢true, cases_lt}
use Rattle.std.proofs.lemmas.Bool.Decides.{Decides-ltb}
use Rattle.jr_plain.proofs.Enclosed.{most}
use Rattle.jr_text.specs.Spans.{part, unit_bytes, tokens_span}
use Rattle.jr_tree.specs.Rows.{Rows, label, name}
use Rattle.jr_plain.specs.Search.{gathered}
use Rattle.jr_marks.specs.declared.marks.Marks.{Marks}
use Rattle.jr_marks.proofs.Firsts.{label_past}
use Rattle.jr_draft.specs.declared.packages.Head.{Head}
use Rattle.jr_draft.specs.Drafting.{Drafted, glued, text_kept, texts_kept}
use Rattle.jr_draft.specs.Ordering.{Placed, placed_below, placed_last, with_placed}
use Rattle.jr_draft.specs.Packages.{dotted, dot_before, folder_of_package, slash_for_dot, declaration_of, with_package_rows, declared_row, count_identifiers, is_import, is_package}
use Rattle.jr_draft.specs.Parting.{import_line, import_lines}

-- ---- names and declarations

-- a package declaration is written
pub package_within : (p : Rows) (n : ℕ) → is_package (label p n) ≡ true → n < length p
package_within p n h = ⊎_elim (λ lt. lt) (λ past. absurd (false≢true (sym (ap is_package (label_past p n past)) ∙ h))) (cases_lt n (length p))

pub dotted_more : (p : Rows) (behind k : ℕ) (first done dotted_too more : List ℕ) → done ≡ first ++ dotted p behind k → dotted_too ≡ done ++ dot_before k → more ≡ dotted_too ++ name p (behind - k - 1)
    → more ≡ first ++ dotted p behind (k + 1)
dotted_more p behind k first done dotted_too more h dot made = rw add-one (made ∙ ap (λ xs. xs ++ name p (behind - k - 1)) (dot ∙ ap (λ xs. xs ++ dot_before k) h ∙ append_assoc first (dotted p behind k) (dot_before k))
    ∙ append_assoc first (dotted p behind k ++ dot_before k) (name p (behind - k - 1)))

pub folder_none : (named all : List ℕ) → length named ≡ 0 → all ≡ map slash_for_dot named → all ≡ folder_of_package named
folder_none [] all none h = h
folder_none (b ∷ bs) all none h = absurd (omega arith)

pub folder_some : (named all more : List ℕ) → 0 < length named → all ≡ map slash_for_dot named → more ≡ all ++ 47 ∷ [] → more ≡ folder_of_package named
folder_some [] all more some h made = absurd (omega arith)
folder_some (b ∷ bs) all more some h made = made ∙ ap (λ xs. xs ++ 47 ∷ []) h

pub declaration_none : (named : List ℕ) → length named ≡ 0 → [] ≡ declaration_of named
declaration_none [] none = refl
declaration_none (b ∷ bs) none = absurd (omega arith)

pub declaration_some : (named all : List ℕ) → 0 < length named → all ≡ codes "package " ++ named ++ codes ";" ++ 10 ∷ [] → all ≡ declaration_of named
declaration_some [] all some made = absurd (omega arith)
declaration_some (b ∷ bs) all some made = made

pub rows_none : (named : List ℕ) (declared : Option ℕ) (d : Drafted) → length named ≡ 0 → d ≡ with_package_rows named declared d
rows_none [] declared d none = refl
rows_none (b ∷ bs) declared d none = absurd (omega arith)

pub rows_some : (named : List ℕ) (declared : Option ℕ) (d more : Drafted) → 0 < length named → more ≡ glued (declared_row d declared) (count_identifiers named) → more ≡ with_package_rows named declared d
rows_some [] declared d more some made = absurd (omega arith)
rows_some (b ∷ bs) declared d more some made = made

-- ---- orders

-- one unit more
pub placed_more : (m : Marks) (moved : ℕ) (path : List ℕ) (unit : ℕ) (before more : Placed) → 2 ≤ unit → before ≡ placed_below m moved path unit → more ≡ with_placed m moved path unit before
    → more ≡ placed_below m moved path (unit + 1)
placed_more m moved path unit before more behind h made = rw add-one (made ∙ ap (with_placed m moved path unit) h ∙ by (nat_lt unit 2) (Decides-ltb unit 2))
  where
    by : (b : Bool) → Decides b (unit < 2) → with_placed m moved path unit (placed_below m moved path unit) ≡ cond b (placed_below m moved path unit) (with_placed m moved path unit (placed_below m moved path unit))
    by true d = let lt = d.0 refl in absurd (omega arith)
    by false d = refl

pub placed_all : (m : Marks) (moved : ℕ) (path : List ℕ) (unit count : ℕ) (before : Placed) (order : List ℕ) → unit ≡ count → before ≡ placed_below m moved path unit → order ≡ placed_last moved before
    → order ≡ placed_last moved (placed_below m moved path count)
placed_all m moved path unit count before order same h made = made ∙ ap (placed_last moved) (h ∙ ap (placed_below m moved path) same)

-- ---- imports

line_before : (m : Marks) (head : Head) (at : ℕ) → at < head.imports → import_line m head at ≡ []
line_before m head at lt = by (nat_le head.imports at) (most head.imports at)
  where
    by : (b : Bool) → Decides b (head.imports ≤ at) → cond (b && is_import (label m.rows.now at)) (part (unit_bytes m head.unit) (tokens_span m at) ++ 10 ∷ []) [] ≡ []
    by true d = let le = d.0 refl in absurd (omega arith)
    by false d = refl

pub line_there : (m : Marks) (head : Head) (at : ℕ) → head.imports ≤ at → is_import (label m.rows.now at) ≡ true → part (unit_bytes m head.unit) (tokens_span m at) ++ 10 ∷ [] ≡ import_line m head at
line_there m head at le is = by (nat_le head.imports at) (is_import (label m.rows.now at)) (most head.imports at) is
  where
    by : (b c : Bool) → Decides b (head.imports ≤ at) → c ≡ true → part (unit_bytes m head.unit) (tokens_span m at) ++ 10 ∷ [] ≡ cond (b && c) (part (unit_bytes m head.unit) (tokens_span m at) ++ 10 ∷ []) []
    by true true d is = refl
    by true false d is = absurd (false≢true is)
    by false c d is = absurd (false≢true (d.1 le))

pub line_none : (m : Marks) (head : Head) (at : ℕ) → is_import (label m.rows.now at) ≡ false → [] ≡ import_line m head at
line_none m head at is = by (nat_le head.imports at) (is_import (label m.rows.now at)) is
  where
    by : (b c : Bool) → c ≡ false → [] ≡ cond (b && c) (part (unit_bytes m head.unit) (tokens_span m at) ++ 10 ∷ []) []
    by true false is = refl
    by true true is = absurd (false≢true (sym is))
    by false c is = refl

-- no lines stand before the first import
pub lines_before : (m : Marks) (head : Head) (n : ℕ) → n ≤ head.imports → gathered n (import_line m head) ≡ []
lines_before m head zero le = refl
lines_before m head (suc n) le = ap₂ (λ xs ys. xs ++ ys) (lines_before m head n (omega arith)) (line_before m head n (omega arith))

-- ---- texts

-- one unit more
pub texts_more : (m : Marks) (unit : ℕ) (before more : Drafted) → 2 ≤ unit → before ≡ texts_kept m unit → more ≡ text_kept m unit before → more ≡ texts_kept m (unit + 1)
texts_more m unit before more behind h made = rw add-one (made ∙ ap (text_kept m unit) h ∙ by (nat_lt unit 2) (Decides-ltb unit 2))
  where
    by : (b : Bool) → Decides b (unit < 2) → text_kept m unit (texts_kept m unit) ≡ cond b (texts_kept m unit) (text_kept m unit (texts_kept m unit))
    by true d = let lt = d.0 refl in absurd (omega arith)
    by false d = refl

-- ---- lines

pub lines_start : (m : Marks) (head : Head) (first : List ℕ) → first ≡ first ++ gathered head.imports (import_line m head)
lines_start m head first = sym (ap (λ xs. first ++ xs) (lines_before m head head.imports (omega arith)) ∙ append-nil first)

pub lines_all : (m : Marks) (head : Head) (at : ℕ) (first out : List ℕ) → (head.types < head.imports → out ≡ first) → out ≡ first ++ gathered at (import_line m head) → head.types ≤ at
    → (head.imports ≤ head.types → at ≤ head.types) → out ≡ first ++ import_lines m head
lines_all m head at first out none lines past reached = ⊎_elim (λ lt. none lt ∙ sym (ap (λ xs. first ++ xs) (lines_before m head head.types (omega arith)) ∙ append-nil first))
    (λ le. let within = reached le in let same : at ≡ head.types = omega arith in lines ∙ ap (λ n. first ++ gathered n (import_line m head)) same) (cases_lt head.types head.imports)
