-- A forest of labels as a list of labels that open and close, and the rows that are built from it.
use Rattle.std.proofs.Common.{◌≡◌, ℕ, suc, ◌+◌, [], ◌∷◌, ◌++◌, length, refl, sym, ap, ◌∙◌, arith, length-append, append_assoc, append-nil}
use Rattle.std.specs.Prelude.{set}
use Rattle.std.proofs.Math.Seq.{set-append_seam, get_or-append_seam}
use Rattle.jr_base.specs.declared.text.Text.{Text}
use Rattle.jr_tree.specs.declared.label.Label.{Label}
use Rattle.jr_tree.specs.declared.label.Label.TheVariants as is
use Rattle.jr_tree.specs.declared.row.Row.{Row}
use Rattle.jr_tree.specs.Forest.{Forest, none, more, size}
use Rattle.jr_tree.specs.Rows.{Rows, rows_from, row}
use Rattle.jr_tree.proofs.Trees.{length_rows}
use Rattle.jr_index.specs.Events.{Open, Close, Pass, Own, OwnLast, Declare, Restart, Events}
use Rattle.jr_index.specs.Building.{State, opened, closed, step, built}
use Rattle.jr_index.specs.Marking as marking
use Rattle.jr_index.specs.Marking.{Course, run}

abbrev pub events_of : Forest → Events
events_of none = []
events_of (more l x kids rest) = Open l x ∷ (events_of kids ++ Close ∷ events_of rest)

pub built_append : (s : State) (xs ys : Events) → built s (xs ++ ys) ≡ built (built s xs) ys
built_append s [] ys = refl
built_append s (e ∷ xs) ys = built_append (step e s) xs ys

-- the labels alone, as they open and close
abbrev pub erase : Events → Events
erase [] = []
erase (Open l x ∷ es) = Open l x ∷ erase es
erase (Close ∷ es) = Close ∷ erase es
erase (Pass n ∷ es) = erase es
erase (Own ∷ es) = erase es
erase (OwnLast ∷ es) = erase es
erase (Declare ∷ es) = erase es
erase (Restart ∷ es) = erase es

pub erase_append : (xs ys : Events) → erase (xs ++ ys) ≡ erase xs ++ erase ys
erase_append [] ys = refl
erase_append (Open l x ∷ xs) ys = ap (λ all. Open l x ∷ all) (erase_append xs ys)
erase_append (Close ∷ xs) ys = ap (λ all. Close ∷ all) (erase_append xs ys)
erase_append (Pass n ∷ xs) ys = erase_append xs ys
erase_append (Own ∷ xs) ys = erase_append xs ys
erase_append (OwnLast ∷ xs) ys = erase_append xs ys
erase_append (Declare ∷ xs) ys = erase_append xs ys
erase_append (Restart ∷ xs) ys = erase_append xs ys

-- tokens leave rows as they are
pub built_erased : (s : State) (es : Events) → built s es ≡ built s (erase es)
built_erased s [] = refl
built_erased s (Open l x ∷ es) = built_erased (opened l x s) es
built_erased s (Close ∷ es) = built_erased (closed s) es
built_erased s (Pass n ∷ es) = built_erased s es
built_erased s (Own ∷ es) = built_erased s es
built_erased s (OwnLast ∷ es) = built_erased s es
built_erased s (Declare ∷ es) = built_erased s es
built_erased s (Restart ∷ es) = built_erased s es

-- the rows of a course
pub run_rows : (c : Course) (es : Events) → (run c es).building ≡ built c.building es
run_rows c [] = refl
run_rows c (Open l x ∷ es) = run_rows (marking.step (Open l x) c) es
run_rows c (Close ∷ es) = run_rows (marking.step Close c) es
run_rows c (Pass n ∷ es) = run_rows (marking.step (Pass n) c) es
run_rows c (Own ∷ es) = run_rows (marking.step Own c) es
run_rows c (OwnLast ∷ es) = run_rows (marking.step OwnLast c) es
run_rows c (Declare ∷ es) = run_rows (marking.step Declare c) es
run_rows c (Restart ∷ es) = run_rows (marking.step Restart c) es

abbrev state : Rows → ℕ → ℕ → State
state rows over before = record { rows = rows; over = over; before = before }

abbrev head : Label → Text → ℕ → ℕ → ℕ → Row
head l x over before end = record { label = l; name = x; parent = over; end = end; previous = before }

-- the root that opened last
abbrev pub last_root : ℕ → ℕ → Forest → ℕ
last_root before at none = before
last_root before at (more l x kids rest) = last_root at (at + 1 + size kids) rest

abbrev after : Rows → ℕ → ℕ → ℕ → Forest → State
after rows over before at f = state (rows ++ rows_from over before at f) over (last_root before at f)

-- the row behind rows closes, with kids below it
closing : (rows kids : Rows) (r : Row) (b : ℕ) → closed (state ((rows ++ r ∷ []) ++ kids) (length rows) b)
    ≡ state (rows ++ record r { end = length rows + suc (length kids) } ∷ kids) r.parent (length rows)
closing rows kids r b =
    let flat : (rows ++ r ∷ []) ++ kids ≡ rows ++ r ∷ kids = append_assoc rows (r ∷ []) kids in
    let size : length (rows ++ r ∷ kids) ≡ length rows + suc (length kids) = length-append rows (r ∷ kids) in
    let at : row (rows ++ r ∷ kids) (length rows) ≡ r = get_or-append_seam rows r kids (record { label = is.Skip; name = []; parent = length rows; end = length rows + 1; previous = length rows }) in
    ap (λ all. closed (state all (length rows) b)) flat
    ∙ ap (λ (found : Row). state (set (rows ++ r ∷ kids) (length rows) (record found { end = length (rows ++ r ∷ kids) })) found.parent (length rows)) at
    ∙ ap (λ all. state all r.parent (length rows)) (set-append_seam rows r kids (record r { end = length (rows ++ r ∷ kids) }))
    ∙ ap (λ n. state (rows ++ record r { end = n } ∷ kids) r.parent (length rows)) size

-- what stands behind a row and its kids, from their end on
further : (rows below : Rows) (l : Label) (x : Text) (over before end : ℕ) (rest : Forest) → length rows + suc (length below) ≡ end
    → after (rows ++ head l x over before (length rows + suc (length below)) ∷ below) over (length rows)
    (length (rows ++ head l x over before (length rows + suc (length below)) ∷ below)) rest
    ≡ state (rows ++ (head l x over before end ∷ below ++ rows_from over (length rows) end rest)) over (last_root (length rows) end rest)
further rows below l x over before end rest e =
    let size : length (rows ++ head l x over before (length rows + suc (length below)) ∷ below) ≡ end
    = length-append rows (head l x over before (length rows + suc (length below)) ∷ below) ∙ e in
    ap (λ n. after (rows ++ head l x over before (length rows + suc (length below)) ∷ below) over (length rows) n rest) size
    ∙ ap (λ n. after (rows ++ head l x over before n ∷ below) over (length rows) end rest) e
    ∙ ap (λ all. state all over (last_root (length rows) end rest)) (append_assoc rows (head l x over before end ∷ below) (rows_from over (length rows) end rest))

pub built_forest : (f : Forest) (rows : Rows) (over before : ℕ) → built (state rows over before) (events_of f) ≡ after rows over before (length rows) f
built_forest none rows over before = ap (λ all. state all over before) (sym (append-nil rows))
built_forest (more l x kids rest) rows over before =
    let n = length rows in
    let r = head l x over before n in
    let below = rows_from n n (n + 1) kids in
    let one : length (rows ++ r ∷ []) ≡ n + 1 = length-append rows (r ∷ []) in
    let count : length below ≡ size kids = length_rows n n (n + 1) kids in
    let inner : built (state (rows ++ r ∷ []) n n) (events_of kids) ≡ after (rows ++ r ∷ []) n n (n + 1) kids
    = built_forest kids (rows ++ r ∷ []) n n ∙ ap (λ m. after (rows ++ r ∷ []) n n m kids) one in
    built_append (state (rows ++ r ∷ []) n n) (events_of kids) (Close ∷ events_of rest)
    ∙ ap (λ s. built (closed s) (events_of rest)) inner
    ∙ ap (λ s. built s (events_of rest)) (closing rows below r (last_root n (n + 1) kids))
    ∙ built_forest rest (rows ++ record r { end = n + suc (length below) } ∷ below) over n
    ∙ further rows below l x over before (n + 1 + size kids) rest (omega arith)
