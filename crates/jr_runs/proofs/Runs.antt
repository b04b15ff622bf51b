-- The parts of a run, one behind the other.
use Rattle.std.proofs.Common.{◌≡◌, refl, sym, ◌∙◌, ap, ℕ, suc, ◌+◌, ◌<◌, ◌≤◌, Bool, true, false, cond, List, [], ◌∷◌, ◌++◌, length, Option, Some, arith, append_assoc}
use Rattle.std.specs.Prelude.{slice_set, nat_lt}
use Rattle.std.proofs.lemmas.Bool.Decides.{nat_tests}
use Rattle.jr_tree.specs.Rows.{Rows}
use Rattle.jr_defs.specs.Referents.{Table}
use Rattle.jr_shapes.specs.declared.spelling.Spelling.{Spelling}
use Rattle.jr_shapes.specs.Parts.{parts, receiver_of}
use Rattle.jr_shapes.specs.Arguments.{first_argument}
use Rattle.jr_runs.specs.declared.item.Item.{Item}
use Rattle.jr_runs.specs.declared.item.Front.{Front}
use Rattle.jr_runs.specs.Marks.{Marks, marked, with_casts, with_receiver_at, with_dropped}
use Rattle.jr_runs.specs.Plans.{Plan, with_run, runs_to, ended}

pub run_whole : (start front back one two three : List Item) (own : Item) → one ≡ start ++ front → two ≡ one ++ own ∷ [] → three ≡ two ++ back → three ≡ start ++ (front ++ own ∷ back)
run_whole start front back one two three own a b c =
    c ∙ ap (λ xs. xs ++ back) (b ∙ ap (λ xs. xs ++ own ∷ []) a) ∙ append_assoc (start ++ front) (own ∷ []) back ∙ append_assoc start front (own ∷ back)

plan_is : (a b : List Item) (s u k l : List ℕ) → a ≡ b → s ≡ u → k ≡ l → (let x : Plan = record { items = a; starts = s; copies = k } in let y : Plan = record { items = b; starts = u; copies = l } in x ≡ y)
plan_is a b s u k l e f g =
    let one : List Item → Plan = λ x. record { items = x; starts = s; copies = k } in
    let two : List ℕ → Plan = λ x. record { items = b; starts = x; copies = k } in
    let three : List ℕ → Plan = λ x. record { items = b; starts = u; copies = x } in
    ap one e ∙ ap two f ∙ ap three g

if_true : {A : Type 0} (b : Bool) (x y : A) → b ≡ true → cond b x y ≡ x
if_true true x y h = refl
if_true false x y h = cc

if_false : {A : Type 0} (b : Bool) (x y : A) → b ≡ false → cond b x y ≡ y
if_false true x y h = cc
if_false false x y h = refl

next_is : (n : ℕ) → suc n ≡ n + 1
next_is n = omega arith

-- one run more
pub one_run : (p : Rows) (t : Table) (c : List Spelling) (m : Marks) (back : List Bool) (n : ℕ) (x y : Plan) → x ≡ runs_to p t c m back n → y ≡ with_run p t c m back n x → y ≡ runs_to p t c m back (n + 1)
one_run p t c m back n x y before e = e ∙ ap (with_run p t c m back n) before ∙ ap (runs_to p t c m back) (next_is n)

-- and where the last run ends
pub ended_by : {x r : Plan} (y : Plan) (at : ℕ) → x ≡ r → at ≡ length x.items → y.items ≡ x.items → y.starts ≡ x.starts ++ at ∷ [] → y.copies ≡ x.copies → y ≡ ended r
ended_by {x = x} y at same place i s k =
    plan_is y.items x.items y.starts (x.starts ++ length x.items ∷ []) y.copies x.copies i (s ∙ ap (λ n. x.starts ++ n ∷ []) place) k ∙ ap ended same

marks_are : (a b : Marks) → a.chosen ≡ b.chosen → a.fronts ≡ b.fronts → a.dropped ≡ b.dropped → a ≡ b
marks_are a b e f g =
    let one : List (Option ℕ) → Marks = λ x. record { chosen = x; fronts = a.fronts; dropped = a.dropped } in
    let two : List Front → Marks = λ x. record { chosen = b.chosen; fronts = x; dropped = a.dropped } in
    let three : List Bool → Marks = λ x. record { chosen = b.chosen; fronts = b.fronts; dropped = x } in
    ap one e ∙ ap two f ∙ ap three g

-- a row that is not there is not marked
pub marked_outside : (p : Rows) (t : Table) (i : ℕ) (s : Spelling) (m y : Marks) → length p ≤ s.row → y ≡ m → y ≡ marked p t i s m
marked_outside p t i s m y h is = is ∙ sym (if_false (nat_lt s.row (length p)) _ m off)
  where
    off : nat_lt s.row (length p) ≡ false
    off = grind (arith, nat_tests)

pub marked_inside : (p : Rows) (t : Table) (i : ℕ) (s : Spelling) (m y : Marks) → s.row < length p → y.chosen ≡ slice_set m.chosen s.row (Some i)
    → y.fronts ≡ with_casts p s.row (first_argument p s.row) s.casts.items (with_receiver_at s.shape i (receiver_of p t s.row) m.fronts)
    → y.dropped ≡ with_dropped (parts p t s.row) m.dropped → y ≡ marked p t i s m
marked_inside p t i s m y h a b d = marks_are y all a b d ∙ sym (if_true (nat_lt s.row (length p)) all m on)
  where
    all : Marks
    all = record {
      chosen = slice_set m.chosen s.row (Some i);
      fronts = with_casts p s.row (first_argument p s.row) s.casts.items (with_receiver_at s.shape i (receiver_of p t s.row) m.fronts);
      dropped = with_dropped (parts p t s.row) m.dropped;
    }

    on : nat_lt s.row (length p) ≡ true
    on = grind (arith, nat_tests)
