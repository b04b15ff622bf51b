-- Namings of old rows by numbers, and copies by them.
use Rattle.std.proofs.Common.{◌≡◌, ◌≢◌, refl, sym, ◌∙◌, ap, subst, ⊎_elim, arith, ℕ, ◌+◌, ◌-◌, ◌<◌, ◌≤◌, Bool, true, false, ◌||◌, List, [], ◌∷◌, length, nat_eq, drop}
use Rattle.std.specs.Prelude.{Option, Some, if◌then◌else◌, replicate, slice_set, slice_index_or}
use Rattle.std.proofs.lemmas.Bool.{cases_lt}
use Rattle.std.proofs.lemmas.Bool.Decides.{Decides-eqb}
use Rattle.std.proofs.lemmas.List.{length-replicate, length-set, get_or-replicate, get_or-set_same, get_or-set_other, get_or_default, drop_more, drop_all}
use Rattle.std.proofs.lemmas.Option.{slice_get_past, slice_get-get_or}
use Rattle.jr_base.specs.declared.text.Text.{Text}
use Rattle.jr_tree.specs.declared.row.Row.{Row}
use Rattle.jr_tree.specs.Rows.{Rows, row}
use Rattle.jr_change.specs.declared.change.Naming.{Naming}
use Rattle.jr_locks.specs.Origins.{no_row, origin_of}
use Rattle.jr_locks.specs.Ending.{rest_at, takes_declarations, IsAsLong}
use Rattle.jr_locks.specs.Copying.{has_row, name_by, turned_at, IsCopy, AllCopies, name_or, name_at, name_of, name_in, with_number, AreNumbered, AreNumberedTo}

-- ---- numbers

pub more_numbers : (first now next rows : List ℕ) (number i at d : ℕ) → i < length rows → at ≡ slice_index_or rows i d → next ≡ slice_set now at number
    → with_number now (drop i rows) number ≡ with_number first rows number → with_number next (drop (i + 1) rows) number ≡ with_number first rows number
more_numbers first now next rows number i at d lt is set h = ap (λ xs. with_number xs (drop (i + 1) rows) number) set
    ∙ ap (λ k. with_number (slice_set now k number) (drop (i + 1) rows) number) is ∙ sym (ap (λ rs. with_number now rs number) (drop_more rows i d lt)) ∙ h

pub all_numbers : (first now rows : List ℕ) (number i : ℕ) → length rows ≤ i → with_number now (drop i rows) number ≡ with_number first rows number → now ≡ with_number first rows number
all_numbers first now rows number i past h = sym (ap (λ rs. with_number now rs number) (drop_all i rows past)) ∙ h

length_number : (all rows : List ℕ) (number : ℕ) → length (with_number all rows number) ≡ length all
length_number all [] number = refl
length_number all (row ∷ rest) number = length_number (slice_set all row number) rest number ∙ length-set all row number

same_either : (b : Bool) (x : ℕ) → (if b then x else x) ≡ x
same_either true x = refl
same_either false x = refl

number_is : (all rows : List ℕ) (number d : ℕ) → d < length all → origin_of (with_number all rows number) d ≡ (if has_row rows d then number else origin_of all d)
number_is all [] number d lt = refl
number_is all (r ∷ rest) number d lt = number_is (slice_set all r number) rest number d (let e = length-set all r number in omega (arith, e, lt)) ∙ by (nat_eq r d) refl
  where
    by : (b : Bool) → nat_eq r d ≡ b → (if has_row rest d then number else origin_of (slice_set all r number) d) ≡ (if b || has_row rest d then number else origin_of all d)
    by true is = let e = (Decides-eqb r d).0 is in
        ap (λ x. if has_row rest d then number else x) (subst (λ k. origin_of (slice_set all r number) k ≡ number) e (get_or-set_same all r number no_row (omega (arith, e, lt)))) ∙ same_either (has_row rest d) number
    by false is = ap (λ x. if has_row rest d then number else x) (get_or-set_other all r d number no_row (λ e. by_not is ((Decides-eqb r d).1 (sym e))))
      where
        by_not : nat_eq r d ≡ false → nat_eq r d ≡ true → ⊥
        by_not f t = absurd (cc)

name_is : (namings : List Naming) (numbers : List ℕ) (d : ℕ) (own : Text) → d < length numbers → name_in namings numbers d own ≡ name_at namings (origin_of numbers d) own
name_is namings numbers d own lt = ap (λ (n : Option ℕ). name_of namings n own) (slice_get-get_or numbers d no_row lt)

pub none_numbered : (namings : List Naming) (old : ℕ) → length namings < no_row → AreNumberedTo namings old (replicate old no_row) 0
none_numbered namings old few = record {
  few = few;
  count = length-replicate old no_row;
  each = λ d own lt. ap (name_by namings d) (name_is namings (replicate old no_row) d own (let e = length-replicate old no_row in omega (arith, e, lt))
      ∙ ap (λ k. name_at namings k own) (get_or-replicate old d no_row no_row lt)
      ∙ ap (λ (n : Option Naming). name_or n own) (slice_get_past namings no_row (omega (arith, few))));
}

pub numbered_more : (namings : List Naming) (old : ℕ) (numbers next : List ℕ) (k number : ℕ) (one : Naming) → k < length namings → one ≡ slice_index_or namings k one → number ≡ k
    → next ≡ with_number numbers one.rows.items number → AreNumberedTo namings old numbers k → AreNumberedTo namings old next (k + 1)
numbered_more namings old numbers next k number one lt is same set h = record {
  few = h.few;
  count = ap length set ∙ length_number numbers one.rows.items number ∙ h.count;
  each = λ d own inside. ap (name_by (drop (k + 1) namings) d) (now d own inside)
      ∙ sym (ap (λ (ns : List Naming). name_by ns d (name_in namings numbers d own)) (drop_more namings k one lt ∙ ap (λ (n : Naming). n ∷ drop (k + 1) namings) (sym is))) ∙ h.each d own inside;
}
  where
    found : (own : Text) → name_at namings number own ≡ one.name
    found own = ap (λ m. name_at namings m own) same ∙ ap (λ (n : Option Naming). name_or n own) (slice_get-get_or namings k one lt ∙ ap Some (sym is))

    by : (b : Bool) (m : ℕ) (own : Text) → name_at namings (if b then number else m) own ≡ (if b then one.name else name_at namings m own)
    by true m own = found own
    by false m own = refl

    now : (d : ℕ) (own : Text) → d < old → name_in namings next d own ≡ (if has_row one.rows.items d then one.name else name_in namings numbers d own)
    now d own inside = let l = h.count in let long = length_number numbers one.rows.items number in
        ap (λ xs. name_in namings xs d own) set ∙ name_is namings (with_number numbers one.rows.items number) d own (omega (arith, l, long, inside))
        ∙ ap (λ m. name_at namings m own) (number_is numbers one.rows.items number d (omega (arith, l, inside))) ∙ by (has_row one.rows.items d) (origin_of numbers d) own
        ∙ ap (λ (x : Text). if has_row one.rows.items d then one.name else x) (sym (name_is namings numbers d own (omega (arith, l, inside))))

pub numbered_all : (namings : List Naming) (old : ℕ) (numbers : List ℕ) (at : ℕ) → length namings ≤ at → AreNumberedTo namings old numbers at → AreNumbered namings old numbers
numbered_all namings old numbers at past h = record {
  each = λ d own inside. sym (ap (λ (ns : List Naming). name_by ns d (name_in namings numbers d own)) (drop_all at namings past)) ∙ h.each d own inside;
}

-- ---- copies

pub copy_by : (old : Rows) (named : ℕ → Text → Text) (d : ℕ) (is_turned : Bool) (rest at : ℕ) (one new : Row) → d < length old → one ≡ slice_index_or old d one
    → (is_turned ≡ false → new.label ≡ one.label) → new.name ≡ named d one.name → IsAsLong (takes_declarations one.label) rest (one.end - d) (new.end - at)
    → IsCopy old named d is_turned rest at new
copy_by old named d is_turned rest at one new lt is label_is name_is end_is = record {
  stood = lt;
  label_is = λ kept. label_is kept ∙ ap (λ (r : Row). r.label) same;
  name_is = name_is ∙ ap (λ (r : Row). named d r.name) same;
  end_is = subst (λ (r : Row). IsAsLong (takes_declarations r.label) rest (r.end - d) (new.end - at)) same end_is;
}
  where
    same : one ≡ row old d
    same = is ∙ get_or_default old d one _ lt

pub no_copies : (old : Rows) (named : ℕ → Text → Text) (origin : List ℕ) (is_turned : List Bool) (rests : List ℕ) (rows : Rows) → AllCopies old named origin is_turned rests rows 0
no_copies old named origin is_turned rests rows = record { each = λ n lt real. absurd (omega (arith, lt)) }

pub copies_more : (old : Rows) (named : ℕ → Text → Text) (origin : List ℕ) (is_turned : List Bool) (rests : List ℕ) (rows : Rows) (at : ℕ) (one : Row) → at < length rows
    → one ≡ slice_index_or rows at one → (origin_of origin at ≢ no_row → IsCopy old named (origin_of origin at) (turned_at is_turned at) (rest_at rests at) at one)
    → AllCopies old named origin is_turned rests rows at → AllCopies old named origin is_turned rests rows (at + 1)
copies_more old named origin is_turned rests rows at one inside is now h = record {
  each = λ n lt real. ⊎_elim
      (λ less. h.each n less real)
      (λ here. let e : n ≡ at = omega (arith, here, lt) in
      subst (λ k. IsCopy old named (origin_of origin k) (turned_at is_turned k) (rest_at rests k) k (row rows k)) (sym e)
      (subst (λ (r : Row). IsCopy old named (origin_of origin at) (turned_at is_turned at) (rest_at rests at) at r) (is ∙ get_or_default rows at one _ inside) (now (λ none. real (ap (origin_of origin) e ∙ none)))))
      (cases_lt n at);
}
