-- The edits of all units, piece by piece.
use Rattle.std.proofs.Common.{◌≡◌, refl, sym, ◌∙◌, ap, subst, ℕ, zero, suc, ◌<◌, Bool, true, false, cond, List, [], ◌∷◌, ◌++◌, length, map, reverse, Option, Some, None, ⊎_elim}
use Rattle.std.specs.Prelude.{nat_eq, slice_get, slice_set}
use Rattle.std.proofs.lemmas.Bool.Decides.{eqb_tells}
use Rattle.std.proofs.lemmas.List.{get_or-set_same, get_or-set_other, length-set}
use Rattle.std.proofs.lemmas.Option.{get_or_from_slice_get, slice_get-get_or, slice_get_within}
use Rattle.jr_tree.specs.Rows.{Rows}
use Rattle.jr_defs.specs.declared.program.UnitAt.{UnitAt}
use Rattle.jr_defs.specs.Referents.{Table}
use Rattle.jr_marks.specs.declared.marks.Marks.{Marks}
use Rattle.jr_marks.specs.Places.{IsOrdered}
use Rattle.jr_shapes.specs.declared.spelling.Spelling.{Spelling}
use Rattle.jr_edits.specs.declared.edit.Edit.{Edit}
use Rattle.jr_edits.specs.Place.{EditList, put, pushed}
use Rattle.jr_weave.specs.declared.piece.Piece.{Piece}
use Rattle.jr_weave.specs.Wording.{text_of}
use Rattle.jr_weave.specs.Pieces.{pieces}
use Rattle.jr_weave.specs.Weaving.{AreRespelled, closings, edit_of, edits_at, no_edits, openings, ordered, put_in, with_piece, with_pieces}

-- what is put one behind the other
pub with_both : (p : Rows) (xs ys : List Piece) (all : List EditList) → with_pieces p (xs ++ ys) all ≡ with_pieces p ys (with_pieces p xs all)
with_both p [] ys all = refl
with_both p (a ∷ xs) ys all = with_both p xs ys (with_piece p a all)

-- ---- unit by unit

-- each unit has its edits
pub record Hold (units : List UnitAt) (edits : ℕ → List Edit) (all : List EditList) : Type 0 where
  pub count : length all ≡ length units
  pub each : (n : ℕ) (unit : UnitAt) → slice_get units n ≡ Some unit → slice_get all n ≡ Some (record { text_len = length unit.bytes; edits = edits n })

length_map : (units : List UnitAt) → length (map no_edits units) ≡ length units
length_map [] = refl
length_map (unit ∷ rest) = ap suc (length_map rest)

none_at : (units : List UnitAt) (n : ℕ) (unit : UnitAt) → slice_get units n ≡ Some unit → slice_get (map no_edits units) n ≡ Some (no_edits unit)
none_at [] n unit h = cc
none_at (u ∷ rest) zero unit h = ap (λ o. elim o as (λ _. Option EditList) [ Some x ↦ Some (no_edits x) | None ↦ None ]) h
none_at (u ∷ rest) (suc n) unit h = none_at rest n unit h

pub hold_none : (units : List UnitAt) → Hold units (λ _. []) (map no_edits units)
hold_none units = record { count = length_map units; each = none_at units }

abbrev step : Rows → Piece → (ℕ → List Edit) → ℕ → List Edit
step p a edits n = cond (nat_eq a.unit n) (put (edit_of p a) (edits n)) (edits n)

step_here : (p : Rows) (a : Piece) (edits : ℕ → List Edit) (n : ℕ) (b : Bool) → b ≡ true → cond b (put (edit_of p a) (edits n)) (edits n) ≡ put (edit_of p a) (edits n)
step_here p a edits n true h = refl
step_here p a edits n false h = cc

step_other : (p : Rows) (a : Piece) (edits : ℕ → List Edit) (n : ℕ) (b : Bool) → b ≡ false → cond b (put (edit_of p a) (edits n)) (edits n) ≡ edits n
step_other p a edits n true h = cc
step_other p a edits n false h = refl

-- one piece more
pub hold_step : (p : Rows) (units : List UnitAt) (a : Piece) (edits : ℕ → List Edit) (all : List EditList) → Hold units edits all → Hold units (step p a edits) (with_piece p a all)
hold_step p units a edits all h = record {
  count = length-set all a.unit new ∙ h.count;
  each = λ n unit there. ⊎_elim (λ e. moved n unit e.0 e.1 there) (λ e. other n unit e.0 e.1 there) (eqb_tells a.unit n);
}
  where
    new : EditList
    new = pushed (edits_at all a.unit) a.span (text_of p a.wording)

    inside : (n : ℕ) (unit : UnitAt) → slice_get units n ≡ Some unit → n < length all
    inside n unit there = subst (λ k. n < k) (sym h.count) (slice_get_within units n unit there)

    within : (n : ℕ) (unit : UnitAt) → slice_get units n ≡ Some unit → n < length (slice_set all a.unit new)
    within n unit there = subst (λ k. n < k) (sym (length-set all a.unit new)) (inside n unit there)

    stands : (unit : UnitAt) → slice_get units a.unit ≡ Some unit → edits_at all a.unit ≡ (let x : EditList = record { text_len = length unit.bytes; edits = edits a.unit } in x)
    stands unit there = get_or_from_slice_get all a.unit _ _ (h.each a.unit unit there)

    held : UnitAt → List Edit → EditList
    held unit es = record { text_len = length unit.bytes; edits = es }

    here : (unit : UnitAt) → nat_eq a.unit a.unit ≡ true → slice_get units a.unit ≡ Some unit → slice_get (slice_set all a.unit new) a.unit ≡ Some (held unit (step p a edits a.unit))
    here unit is there = slice_get-get_or (slice_set all a.unit new) a.unit new (within a.unit unit there)
        ∙ ap Some (get_or-set_same all a.unit new new (inside a.unit unit there)
        ∙ ap (λ x. pushed x a.span (text_of p a.wording)) (stands unit there)
        ∙ ap (held unit) (sym (step_here p a edits a.unit (nat_eq a.unit a.unit) is)))

    moved : (n : ℕ) (unit : UnitAt) → nat_eq a.unit n ≡ true → a.unit ≡ n → slice_get units n ≡ Some unit → slice_get (slice_set all a.unit new) n ≡ Some (held unit (step p a edits n))
    moved n unit is e there = subst (λ k. slice_get (slice_set all a.unit new) k ≡ Some (held unit (step p a edits k))) e
        (here unit (subst (λ k. nat_eq a.unit k ≡ true) (sym e) is) (subst (λ k. slice_get units k ≡ Some unit) (sym e) there))

    other : (n : ℕ) (unit : UnitAt) → nat_eq a.unit n ≡ false → (a.unit ≡ n → ⊥) → slice_get units n ≡ Some unit → slice_get (slice_set all a.unit new) n ≡ Some (held unit (step p a edits n))
    other n unit is apart there = slice_get-get_or (slice_set all a.unit new) n new (within n unit there)
        ∙ ap Some (get_or-set_other all a.unit n new new (λ e. apart (sym e)))
        ∙ sym (slice_get-get_or all n new (inside n unit there))
        ∙ h.each n unit there ∙ ap (λ es. Some (held unit es)) (sym (step_other p a edits n (nat_eq a.unit n) is))

pub hold_all : (p : Rows) (units : List UnitAt) (pieces : List Piece) (edits : ℕ → List Edit) (all : List EditList) → Hold units edits all → Hold units (λ n. put_in p n pieces (edits n)) (with_pieces p pieces all)
hold_all p units [] edits all h = h
hold_all p units (a ∷ rest) edits all h = hold_all p units rest (step p a edits) (with_piece p a all) (hold_step p units a edits all h)

-- openings, and then closings
pub put_both : (p : Rows) (pieces turned : List Piece) (old one two : List EditList) → one ≡ with_pieces p (openings pieces) old → turned ≡ reverse pieces → two ≡ with_pieces p (closings turned) one
    → two ≡ with_pieces p (ordered pieces) old
put_both p pieces turned old one two first back second =
    second ∙ ap (λ xs. with_pieces p (closings xs) one) back ∙ ap (with_pieces p (closings (reverse pieces))) first ∙ sym (with_both p (openings pieces) (closings (reverse pieces)) old)

-- these are the edits of each unit
pub respelled_so : {m : Marks} {t : Table} {c : List Spelling} {found : List Piece} {none all : List EditList} → (IsOrdered m → found ≡ pieces m t c) → none ≡ map no_edits m.units.now
    → all ≡ with_pieces m.rows.now (ordered found) none → IsOrdered m → AreRespelled m t c all
respelled_so {m = m} {t = t} {c = c} {none = none} {all = all} are empty put order = subst (AreRespelled m t c) (sym same) (record { count = held.count; each = held.each })
  where
    held : Hold m.units.now (λ n. put_in m.rows.now n (ordered (pieces m t c)) []) (with_pieces m.rows.now (ordered (pieces m t c)) (map no_edits m.units.now))
    held = hold_all m.rows.now m.units.now (ordered (pieces m t c)) (λ _. []) (map no_edits m.units.now) (hold_none m.units.now)

    same : all ≡ with_pieces m.rows.now (ordered (pieces m t c)) (map no_edits m.units.now)
    same = put ∙ ap (λ xs. with_pieces m.rows.now (ordered xs) none) (are order) ∙ ap (with_pieces m.rows.now (ordered (pieces m t c))) empty
