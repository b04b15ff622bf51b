-- The rows of shaped units stand as their labels may.
use Rattle.std.proofs.Common.{◌≡◌, ℕ, zero, suc, ◌+◌, ◌-◌, ◌<◌, ◌≤◌, List, [], ◌∷◌, ◌++◌, length, refl, sym, ◌∙◌, ap, subst, arith, ◌⊎◌, inl, inr, length-append, add-one}
use Rattle.std.specs.Prelude.{Bool, true, false, Option, Some, None, ⊤}
use Rattle.std.specs.List.{AllByRecursion}
use Rattle.std.proofs.Math.ListN.{get_or, get_or-append}
use Rattle.std.proofs.lemmas.List.{get_or-append-add, get_or_default}
use Rattle.jr_tree.specs.declared.tree.Unit as declared_unit
use Rattle.jr_tree.specs.Mirror.Decls as d
use Rattle.jr_tree.specs.Shape.{IsShaped}
use Rattle.jr_tree.specs.declared.label.Label.{Label}
use Rattle.jr_tree.specs.declared.label.Label.TheVariants as is
use Rattle.jr_tree.specs.Forest.{Forest, none, more, size, each}
use Rattle.jr_tree.specs.Exprs.{left_kind}
use Rattle.jr_tree.specs.Decls.{unit_labels}
use Rattle.jr_tree.specs.Rows.{Rows, rows_from, row, label, parent, end, program_rows}
use Rattle.jr_tree.specs.Below.{Under, IsQualifierOf, IsTypeName, IsEmpty, FirstIs, OneIs, Starts, Fits}
use Rattle.jr_tree.specs.Local.{HasQualifier, HasTypeName, StartsAt, IsLocal, EachProgramIsLocal}
use Rattle.jr_tree.proofs.Trees.{at_index, nothing, past, length_rows, each_program_is_tree, units_forest}
use Rattle.jr_tree.proofs.FittingStmts.{units_fit}

-- from the number on the rows are those of the forest, whose roots are below the row over
abbrev pub HasRows : Rows → ℕ → ℕ → Forest → Type 0
HasRows p over at none = ⊤
HasRows p over at (more l x kids rest) =
    (label p at ≡ l) × (parent p at ≡ over) × (end p at ≡ at + 1 + size kids) × HasRows p at (at + 1) kids × HasRows p over (at + 1 + size kids) rest

-- from the number on the rows are these
pub record Holds (p : Rows) (at : ℕ) (rs : Rows) : Type 0 where
  pub each_is : (i : ℕ) → i < length rs → row p (at + i) ≡ at_index rs i

holds_first : (p : Rows) (at : ℕ) (h : _) (ks rs : Rows) → Holds p at (h ∷ ks ++ rs) → row p at ≡ h
holds_first p at h ks rs w = let z : at ≡ at + 0 = omega arith in ap (row p) z ∙ w.each_is 0 (omega arith)

holds_left : (p : Rows) (at : ℕ) (h : _) (ks rs : Rows) → Holds p at (h ∷ ks ++ rs) → Holds p (at + 1) ks
holds_left p at h ks rs w = record {
  each_is = λ i l.
      let s = length-append ks rs in let z : at + 1 + i ≡ at + suc i = omega arith in
      ap (row p) z ∙ w.each_is (suc i) (omega arith) ∙ get_or-append ks rs nothing i l;
}

holds_right : (p : Rows) (at : ℕ) (h : _) (ks rs : Rows) → Holds p at (h ∷ ks ++ rs) → Holds p (at + 1 + length ks) rs
holds_right p at h ks rs w = record {
  each_is = λ i l.
      let s = length-append ks rs in let z : at + 1 + length ks + i ≡ at + suc (length ks + i) = omega arith in
      ap (row p) z ∙ w.each_is (suc (length ks + i)) (omega arith) ∙ get_or-append-add ks rs i nothing;
}

has_rows : (p : Rows) (over before at : ℕ) (f : Forest) → Holds p at (rows_from over before at f) → HasRows p over at f
has_rows p over before at none w = tt
has_rows p over before at (more l x kids rest) w =
    let e = holds_first p at (record { label = l; name = x; parent = over; end = at + 1 + size kids; previous = before }) (rows_from at at (at + 1) kids) (rows_from over at (at + 1 + size kids) rest) w in (
      ap (λ r. r.label) e,
      ap (λ r. r.parent) e,
      ap (λ r. r.end) e,
      has_rows p at at (at + 1) kids (holds_left p at (record { label = l; name = x; parent = over; end = at + 1 + size kids; previous = before }) (rows_from at at (at + 1) kids) (rows_from over at (at + 1 + size kids) rest) w),
      has_rows p over at (at + 1 + size kids) rest (subst (λ n. Holds p (at + 1 + n) (rows_from over at (at + 1 + size kids) rest)) (length_rows at at (at + 1) kids)
          (holds_right p at (record { label = l; name = x; parent = over; end = at + 1 + size kids; previous = before }) (rows_from at at (at + 1) kids) (rows_from over at (at + 1 + size kids) rest) w)),
    )

first_type : (p : Rows) (at : ℕ) (kids : Forest) → FirstIs IsTypeName kids → HasRows p at (at + 1) kids → HasTypeName p at
first_type p at none h w = absurd h
first_type p at (more l x kids rest) h w = record { inside = w.1; named = subst IsTypeName (sym w.0) h }

one_qualifier : (p : Rows) (at : ℕ) (P : Label → Type 0) (kids : Forest) → OneIs P kids → HasRows p at (at + 1) kids → end p at ≡ at + 1 + size kids → HasQualifier p at × P (label p (at + 1))
one_qualifier p at P none h w e = absurd h
one_qualifier p at P (more l x kids none) h w e = let f = w.2 in (record { inside = w.1; whole = f ∙ same (size kids) ∙ sym e }, subst P (sym w.0) h)
  where
    same : (k : ℕ) → at + 1 + 1 + k ≡ at + 1 + (1 + k + 0)
    same k = omega arith
one_qualifier p at P (more l x kids (more l' x' kids' rest)) h w e = absurd h

no_kids : (p : Rows) (at : ℕ) (kids : Forest) → IsEmpty kids → end p at ≡ at + 1 + size kids → end p at ≡ at + 1
no_kids p at none h e = e ∙ plus (at + 1)
  where
    plus : (n : ℕ) → n + 0 ≡ n
    plus n = omega arith
no_kids p at (more l x kids rest) h e = absurd h

starts_at : (p : Rows) (at : ℕ) (l : Label) (kids : Forest) → Starts l kids → HasRows p at (at + 1) kids → end p at ≡ at + 1 + size kids → StartsAt p at l
starts_at p at (is.Name k a true) kids h w e = one_qualifier p at (IsQualifierOf (left_kind k)) kids h w e
starts_at p at (is.Name k a false) kids h w e = no_kids p at kids h e
starts_at p at (is.TypeUse None dims) kids h w e = first_type p at kids h w
starts_at p at (is.TypeUse (Some t) dims) kids h w e = tt
starts_at p at is.New kids h w e = first_type p at kids h w
starts_at p at (is.NewArray None lengths extra) kids h w e = first_type p at kids h w
starts_at p at (is.NewArray (Some t) lengths extra) kids h w e = tt
starts_at p at (is.This true) kids h w e = first_type p at kids h w
starts_at p at (is.This false) kids h w e = tt
starts_at p at (is.Import form) kids h w e = first_type p at kids h w
starts_at p at _ kids h w e = tt

pub side : (n mid : ℕ) → (n < mid) ⊎ (mid ≤ n)
side n mid = grind arith

-- a row of a forest is its first, or below that, or behind
pub which : (n at mid : ℕ) → at ≤ n → (n ≡ at) ⊎ ((at + 1 ≤ n) × (n < mid)) ⊎ (mid ≤ n)
which n at mid ge = elim (split n at) [ inl q ↦ inl (omega arith) | inr q ↦ elim (side n mid) [ inl r ↦ inr (inl (omega arith, r)) | inr r ↦ inr (inr r) ] ]
  where
    split : (n at : ℕ) → (n ≤ at) ⊎ (at + 1 ≤ n)
    split n at = grind arith

record RowFits (p : Rows) (n : ℕ) : Type 0 where
  under : Under (label p (parent p n)) (label p n)
  starts : StartsAt p n (label p n)

each_row : (p : Rows) (f : Forest) (over at : ℕ) (lo : Label) → label p over ≡ lo → HasRows p over at f → Fits lo f → (n : ℕ) → at ≤ n → n < at + size f → RowFits p n
each_row p none over at lo e w h n ge lt = absurd (omega arith)
each_row p (more l x kids rest) over at lo e w h n ge lt = by_place (n - at) (which n at (at + 1 + size kids) ge)
    (λ lo' hi. each_row p kids at (at + 1) l w.0 w.3 h.2 n lo' hi)
    (λ lo' hi. each_row p rest over (at + 1 + size kids) lo e w.4 h.3 n lo' hi)
  where
    here : RowFits p at
    here = record {
      under = subst (λ m. Under m (label p at)) (sym (ap (label p) w.1 ∙ e)) (subst (λ m. Under lo m) (sym w.0) h.0);
      starts = subst (StartsAt p at) (sym w.0) (starts_at p at l kids h.1 w.3 w.2);
    }

    by_place : ℕ → (n ≡ at) ⊎ ((at + 1 ≤ n) × (n < at + 1 + size kids)) ⊎ (at + 1 + size kids ≤ n) → (at + 1 ≤ n → n < at + 1 + size kids → RowFits p n)
        → (at + 1 + size kids ≤ n → n < at + 1 + size kids + size rest → RowFits p n) → RowFits p n
    by_place k (inl q) f g = subst (RowFits p) (sym q) here
    by_place k (inr (inl q)) f g = f q.0 q.1
    by_place k (inr (inr q)) f g = g q (omega arith)

holds_itself : (p : Rows) → Holds p 0 p
holds_itself p = record { each_is = λ i l. let z : 0 + i ≡ i = omega arith in ap (row p) z ∙ get_or_default p i (past i) nothing l }

-- the rows of a program are those of its forest
pub program_has_rows : (units : List declared_unit.Unit) → HasRows (program_rows units) 0 0 (more is.Program [] (units_forest units) none)
program_has_rows units = has_rows (program_rows units) 0 0 0 (more is.Program [] (units_forest units) none) (holds_itself (program_rows units))

pub each_program_is_local : EachProgramIsLocal
each_program_is_local units shaped =
    let p = program_rows units in
    let w = program_has_rows units in
    let s = length_rows 0 0 0 (more is.Program [] (units_forest units) none) in record {
      tree = each_program_is_tree units;
      program = w.0;
      some = omega arith;
      under = λ n lo hi. (each_row (program_rows units) (units_forest units) 0 1 is.Program w.0 w.3 (units_fit units shaped) n (omega arith) (omega arith)).under;
      starts = λ n lo hi. (each_row (program_rows units) (units_forest units) 0 1 is.Program w.0 w.3 (units_fit units shaped) n (omega arith) (omega arith)).starts;
    }
