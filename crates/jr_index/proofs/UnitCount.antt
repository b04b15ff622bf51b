-- As many rows are of units as a program has units.
use Rattle.std.proofs.Common.{◌≡◌, ℕ, zero, suc, ◌+◌, ◌<◌, ◌≤◌, inl, inr, List, ◌∷◌, length, refl, sym, ap, arith}
use Rattle.jr_tree.specs.declared.tree.Unit as declared_unit
use Rattle.jr_tree.specs.declared.label.Label.{Label}
use Rattle.jr_tree.specs.declared.label.Label.TheVariants as is
use Rattle.jr_tree.specs.Rows.{Rows, label, end, program_rows}
use Rattle.jr_tree.specs.Local.{IsLocal}
use Rattle.jr_tree.proofs.Locals.{each_program_is_local}
use Rattle.jr_defs.specs.Numbers.{units_before, one_if_unit}
use Rattle.jr_defs.proofs.Units.{up_to, not_root, unit_parent}
use Rattle.jr_index.specs.declared.mark.Mark.{Mark}
use Rattle.jr_index.specs.Marking.{program_marks}
use Rattle.jr_index.specs.Naming.{AreUnitsOwn}
use Rattle.jr_index.specs.UnitRows.{UnitsHaveRows}
use Rattle.jr_index.proofs.Numbering.{length_units}
use Rattle.jr_index.proofs.OwnUnits.{marks_own}

no_unit : (l : Label) → (l ≡ is.Unit → ⊥) → one_if_unit l ≡ 0
no_unit is.Unit other = absurd (other refl)
no_unit _ other = refl

-- no unit begins from one row up to another
flat : (p : Rows) (a b : ℕ) → a ≤ b → ((v : ℕ) → a ≤ v → v < b → one_if_unit (label p v) ≡ 0) → units_before p b ≡ units_before p a
flat p a zero le h = let e : 0 ≡ a = omega arith in ap (units_before p) e
flat p a (suc b) le h = elim (up_to a b le) [
  | inl l ↦ (let before = flat p a b l (λ v ge lt. h v ge (omega arith)) in let here = h b l (omega arith) in omega arith)
  | inr e ↦ ap (units_before p) (sym e)
]

module _ (p : Rows) (local : IsLocal p) where
  none_inside : (u v : ℕ) → label p u ≡ is.Unit → u < v → v < end p u → label p v ≡ is.Unit → ⊥
  none_inside u v unit lt before other =
      let le = local.tree.inner u v lt before in let up = unit_parent p local v other in let more = not_root p local u unit in omega arith

  past_unit : (u : ℕ) → label p u ≡ is.Unit → units_before p (end p u) ≡ units_before p u + 1
  past_unit u unit =
      let more = local.tree.nested u in
      let others = flat p (suc u) (end p u) (omega arith) (λ v ge lt. no_unit (label p v) (none_inside u v unit (omega arith) lt)) in
      let one : one_if_unit (label p u) ≡ 1 = ap one_if_unit unit in omega arith

  units_from : (ms : List Mark) (us : List declared_unit.Unit) (at : ℕ) → AreUnitsOwn p ms us at → units_before p (length p) ≡ units_before p at + length us
  units_from ms _ at (AreUnitsOwn.none e) = let z : units_before p at ≡ units_before p (length p) = ap (units_before p) e in omega arith
  units_from ms (u ∷ us) at (AreUnitsOwn.more unit lt own after rest) =
      let others = units_from ms us (end p at) rest in let one = past_unit at unit in omega arith

pub units_have_rows : UnitsHaveRows
units_have_rows us shaped =
    let p = program_rows us in
    let local = each_program_is_local us shaped in
    let root : units_before p 1 ≡ 0 = ap one_if_unit local.program in
    let all = units_from p local (program_marks us) us 1 (marks_own us) in
    let many = length_units p (length p) in omega arith
