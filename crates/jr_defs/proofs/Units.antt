-- How many nodes and units stand before a row rises with the rows, and one unit at most holds a row.
use Rattle.std.proofs.Common.{◌≡◌, ℕ, zero, suc, ◌+◌, ◌<◌, ◌≤◌, ◌⊎◌, inl, inr, [], length, refl, sym, ◌∙◌, ap, subst, arith}
use Rattle.std.proofs.lemmas.List.{get_or_past}
use Rattle.jr_tree.specs.declared.label.Label.{Label}
use Rattle.jr_tree.specs.declared.label.Label.TheVariants as is
use Rattle.jr_tree.specs.Rows.{Rows, label, parent, nodes_before}
use Rattle.jr_tree.specs.Below.{Under}
use Rattle.jr_tree.specs.Local.{IsLocal}
use Rattle.jr_defs.specs.Numbers.{units_before, one_if_unit}
use Rattle.jr_defs.specs.Packages.{InUnit}

pub up_to : (m n : ℕ) → m ≤ suc n → (m ≤ n) ⊎ (m ≡ suc n)
up_to m n h = let w : (m ≤ n) ⊎ (suc n ≤ m) = grind arith in elim w [ inl l ↦ inl l | inr g ↦ inr (omega arith) ]

-- more rows have no fewer nodes
pub nodes_rise : (p : Rows) (m n : ℕ) → m ≤ n → nodes_before p m ≤ nodes_before p n
nodes_rise p m zero h = let e : 0 ≡ m = omega arith in subst (λ k. nodes_before p k ≤ 0) e (omega arith)
nodes_rise p m (suc n) h = elim (up_to m n h) [
  | inl l ↦ (let z = nodes_rise p m n l in omega arith)
  | inr e ↦ subst (λ k. nodes_before p m ≤ nodes_before p k) e (omega arith)
]

pub units_rise : (p : Rows) (m n : ℕ) → m ≤ n → units_before p m ≤ units_before p n
units_rise p m zero h = let e : 0 ≡ m = omega arith in subst (λ k. units_before p k ≤ 0) e (omega arith)
units_rise p m (suc n) h = elim (up_to m n h) [
  | inl l ↦ (let z = units_rise p m n l in omega arith)
  | inr e ↦ subst (λ k. units_before p m ≤ units_before p k) e (omega arith)
]

-- ---- one unit holds a row

over_unit : (over : Label) → Under over is.Unit → over ≡ is.Program
over_unit is.Program u = refl
over_unit (is.Name k a b) u = absurd u
over_unit (is.Import f) u = absurd u
over_unit is.Package u = absurd u
over_unit _ u = absurd u

over_program : (over : Label) → Under over is.Program → ⊥
over_program (is.Name k a b) u = u
over_program (is.Import f) u = u
over_program is.Package u = u
over_program _ u = u

module _ (p : Rows) (local : IsLocal p) where
  -- a unit is one of the rows, since past them there is none
  pub unit_there : (u : ℕ) → label p u ≡ is.Unit → u < length p
  unit_there u e =
      let side : (u < length p) ⊎ (length p ≤ u) = grind arith in
      elim side [
        | inl l ↦ l
        | inr g ↦ (let z = ap (λ r. r.label) (get_or_past p u (record { label = is.Skip; name = []; parent = u; end = u + 1; previous = u }) g) in
            let clash : is.Skip ≡ is.Unit = sym z ∙ e in cc)
      ]

  pub root : (n : ℕ) → n < length p → label p n ≡ is.Program → n ≡ 0
  root zero lt e = refl
  root (suc n) lt e = absurd (over_program (label p (parent p (suc n))) (subst (Under (label p (parent p (suc n)))) e (local.under (suc n) (omega arith) lt)))

  pub not_root : (u : ℕ) → label p u ≡ is.Unit → 0 < u
  not_root zero e = let program = local.program in let clash : is.Program ≡ is.Unit = sym program ∙ e in cc
  not_root (suc u) e = omega arith

  pub unit_parent : (u : ℕ) → label p u ≡ is.Unit → parent p u ≡ 0
  unit_parent u e =
      let lt = unit_there u e in let more = not_root u e in let up = local.tree.up u lt more in
      root (parent p u) (omega arith) (over_unit (label p (parent p u)) (subst (Under (label p (parent p u))) e (local.under u more lt)))

  -- a unit is in no other
  pub none_inside : (u o : ℕ) → InUnit p u o → (v : ℕ) → u < v → v < o → label p v ≡ is.Unit → ⊥
  none_inside u o h v lt before unit =
      let last = h.before in
      let le = local.tree.inner u v lt (omega arith) in let up = unit_parent v unit in let more = not_root u h.unit in omega arith

  not_inside : (u v o : ℕ) → InUnit p u o → InUnit p v o → u < v → ⊥
  not_inside u v o h k lt =
      let from = k.from in let before = h.before in
      let le = local.tree.inner u v lt (omega arith) in let up = unit_parent v k.unit in let more = not_root u h.unit in omega arith

  pub one_unit : (o u v : ℕ) → InUnit p u o → InUnit p v o → u ≡ v
  one_unit o u v h k =
      let side : (u < v) ⊎ (v ≤ u) = grind arith in
      elim side [
        | inl l ↦ absurd (not_inside u v o h k l)
        | inr g ↦ (let other : (v < u) ⊎ (u ≤ v) = grind arith in elim other [ inl l ↦ absurd (not_inside v u o k h l) | inr g' ↦ omega arith ])
      ]
