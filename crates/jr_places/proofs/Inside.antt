-- The unit of a row is that of the row over it, but at a unit.
use Rattle.std.proofs.Common.{◌≡◌, refl, sym, ◌∙◌, ap, ap₂, ◌∷◌, ◌++◌, subst, ⊎_elim, arith, ℕ, zero, suc, ◌<◌, ◌≤◌, Bool, true, false, cond, [], length, get_or, Some, None, Decides}
use Rattle.std.specs.Prelude.{slice_index_or}
use Rattle.std.proofs.lemmas.Bool.{false≢true, cases_eq, cases_lt}
use Rattle.std.proofs.lemmas.List.{get_or_past}
use Rattle.std.proofs.lemmas.Option.{none-some}
use Rattle.jr_tree.specs.declared.label.Label.TheVariants as is
use Rattle.jr_tree.specs.Rows.{Rows, label, parent, end}
use Rattle.jr_tree.specs.Local.{IsLocal}
use Rattle.jr_defs.specs.Packages.{InUnit}
use Rattle.jr_plain.specs.Search.{Finds}
use Rattle.jr_plain.specs.Enclosing.{is_unit}
use Rattle.jr_plain.specs.Packages.{unit_of}
use Rattle.jr_plain.proofs.Bounds.{unit_below}
use Rattle.jr_plain.proofs.Enclosed.{unit_label_tells}
use Rattle.jr_plain.proofs.OneUnit.{unit_finds}
use Rattle.jr_places.specs.Tabulated.{tabulated}
use Rattle.jr_places.specs.Units.{unit_by, units}
use Rattle.jr_places.proofs.Tables.{length-tabulated, tabulated_at}
use Rattle.jr_places.proofs.Rounding.{one_found}

module _ (p : Rows) (local : IsLocal p) where
  abbrev In : ℕ → ℕ → Type 0
  In n u = InUnit p u n

  itself : (n : ℕ) → label p n ≡ is.Unit → In n n
  itself n h = let lt = local.tree.nested n in record { unit = h; from = omega arith; before = lt }

  none_first : (label p 0 ≡ is.Unit → ⊥) → Finds None (In 0)
  none_first apart u = (λ e. absurd (none-some u e), λ h. let le = h.from in let zero_is : u ≡ 0 = omega arith in absurd (apart (subst (λ k. label p k ≡ is.Unit) zero_is h.unit)))

  module _ (n : ℕ) (lt : n < length p) (pos : 0 < n) (apart : label p n ≡ is.Unit → ⊥) where
    out : (u : ℕ) → In n u → In (parent p n) u
    out u h = let up = local.tree.up n lt pos in let from = h.from in let before = h.before in
        ⊎_elim (λ same. absurd (apart (subst (λ k. label p k ≡ is.Unit) same h.unit))) (λ other. let le = local.tree.inner u n (omega arith) before in record { unit = h.unit; from = le; before = omega arith }) (cases_eq u n)

    into : (u : ℕ) → In (parent p n) u → In n u
    into u h = let up = local.tree.up n lt pos in let held = local.tree.held n lt pos in let from = h.from in
        ⊎_elim (λ same. let equal = ap (end p) same in record { unit = h.unit; from = omega arith; before = omega (arith, equal) })
        (λ other. let ends = local.tree.apart u (parent p n) (omega arith) h.before in record { unit = h.unit; from = omega arith; before = omega arith }) (cases_eq u (parent p n))

    carried : Finds (unit_of p (parent p n)) (In n)
    carried u = (λ e. into u ((unit_finds p local (parent p n) u).0 e), λ h. (unit_finds p local (parent p n) u).1 (out u h))

  stepped : (n : ℕ) → n < length p → (b : Bool) → Decides b (label p n ≡ is.Unit) → cond b (Some n) (get_or (tabulated (unit_of p) n) (parent p n) None) ≡ unit_of p n
  stepped n lt true d = sym ((unit_finds p local n n).1 (itself n (d.0 refl)))
  stepped zero lt false d = one_found (In 0) None (unit_of p 0) (none_first (λ h. false≢true (d.1 h))) (unit_finds p local 0)
  stepped (suc n) lt false d = let up = local.tree.up (suc n) lt (omega arith) in
      tabulated_at (unit_of p) None (suc n) (parent p (suc n)) up
      ∙ one_found (In (suc n)) (unit_of p (parent p (suc n))) (unit_of p (suc n)) (carried (suc n) lt (omega arith) (λ h. false≢true (d.1 h))) (unit_finds p local (suc n))

  unit_step : (n : ℕ) → n < length p → unit_by p (tabulated (unit_of p) n) n ≡ unit_of p n
  unit_step n lt = stepped n lt (is_unit (label p n)) (unit_label_tells (label p n))

  pub all_units : (n : ℕ) → n ≤ length p → units p n ≡ tabulated (unit_of p) n
  all_units zero le = refl
  all_units (suc n) le = ap₂ (λ xs x. xs ++ x ∷ []) (all_units n (omega arith)) (ap (λ xs. unit_by p xs n) (all_units n (omega arith)) ∙ unit_step n (omega arith))

  past_none : (n : ℕ) → length p ≤ n → Finds None (In n)
  past_none n le u = (λ e. absurd (none-some u e), λ h. let low = unit_below p u h.unit in let high = local.tree.last u low in let before = h.before in absurd (omega arith))

  -- the unit that the table has
  pub unit_at : (n : ℕ) → slice_index_or (units p (length p)) n None ≡ unit_of p n
  unit_at n = ap (λ xs. slice_index_or xs n None) (all_units (length p) (omega arith)) ∙ ⊎_elim (λ lt. tabulated_at (unit_of p) None (length p) n lt)
      (λ le. get_or_past (tabulated (unit_of p) (length p)) n None (let s = length-tabulated (unit_of p) (length p) in omega arith) ∙ one_found (In n) None (unit_of p n) (past_none n le) (unit_finds p local n)) (cases_lt n (length p))
