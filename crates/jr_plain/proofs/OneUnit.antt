-- In rows that stand as their labels may, a place stands in at most one top-level type.
use Rattle.std.proofs.Common.{◌≡◌, refl, ◌∙◌, ap, subst, ⊎_elim, arith, ℕ, ◌<◌, length}
use Rattle.std.proofs.lemmas.Bool.{cases_eq, cases_order}
use Rattle.jr_tree.specs.declared.label.Label.TheVariants as is
use Rattle.jr_tree.specs.declared.label.Role.TheVariants as role
use Rattle.jr_tree.specs.Labels.{role_of}
use Rattle.jr_tree.specs.Rows.{Rows, label, parent, role_at}
use Rattle.jr_tree.specs.Local.{IsLocal}
use Rattle.jr_defs.specs.Enclosing.{InTopLevel}
use Rattle.jr_defs.specs.Packages.{InUnit}
use Rattle.jr_defs.proofs.Units.{unit_parent, one_unit}
use Rattle.jr_plain.specs.Search.{Finds}
use Rattle.jr_plain.specs.Enclosing.{is_in_top_level, top_level_of}
use Rattle.jr_plain.specs.Packages.{is_in_unit, unit_of}
use Rattle.jr_plain.proofs.Searches.{finds}
use Rattle.jr_plain.proofs.Bounds.{type_below, unit_below}
use Rattle.jr_plain.proofs.Enclosed.{in_top_level_tells}
use Rattle.jr_plain.proofs.Packaged.{in_unit_tells}

module _ (p : Rows) (local : IsLocal p) where
  type_not_root : (k : ℕ) → role_at p k ≡ role.Type → k ≡ 0 → ⊥
  type_not_root k e zero = let at = ap (label p) zero ∙ local.program in let program : role_at p k ≡ role.Nothing = ap role_of at in cc

  type_not_unit : (k : ℕ) → role_at p k ≡ role.Type → (u : ℕ) → label p u ≡ is.Unit → k ≡ u → ⊥
  type_not_unit k e u unit same = let at : role_at p k ≡ role.Nothing = ap role_of (ap (label p) same ∙ unit) in cc

  not_nested : (k m o : ℕ) → InTopLevel p k o → InTopLevel p m o → k < m → ⊥
  not_nested k m o h j lt =
      let from = j.from in let before = h.before in
      let at_most = local.tree.inner k m lt (omega arith) in
      let up = local.tree.up m (type_below p m j.top.type) (omega arith) in
      ⊎_elim (type_not_unit k h.top.type (parent p m) j.top.inside)
      (λ apart. let inner = local.tree.inner k (parent p m) (omega arith) (omega arith) in let top = unit_parent p local (parent p m) j.top.inside in type_not_root k h.top.type (omega arith))
      (cases_eq k (parent p m))

  pub one_top_level : (o k m : ℕ) → InTopLevel p k o → InTopLevel p m o → k ≡ m
  one_top_level o k m h j = ⊎_elim (λ e. e) (⊎_elim (λ lt. absurd (not_nested k m o h j lt)) (λ lt. absurd (not_nested m k o j h lt))) (cases_order k m)

  pub unit_finds : (o : ℕ) → Finds (unit_of p o) (λ u. InUnit p u o)
  unit_finds o = finds (λ u. is_in_unit p u o) (λ u. InUnit p u o) (λ u. in_unit_tells p u o) (length p) (λ u h. unit_below p u h.unit) (one_unit p local o)

  pub top_level_finds : (o : ℕ) → Finds (top_level_of p o) (λ k. InTopLevel p k o)
  top_level_finds o = finds (λ k. is_in_top_level p k o) (λ k. InTopLevel p k o) (λ k. in_top_level_tells p k o) (length p) (λ k h. type_below p k h.top.type) (one_top_level o)
