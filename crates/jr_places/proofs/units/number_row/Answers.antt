use Rattle.std.proofs.Common.{sym, ◌∙◌, ap, None, slice_index_or}
use Rattle.jr_places.proofs.Packing.{package_above, package_here}
use Rattle.jr_places.proofs.units.number_row.Goals as goal

pub returns-then-not-is_unit : goal.returns-then-not-is_unit
returns-then-not-is_unit c = λ names few local named lt h. package_above c.args.rows.now local c.args.paths.now c.args.known.now c.args.at _ lt (sym c.is_unit.ensures ∙ c.if-not-is_unit.true) h (c.known_at.ensures ∙ ap (λ k. slice_index_or c.args.known.now k None) c.parent_at.ensures)

pub returns : goal.returns
returns c = λ names few local named lt h. package_here c.args.rows.now local _ _ c.args.at _ (sym c.is_unit.ensures ∙ c.if-not-is_unit.false) (c.in_ok-number.ensures h.counted names few local.tree named lt)
