use Rattle.std.proofs.Common.{◌≡◌, ◌<◌, arith, length, subst}
use Rattle.jr_member_faults.specs.Tops.{AreUnitsTo}
use Rattle.jr_member_faults.proofs.Topped.{units_start, units_more}
use Rattle.jr_member_faults.proofs.tops.units_of.Goals as goal

pub loop-unit-init : goal.loop-unit-init
loop-unit-init c = λ placed few whole. units_start c.args.rows.now c.args.places.now _ c.new-units.ensures

pub loop-unit-preserved : goal.loop-unit-preserved
loop-unit-preserved c = λ placed few whole. let lt : c.loop-unit.unit < length c.args.rows.now = omega arith in
    units_more c.args.rows.now c.args.places.now c.loop-unit.unit _ _ c.in_ok-entry.entry (c.in_ok-entry.ensures placed few lt) (c.loop-unit.invariant placed few whole) c.in_ok-add_entry.ensures

pub returns : goal.returns
returns c = λ placed few whole. let e : c.loop-unit.unit ≡ length c.args.rows.now = omega arith in
    subst (λ n. AreUnitsTo c.args.rows.now c.args.places.now n c.loop-unit.units) e (c.loop-unit.invariant placed few whole)
