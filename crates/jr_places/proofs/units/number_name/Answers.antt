use Rattle.std.proofs.Common.{◌≡◌, ◌-◌, arith, refl}
use Rattle.jr_tree.specs.Rows.{end}
use Rattle.jr_places.proofs.Packing.{numbered_start, numbered_next, numbered_end}
use Rattle.jr_places.proofs.units.number_name.Goals as goal

pub loop-place-init : goal.loop-place-init
loop-place-init c = λ counted names few lt some le. numbered_start c.args.rows.now c.args.paths.now c.args.at _ _ (omega arith) refl counted

pub loop-place-preserved : goal.loop-place-preserved
loop-place-preserved c = λ counted names few lt some le. let h = c.loop-place.invariant counted names few lt some le in let stop = c.end_at-place-end.ensures (omega arith) in
    numbered_next c.args.rows.now c.args.names.now _ _ _ c.args.at c.loop-place.place _ _ _ names (omega arith) (omega arith) h (c.in_ok-number.ensures h.counted) c.name_in.ensures

pub returns : goal.returns
returns c = λ counted names few lt some le. let stop = c.end_at-place-end.ensures (omega arith) in let e : c.loop-place.place - c.args.at ≡ end c.args.rows.now c.args.at - c.args.at = omega arith in
    numbered_end c.args.rows.now _ _ c.args.at _ _ _ e (c.loop-place.invariant counted names few lt some le)
