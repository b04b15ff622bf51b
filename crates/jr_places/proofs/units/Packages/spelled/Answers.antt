use Rattle.std.proofs.Common.{◌≡◌, ◌-◌, ◌∙◌, sym, arith, refl}
use Rattle.jr_tree.specs.Rows.{end}
use Rattle.jr_places.specs.Numbers.{number_in}
use Rattle.jr_places.proofs.Packing.{spelled_start, spelled_more, spelled_none, spelled_end}
use Rattle.jr_places.proofs.units.Packages.spelled.Goals as goal

pub loop-place-init : goal.loop-place-init
loop-place-init c = λ names few tree lt. spelled_start c.args.rows.now (number_in c.args.self.now.paths) c.args.at _ _ (omega arith) refl

pub loop-place-preserved : goal.loop-place-preserved
loop-place-preserved c = λ names few tree lt. let stop = c.end_at-place-end.ensures (omega arith) in let last = tree.last c.args.at lt in
    spelled_more c.args.rows.now (number_in c.args.self.now.paths) c.args.at c.args.names.now c.loop-place.place _ _ _ names (omega arith) (omega arith) (c.loop-place.invariant names few tree lt) c.name_in.ensures (sym c.find.ensures ∙ c.in-Some.is)

pub returns-in-None : goal.returns-in-None
returns-in-None c = λ names few tree lt. let stop = c.end_at-place-end.ensures (omega arith) in let last = tree.last c.args.at lt in
    spelled_none c.args.rows.now (number_in c.args.self.now.paths) c.args.at c.args.names.now c.loop-place.place _ _ _ names (omega arith) (omega arith) (omega arith) (c.loop-place.invariant names few tree lt) c.name_in.ensures (sym c.find.ensures ∙ c.in-None.is)

pub returns : goal.returns
returns c = λ names few tree lt. let stop = c.end_at-place-end.ensures (omega arith) in let nest = tree.nested c.args.at in let e : c.loop-place.place - c.args.at ≡ end c.args.rows.now c.args.at - c.args.at = omega arith in
    spelled_end c.args.rows.now (number_in c.args.self.now.paths) c.args.at _ _ _ e (c.loop-place.invariant names few tree lt)
