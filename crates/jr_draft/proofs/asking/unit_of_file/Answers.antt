use Rattle.std.proofs.Common.{◌≡◌, ◌∙◌, sym, arith, nat_le, ◌&&◌, length}
use Rattle.std.specs.List.{slice_get}
use Rattle.jr_draft.specs.Asking.{has_path}
use Rattle.jr_marks.proofs.Firsts.{first_none, first_some}
use Rattle.jr_marks.proofs.Cuts.{from_passes}
use Rattle.jr_draft.proofs.asking.unit_of_file.Goals as goal

pub returns-then-has_path : goal.returns-then-has_path
returns-then-has_path c = λ ordered. let count = c.count_units-unit-end.ensures ordered in
    sym (first_some (λ k. nat_le 2 k && has_path c.args.path.now (slice_get c.args.marks.now.units.now k)) (length c.args.marks.now.units.now) c.loop-unit.unit (omega arith)
    (from_passes 2 c.loop-unit.unit _ (omega arith) (sym c.has_path.ensures ∙ c.if-has_path.true)) c.loop-unit.invariant)

pub returns : goal.returns
returns c = λ ordered. let count = c.count_units-unit-end.ensures ordered in
    sym (first_none (λ k. nat_le 2 k && has_path c.args.path.now (slice_get c.args.marks.now.units.now k)) (length c.args.marks.now.units.now) (λ k lt. c.loop-unit.invariant k (omega arith)))
