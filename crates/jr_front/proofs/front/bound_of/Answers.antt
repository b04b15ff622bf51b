use Rattle.std.proofs.Common.{subst}
use Rattle.jr_bind.specs.Confirmed.{IsFoundBinding}
use Rattle.jr_bind.specs.declared.binder.Binding.{Binding}
use Rattle.jr_front.proofs.front.bound_of.Goals as goal

pub returns-in-Cycle-clause-err : goal.returns-in-Cycle-clause-err
returns-in-Cycle-clause-err c = λ ordered of. record {
  row = c.in-Cycle.row;
  cycle = subst (λ (b : Binding). IsFoundBinding c.args.marks.now.rows.now c.args.places.now b) c.in-Cycle.is (c.in_ok-bound.ensures of);
  at = c.name_place.ensures ordered;
}
