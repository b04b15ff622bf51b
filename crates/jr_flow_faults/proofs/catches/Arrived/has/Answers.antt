use Rattle.std.proofs.Common.{sym, subst, Decides}
use Rattle.jr_flow_faults.specs.Arriving.{HasRelated}
use Rattle.jr_flow_faults.proofs.Arriving.{related_told}
use Rattle.jr_flow_faults.proofs.catches.Arrived.has.Goals as goal

pub returns : goal.returns
returns c = λ p t lists are. subst (λ b. Decides b (HasRelated p t c.args.self.now.thrown c.args.over c.args.class)) (sym c.is_either.ensures)
    (related_told p t _ c.args.self.now.above c.args.over c.args.class c.args.uppers.now _ _ lists are c.is_pair-is_below.ensures c.is_any_pair-is_above.ensures)
