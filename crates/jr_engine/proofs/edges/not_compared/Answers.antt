use Rattle.std.proofs.Common.{subst}
use Rattle.jr_flow.specs.Numbered.{OnlyWhere}
use Rattle.jr_flow.specs.declared.point.FlowFault.{FlowFault}
use Rattle.jr_engine.specs.Comparing.{ComparesLarge}
use Rattle.jr_engine.specs.Refusing.{IsTooLarge}
use Rattle.jr_front.specs.Bound.{rows_in, table_in}
use Rattle.jr_engine.proofs.edges.not_compared.Goals as goal

pub returns-in-TooManyPoints : goal.returns-in-TooManyPoints
returns-in-TooManyPoints c = IsTooLarge.by_compared_flow
    (subst (λ (f : FlowFault). OnlyWhere (ComparesLarge (rows_in c.args.asked.old.now) (table_in c.args.asked.old.now) c.args.asked.change.now) f) c.in-TooManyPoints.is c.requires)
