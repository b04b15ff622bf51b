use Rattle.std.proofs.Common.{sym, ◌∙◌}
use Rattle.jr_member_faults.proofs.Inside.{one_type}
use Rattle.jr_member_faults.proofs.twice.is_inside_its_name.Goals as goal

pub returns-clause-found : goal.returns-clause-found
returns-clause-found c = λ placed. one_type c.args.rows.now c.args.at c.is_inside_name.result (sym c.is_type.ensures ∙ c.if-not-is_type.false) (λ lt. c.is_inside_name.ensures placed lt)
