use Rattle.jr_headed.proofs.Walking.{no_cycle_told, ordered_told}
use Rattle.jr_headed.proofs.cycles.has_no_cycle.Goals as goal

pub returns-clause-none : goal.returns-clause-none
returns-clause-none c = λ t well listed. no_cycle_told c.args.rows.now t well c.args.supers.now.direct.supers listed c.args.supers.now.order.items _ _ c.is_ordered.result c.direct.ensures c.order.ensures c.is_ordered.ensures

pub returns-clause-told : goal.returns-clause-told
returns-clause-told c = λ t are bare none. ordered_told c.args.rows.now t c.args.supers.now are bare none _ _ c.is_ordered.result c.direct.ensures c.order.ensures c.is_ordered.ensures
