use Rattle.jr_engine.proofs.Stepping.{flow_hinders_if, locked_tables}
use Rattle.jr_engine.proofs.edges.is_changed_within_flow.Goals as goal

pub is_within_flow-requires : goal.is_within_flow-requires
is_within_flow-requires c = locked_tables c.args.locked.now c.requires.new c.requires.sound.well c.requires.bound

pub returns-in_default : goal.returns-in_default
returns-in_default c = flow_hinders_if c.args.asked c.args.locked.now c.is_within_flow.result c.requires.by c.requires.bound.table c.is_within_flow.ensures
