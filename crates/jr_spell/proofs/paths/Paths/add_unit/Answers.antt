use Rattle.jr_spell.proofs.Packed.{holds}
use Rattle.jr_spell.proofs.paths.Paths.add_unit.Goals as goal

pub returns-then-holds_name : goal.returns-then-holds_name
returns-then-holds_name c = λ placed few entries. c.add.ensures placed (holds c.args.rows.now c.args.unit c.holds_name.result (c.holds_name.ensures few) c.if-holds_name.true) few entries
