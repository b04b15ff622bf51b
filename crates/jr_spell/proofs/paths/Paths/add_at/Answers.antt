use Rattle.std.proofs.lemmas.Result.{on_ok_weaker}
use Rattle.jr_spell.proofs.Packed.{unit_added, other_added}
use Rattle.jr_spell.proofs.paths.Paths.add_at.Goals as goal

pub returns-then-is_unit : goal.returns-then-is_unit
returns-then-is_unit c = λ placed few h.
    on_ok_weaker c.add_unit.result (λ adds. unit_added c.args.rows.now c.args.self.now c.add_unit.new.self c.args.at h adds) (c.add_unit.ensures placed few h.entries)

pub returns-else-is_unit : goal.returns-else-is_unit
returns-else-is_unit c = λ placed few h. other_added c.args.rows.now c.args.self.now c.args.at c.is_unit.result c.is_unit.ensures c.if-is_unit.false h
