use Rattle.std.specs.Prelude.{◌≡◌, length}
use Rattle.jr_defs.specs.Formed.{IsFormed}
use Rattle.jr_plain.specs.Conversions.{Constants}
use Rattle.jr_types.specs.Typed.{CanType, AreTypesFrom}
use Rattle.jr_bind.specs.Filled.{table_of, FillsRows, SeeksNoType}
use Rattle.jr_bind.specs.Looked.{AreNamedSo, AreFilledFrom}
use Rattle.jr_bind.specs.Turns.{CanFill}
use Rattle.jr_bind.proofs.filling.Filling.fill_typed.Given as goal

abbrev pub invariant-loop-at : goal.invariant-loop-at
invariant-loop-at l = FillsRows l.stages l.stage l.fn.self l.self × ((constant : Constants) → IsFormed l.known.setting.rows.now → SeeksNoType l.known.setting.rows.now l.stages l.stage
    → length l.stages ≡ length l.known.setting.rows.now → CanType constant l.known.setting.rows.now (table_of l.fn.self) l.known.setting.places.now l.known.supers.now l.fn.self.ints.items l.fn.self.string
    → length l.fn.self.types.items ≡ length l.known.setting.rows.now → AreTypesFrom l.known.setting.rows.now (table_of l.self) constant l.self.types.items l.at)
    × ((constant : Constants) → CanFill l.known l.stages l.stage constant l.fn.self
    → AreNamedSo l.known.setting.rows.now (table_of l.self) × AreFilledFrom l.known.setting.rows.now l.stages l.stage (table_of l.fn.self) (table_of l.self) l.at)
