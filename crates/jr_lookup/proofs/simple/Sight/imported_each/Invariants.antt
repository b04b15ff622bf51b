use Rattle.std.proofs.Common.{drop}
use Rattle.jr_defs.specs.Referents.{Table}
use Rattle.jr_lookup.specs.Sights.{IsSight, AreImportRows, IsNamedBy, IsGathering}
use Rattle.jr_lookup.proofs.simple.Sight.imported_each.Given as goal

abbrev pub invariant-loop-import : goal.invariant-loop-import
invariant-loop-import l = (t : Table) → IsSight t l.self → AreImportRows l.self.world.under.rows.now l.imports → IsGathering (IsNamedBy l.self.world.under.rows.now t l.kind l.unit l.name) l.imports (drop l.import-index l.imports) l.all.items
