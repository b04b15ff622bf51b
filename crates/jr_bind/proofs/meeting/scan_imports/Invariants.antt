use Rattle.jr_defs.specs.Referents.{entries}
use Rattle.jr_lookup.specs.Sights.{AreImportRows}
use Rattle.jr_bind.specs.Edges.{ArePassed}
use Rattle.jr_bind.specs.Edges.{IsWhole}
use Rattle.jr_bind.specs.Ranked.{rank_in}
use Rattle.jr_bind.proofs.meeting.scan_imports.Given as goal

abbrev pub invariant-loop-import : goal.invariant-loop-import
invariant-loop-import l = IsWhole l.ranked.sight → AreImportRows l.ranked.sight.world.under.rows.now l.imports
    → ArePassed l.ranked.sight.world.under.rows.now (entries l.ranked.sight.world.under.table.now) (rank_in l.ranked.ranks.now) l.low l.imports l.import-index l.behind l.first
