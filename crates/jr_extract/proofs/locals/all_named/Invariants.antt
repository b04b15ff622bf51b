use Rattle.std.proofs.Common.{◌≡◌, ◌<◌, []}
use Rattle.jr_defs.specs.Referents.{entries}
use Rattle.jr_plain.specs.Search.{gathered}
use Rattle.jr_extract.specs.Handing.{given_at, outer_local}
use Rattle.jr_extract.proofs.locals.all_named.Given as goal

abbrev pub invariant-loop-at : goal.invariant-loop-at
invariant-loop-at l = record {
  none : l.run.rows.end < l.run.rows.first → l.all.items ≡ [];
  found : l.all.items ≡ gathered l.at (given_at (outer_local l.under.rows.now (entries l.under.table.now) l.run) l.run.rows.first);
}
