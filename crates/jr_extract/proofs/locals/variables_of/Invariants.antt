use Rattle.std.proofs.Common.{◌≡◌, ◌++◌, drop, flat_map}
use Rattle.jr_defs.specs.Referents.{entries}
use Rattle.jr_supers.specs.Tabled.{IsSized}
use Rattle.jr_extract.specs.Handing.{typed}
use Rattle.jr_extract.proofs.locals.variables_of.Given as goal

abbrev pub invariant-loop-row : goal.invariant-loop-row
invariant-loop-row l = IsSized l.under.rows.now → l.all.items ++ flat_map (typed l.under.rows.now (entries l.under.table.now)) (drop l.row-index l.locals) ≡ flat_map (typed l.under.rows.now (entries l.under.table.now)) l.locals
