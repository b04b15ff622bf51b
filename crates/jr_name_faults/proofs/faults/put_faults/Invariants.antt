use Rattle.std.proofs.Common.{length}
use Rattle.jr_name_faults.specs.Faults.{AreOfNames}
use Rattle.jr_name_faults.specs.Imports.{AreImportsTo}
use Rattle.jr_name_faults.specs.Locals.{IsBefore}
use Rattle.jr_name_faults.specs.Statics.{AreStatics}
use Rattle.jr_name_faults.specs.Views.{rows_in, table_in, IsSeenView}
use Rattle.jr_name_faults.proofs.Told.{AreFaultsTo, AreAccessFaultsTo, AreImportFaultsTo, AreStaticFaultsTo}
use Rattle.jr_name_faults.proofs.faults.put_faults.Given as goal

abbrev pub invariant-loop-at : goal.invariant-loop-at
invariant-loop-at l = (IsBefore (rows_in l.view) 0 l.fn.locals → AreFaultsTo l.view l.at l.fn.out.items l.out.items l.locals)
    × ((IsSeenView l.view → AreAccessFaultsTo l.view l.at l.fn.out.items l.out.items)
    × ((AreImportsTo (rows_in l.view) (table_in l.view) (length (rows_in l.view)) 0 l.fn.imports → AreImportFaultsTo l.view l.at l.fn.out.items l.out.items l.imports)
    × ((AreStatics l.view.sight.world l.statics → AreStaticFaultsTo l.view l.at l.fn.out.items l.out.items) × AreOfNames l.fn.out.items l.out.items)))
