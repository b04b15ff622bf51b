use Rattle.jr_plain.proofs.Imported.{single_import_tells, static_import_tells, on_demand_import_tells, imports_hold_tells}
use Rattle.jr_plain.proofs.law.imports_are_computed.Goals as goal

pub returns : goal.returns
returns c = record {
  single = single_import_tells;
  statics = λ p t u d headed. static_import_tells p t headed u d;
  on_demand = λ p t u d headed. on_demand_import_tells p t headed u d;
  hold = imports_hold_tells;
}
