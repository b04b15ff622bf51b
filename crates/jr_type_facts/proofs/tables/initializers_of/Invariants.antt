use Rattle.std.proofs.Common.{◌≡◌}
use Rattle.jr_supers.specs.Tabled.{IsSized}
use Rattle.jr_type_facts.specs.Views.{rows_in, table_in, types_in}
use Rattle.jr_type_facts.specs.Tables.{grown, initializer_by}
use Rattle.jr_type_facts.proofs.tables.initializers_of.Given as goal

abbrev pub invariant-loop-at : goal.invariant-loop-at
invariant-loop-at l = IsSized (rows_in l.view) → l.all.items ≡ grown (initializer_by (rows_in l.view) (table_in l.view) (types_in l.view)) l.at
