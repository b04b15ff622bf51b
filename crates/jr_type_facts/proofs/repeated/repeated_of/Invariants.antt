use Rattle.std.proofs.Common.{◌≡◌, length}
use Rattle.jr_places.specs.Tabulated.{tabulated}
use Rattle.jr_type_facts.specs.Views.{rows_in, types_in, constants_in, IsSeenView}
use Rattle.jr_type_facts.specs.Cases.{HasMet, is_met}
use Rattle.jr_type_facts.proofs.repeated.repeated_of.Given as goal

abbrev pub invariant-loop-at : goal.invariant-loop-at
invariant-loop-at l = IsSeenView l.view → l.count ≡ length (rows_in l.view) → HasMet (rows_in l.view) (constants_in l.view) (types_in l.view) l.at l.at l.met
    × (l.all.items ≡ tabulated (is_met (rows_in l.view) (constants_in l.view) (types_in l.view)) l.at)
