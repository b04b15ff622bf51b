use Rattle.jr_defs.specs.Referents.{entries}
use Rattle.jr_places.specs.Places.{ArePlaces}
use Rattle.jr_supers.specs.Tabled.{IsSized}
use Rattle.jr_supers.specs.Signatures.{AreSignaturesTo}
use Rattle.jr_supers.proofs.signatures.Signatures.of.Given as goal

abbrev pub invariant-loop-at : goal.invariant-loop-at
invariant-loop-at l = IsSized l.under.rows.now → ArePlaces l.under.rows.now l.under.places.now → AreSignaturesTo l.under.rows.now (entries l.under.table.now) l.numbers l.types.items l.of_rows.items l.at
