-- One header is looked up under a table that has the names of a stage, and is ready for it.
use Rattle.std.proofs.Common.{ℕ}
use Rattle.jr_tree.specs.Rows.{Rows}
use Rattle.jr_defs.specs.Referents.{Table, entries}
use Rattle.jr_defs.specs.Declarations.{IsType}
use Rattle.jr_defs.specs.Enclosing.{InBody}
use Rattle.jr_defs.specs.Headers.{Meets}
use Rattle.jr_defs.specs.Formed.{IsFormed}
use Rattle.jr_defs.proofs.HeadersAgree.{Agreed}
use Rattle.jr_headers.specs.Rounds.{name_or_same}
use Rattle.jr_headers.specs.Growing.{Stage}
use Rattle.jr_headers.specs.Settling.{part_of, whole_of, IsReadyFor, TellsHeader}
use Rattle.jr_headers.proofs.Pairs.{one_header}
use Rattle.jr_headers.proofs.Grounded.{agreed_over}
use Rattle.jr_headers.proofs.Given.{part_names, whole_looked}
use Rattle.jr_headers.proofs.Stepping.{IsGrown}
use Rattle.jr_headers.proofs.AtHeader.{looked_here}
use Rattle.jr_headers.proofs.OneHeader.{LookedHere, own_agree, meets_back, meets_there}

module _ (p : Rows) (formed : IsFormed p) where
  module _ (s : Stage) (g : IsGrown p formed s) (v : Table) (c : ℕ) (type : IsType p c) (ready : IsReadyFor p s v c) where
    abbrev x : Table
    x = name_or_same p v

    here : LookedHere p c x v
    here = looked_here p formed v ready.ends c ready.inner ready.imports

    there : LookedHere p c (whole_of p s) (part_of p s)
    there = one_header p formed (whole_of p s) (part_of p s) (whole_looked p formed s.names g.grounded) c type

    known : (e : ℕ) → IsType p e → Agreed p v (part_of p s) e
    known e k = agreed_over p (entries s.names) v (part_of p s) ready.names (part_names p formed s.names g.grounded) e (g.grounded e k)

    outer : (e : ℕ) → InBody p e c → Agreed p v (part_of p s) e
    outer e w = known e w.of_type.type

    met : (k : ℕ) → IsType p k → Meets p x v c k → Agreed p v (part_of p s) k
    met k t w = known k t

    pub header_told : TellsHeader p s v c
    header_told = record {
      names = λ n m h i. own_agree p formed c x v (whole_of p s) (part_of p s) here there type outer met n h m i;
      met = λ k. (
        λ w. record { row = w.row; header = w.header; meets = meets_there p formed c x v (whole_of p s) (part_of p s) here there type outer met w.row w.header k w.meets },
        λ w. record { row = w.row; header = w.header; meets = meets_back p formed c x v (whole_of p s) (part_of p s) here there type outer met w.row w.header k w.meets },
      );
    }
