use Rattle.std.proofs.Common.{◌<◌, ◌-◌, length}
use Rattle.jr_defs.specs.Referents.{entries}
use Rattle.jr_supers.specs.Tabled.{IsSized}
use Rattle.jr_supers.specs.Signatures.{IsParameterAt}
use Rattle.jr_supers.proofs.signatures.add_types.Given as goal

abbrev pub invariant-loop-turn : goal.invariant-loop-turn
invariant-loop-turn l = IsSized l.under.rows.now → l.at < length l.under.rows.now
    → IsParameterAt l.under.rows.now (entries l.under.table.now) l.fn.types.items l.types.items l.at (length l.under.rows.now - l._turn) l.child
