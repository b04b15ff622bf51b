use Rattle.std.proofs.Common.{◌≡◌, ◌<◌, false, length, List, Option}
use Rattle.jr_defs.specs.declared.referent.RowType.{RowType}
use Rattle.jr_spelling_rules.specs.Candidates.{is_call, name_length}
use Rattle.jr_spell.specs.Spellers.{rows_of, IsSought, IsWholeSpeller}
use Rattle.jr_spell.proofs.Shaped.{IsFrom}
use Rattle.jr_spell.proofs.speller.Speller.first_end.Given as goal

abbrev pub invariant-loop-more : goal.invariant-loop-more
invariant-loop-more l = (given : Option (List RowType)) → IsWholeSpeller l.self → IsSought l.self l.reference → is_call l.reference.sought ≡ false → l.fn.class < length (rows_of l.self)
    → IsFrom l.self l.reference.row given l.fn.class (name_length (rows_of l.self) l.fn.class) l.more
