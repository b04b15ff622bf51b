use Rattle.std.proofs.Common.{◌≡◌, ◌-◌, ◌<◌, length}
use Rattle.jr_spelling_rules.specs.Candidates.{suffix_from, name_length}
use Rattle.jr_spell.specs.Spellers.{rows_of, table_of, IsWholeSpeller}
use Rattle.jr_spell.proofs.speller.Speller.first_suffix.Given as goal

abbrev pub invariant-loop-more : goal.invariant-loop-more
invariant-loop-more l = IsWholeSpeller l.self → l.fn.class < length (rows_of l.self) → l.fn.place < length (rows_of l.self)
    → suffix_from (rows_of l.self) (table_of l.self) l.fn.place l.fn.kind l.fn.class 0 (name_length (rows_of l.self) l.fn.class)
    ≡ suffix_from (rows_of l.self) (table_of l.self) l.fn.place l.fn.kind l.fn.class l.more (name_length (rows_of l.self) l.fn.class - l.more)
