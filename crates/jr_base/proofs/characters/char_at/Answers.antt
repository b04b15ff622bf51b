use Rattle.std.proofs.Common.{rules}
use Rattle.std.proofs.lemmas.Str.{IsCharBoundary-after_ascii}
use Rattle.jr_base.specs.Places.{CharAt}
use Rattle.jr_base.proofs.Runs.{after_char, char_of_byte}
use Rattle.jr_base.proofs.characters.char_at.Goals as goal

pub returns-clause-after : goal.returns-clause-after
returns-clause-after c =
    let h : CharAt c.args.text.now c.args.at c.in-Some.c = search rules in
    rw c.len_utf8.ensures.value (after_char _ _ _ c.utf8.text c.requires.boundary h)

pub returns-then-first-lt128-clause-char : goal.returns-then-first-lt128-clause-char
returns-then-first-lt128-clause-char c =
    rw (c.from.ensures, c.as_bytes.ensures.value)
    (char_of_byte c.args.text.now c.args.at c.requires.inside (rw c.as_bytes.ensures.value at c.if-first-lt128.true))

pub returns-then-first-lt128-clause-after : goal.returns-then-first-lt128-clause-after
returns-then-first-lt128-clause-after c =
    IsCharBoundary-after_ascii c.args.text.now c.args.at c.utf8.text c.requires.inside (rw c.as_bytes.ensures.value at c.if-first-lt128.true)
