use Rattle.std.proofs.Common.{sym, ◌∙◌}
use Rattle.std.proofs.lemmas.Str.{IsCharBoundary-after_ascii, IsCharBoundary-start}
use Rattle.jr_lex.proofs.Found.{no_word}
use Rattle.jr_lex.proofs.WordLemmas.{byte_starts, byte_no_start}
use Rattle.jr_lex.proofs.words.first_end.Goals as goal

pub returns-then-starts : goal.returns-then-starts
returns-then-starts c =
    let e = c.as_bytes.ensures.value in
    let low = rw e at c.if-first-lt128.true in
    (IsCharBoundary-after_ascii c.args.text.now 0 c.utf8.text c.requires low, byte_starts c.args.text.now c.requires low (rw e at (sym c.starts.ensures ∙ c.if-starts.true)))

pub returns-else-starts : goal.returns-else-starts
returns-else-starts c =
    let e = c.as_bytes.ensures.value in
    byte_no_start c.args.text.now c.requires (rw e at c.if-first-lt128.true) (rw e at (sym c.starts.ensures ∙ c.if-starts.false))

pub char_at-c-requires-clause-boundary : goal.char_at-c-requires-clause-boundary
char_at-c-requires-clause-boundary c = IsCharBoundary-start c.args.text.now c.utf8.text

pub returns-else-starts_word : goal.returns-else-starts_word
returns-else-starts_word c = no_word c.args.text.now c.char_at-c.result.0 c.char_at-c.ensures.char (sym c.starts_word.ensures ∙ c.if-starts_word.false)
