use Rattle.std.proofs.Common.{◌≡◌, length, sym, ◌∙◌, arith, true, ◌+◌}
use Rattle.std.proofs.lemmas.Bool.{false≢true, eqb-true, eq-eqb}
use Rattle.std.proofs.lemmas.Bool.Decides.{nat_tests}
use Rattle.std.proofs.lemmas.Str.{IsCharBoundary-start}
use Rattle.std.specs.Char.{len_utf8}
use Rattle.jr_base.specs.Places.{CharRun}
use Rattle.jr_base.specs.Identifiers.{is_start_char, is_word_char}
use Rattle.jr_base.proofs.Words.{not_word, is_whole, empty_word}
use Rattle.jr_base.proofs.identifier.is_word.Goals as goal

pub returns-then-is_empty : goal.returns-then-is_empty
returns-then-is_empty c =
    let empty : length c.args.text.now ≡ 0 = grind (arith, nat_tests) in
    ((λ t. absurd (false≢true t)), (λ w. absurd (empty_word c.args.text.now empty w)))

pub char_at-first-requires-clause-boundary : goal.char_at-first-requires-clause-boundary
char_at-first-requires-clause-boundary c = IsCharBoundary-start c.args.text.now c.utf8.text

pub returns-then-starts_word : goal.returns-then-starts_word
returns-then-starts_word c =
    let here = c.char_at-first.ensures.char in
    let run : CharRun is_word_char c.args.text.now (0 + len_utf8 c.char_at-first.result.0) c.word_end.result = rw (sym c.char_at-first.ensures.ends) c.word_end.ensures.run in
    let starts : is_start_char c.char_at-first.result.0 ≡ true = sym c.starts_word.ensures ∙ c.if-starts_word.true in (
      (λ t. record { first = c.char_at-first.result.0; here = here; starts = starts; run = rw (sym (eqb-true _ _ t)) run }),
      (λ w. eq-eqb _ _ (is_whole c.args.text.now c.char_at-first.result.0 c.word_end.result here c.word_end.ensures.after run c.word_end.ensures.ends w)),
    )

pub returns-else-starts_word : goal.returns-else-starts_word
returns-else-starts_word c = (
  (λ t. absurd (false≢true (sym c.if-starts_word.false ∙ t))),
  (λ w. absurd (not_word c.args.text.now c.char_at-first.result.0 0 c.char_at-first.ensures.char (sym c.starts_word.ensures ∙ c.if-starts_word.false) w)),
)
