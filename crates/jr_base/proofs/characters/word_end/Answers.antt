use Rattle.std.proofs.Common.{sym, ◌∙◌, ap, arith}
use Rattle.jr_base.specs.Places.{none}
use Rattle.jr_base.specs.Identifiers.{is_word_char}
use Rattle.jr_base.proofs.Runs.{run_more, char_one, char_inside}
use Rattle.jr_base.proofs.characters.word_end.Goals as goal

pub loop-end-init : goal.loop-end-init
loop-end-init c = (c.requires.boundary, none)

pub loop-end-preserved : goal.loop-end-preserved
loop-end-preserved c = (c.char_at-c.ensures.after, rw c.char_at-c.ensures.ends (run_more c.loop-end.invariant.1 c.char_at-c.ensures.char (sym c.continues_word.ensures ∙ c.if-not-continues_word.false)))

pub returns-after-loop-end-clause-ends : goal.returns-after-loop-end-clause-ends
returns-after-loop-end-clause-ends c d h = absurd (omega (arith, char_inside _ _ d h))

pub returns-then-not-continues_word-clause-ends : goal.returns-then-not-continues_word-clause-ends
returns-then-not-continues_word-clause-ends c d h =
    ap is_word_char (char_one _ _ d _ h c.char_at-c.ensures.char) ∙ (sym c.continues_word.ensures ∙ c.if-not-continues_word.true)
