use Rattle.std.proofs.Common.{◌≡◌, ◌<◌, length, true, sym, ◌∙◌, ap, arith}
use Rattle.std.specs.Prelude.{slice_index}
use Rattle.std.proofs.lemmas.Str.{IsCharBoundary-after_ascii}
use Rattle.jr_base.specs.Places.{none}
use Rattle.jr_base.proofs.Runs.{char_inside}
use Rattle.jr_lex.proofs.WordLemmas.{word_byte, word_low, run_both, run_byte, byte_stops}
use Rattle.jr_lex.proofs.words.run_end.Goals as goal

pub loop-end-init : goal.loop-end-init
loop-end-init c = (c.requires.boundary, none)

pub loop-end-preserved : goal.loop-end-preserved
loop-end-preserved c =
    let e = c.as_bytes-bytes.ensures.value in
    let inside : c.loop-end.end < length c.args.text.now = omega (arith, c.loop-end-test.true, ap length e) in
    let goes : word_byte (slice_index c.args.text.now c.loop-end.end) ≡ true = rw e at (sym c.goes_on.ensures ∙ c.if-not-goes_on.false) in
    let low = word_low _ goes in
    (IsCharBoundary-after_ascii c.args.text.now c.loop-end.end c.utf8.text inside low, run_byte c.args.text.now c.loop-end.end inside low c.loop-end.invariant.1 goes)

pub returns-then-not-goes_on-clause-run : goal.returns-then-not-goes_on-clause-run
returns-then-not-goes_on-clause-run c = run_both c.loop-end.invariant.1 c.word_end.ensures.run

pub returns-after-loop-end-clause-ends : goal.returns-after-loop-end-clause-ends
returns-after-loop-end-clause-ends c d h = absurd (omega (arith, char_inside c.args.text.now c.loop-end.end d h, c.loop-end-test.false, ap length c.as_bytes-bytes.ensures.value))

pub returns-then-bytes-end-lt128-clause-ends : goal.returns-then-bytes-end-lt128-clause-ends
returns-then-bytes-end-lt128-clause-ends c d h =
    let e = c.as_bytes-bytes.ensures.value in
    byte_stops c.args.text.now c.loop-end.end (omega (arith, c.loop-end-test.true, ap length e)) (rw e at c.if-bytes-end-lt128.true) (rw e at (sym c.goes_on.ensures ∙ c.if-not-goes_on.true)) d h
