use Rattle.std.proofs.Common.{drop, inl, refl, sym, ◌∙◌, ap, arith}
use Rattle.std.proofs.lemmas.Result.{err_from_is_err_and}
use Rattle.std.proofs.lemmas.Str.{IsCharBoundary-start}
use Rattle.jr_base.specs.Gaps.{is_blank, IsGap}
use Rattle.jr_base.specs.Reading.{here}
use Rattle.jr_lex.proofs.CharacterLemmas.{drop_first}
use Rattle.jr_lex.proofs.Classes.{token_some}
use Rattle.jr_lex.proofs.Readings.{reads_gap, reads_token, gap_at, token_at, fault_first, fault_only, fault_same, whole, lex_one, no_fault}
use Rattle.jr_lex.proofs.lexer.lex_text.Goals as goal

pub loop-at-init : goal.loop-at-init
loop-at-init c = (IsCharBoundary-start c.args.text.now c.utf8.text, rw c.in_ok-tokens.ensures.items here)

pub returns-in_err-len-clause-fault : goal.returns-in_err-len-clause-fault
returns-in_err-len-clause-fault c =
    let p = err_from_is_err_and c.from_residual-in_err-len.result c.from_residual-in_err-len.ensures.1 in
    rw (p.1, p.2) (fault_first _ _ _ _ c.utf8.text c.loop-at.invariant.1 c.loop-at-test.true (rw c.from_place-rest.ensures at c.in_err-len.ensures))

pub returns-in_err-len-clause-only : goal.returns-in_err-len-clause-only
returns-in_err-len-clause-only c ts x =
    let p = err_from_is_err_and c.from_residual-in_err-len.result c.from_residual-in_err-len.ensures.1 in
    rw (p.1, p.2) (fault_only _ _ _ _ c.loop-at.invariant.1 c.loop-at-test.true (rw c.from_place-rest.ensures at c.in_err-len.ensures) ts x)

pub returns-in_err-len-clause-only_fault : goal.returns-in_err-len-clause-only_fault
returns-in_err-len-clause-only_fault c place x =
    let p = err_from_is_err_and c.from_residual-in_err-len.result c.from_residual-in_err-len.ensures.1 in
    rw (p.1, p.2) (fault_same _ _ _ _ c.loop-at.invariant.1 c.loop-at-test.true (rw c.from_place-rest.ensures at c.in_err-len.ensures) place x)

pub loop-at-preserved-then-is_blank : goal.loop-at-preserved-then-is_blank
loop-at-preserved-then-is_blank c =
    let found : IsGap (drop c.loop-at.at c.args.text.now) 1 = inl (record { blank = ap is_blank (drop_first c.args.text.now c.loop-at.at) ∙ (rw c.as_bytes.ensures.value at (sym c.is_blank.ensures ∙ c.if-is_blank.true)); one = refl }) in
    (gap_at _ _ _ c.utf8.text c.loop-at.invariant.0 found, reads_gap c.loop-at.invariant.1 (1, refl, found))

pub loop-at-preserved-in-Gap : goal.loop-at-preserved-in-Gap
loop-at-preserved-in-Gap c =
    let found = rw (c.in-Gap.is, c.from_place-rest.ensures) at c.in_ok-len.ensures in
    (gap_at _ _ _ c.utf8.text c.loop-at.invariant.0 found, reads_gap c.loop-at.invariant.1 (c.in-Gap.len, refl, found))

pub loop-at-smaller : goal.loop-at-smaller
loop-at-smaller c =
    let found = rw (c.in-Found.is, c.from_place-rest.ensures) at c.in_ok-len.ensures in
    let end = token_at _ _ _ _ c.utf8.text c.loop-at.invariant.0 found.stands in
    omega (arith, token_some _ _ _ found.stands, end.0)

pub loop-at-preserved : goal.loop-at-preserved
loop-at-preserved c =
    let found = rw (c.in-Found.is, c.from_place-rest.ensures) at c.in_ok-len.ensures in
    (token_at _ _ _ _ c.utf8.text c.loop-at.invariant.0 found.stands, rw c.in_ok-push-in-Found.ensures.items (reads_token c.loop-at.invariant.1 refl (c.in-Found.len, refl, found)))

pub returns-clause-only : goal.returns-clause-only
returns-clause-only c ts x = lex_one _ _ ts (whole c.utf8.text c.loop-at.invariant.1 c.loop-at.invariant.0.0 c.loop-at-test.false) x

pub returns-clause-only_fault : goal.returns-clause-only_fault
returns-clause-only_fault c place x = no_fault _ _ place (whole c.utf8.text c.loop-at.invariant.1 c.loop-at.invariant.0.0 c.loop-at-test.false) x
