use Rattle.jr_base.specs.Literals.{none}
use Rattle.jr_base.proofs.Runs.{after_char}
use Rattle.jr_lex.proofs.CharacterLemmas.{chars_plain, chars_escape, first_boundary}
use Rattle.jr_lex.proofs.EscapeLemmas.{escape_boundary}
use Rattle.jr_lex.proofs.literals.scan_literal.Goals as goal

pub loop-at-init : goal.loop-at-init
loop-at-init c = (first_boundary c.args.text.now c.args.quote c.utf8.text c.requires.quote c.requires.opens, rw c.in_ok-units.ensures.items none)

pub loop-at-preserved-in-Plain : goal.loop-at-preserved-in-Plain
loop-at-preserved-in-Plain c =
    let p = rw c.in-Plain.is at c.piece_at.ensures in
    let added = rw c.in_ok-push_char-in-Plain.was at c.push_char.ensures in
    rw (added, p.2) (after_char _ _ _ c.utf8.text c.loop-at.invariant.0 p.0, chars_plain c.loop-at.invariant.1 p.0 p.1)

pub loop-at-preserved : goal.loop-at-preserved
loop-at-preserved c =
    let p = rw c.in-Escape.is at c.piece_at.ensures in
    let added = c.in_ok-push-in-Escape.ensures.items in
    rw (added, p.2) (escape_boundary _ _ _ _ c.utf8.text p.1, chars_escape c.loop-at.invariant.1 p.1)
