use Rattle.std.proofs.Common.{sym, ◌∙◌, refl}
use Rattle.jr_lex.proofs.Found.{bad_escape, open_literal, closed_string, closed_char, closed_several}
use Rattle.jr_lex.proofs.items.literal_item.Goals as goal

pub returns-then-quote-eq34 : goal.returns-then-quote-eq34
returns-then-quote-eq34 c =
    let h = rw c.in-Literal.is at c.in_ok-scan_literal.ensures in
    rw c.new.ensures (closed_string c.args.quote c.args.text.now c.in-Literal.units.items c.in-Literal.len c.requires.opens c.if-quote-eq34.true h)

pub returns-in-Some : goal.returns-in-Some
returns-in-Some c =
    let h = rw c.in-Literal.is at c.in_ok-scan_literal.ensures in
    closed_char c.args.quote c.args.text.now c.in-Literal.units.items c.in-Literal.len c.in-Some.unit c.requires.opens c.requires.quote c.if-quote-eq34.false
    (sym c.as_slice.ensures.value ∙ c.in-Some.ensures) h

pub returns : goal.returns
returns c =
    let h = rw c.in-Literal.is at c.in_ok-scan_literal.ensures in
    let r = closed_several c.args.quote c.args.text.now c.in-Literal.units.items c.in-Literal.len c.requires.opens c.requires.quote c.if-quote-eq34.false
    (rw c.as_slice.ensures.value at c.in-None.ensures) h in
    (r.0, (refl, r.1))

pub returns-in-BadEscape : goal.returns-in-BadEscape
returns-in-BadEscape c =
    let h = rw c.in-BadEscape.is at c.in_ok-scan_literal.ensures in
    let r = bad_escape c.args.text.now c.args.quote c.requires.quote c.requires.opens h.0 h.1 h.2 h.3.0 h.3.1 in
    (r.0, (refl, r.1))

pub returns-in-Open : goal.returns-in-Open
returns-in-Open c =
    let h = rw c.in-Open.is at c.in_ok-scan_literal.ensures in
    let r = open_literal c.args.text.now c.args.quote c.requires.quote c.requires.opens h.0 h.1 h.2 h.3 in
    (r.0, (refl, r.1))
