use Rattle.std.proofs.Common.{sym, ◌∙◌, refl}
use Rattle.jr_lex.proofs.Found.{open_comment, bad_number, fraction, symbol_found, bad_byte}
use Rattle.jr_lex.proofs.items.item_at.Goals as goal

pub returns-in-None : goal.returns-in-None
returns-in-None c =
    let e = c.as_bytes-bytes.ensures.value in
    let r = open_comment c.args.text.now (rw e at (sym c.opens_block_comment.ensures ∙ c.if-opens_block_comment.true)) (rw e at c.in-None.ensures) in
    (r.0, (refl, r.1))

pub returns-in-None-integer_item : goal.returns-in-None-integer_item
returns-in-None-integer_item c =
    let e = c.as_bytes-bytes.ensures.value in
    let r = bad_number c.args.text.now
    c.requires.dark
    (rw e at (sym c.opens_line_comment.ensures ∙ c.if-opens_line_comment.false))
    (rw e at (sym c.opens_block_comment.ensures ∙ c.if-opens_block_comment.false))
    (rw e at (sym c.is_ascii_digit.ensures.value ∙ c.if-is_ascii_digit.true))
    c.in-None-integer_item.ensures in
    (r.0, (refl, r.1))

pub returns-then-opens_fraction : goal.returns-then-opens_fraction
returns-then-opens_fraction c =
    let e = c.as_bytes-bytes.ensures.value in
    let r = fraction c.args.text.now
    c.requires.dark
    (rw e at (sym c.opens_line_comment.ensures ∙ c.if-opens_line_comment.false))
    (rw e at (sym c.opens_block_comment.ensures ∙ c.if-opens_block_comment.false))
    (rw e at (sym c.opens_fraction.ensures ∙ c.if-opens_fraction.true)) in
    (r.0, (refl, r.1))

pub returns-in-Some-symbol_at : goal.returns-in-Some-symbol_at
returns-in-Some-symbol_at c =
    let e = c.as_bytes-bytes.ensures.value in
    let h = rw e at c.in-Some-symbol_at.ensures in
    symbol_found c.args.text.now
    c.requires.dark
    (rw e at (sym c.opens_line_comment.ensures ∙ c.if-opens_line_comment.false))
    (rw e at (sym c.opens_block_comment.ensures ∙ c.if-opens_block_comment.false))
    c.in-Some-symbol_at.len c.in-Some-symbol_at.symbol
    (rw e at (sym c.opens_fraction.ensures ∙ c.if-opens_fraction.false)) h.0 h.1

pub returns-in-None-symbol_at : goal.returns-in-None-symbol_at
returns-in-None-symbol_at c =
    let e = c.as_bytes-bytes.ensures.value in
    let r = bad_byte c.args.text.now
    c.requires.dark
    (rw e at (sym c.opens_line_comment.ensures ∙ c.if-opens_line_comment.false))
    (rw e at (sym c.opens_block_comment.ensures ∙ c.if-opens_block_comment.false))
    (rw e at (sym c.is_ascii_digit.ensures.value ∙ c.if-is_ascii_digit.false))
    (rw e at (sym c.is_quote.ensures ∙ c.if-is_quote.false))
    (rw c.in_default.is at c.in_ok-item.ensures)
    (rw e at (sym c.opens_fraction.ensures ∙ c.if-opens_fraction.false))
    (rw e at c.in-None-symbol_at.ensures) in
    (r.0, (refl, r.1))
