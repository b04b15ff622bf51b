use Rattle.std.proofs.Common.{sym, ◌∙◌}
use Rattle.std.proofs.lemmas.Bool.{ltb-true, ltb-false}
use Rattle.jr_read.proofs.Readings.{offset_within, offset_behind}
use Rattle.jr_read.proofs.lexed.offset_of.Goals as goal

pub returns-in-Some : goal.returns-in-Some
returns-in-Some c =
    offset_within c.args.tokens.now c.args.bytes.now c.args.number c.in-Some.token.now (ltb-true _ _ (sym c.in-Some.ensures.lookup.0)) c.in-Some.ensures.lookup.1

pub returns-in-Ok : goal.returns-in-Ok
returns-in-Ok c =
    c.in-Ok.ensures.1 ∙ offset_behind c.args.tokens.now c.args.bytes.now c.args.number (ltb-false _ _ (sym c.in-None.ensures.lookup.0))
