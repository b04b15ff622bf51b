use Rattle.std.proofs.Common.{sym}
use Rattle.std.proofs.lemmas.Bool.{ltb-true}
use Rattle.jr_engine.proofs.Barring.{text_among}
use Rattle.jr_engine.proofs.deep.text_at.Goals as goal

pub returns-in-Some : goal.returns-in-Some
returns-in-Some c = text_among c.args.texts.now c.args.at c.in-Some.file.now c.as_slice.result.now c.as_slice.ensures.value (ltb-true _ _ (sym c.in-Some.ensures.lookup.0)) c.in-Some.ensures.lookup.1
