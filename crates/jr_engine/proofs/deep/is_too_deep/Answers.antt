use Rattle.jr_engine.proofs.Barring.{deep_text_if}
use Rattle.jr_engine.proofs.deep.is_too_deep.Goals as goal

pub returns-in-Ok : goal.returns-in-Ok
returns-in-Ok c = deep_text_if c.args.text.now c.in-Ok.tokens.items c.deref.result.now c.are_too_deep.result c.deref.ensures.value c.in-Ok.ensures.found c.are_too_deep.ensures
