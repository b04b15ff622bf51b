use Rattle.jr_base.specs.Files.{plain}
use Rattle.jr_engine.proofs.Barring.{deep_among_if}
use Rattle.jr_engine.proofs.deep.is_deep_at.Goals as goal

pub returns-in-Some : goal.returns-in-Some
returns-in-Some c = deep_among_if (plain c.args.texts.now) c.in-Some.text.now c.is_too_deep.result c.in-Some.ensures c.is_too_deep.ensures
