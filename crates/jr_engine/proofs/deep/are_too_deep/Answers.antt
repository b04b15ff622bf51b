use Rattle.jr_engine.proofs.Barring.{deep_tokens}
use Rattle.jr_engine.proofs.deep.are_too_deep.Goals as goal

pub returns-in-Err : goal.returns-in-Err
returns-in-Err c = λ e. deep_tokens c.args.tokens.now c.in-Err.fault c.in-Err.ensures (c.is_depth.ensures e)
