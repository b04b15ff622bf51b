use Rattle.jr_constants.proofs.Knowing.{none_known}
use Rattle.jr_constants.proofs.constants.Constants.new.Goals as goal

pub returns : goal.returns
returns c = λ t k. none_known c.args.rows.now t k _ _ _ c.in_ok-variables.ensures c.in_ok-values.ensures
