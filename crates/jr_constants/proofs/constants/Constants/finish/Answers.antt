use Rattle.jr_constants.specs.Tables.{picks}
use Rattle.jr_constants.proofs.constants.Constants.finish.Goals as goal

pub returns : goal.returns
returns c = λ sized init known. c.find.ensures (picks c.args.constant.now) sized init (c.in_ok-set_all.ensures sized known)
