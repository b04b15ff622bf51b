use Rattle.jr_commit.proofs.Lengths.{journal_fits, one_file}
use Rattle.jr_commit.proofs.sizes.journal_fits.Goals as goal

pub returns-clause-within : goal.returns-clause-within
returns-clause-within c = journal_fits c.args.old.now c.args.new.now

pub returns-clause-one_file : goal.returns-clause-one_file
returns-clause-one_file c = λ before after. journal_fits c.args.old.now c.args.new.now (one_file c.args.old.now before) (one_file c.args.new.now after)
