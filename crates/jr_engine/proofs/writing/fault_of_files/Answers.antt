use Rattle.std.specs.FinMap as finite
use Rattle.jr_base.specs.Files.{plain}
use Rattle.jr_engine.proofs.Barring.{entries_bar, files_bar, files_large}
use Rattle.jr_engine.proofs.writing.fault_of_files.Goals as goal

pub too_large-requires-clause-large : goal.too_large-requires-clause-large
too_large-requires-clause-large c = files_large c.args.files.now (plain c.entries.result.now) c.args.fault c.in-TooLarge.size c.entries.ensures c.in-TooLarge.is c.requires.checked

pub returns-in-TooLarge : goal.returns-in-TooLarge
returns-in-TooLarge c = entries_bar (plain c.entries.result.now) (finite.entries c.args.files.now) c.too_large.result c.entries.ensures c.too_large.ensures

pub returns-in_default : goal.returns-in_default
returns-in_default c = files_bar c.args.files.now c.args.fault c.not_compiling.result c.not_compiling.ensures c.requires.checked
