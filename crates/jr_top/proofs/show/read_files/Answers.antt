use Rattle.std.proofs.Common.{refl, Some}
use Rattle.jr_top.proofs.Shown.{run_asked, references_asked, subtypes_asked, callers_asked}
use Rattle.jr_top.proofs.show.read_files.Goals as goal

pub returns-in-Run-clause-answer : goal.returns-in-Run-clause-answer
returns-in-Run-clause-answer g c reads = c.show_all.ensures.answer (Some c.args.command.now) (run_asked c.in-Run.is c.bytes-class.ensures _ refl)

pub returns-in-Refs-clause-answer : goal.returns-in-Refs-clause-answer
returns-in-Refs-clause-answer g c reads = c.show_all-in-Refs.ensures.answer (Some c.args.command.now) (references_asked c.in-Refs.is c.bytes-file.ensures _ refl)

pub returns-in-Subtypes-clause-answer : goal.returns-in-Subtypes-clause-answer
returns-in-Subtypes-clause-answer g c reads = c.show_all-in-Subtypes.ensures.answer (Some c.args.command.now) (subtypes_asked c.in-Subtypes.is c.bytes-file-in-Subtypes.ensures _ refl)

pub returns-in-Callers-clause-answer : goal.returns-in-Callers-clause-answer
returns-in-Callers-clause-answer g c reads = c.show_all-in-Callers.ensures.answer (Some c.args.command.now) (callers_asked c.in-Callers.is c.bytes-file-in-Callers.ensures _ refl)
