use Rattle.std.proofs.Common.{◌∙◌}
use Rattle.jr_engine.proofs.Spelling.{first_in, none_in}
use Rattle.jr_engine.proofs.locked.spellings.Goals as goal

pub returns-in-Ok-clause-ok : goal.returns-in-Ok-clause-ok
returns-in-Ok-clause-ok c = first_in c.args.asked c.args.locked.now c.project_of.result c.deref.result.now c.in-Ok.all.items c.requires.old c.requires.new c.requires.begins c.requires.sound c.requires.by c.requires.bound
    c.project_of.ensures.starts c.project_of.ensures.view (c.deref.ensures.value ∙ c.in_ok-constant.ensures) c.in-Ok.ensures.spelled c.in-Ok.ensures.told

pub returns-in-Err-NoSpelling-clause-err : goal.returns-in-Err-NoSpelling-clause-err
returns-in-Err-NoSpelling-clause-err c = none_in c.args.asked c.args.locked.now c.project_of.result c.deref.result.now c.in-Err-NoSpelling.row c.in-Err-NoSpelling.field-0-1 c.no_spelling.result c.requires.asked c.requires.old c.requires.new c.requires.begins
    c.requires.sound c.requires.by c.requires.bound c.project_of.ensures.starts c.project_of.ensures.view (c.deref.ensures.value ∙ c.in_ok-constant.ensures) (rw c.in-Err-NoSpelling.field-0-is at c.in-Err-NoSpelling.ensures.fault) (c.no_spelling.ensures c.requires.asked.ordered)
