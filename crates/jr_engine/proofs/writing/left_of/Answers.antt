use Rattle.std.proofs.Common.{ap, subst, sym}
use Rattle.jr_base.specs.Files.{plain}
use Rattle.jr_engine.specs.Texts.{AreSmall}
use Rattle.jr_engine.proofs.Barring.{entries_bar}
use Rattle.jr_engine.proofs.Reading.{bars_not_left, not_left, not_left_if, texts_so}
use Rattle.jr_engine.proofs.writing.left_of.Goals as goal

pub path_fault-requires : goal.path_fault-requires
path_fault-requires c = subst (λ all. AreSmall (plain all)) (sym c.deref.ensures.value) c.in_ok-new.ensures.small

pub returns-in-None-clause-texts : goal.returns-in-None-clause-texts
returns-in-None-clause-texts c = texts_so c.args.spelled.locked.now c.args.spelled.spellings.now (plain c.in_ok-new.new.texts.items) c.left_with.result c.in_ok-new.ensures.are c.left_with.ensures.files

pub returns-in-None-clause-err : goal.returns-in-None-clause-err
returns-in-None-clause-err c = not_left_if c.args.spelled.asked c.args.spelled.locked.now c.args.spelled.spellings.now (plain c.in_ok-new.new.texts.items) c.left_with.result c.in_ok-new.ensures.are c.left_with.ensures.err

pub returns-in-Some-clause-err : goal.returns-in-Some-clause-err
returns-in-Some-clause-err c =
    let texts = plain c.in_ok-new.new.texts.items in
    let bars = entries_bar (plain c.deref.result.now) texts c.in-Some.fault (ap plain c.deref.ensures.value) c.in-Some.ensures in
    not_left c.args.spelled.asked c.args.spelled.locked.now c.args.spelled.spellings.now texts c.in-Some.fault c.in_ok-new.ensures.are (bars_not_left c.args.spelled.asked texts c.in-Some.fault bars)
