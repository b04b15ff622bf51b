use Rattle.std.proofs.Common.{◌∙◌, ap, List}
use Rattle.jr_base.specs.Files.{plain}
use Rattle.jr_defs.specs.declared.program.UnitAt.{UnitAt}
use Rattle.jr_engine.specs.Texts.{changed_files}
use Rattle.jr_engine.proofs.Barring.{unread_hinders}
use Rattle.jr_engine.proofs.Beginning.{units_begin}
use Rattle.jr_engine.proofs.Reading.{read_by}
use Rattle.jr_engine.proofs.locked.lock.Goals as goal

pub returns-in-Ok-clause-begins : goal.returns-in-Ok-clause-begins
returns-in-Ok-clause-begins c = c.locked_program.ensures.begins (units_begin _ c.in-Ok.program.units c.in-Ok.ensures.ok)

pub returns-in-Ok-clause-read : goal.returns-in-Ok-clause-read
returns-in-Ok-clause-read c = read_by c.args.asked c.as_slice-units.result.now _ _ c.in-Ok.program c.locked_program.result c.as_slice-units.ensures (ap plain c.as_slice-texts.ensures.value) c.in_ok-changed.ensures.files c.in_ok-changed.ensures.small c.in-Ok.ensures.ok c.locked_program.ensures.read

pub returns-clause-err : goal.returns-clause-err
returns-clause-err c = unread_hinders c.args.asked (plain c.as_slice-texts.result.now) c.unread.result
    (ap plain c.as_slice-texts.ensures.value ∙ c.in_ok-changed.ensures.files ∙ ap (λ (u : List UnitAt). changed_files u c.args.asked.change.now.units.items) c.as_slice-units.ensures) c.unread.ensures
