use Rattle.std.proofs.Common.{◌∙◌, sym}
use Rattle.jr_plain.proofs.Enclosed.{declaring_finds}
use Rattle.jr_report.specs.Listed.{rows_in, table_in}
use Rattle.jr_report.proofs.Gathering.{gathered, only_itself}
use Rattle.jr_report.proofs.called.called_as.Goals as goal

pub returns-in_ok-stamp_callers-in-Some : goal.returns-in_ok-stamp_callers-in-Some
returns-in_ok-stamp_callers-in-Some c = λ whole method. gathered (rows_in c.args.world.now) (table_in c.args.world.now) c.args.method _
    (c.in_ok-stamp_callers-in-Some.ensures whole ((declaring_finds (rows_in c.args.world.now) c.args.method _).0 (sym c.declaring_type.ensures ∙ c.in-Some.is)) method (c.in_ok-called.ensures method))

pub returns-in-None : goal.returns-in-None
returns-in-None c = λ whole method. only_itself (rows_in c.args.world.now) (table_in c.args.world.now) c.args.method _ (c.in_ok-called.ensures method) (sym c.declaring_type.ensures ∙ c.in-None.is)
