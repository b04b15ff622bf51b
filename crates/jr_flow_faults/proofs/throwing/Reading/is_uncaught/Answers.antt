use Rattle.std.proofs.Common.{refl}
use Rattle.std.proofs.lemmas.Bool.Decides.{not_from_Decides}
use Rattle.std.proofs.lemmas.Result.{IfOk-weaker}
use Rattle.jr_flow_faults.specs.Reading.{rows_of, table_of, completes_of}
use Rattle.jr_flow_faults.proofs.Noted.{notes_checked, notes_unchecked}
use Rattle.jr_flow_faults.proofs.throwing.Reading.is_uncaught.Goals as goal

pub returns-then-not-is_checked : goal.returns-then-not-is_checked
returns-then-not-is_checked c = λ reading none lt. notes_unchecked (rows_of c.args.self.now) (table_of c.args.self.now) (completes_of c.args.self.now) c.args.at c.args.class _ _
    (not_from_Decides _ (c.is_checked.ensures (table_of c.args.self.now) reading.view.above reading.roots) c.if-not-is_checked.true) refl

pub returns : goal.returns
returns c = λ reading none lt. IfOk-weaker c.comes_uncaught.result _ _
    (λ b h. notes_checked (rows_of c.args.self.now) (table_of c.args.self.now) (completes_of c.args.self.now) c.args.at c.args.class _ _
    ((c.is_checked.ensures (table_of c.args.self.now) reading.view.above reading.roots).0 c.if-not-is_checked.false) b h)
    (c.comes_uncaught.ensures reading none lt)
