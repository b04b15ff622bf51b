use Rattle.std.proofs.lemmas.Result.{IfOk-weaker}
use Rattle.jr_flow_faults.specs.Computed.{rows_in, table_in}
use Rattle.jr_flow_faults.specs.Reading.{completes_in}
use Rattle.jr_extract.specs.Throwing.{view_of}
use Rattle.jr_extract.proofs.Throws.{checked_out, unchecked_out}
use Rattle.jr_extract.proofs.thrown.Reading.is_thrown_out.Goals as goal

pub returns-then-not-is_checked : goal.returns-then-not-is_checked
returns-then-not-is_checked c = λ reading inside. let view = view_of c.args.self.now in unchecked_out (rows_in view) (table_in view) (completes_in view) c.args.self.now.run reading.traced.view.above.well.headed reading.traced.view.local c.args.class c.args.at
    c.is_checked.result (c.is_checked.ensures (table_in view) reading.traced.view.above reading.roots) c.if-not-is_checked.true

pub returns : goal.returns
returns c = λ reading inside. let view = view_of c.args.self.now in IfOk-weaker c.comes_out.result _ _
    (λ b h. checked_out (rows_in view) (table_in view) (completes_in view) c.args.self.now.run reading.traced.view.above.well.headed reading.traced.view.local c.args.class c.args.at
    c.is_checked.result b (c.is_checked.ensures (table_in view) reading.traced.view.above reading.roots) c.if-not-is_checked.false h)
    (c.comes_out.ensures reading inside)
