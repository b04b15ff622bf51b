use Rattle.std.proofs.Common.{sym, ◌∙◌, arith}
use Rattle.jr_flow_faults.specs.Computed.{rows_in, table_in}
use Rattle.jr_flow_faults.specs.Reading.{completes_in, types_in}
use Rattle.jr_extract.specs.Throwing.{view_of}
use Rattle.jr_extract.proofs.Throws.{all_below, held, more_below, none_below}
use Rattle.jr_extract.proofs.thrown.Reading.all_thrown.Goals as goal

pub loop-at-init : goal.loop-at-init
loop-at-init c = let view = view_of c.args.self.now in record {
  none = λ lt. c.new-all.ensures.items;
  found = λ reading. c.new-all.ensures.items ∙ sym (none_below (rows_in view) (table_in view) (types_in view) (completes_in view) c.args.self.now.run c.args.self.now.run.rows.first (omega arith));
}

pub loop-at-preserved : goal.loop-at-preserved
loop-at-preserved c = let view = view_of c.args.self.now in let run = c.args.self.now.run in record {
  none = λ lt. absurd (omega arith);
  found = λ reading. more_below (rows_in view) (table_in view) (types_in view) (completes_in view) run c.loop-at.at _ _ (omega arith) (c.loop-at.invariant.found reading)
      (c.in_ok-add_thrown_at.ensures reading (held run c.loop-at.at (omega arith) (omega arith)));
}

pub returns : goal.returns
returns c = let view = view_of c.args.self.now in λ reading. all_below (rows_in view) (table_in view) (types_in view) (completes_in view) c.args.self.now.run c.loop-at.at _ c.loop-at.invariant.none (c.loop-at.invariant.found reading) (omega arith) (λ le. omega arith)
