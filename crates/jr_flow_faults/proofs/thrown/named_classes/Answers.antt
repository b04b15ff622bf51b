use Rattle.std.proofs.Common.{arith}
use Rattle.std.proofs.lemmas.List.{drop_more, drop_all}
use Rattle.jr_defs.specs.Referents.{entries}
use Rattle.jr_flow_faults.specs.ExceptionTests.{named_class}
use Rattle.jr_flow_faults.proofs.Letting.{flat_next, flat_end}
use Rattle.jr_flow_faults.proofs.thrown.named_classes.Goals as goal

pub loop-name-preserved : goal.loop-name-preserved
loop-name-preserved c = flat_next (named_class c.args.under.now.rows.now (entries c.args.under.now.table.now)) _ _ _ _ _ _ (drop_more c.args.names.now c.loop-name.name-index _ (omega arith)) c.in_ok-add_named.ensures c.loop-name.invariant

pub returns : goal.returns
returns c = flat_end (named_class c.args.under.now.rows.now (entries c.args.under.now.table.now)) _ _ _ (drop_all c.loop-name.name-index c.args.names.now (omega arith)) c.loop-name.invariant
