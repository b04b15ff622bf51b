use Rattle.std.proofs.Common.{◌≡◌, ◌∙◌, ap, arith, length}
use Rattle.jr_members.specs.Keys.{entries_of}
use Rattle.jr_members.proofs.Declaring.{entries_more}
use Rattle.jr_member_faults.specs.Redefined.{number_entry_of}
use Rattle.jr_member_faults.specs.Views.{rows_of}
use Rattle.jr_member_faults.proofs.redefining.signed_methods.Goals as goal

pub loop-row-preserved : goal.loop-row-preserved
loop-row-preserved c = entries_more (number_entry_of c.args.world.now) c.loop-row.row _ _ _ c.loop-row.invariant c.signed_entry.ensures c.in_ok-add_entry.ensures

pub returns : goal.returns
returns c = let end : c.loop-row.row ≡ length (rows_of c.args.world.now) = omega arith in c.loop-row.invariant ∙ ap (entries_of (number_entry_of c.args.world.now)) end
