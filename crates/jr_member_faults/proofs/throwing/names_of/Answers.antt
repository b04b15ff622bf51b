use Rattle.std.proofs.Common.{◌≡◌, ◌∙◌, ap, arith, length}
use Rattle.jr_members.specs.Keys.{entries_of}
use Rattle.jr_members.proofs.Declaring.{entries_more}
use Rattle.jr_member_faults.specs.Thrown.{thrown_entry}
use Rattle.jr_member_faults.proofs.throwing.names_of.Goals as goal

pub loop-at-preserved : goal.loop-at-preserved
loop-at-preserved c = entries_more (thrown_entry c.args.rows.now) c.loop-at.at _ _ _ c.loop-at.invariant c.thrown_entry.ensures c.in_ok-add_entry.ensures

pub returns : goal.returns
returns c = let end : c.loop-at.at ≡ length c.args.rows.now = omega arith in c.loop-at.invariant ∙ ap (entries_of (thrown_entry c.args.rows.now)) end
