use Rattle.std.proofs.Common.{◌≡◌, ◌∙◌, ap, arith, length}
use Rattle.jr_members.specs.Keys.{entries_of}
use Rattle.jr_members.proofs.Declaring.{entries_more}
use Rattle.jr_member_faults.specs.Unfound.{abstract_entry}
use Rattle.jr_member_faults.proofs.unfound.abstracts_of.Goals as goal

pub loop-row-preserved : goal.loop-row-preserved
loop-row-preserved c = entries_more (abstract_entry c.args.rows.now) c.loop-row.row _ _ _ c.loop-row.invariant c.abstract_entry.ensures c.in_ok-add_entry.ensures

pub returns : goal.returns
returns c = let end : c.loop-row.row ≡ length c.args.rows.now = omega arith in c.loop-row.invariant ∙ ap (entries_of (abstract_entry c.args.rows.now)) end
