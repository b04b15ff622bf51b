use Rattle.std.proofs.Common.{◌≡◌, ◌∙◌, ap, arith, length}
use Rattle.jr_members.specs.Keys.{constructor_entry, entries_of}
use Rattle.jr_members.proofs.Declaring.{entries_more}
use Rattle.jr_members.proofs.callables.constructors_of.Goals as goal

pub loop-at-preserved : goal.loop-at-preserved
loop-at-preserved c = entries_more (constructor_entry c.args.all.now) c.loop-at.at _ _ _ c.loop-at.invariant c.constructor_entry.ensures c.in_ok-add_entry.ensures

pub returns : goal.returns
returns c = let end : c.loop-at.at ≡ length c.args.all.now = omega arith in c.loop-at.invariant ∙ ap (entries_of (constructor_entry c.args.all.now)) end
