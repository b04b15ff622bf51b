use Rattle.std.proofs.Common.{sym, ◌∙◌}
use Rattle.jr_plain.proofs.Packaged.{same_package_tells}
use Rattle.jr_member_faults.proofs.Descending.{opens_other, opens_none}
use Rattle.jr_member_faults.specs.Views.{rows_of, table_of}
use Rattle.jr_member_faults.proofs.descent.open_package.Goals as goal

pub returns-then-is_one_package : goal.returns-then-is_one_package
returns-then-is_one_package c = λ h. let w = c.args.world.now in let placed = h.whole.world_is.seen.placed in
    opens_none w c.args.at c.args.over _ ((same_package_tells (rows_of w) c.args.at c.args.over).0 (sym (c.is_one_package.ensures (rows_of w) placed.are placed.local placed.packages) ∙ c.if-is_one_package.true))

pub returns : goal.returns
returns c = λ h. opens_other c.args.world.now c.args.at c.args.over _ _ _ c.package_entry-entry.ensures c.in_ok-add_entry.ensures
