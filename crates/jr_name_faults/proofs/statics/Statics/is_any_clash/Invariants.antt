use Rattle.std.proofs.Common.{◌≡◌, drop}
use Rattle.std.specs.List.{list_any}
use Rattle.jr_name_faults.specs.Imports.{rows_of}
use Rattle.jr_name_faults.specs.Statics.{is_clash}
use Rattle.jr_name_faults.proofs.statics.Statics.is_any_clash.Given as goal

abbrev pub invariant-loop-member : goal.invariant-loop-member
invariant-loop-member l = list_any (is_clash (rows_of l.self.world.now) l.self l.unit l.name l.import) (drop l.member-index l.members) ≡ list_any (is_clash (rows_of l.self.world.now) l.self l.unit l.name l.import) l.members
