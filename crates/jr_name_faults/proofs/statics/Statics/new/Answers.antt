use Rattle.std.proofs.Common.{refl}
use Rattle.jr_name_faults.proofs.Bringing.{statics_start}
use Rattle.jr_name_faults.proofs.statics.Statics.new.Goals as goal

pub returns : goal.returns
returns c = λ tabled. statics_start c.args.world.now _ refl tabled c.new.ensures c.new-2.ensures
