use Rattle.std.proofs.Common.{◌∙◌, ap}
use Rattle.jr_members.specs.Named.{carries_by}
use Rattle.jr_members.proofs.named.Way.carries.Goals as goal

pub returns : goal.returns
returns c = λ placed. c.carries_by.ensures ∙ ap (carries_by c.args.under.rows.now c.args.self c.args.at) (c.is_one_package-is_same.ensures c.args.under.rows.now placed.are placed.local placed.packages)
