use Rattle.std.proofs.Common.{◌∙◌, ap}
use Rattle.jr_members.specs.Named.{next_by}
use Rattle.jr_members.proofs.named.Way.next.Goals as goal

pub returns : goal.returns
returns c = λ placed. c.next_by.ensures ∙ ap (next_by c.args.under.rows.now c.args.self c.args.up) (c.is_one_package-is_same.ensures c.args.under.rows.now placed.are placed.local placed.packages)
