use Rattle.std.proofs.Common.{◌≡◌, sym, ◌∙◌}
use Rattle.jr_members.proofs.nearest.Nearest.add_below.Goals as goal

pub returns-in-Some : goal.returns-in-Some
returns-in-Some c = λ t kind lists placed near listed fresh. c.add_from.ensures t kind lists c.args.up placed near listed fresh (sym (c.start.ensures placed) ∙ c.in-Some.is)
