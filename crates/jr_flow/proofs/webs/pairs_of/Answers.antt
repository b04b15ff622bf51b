use Rattle.std.proofs.Common.{subst, map, length}
use Rattle.jr_flow.specs.Reached.{step_seen}
use Rattle.jr_flow.specs.Woven.{AreFound, of_first, pairs_in}
use Rattle.jr_flow.proofs.Followed.{all_reaching}
use Rattle.jr_flow.proofs.webs.pairs_of.Goals as goal

pub returns : goal.returns
returns c = λ woven. let points = c.args.points.now in let steps = c.args.steps.now in let rows = c.args.locals.now in let new = c.find_all.new.self in let begun = c.in_ok-finder.ensures in
    all_reaching points steps rows c.args.web.now (pairs_in new) woven
    (subst (λ old. AreFound points (map step_seen steps) (of_first rows (length rows)) old (pairs_in new)) begun.1 (c.in_ok-find_all.ensures c.bound_of.result steps woven c.bound_of.ensures begun.0).found)
