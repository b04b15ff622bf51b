use Rattle.jr_supers.proofs.Collecting.{found_more}
use Rattle.jr_supers.proofs.found.put.Goals as goal

pub returns-clause-found : goal.returns-clause-found
returns-clause-found c = λ h. found_more c.args.at h c.in_ok-add.ensures c.in_ok-push.ensures.items
