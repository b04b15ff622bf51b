use Rattle.std.proofs.Common.{subst}
use Rattle.std.proofs.lemmas.Result.{on_ok_weaker}
use Rattle.jr_kept.specs.Searched.{FindsFromAll}
use Rattle.jr_kept.proofs.Searching.{found_all, points_inside}
use Rattle.jr_kept.proofs.search.Search.run.Goals as goal

pub returns : goal.returns
returns c = λ count steps side ready lt. let empty = c.in_ok-empty.ensures count ready.targets in let points = c.under.result.now in
    on_ok_weaker c.run_all.result
    (λ ok. found_all c.run_all.new.self c.args.side.now steps count c.args.name points side lt c.under.ensures ok.0 (subst (λ old. FindsFromAll c.args.side.now steps points old c.run_all.new.self.targets.all.items) empty.1 ok.1))
    (c.run_all.ensures count steps side (record { counted = ready.counted; targets = empty.0 }) (points_inside c.args.side.now steps count c.args.name points side lt c.under.ensures))
