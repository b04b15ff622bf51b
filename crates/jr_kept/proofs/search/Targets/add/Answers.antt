use Rattle.std.proofs.Common.{subst}
use Rattle.jr_places.specs.Stamps.{AddsStamp}
use Rattle.jr_kept.proofs.Searching.{target_added}
use Rattle.jr_kept.proofs.search.Targets.add.Goals as goal

pub returns-in_ok-push : goal.returns-in_ok-push
returns-in_ok-push c = λ count h lt. let old = c.args.self.now in
    target_added old (record { met = c.add.new.self; all = c.push.new.self }) count c.args.name h (subst (AddsStamp old.met c.add.new.self count c.args.name) c.if-add.true (c.add.ensures count h.counted)) c.in_ok-push.ensures.items
