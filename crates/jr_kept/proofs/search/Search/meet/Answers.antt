use Rattle.std.proofs.Common.{length, subst}
use Rattle.jr_places.specs.Stamps.{AddsStamp}
use Rattle.jr_kept.proofs.Searching.{search_known}
use Rattle.jr_kept.proofs.search.Search.meet.Goals as goal

pub returns-then-add : goal.returns-then-add
returns-then-add c = λ count steps old side targets h. let met = c.args.self.now.met in let bound = length c.args.side.now.points.now in
    c.pass.ensures count steps old met side targets h (subst (AddsStamp met c.add.new.self bound c.args.to) c.if-add.true (c.add.ensures bound h.counted))

pub returns : goal.returns
returns c = λ count steps old side targets h. let rows = c.args.side.now.rows.now in let points = c.args.side.now.points.now in let names = c.args.side.now.names.items in let from = c.args.from in let to = c.args.to in let met = c.args.self.now.met in
    (targets, search_known rows points names steps from old side.within met c.add.new.self c.args.self.now.waiting.items to c.args.self.now.targets.all.items h (subst (AddsStamp met c.add.new.self (length points) to) c.if-add.false (c.add.ensures (length points) h.counted)))
