use Rattle.std.proofs.Common.{◌++◌, ◌∙◌, ap, arith, subst, option_to_list}
use Rattle.jr_kept.specs.Searched.{IsSearching}
use Rattle.jr_kept.proofs.Searching.{no_items}
use Rattle.jr_kept.proofs.search.Search.finish.Goals as goal

pub returns-in_default : goal.returns-in_default
returns-in_default c = λ count steps old side targets s. let rows = c.args.side.now.rows.now in let points = c.args.side.now.points.now in let names = c.args.side.now.names.items in let from = c.args.from in let inv = c.loop-turn.invariant count steps old side targets s in
    (inv.0, subst (λ xs. IsSearching rows points names steps from old c.loop-turn.self.met xs c.loop-turn.self.targets.all.items) (no_items c.loop-turn.self.waiting.items (omega (arith, c.in_default.ensures.cases.0, c.loop-turn.self.waiting.ok.0))) inv.1)

pub loop-turn-preserved : goal.loop-turn-preserved
loop-turn-preserved c = λ count steps old side targets s. let rows = c.args.side.now.rows.now in let points = c.args.side.now.points.now in let names = c.args.side.now.names.items in let from = c.args.from in let inv = c.loop-turn.invariant count steps old side targets s in
    c.in_ok-meet.ensures count steps old side inv.0 (subst (λ xs. IsSearching rows points names steps from old c.loop-turn.self.met xs c.loop-turn.self.targets.all.items) (c.pop.ensures.items ∙ ap (λ o. c.pop.new.self.items ++ option_to_list o) c.in-Some.is) inv.1)
