use Rattle.std.proofs.Common.{◌∙◌, sym}
use Rattle.std.proofs.lemmas.Result.{on_ok_weaker}
use Rattle.jr_flow.specs.Spread.{lets}
use Rattle.jr_flow.proofs.Searching.{next_entered, none_there}
use Rattle.jr_flow.proofs.search.Search.enter_at.Goals as goal

pub returns-in-Some : goal.returns-in-Some
returns-in-Some c = λ bound key all first linked from to h. on_ok_weaker c.enter.result
    (next_entered bound (lets c.args.gate.now.set.now c.args.gate.now.is_inside) first c.args.self.now all c.args.links.now key c.args.nth linked h c.enter.new.self c.in-Some.number from to (sym c.item.ensures ∙ c.in-Some.is))
    (c.enter.ensures bound h.is)

pub returns-in-None : goal.returns-in-None
returns-in-None c = λ bound key all first linked from to h.
    none_there bound (lets c.args.gate.now.set.now c.args.gate.now.is_inside) first c.args.self.now all c.args.links.now key c.args.nth linked h (sym c.item.ensures ∙ c.in-None.is)
