use Rattle.std.proofs.Common.{◌≡◌, ◌∙◌, sym, subst, true, false, refl}
use Rattle.jr_places.specs.Stamps.{AddsStamp}
use Rattle.jr_flow.specs.Spread.{lets}
use Rattle.jr_flow.proofs.Searching.{kept_out, known_before, one_found}
use Rattle.jr_flow.proofs.search.Search.enter.Goals as goal

pub returns-then-not-lets : goal.returns-then-not-lets
returns-then-not-lets c = λ bound is. kept_out bound (lets c.args.gate.now.set.now c.args.gate.now.is_inside) c.args.self.now c.args.number is (sym c.lets.ensures ∙ c.if-not-lets.true)

pub returns-then-not-add : goal.returns-then-not-add
returns-then-not-add c = λ bound is. known_before bound (lets c.args.gate.now.set.now c.args.gate.now.is_inside) c.args.self.now (record { met = c.add.new.self; found = c.args.self.now.found }) c.args.number is
    (subst (AddsStamp c.args.self.now.met c.add.new.self bound c.args.number) c.if-not-add.true (c.add.ensures bound is.counted)) refl

pub returns : goal.returns
returns c = λ bound is. one_found bound (lets c.args.gate.now.set.now c.args.gate.now.is_inside) c.args.self.now (record { met = c.add.new.self; found = c.push.new.self }) c.args.number is
    (subst (AddsStamp c.args.self.now.met c.add.new.self bound c.args.number) c.if-not-add.false (c.add.ensures bound is.counted)) (sym c.lets.ensures ∙ c.if-not-lets.false) c.in_ok-push.ensures.items
