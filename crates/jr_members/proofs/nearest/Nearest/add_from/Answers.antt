use Rattle.std.proofs.Common.{◌≡◌, sym, subst, ℕ}
use Rattle.std.specs.Prelude.{IfSome}
use Rattle.jr_members.specs.Nearest.{known_in, IsGrown, Grows}
use Rattle.jr_members.proofs.Nearing.{start_in, near_grown, near_added}
use Rattle.jr_members.proofs.nearest.Nearest.add_from.Goals as goal

pub returns-in_ok-insert-in-Some : goal.returns-in_ok-insert-in-Some
returns-in_ok-insert-in-Some c = λ t kind lists up placed near listed fresh first. let p = c.args.under.rows.now in let self = c.args.self.now in
    let grows = c.in_ok-outlook.ensures placed.are listed.below near.closed (start_in p placed.local t kind lists self.levels (known_in self) self.nodes.items c.args.over up c.args.start near first) in
    near_added p placed.local t kind lists self.levels (known_in self) (known_in (record { levels = self.levels; nodes = c.grow.new.nodes; outlooks = c.insert.new.self })) c.args.over c.in-Some.outlook (λ q. c.in_ok-insert-in-Some.ensures.updates.0 q) fresh
    self.nodes.items near c.grow.new.nodes.items up c.args.start first c.args.rows.now listed
    (subst (λ f. IfSome f (IsGrown p c.args.over c.args.start self.levels c.args.rows.now self.nodes.items c.grow.new.nodes.items)) c.in-Some.is grows.grown) grows.keeps

pub returns-in-None : goal.returns-in-None
returns-in-None c = λ t kind lists up placed near listed fresh first. let p = c.args.under.rows.now in let self = c.args.self.now in
    let grows = c.in_ok-outlook.ensures placed.are listed.below near.closed (start_in p placed.local t kind lists self.levels (known_in self) self.nodes.items c.args.over up c.args.start near first) in
    near_grown p placed.local t kind lists self.levels (known_in self) self.nodes.items c.grow.new.nodes.items grows.keeps near
