use Rattle.std.proofs.Common.{◌≡◌, subst, map, ◌∙◌, ◌+◌, sym, inl, inr}
use Rattle.std.proofs.lemmas.Result.{on_ok_weaker}
use Rattle.jr_flow.specs.Reached.{step_seen}
use Rattle.jr_flow.specs.Woven.{Follows, of_list, of_definition, pairs_in}
use Rattle.jr_flow.proofs.Followed.{then_found, fewer_found, one_in_list, none_at, listed_definition}
use Rattle.jr_flow.proofs.webs.Finder.follow_at.Goals as goal

pub returns-in-Some : goal.returns-in-Some
returns-in-Some c = λ bound key steps rows first woven b at_key from to h. let web = c.args.web.now in let local = c.args.local in let x = c.in-Some.definition in let nth = c.args.nth in
    let at_nth = sym c.item.ensures ∙ c.in-Some.is in
    let one = listed_definition c.args.points.now steps rows web woven bound b key local at_key x (woven.web_is.definitions_are.only key x (record { nth = nth; from = from; to = to; stands = at_nth })) in
    on_ok_weaker c.follow.result
    (λ g. record {
      live = g.live;
      found = then_found c.args.points.now (map step_seen steps) (of_list web.definitions key nth local) (of_definition x local) (of_list web.definitions key (nth + 1) local) (pairs_in first) (pairs_in c.args.self.now) (pairs_in c.follow.new.self)
          (λ i d a. one_in_list web.definitions key nth local x i d at_nth a) h.found g.found;
    })
    (c.follow.ensures bound key one.0 steps rows woven b at_key one.1 h.live)

pub returns-in-None : goal.returns-in-None
returns-in-None c = λ bound key steps rows first woven b at_key from to h. let web = c.args.web.now in let local = c.args.local in let nth = c.args.nth in record {
  live = h.live;
  found = fewer_found c.args.points.now (map step_seen steps) (of_list web.definitions key nth local) (of_list web.definitions key (nth + 1) local) (pairs_in first) (pairs_in c.args.self.now)
      (λ i j r a. none_at web.definitions key nth local i r.local (sym c.item.ensures ∙ c.in-None.is) a) h.found;
}
