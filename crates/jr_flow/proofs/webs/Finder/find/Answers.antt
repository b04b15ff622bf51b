use Rattle.std.proofs.Common.{◌≡◌, subst, map, ◌∙◌, sym, arith}
use Rattle.std.specs.List.{Contains}
use Rattle.jr_flow.specs.Reached.{step_seen}
use Rattle.jr_flow.specs.Linked.{first_of}
use Rattle.jr_flow.specs.Woven.{Follows, AreFound, of_list, of_local, pairs_in}
use Rattle.jr_flow.proofs.Followed.{nothing_found, fewer_found, none_in_list, all_in_list}
use Rattle.jr_flow.proofs.webs.Finder.find.Goals as goal

pub loop-nth-init : goal.loop-nth-init
loop-nth-init c = λ bound steps rows woven b at_key is. let web = c.args.web.now in let points = c.args.points.now in let key = c.args.key in let local = c.args.local in
    subst (λ k. Follows bound woven.definitions woven.uses points steps key (of_list web.definitions key k local) c.args.self.now c.find_live.new.self) (sym c.first-nth.ensures) (record {
      live = c.in_ok-find_live.ensures.live bound woven.definitions woven.uses steps woven.web_is is;
      found = subst (AreFound points (map step_seen steps) (of_list web.definitions key (first_of web.definitions key) local) (pairs_in c.args.self.now)) (sym c.in_ok-find_live.ensures.pairs)
          (nothing_found points (map step_seen steps) (of_list web.definitions key (first_of web.definitions key) local) (pairs_in c.args.self.now) (λ i d a. none_in_list web.definitions key local i d a));
    })

pub loop-nth-preserved : goal.loop-nth-preserved
loop-nth-preserved c = λ bound steps rows woven b at_key is. c.in_ok-follow_at.ensures bound c.args.key steps rows c.args.self.now woven b at_key (omega (arith, c.first-nth.ensures)) (omega (arith, c.end-nth-end.ensures)) (c.loop-nth.invariant bound steps rows woven b at_key is)

pub returns : goal.returns
returns c = λ bound steps rows woven b at_key is. let web = c.args.web.now in let points = c.args.points.now in let key = c.args.key in let local = c.args.local in let h = c.loop-nth.invariant bound steps rows woven b at_key is in record {
  is = record { walls = h.live.walls.counted; live = h.live.live.is.counted; behind = h.live.behind };
  found = fewer_found points (map step_seen steps) (of_list web.definitions key c.loop-nth.nth local) (of_local local) (pairs_in c.args.self.now) (pairs_in c.loop-nth.self)
      (λ i j r same. all_in_list points steps rows web woven bound b key local at_key c.loop-nth.nth i j (omega (arith, c.loop-nth-test.false, c.end-nth-end.ensures)) r same) h.found;
}
