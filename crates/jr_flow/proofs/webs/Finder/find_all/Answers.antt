use Rattle.std.proofs.Common.{◌≡◌, subst, map, ◌∙◌, ◌+◌, sym, arith, length}
use Rattle.std.proofs.lemmas.Option.{slice_get-get_or}
use Rattle.jr_flow.specs.Reached.{step_seen}
use Rattle.jr_flow.specs.Woven.{Finds, of_first, of_local, pairs_in}
use Rattle.jr_flow.proofs.Followed.{nothing_found, then_found, none_first, next_first}
use Rattle.jr_flow.proofs.webs.Finder.find_all.Goals as goal

pub loop-key-init : goal.loop-key-init
loop-key-init c = λ bound steps woven b is. record { is = is; found = nothing_found c.args.points.now (map step_seen steps) (of_first c.args.locals.now 0) (pairs_in c.args.self.now) (λ i d a. none_first c.args.locals.now i d a) }

pub loop-key-preserved : goal.loop-key-preserved
loop-key-preserved c = λ bound steps woven b is. let rows = c.args.locals.now in let key = c.loop-key.key in let h = c.loop-key.invariant bound steps woven b is in
    let at_key = slice_get-get_or rows key _ (omega (arith, c.in-Ok.ensures)) in
    let g = c.in_ok-find.ensures bound steps rows woven b at_key h.is in record {
      is = g.is;
      found = then_found c.args.points.now (map step_seen steps) (of_first rows key) (of_local _) (of_first rows (key + 1)) (pairs_in c.args.self.now) (pairs_in c.loop-key.self) (pairs_in c.find.new.self) (λ i d a. next_first rows key _ i d at_key a) h.found g.found;
    }

pub returns : goal.returns
returns c = λ bound steps woven b is. let all : c.loop-key.key ≡ length c.args.locals.now = omega (arith, c.in-Ok.ensures.1) in
    subst (λ k. Finds bound c.args.points.now steps (of_first c.args.locals.now k) c.args.self.now c.loop-key.self) all (c.loop-key.invariant bound steps woven b is)
