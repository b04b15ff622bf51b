use Rattle.std.proofs.Common.{sym, subst, arith, take}
use Rattle.std.proofs.lemmas.Grind.{take_at_read}
use Rattle.std.proofs.lemmas.List.{take_all}
use Rattle.std.proofs.lemmas.List.Elements.{Contains-get_or}
use Rattle.jr_kept.specs.Searched.{FindsFromAll}
use Rattle.jr_kept.proofs.Searching.{finds_none, finds_more}
use Rattle.jr_kept.proofs.search.Search.run_all.Goals as goal

pub loop-point-init : goal.loop-point-init
loop-point-init c = λ count steps side ready inside. (ready, finds_none c.args.side.now steps c.args.self.now.targets.all.items)

pub loop-point-preserved : goal.loop-point-preserved
loop-point-preserved c = λ count steps side ready inside. let i = c.loop-point.point-index in let points = c.args.points.now in let lt = c.loop-point-test.true in
    let inv = c.loop-point.invariant count steps side ready inside in
    let ok = c.in_ok-run_from.ensures count steps side inv.0 (inside _ (Contains-get_or points i _ (omega (arith, lt)))) in (
      ok.0,
      subst (λ xs. FindsFromAll c.args.side.now steps xs c.args.self.now.targets.all.items c.run_from.new.self.targets.all.items) (sym ((take_at_read points i _ (omega (arith, lt))).1))
          (finds_more c.args.side.now steps (take i points) _ c.args.self.now.targets.all.items c.loop-point.self.targets.all.items c.run_from.new.self.targets.all.items inv.1 ok.1),
    )

pub returns : goal.returns
returns c = λ count steps side ready inside. let past = c.loop-point-test.false in let inv = c.loop-point.invariant count steps side ready inside in
    (inv.0, subst (λ xs. FindsFromAll c.args.side.now steps xs c.args.self.now.targets.all.items c.loop-point.self.targets.all.items) (take_all c.loop-point.point-index c.args.points.now (omega (arith, past))) inv.1)
