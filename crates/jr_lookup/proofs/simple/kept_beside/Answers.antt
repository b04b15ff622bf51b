use Rattle.std.proofs.Common.{arith, ap, ◌++◌, filter}
use Rattle.std.proofs.lemmas.List.{drop_more, drop_all}
use Rattle.jr_members.proofs.Each.{filter_end}
use Rattle.jr_lookup.specs.Sights.{is_kept_beside}
use Rattle.jr_lookup.proofs.Sighting.{filter_on}
use Rattle.jr_lookup.proofs.simple.kept_beside.Goals as goal

pub loop-at-init : goal.loop-at-init
loop-at-init c = λ p placed. ap (λ xs. xs ++ filter (is_kept_beside p c.args.place c.args.has_imported) c.args.types.now) c.new-found.ensures.items

pub loop-at-preserved : goal.loop-at-preserved
loop-at-preserved c = λ p placed. filter_on (is_kept_beside p c.args.place c.args.has_imported) _ _ _ _ _ _ _ (drop_more c.args.types.now c.loop-at.at-index 0 (omega arith)) (c.is_kept_beside-is_such.ensures p placed)
    c.in_ok-push_if.ensures (c.loop-at.invariant p placed)

pub returns : goal.returns
returns c = λ p placed. filter_end (is_kept_beside p c.args.place c.args.has_imported) c.args.types.now _ c.loop-at.found.items (drop_all c.loop-at.at-index c.args.types.now (omega arith)) (c.loop-at.invariant p placed)
