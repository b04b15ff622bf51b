use Rattle.jr_lookup.proofs.Demanding.{imported_lists, outside_lists}
use Rattle.jr_lookup.proofs.simple.Sight.types_outside.Goals as goal

pub returns : goal.returns
returns c = λ t sight. let p = c.args.self.now.world.under.rows.now in let local = sight.world.seen.placed.local in
    outside_lists p local t c.args.place c.args.name _ _ (imported_lists p local t c.args.place c.args.name _ _ (c.in_ok-all.ensures t sight) (c.in_ok-add_singles.ensures t sight)) (c.in_ok-add_beside.ensures t sight)
