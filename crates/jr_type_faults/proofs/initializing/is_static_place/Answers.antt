use Rattle.jr_type_faults.proofs.initializing.is_static_place.Goals as goal

pub returns : goal.returns
returns c = λ right. c.is_in_static_context.ensures right.seen.placed
