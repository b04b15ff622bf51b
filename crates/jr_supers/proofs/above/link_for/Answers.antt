use Rattle.jr_supers.proofs.above.link_for.Goals as goal

pub returns : goal.returns
returns c = rw (c.is_under_object-has_object.ensures, c.known_first-first.ensures) at c.new_link.ensures
