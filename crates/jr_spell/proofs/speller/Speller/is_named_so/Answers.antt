use Rattle.std.proofs.Common.{◌∙◌, sym, subst}
use Rattle.jr_places.specs.Places.{ArePlaces}
use Rattle.jr_shapes.specs.Names.{named_by}
use Rattle.jr_spell.specs.Spellers.{rows_of}
use Rattle.jr_spell.proofs.Staying.{named_alike}
use Rattle.jr_spell.proofs.speller.Speller.is_named_so.Goals as goal

pub returns : goal.returns
returns c = λ whole sought e. let p = rows_of c.args.self.now in let r = c.args.reference.now in
    named_alike p r.row (named_by p r.row r.lock) c.name.result (c.name.ensures p (subst (ArePlaces p) (sym c.places.ensures) whole.sight_is.world.seen.placed.are) sought.there) (c.is_number.ensures e ∙ sought.name_is)
