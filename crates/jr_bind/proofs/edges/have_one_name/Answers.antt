use Rattle.std.proofs.Common.{◌≡◌, sym, ◌∙◌, subst, true, nat_eq}
use Rattle.std.proofs.lemmas.Bool.Decides.{Decides-eqb}
use Rattle.jr_places.specs.Names.{name_row}
use Rattle.jr_places.proofs.Packing.{name_tells}
use Rattle.jr_bind.proofs.edges.have_one_name.Goals as goal

pub returns : goal.returns
returns c = λ p are low high yes. (name_tells p c.args.one c.args.other).0 ((Decides-eqb (name_row p c.args.one) (name_row p c.args.other)).1
    (sym (c.name-first.ensures p are low) ∙ (Decides-eqb c.name-first.result c.name-second.result).0 yes ∙ c.name-second.ensures p are high))
