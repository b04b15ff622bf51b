-- Acts that are written one after the other.
use Rattle.std.proofs.Common.{◌≡◌, ℕ, List, [], ◌∷◌, ◌++◌, map, refl, ap, ◌∙◌}
use Rattle.std.proofs.lemmas.List.{map-append}
use Rattle.jr_flow.specs.declared.acts.Act.{Act}
use Rattle.jr_flow.specs.Seen.{act_seen}

pub seen_more : (old new : List Act) (a : Act) → new ≡ old ++ a ∷ [] → map act_seen new ≡ map act_seen old ++ act_seen a ∷ []
seen_more old new a e = ap (map act_seen) e ∙ map-append act_seen old (a ∷ [])
