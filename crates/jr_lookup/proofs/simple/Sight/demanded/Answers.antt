use Rattle.std.proofs.Common.{◌<◌, length, sym, subst}
use Rattle.std.proofs.lemmas.Result.{IfOk-weaker}
use Rattle.jr_defs.specs.Referents.{entries}
use Rattle.jr_lookup.proofs.Sighting.{import_next}
use Rattle.jr_lookup.proofs.Demanding.{child_found, no_child, demanded_lists}
use Rattle.jr_lookup.proofs.simple.Sight.demanded.Goals as goal

pub returns-in-Some : goal.returns-in-Some
returns-in-Some c = λ t sight import. let p = c.args.self.now.world.under.rows.now in let local = sight.world.seen.placed.local in
    let is = child_found p local t c.args.import c.in-Some.target _ import (c.first_child.ensures sight.few) c.in-Some.is in
    IfOk-weaker c.types_in.result _ _ (λ found h. demanded_lists p local t (entries c.args.self.now.world.under.table.now) sight.seen c.args.name c.args.import c.in-Some.target import is found.items h)
    (c.types_in.ensures t sight (subst (λ n. n < length p) (sym is) (import_next p local c.args.import import)))

pub returns-in-None : goal.returns-in-None
returns-in-None c = λ t sight import. absurd (no_child c.args.self.now.world.under.rows.now sight.world.seen.placed.local t c.args.import _ import (c.first_child.ensures sight.few) c.in-None.is)
