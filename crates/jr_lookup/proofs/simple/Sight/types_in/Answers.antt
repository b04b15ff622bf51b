use Rattle.std.proofs.Common.{sym, ◌∙◌}
use Rattle.std.proofs.lemmas.Result.{IfOk-weaker}
use Rattle.jr_defs.specs.Referents.{entries}
use Rattle.jr_lookup.proofs.Demanding.{types_of_package, types_of_type}
use Rattle.jr_lookup.proofs.simple.Sight.types_in.Goals as goal

pub returns-in-Package : goal.returns-in-Package
returns-in-Package c = λ t sight lt. IfOk-weaker c.types_of_path.result _ _ (λ found h. types_of_package c.args.self.now.world.under.rows.now c.args.name (entries c.args.self.now.world.under.table.now c.args.target) c.args.target (sym c.referent.ensures ∙ c.in-Package.is) found.items h) (c.types_of_path.ensures t sight lt)

pub returns-in_default : goal.returns-in_default
returns-in_default c = λ t sight lt. IfOk-weaker c.types_of_type.result _ _ (λ found h. types_of_type c.args.self.now.world.under.rows.now c.args.name (entries c.args.self.now.world.under.table.now c.args.target) c.args.target (λ e. c.in_default.not-Package (c.referent.ensures ∙ e)) found.items h) (c.types_of_type.ensures t sight.world)
