use Rattle.std.proofs.Common.{sym, ◌∙◌, arith}
use Rattle.std.proofs.lemmas.Result.{IfOk-weaker}
use Rattle.std.specs.Prelude.{option_map}
use Rattle.jr_defs.specs.Constants.{HasConstantForm}
use Rattle.jr_tree.specs.Rows.{label}
use Rattle.jr_lookup.specs.Behind.{type_in}
use Rattle.jr_lookup.proofs.Arguing.{begins_after, arguments_find}
use Rattle.jr_lookup.proofs.simple.Sight.arguments.Goals as goal

pub returns : goal.returns
returns c = λ t can. let p = c.args.self.now.world.under.rows.now in let few = can.few in let inside = can.inside in let tree = can.sight_is.world.seen.placed.local.tree in
    let first = c.first_argument-first.ensures (omega (arith, few, inside)) in let after = begins_after p tree (label p c.args.place) c.args.place in
    IfOk-weaker c.arguments_from.result _ _ (λ found is. arguments_find p t (HasConstantForm p t) (type_in c.args.types.now) c.args.place can.typed tree c.first_argument-first.result (option_map (λ all. all.items) found) first is)
    (c.arguments_from.ensures few tree (omega (arith, first, after)))
