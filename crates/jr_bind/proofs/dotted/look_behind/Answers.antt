use Rattle.std.proofs.Common.{sym, ◌∙◌, ap, subst, IfOk}
use Rattle.jr_tree.specs.Rows.{name}
use Rattle.jr_defs.specs.Constants.{HasConstantForm}
use Rattle.jr_defs.specs.Lookup.{LookFor}
use Rattle.jr_lookup.specs.Outward.{IsNumberOf}
use Rattle.jr_lookup.proofs.Looking.{number_of, named_first}
use Rattle.jr_bind.proofs.dotted.look_behind.Goals as goal

pub returns : goal.returns
returns c = λ t see typed so. let p = c.args.sight.world.under.rows.now in let is = c.name-name.ensures p see.sight_is.world.seen.placed.are see.inside in
    subst (λ s. IfOk c.qualified.result (λ a. LookFor p t (HasConstantForm p t) c.args.at (name p c.args.at) s a)) (sym so)
    (c.qualified.ensures t (name p c.args.at) c.args.at see.sight_is (c.left_before-left.ensures.before t see.sight_is see.same) (λ v. c.left_before-left.ensures.value t see.sight_is see.same (typed v))
    (subst (λ n. IsNumberOf p n (name p c.args.at)) (sym is) (number_of p c.args.at)) (ap (name p) is ∙ named_first p c.args.at))
