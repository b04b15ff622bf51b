use Rattle.std.proofs.Common.{◌≡◌, sym, ◌∙◌, ap, subst, IfOk}
use Rattle.jr_tree.specs.Rows.{name}
use Rattle.jr_lookup.specs.Calls.{LookedFor, NeedsTypes}
use Rattle.jr_lookup.specs.Outward.{IsNumberOf}
use Rattle.jr_lookup.proofs.Looking.{number_of, named_first}
use Rattle.jr_lookup.proofs.simple.Sight.look.Goals as goal

pub returns : goal.returns
returns c = λ t s needs. let p = c.args.self.now.world.under.rows.now in let is = c.name-name.ensures p s.sight_is.world.seen.placed.are s.inside in
    subst (λ so. IfOk c.look_for.result (λ a. LookedFor p t c.args.place (name p c.args.place) so a)) c.sought_at-sought.ensures
    (c.look_for.ensures t (name p c.args.place) s (λ n. needs (subst NeedsTypes c.sought_at-sought.ensures n)) (subst (λ n. IsNumberOf p n (name p c.args.place)) (sym is) (number_of p c.args.place)) (ap (name p) is ∙ named_first p c.args.place))
