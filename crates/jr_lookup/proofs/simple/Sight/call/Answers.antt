use Rattle.std.proofs.Common.{sym, ◌∙◌, ap, subst, Some, option_map}
use Rattle.jr_defs.specs.Constants.{HasConstantForm}
use Rattle.jr_defs.specs.Lookup.{Arguments}
use Rattle.jr_plain.specs.Search.{Finds}
use Rattle.jr_lookup.proofs.Looking.{untyped_looked}
use Rattle.jr_lookup.proofs.simple.Sight.call.Goals as goal

pub returns-in-Some : goal.returns-in-Some
returns-in-Some c = λ t x k number call. let p = c.args.self.now.world.under.rows.now in c.called.ensures t x k number
    (subst (λ found. Finds found (λ all. Arguments p t (HasConstantForm p t) c.args.place all)) (ap (option_map (λ all. all.items)) c.in-Some.is ∙ ap Some (sym c.deref.ensures.value)) (c.in_ok-arguments.ensures t k)) call

pub returns-in-None : goal.returns-in-None
returns-in-None c = λ t x k number call. let p = c.args.self.now.world.under.rows.now in
    untyped_looked p t (HasConstantForm p t) c.args.place x c.args.sought call _ (c.in_ok-arguments.ensures t k) (ap (option_map (λ all. all.items)) c.in-None.is)
