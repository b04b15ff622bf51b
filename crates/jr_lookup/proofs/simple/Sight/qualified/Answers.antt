use Rattle.std.proofs.Common.{refl, sym, ◌∙◌, ap, subst, None}
use Rattle.jr_tree.specs.declared.label.Sought.TheVariants as sought
use Rattle.jr_defs.specs.Constants.{HasConstantForm}
use Rattle.jr_defs.specs.Lookup.{Otherwise}
use Rattle.jr_lookup.specs.Behind.{otherwise_by}
use Rattle.jr_lookup.proofs.Qualifying.{answer_else, Sought_at, all_behind, behind_else}
use Rattle.jr_lookup.proofs.simple.Sight.qualified.Goals as goal

pub returns : goal.returns
returns c = λ t x o sight h v number named. let p = c.args.self.now.world.under.rows.now in let places = c.args.self.now.world.under.places.now in let K = HasConstantForm p t in
    answer_else (Sought_at p t K x o (sought.Qualified c.args.kind)) (λ a. Otherwise p t K o x (sought.Qualified c.args.kind) a) c.in_ok-rows.rows.items None c.otherwise.result _
    (all_behind p t K x o c.args.kind c.in_ok-rows.rows.items None (c.in_ok-rows.ensures t x o sight h v number) refl)
    (subst (λ a. Otherwise p t K o x (sought.Qualified c.args.kind) a) (sym (c.otherwise.ensures ∙ ap (otherwise_by c.args.left c.args.kind) named)) (behind_else p t K x o places c.args.kind h v))
    c.answer.ensures
