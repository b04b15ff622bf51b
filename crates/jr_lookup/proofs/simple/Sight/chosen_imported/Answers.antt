use Rattle.std.proofs.Common.{◌≡◌, ◌∙◌, ap, subst, true}
use Rattle.std.proofs.lemmas.Result.{IfOk-weaker}
use Rattle.jr_plain.specs.Search.{has}
use Rattle.jr_plain.specs.Overloads.{imported_choice}
use Rattle.jr_plain.proofs.Headed.{headed_from_local}
use Rattle.jr_lookup.proofs.Calling.{methods_can, imported_chosen}
use Rattle.jr_lookup.proofs.simple.Sight.chosen_imported.Goals as goal

pub returns : goal.returns
returns c = λ t x sight can number. let p = c.args.self.now.world.under.rows.now in let lists = c.in_ok-methods.ensures t sight in
    IfOk-weaker c.choose_imported.result _ _ (λ rows is. imported_chosen p t (headed_from_local p sight.world.seen.placed.local) x c.args.name number c.args.place c.args.arguments.now c.in_ok-methods.methods.items rows.items lists
    (is ∙ ap (imported_choice p t c.args.place c.args.arguments.now) c.deref.ensures.value))
    (c.choose_imported.ensures.plain t (methods_can t c.args.self.now.world _ sight.world can (λ m h. ((lists m).0 (subst (λ xs. has xs m ≡ true) c.deref.ensures.value h)).of.role_is)))
