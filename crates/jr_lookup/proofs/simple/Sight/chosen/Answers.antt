use Rattle.std.proofs.Common.{◌≡◌, ◌∙◌, ap, subst, true}
use Rattle.std.proofs.lemmas.Result.{IfOk-weaker}
use Rattle.jr_plain.specs.Search.{has}
use Rattle.jr_plain.specs.Overloads.{choice}
use Rattle.jr_plain.proofs.Headed.{headed_from_local}
use Rattle.jr_lookup.proofs.Calling.{methods_can, methods_chosen}
use Rattle.jr_lookup.proofs.simple.Sight.chosen.Goals as goal

pub returns : goal.returns
returns c = λ t x world can number. let p = c.args.self.now.world.under.rows.now in let each = c.in_ok-methods.ensures t world in
    IfOk-weaker c.choose.result _ _ (λ rows is. methods_chosen p t (headed_from_local p world.seen.placed.local) x c.args.name number c.args.over c.args.place c.args.receiver c.args.arguments.now c.in_ok-methods.methods.items rows.items each
    (is ∙ ap (choice p t c.args.over c.args.place c.args.receiver c.args.arguments.now) c.deref.ensures.value))
    (c.choose.ensures.plain t (methods_can t c.args.self.now.world _ world can (λ m h. ((each.lists m).0 (subst (λ xs. has xs m ≡ true) c.deref.ensures.value h)).of.role_is)) can.results)
