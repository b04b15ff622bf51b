use Rattle.std.proofs.Common.{◌≡◌, ◌∙◌, ap, subst, true, None}
use Rattle.std.proofs.lemmas.Result.{IfOk-weaker}
use Rattle.jr_plain.specs.Search.{has}
use Rattle.jr_plain.specs.Overloads.{choice}
use Rattle.jr_plain.proofs.Headed.{headed_from_local}
use Rattle.jr_lookup.proofs.Calling.{constructors_can, constructors_list, constructors_chosen}
use Rattle.jr_lookup.proofs.simple.Sight.constructed.Goals as goal

pub returns : goal.returns
returns c = λ t world can. let p = c.args.self.now.world.under.rows.now in let headed = headed_from_local p world.seen.placed.local in
    let lists = constructors_list p t headed c.args.class c.in_ok-constructors.constructors.items (c.in_ok-constructors.ensures p world.members_are.callables_are) in
    IfOk-weaker c.choose.result _ _ (λ rows is. constructors_chosen p t headed c.args.class c.args.place c.args.arguments.now c.in_ok-constructors.constructors.items rows.items lists
    (is ∙ ap (choice p t c.args.class c.args.place None c.args.arguments.now) c.deref.ensures.value))
    (c.choose.ensures.plain t (constructors_can t c.args.self.now.world _ world can (λ m h. ((lists m).0 (subst (λ xs. has xs m ≡ true) c.deref.ensures.value h)).constructor)) can.results)
