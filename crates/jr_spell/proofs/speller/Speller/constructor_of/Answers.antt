use Rattle.std.proofs.Common.{◌≡◌, ◌∙◌, ap, refl, subst, true, None}
use Rattle.jr_defs.specs.declared.referent.Referent.TheVariants.{Unbound}
use Rattle.jr_defs.specs.Enclosing.{ConstructorOf}
use Rattle.jr_defs.specs.Overloads.{Choice}
use Rattle.jr_plain.specs.Search.{has}
use Rattle.jr_plain.specs.Overloads.{choice}
use Rattle.jr_lookup.specs.Answers.{IsFree}
use Rattle.jr_lookup.proofs.Calling.{all_free, constructors_can, constructors_list, constructors_chosen}
use Rattle.jr_lookup.proofs.Referring.{answer_all}
use Rattle.jr_spell.specs.Spellers.{rows_of, table_of}
use Rattle.jr_spell.proofs.Named.{headed}
use Rattle.jr_spell.proofs.speller.Speller.constructor_of.Goals as goal

pub returns : goal.returns
returns c = λ whole. let s = c.args.self.now in let p = rows_of s in let t = table_of s in let all = c.in_ok-constructors.constructors.items in let world = whole.sight_is.world in
    let lists = constructors_list p t (headed s whole) c.args.class all (c.in_ok-constructors.ensures p world.members_are.callables_are) in
    let chosen = c.in_ok-rows.ensures.plain t (constructors_can t _ _ world whole.can (λ m h. ((lists m).0 (subst (λ xs. has xs m ≡ true) c.deref.ensures.value h)).constructor)) whole.can.results in
    answer_all (IsFree (Choice p t c.args.class c.args.place None c.args.arguments.now (ConstructorOf p c.args.class))) c.in_ok-rows.rows.items None Unbound _
    (all_free (Choice p t c.args.class c.args.place None c.args.arguments.now (ConstructorOf p c.args.class)) c.in_ok-rows.rows.items None
    (constructors_chosen p t (headed s whole) c.args.class c.args.place c.args.arguments.now all c.in_ok-rows.rows.items lists (chosen ∙ ap (choice p t c.args.class c.args.place None c.args.arguments.now) c.deref.ensures.value)) refl)
    c.answer.ensures
