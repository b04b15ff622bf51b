use Rattle.std.proofs.Common.{subst, sym, IfOk}
use Rattle.std.specs.Prelude.{IfErr}
use Rattle.std.specs.List.{Contains}
use Rattle.std.proofs.lemmas.Result.{IfOk-weaker}
use Rattle.jr_spell.specs.Shaping.{AreSpelledIn, AreToldIn, HasNoneIn}
use Rattle.jr_spell.proofs.Staying.{each_told}
use Rattle.jr_spell.proofs.spelling.spell.Goals as goal

pub returns-clause-spelled : goal.returns-clause-spelled
returns-clause-spelled c = λ view. subst (λ first. IfOk c.spell_all.result (λ all. AreSpelledIn c.args.locked.now.view c.args.constant.now first all.items)) c.first_written.ensures
    (IfOk-weaker c.spell_all.result _ _ (λ all h. h.each) (c.spell_all.ensures.spelled (record { sight_is = view.sight_is; placed = view.placed; can = view.can; paths = c.in-Ok.ensures.paths view.sight_is.world.seen.placed; few = c.in-Ok.ensures.few })))

pub returns-clause-told : goal.returns-clause-told
returns-clause-told c = λ view. subst (λ first. IfOk c.spell_all.result (λ all. AreToldIn c.args.locked.now.view c.args.constant.now first all.items)) c.first_written.ensures
    (IfOk-weaker c.spell_all.result _ _ (λ all h. each_told _ _ all.items h (λ n seeks. subst (λ xs. Contains xs n) (sym c.deref.ensures.value) (c.in-Ok-order_of_rows.ensures n seeks)))
    (c.spell_all.ensures.told (record { sight_is = view.sight_is; placed = view.placed; can = view.can; paths = c.in-Ok.ensures.paths view.sight_is.world.seen.placed; few = c.in-Ok.ensures.few })))

pub returns-clause-fault : goal.returns-clause-fault
returns-clause-fault c = λ view. subst (λ first. IfErr c.spell_all.result (λ fault. HasNoneIn c.args.locked.now.view c.args.constant.now first fault)) c.first_written.ensures
    (c.spell_all.ensures.fault (record { sight_is = view.sight_is; placed = view.placed; can = view.can; paths = c.in-Ok.ensures.paths view.sight_is.world.seen.placed; few = c.in-Ok.ensures.few }))
