use Rattle.std.proofs.Common.{refl, sym, subst, IfOk}
use Rattle.jr_defs.specs.Referents.{entries}
use Rattle.jr_bind.specs.Before.{IsTypedBefore}
use Rattle.jr_bind.specs.Looked.{IsLookedUp, AreTypedBehind}
use Rattle.jr_bind.specs.Turns.{IsKnownUnder}
use Rattle.jr_bind.proofs.Knowing.{can_see, can_look}
use Rattle.jr_bind.proofs.filling.Filling.look.Goals as goal

pub returns : goal.returns
returns c = λ known inside typed.
    let p = c.args.known.setting.rows.now in
    let table = c.deref.result.now in
    let here = subst (λ all. IsKnownUnder (entries all) c.args.known) (sym c.deref.ensures.value) known in
    subst (λ all. IfOk c.look_at.result (IsLookedUp p (entries all) c.args.at)) c.deref.ensures.value
    (c.look_at.ensures (entries table) (can_see (entries table) _ c.args.at here inside (λ m. refl))
    (λ needs. subst (λ all. IsTypedBefore p (entries table) all c.args.at) (sym c.deref-2.ensures.value) (subst (λ all. IsTypedBefore p (entries all) c.args.self.now.types.items c.args.at) (sym c.deref.ensures.value) (typed.0 needs)))
    (λ needs. can_look (entries table) _ c.args.at here inside (λ m. refl) c.deref-2.result.now
    (subst (λ all. AreTypedBehind p (entries table) all c.args.at) (sym c.deref-2.ensures.value) (subst (λ all. AreTypedBehind p (entries all) c.args.self.now.types.items c.args.at) (sym c.deref.ensures.value) (typed.1 needs)))))
