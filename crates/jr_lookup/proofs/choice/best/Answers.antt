use Rattle.std.proofs.Common.{◌≡◌, refl, arith, true}
use Rattle.std.proofs.lemmas.List.{drop_more, drop_all}
use Rattle.jr_tree.specs.Rows.{role_at}
use Rattle.jr_plain.specs.Overloads.{is_more_specific}
use Rattle.jr_supers.specs.Tabled.{is_callable}
use Rattle.jr_members.proofs.Each.{item_in}
use Rattle.jr_lookup.proofs.Choosing.{best_next, best_end, better_such}
use Rattle.jr_lookup.proofs.choice.best.Goals as goal

pub loop-method-init : goal.loop-method-init
loop-method-init c = λ t h m. (m, refl)

pub loop-method-preserved : goal.loop-method-preserved
loop-method-preserved c = λ t h m. let p = c.args.world.under.rows.now in let all = c.args.methods.now in let i = c.loop-method.method-index in let inv = c.loop-method.invariant t h m in
    let own = h.callable _ (item_in all i 0 (omega arith)) in (
      better_such (λ k. is_callable (role_at p k) ≡ true) (is_more_specific p t) _ _ _ (c.better-best.ensures t h.world_is inv.0 own) inv.0 own,
      best_next (is_more_specific p t) _ _ _ _ _ _ (drop_more all i 0 (omega arith)) (c.better-best.ensures t h.world_is inv.0 own) inv.1,
    )

pub returns : goal.returns
returns c = λ t h m. best_end (is_more_specific c.args.world.under.rows.now t) _ _ _ (drop_all c.loop-method.method-index c.args.methods.now (omega arith)) (c.loop-method.invariant t h m).1
