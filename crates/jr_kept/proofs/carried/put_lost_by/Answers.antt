use Rattle.std.proofs.Common.{sym, subst}
use Rattle.std.proofs.lemmas.Result.{on_ok_weaker}
use Rattle.jr_flow.specs.Reached.{steps_of}
use Rattle.jr_kept.specs.Named.{origin_in}
use Rattle.jr_kept.specs.Carried.{NoneBehind}
use Rattle.jr_kept.proofs.Carrying.{unlost_by}
use Rattle.jr_kept.proofs.Leaving.{none_left}
use Rattle.jr_kept.proofs.carried.put_lost_by.Goals as goal

pub returns-clause-checks : goal.returns-clause-checks
returns-clause-checks c = λ within exits wide are. let method = c.args.method.now in let whole = c.args.flows.now.after.now in let origin = origin_in c.args.flows.now.origin.now in let t = c.args.is_throw in let values = c.in_ok-values.values.items in
    on_ok_weaker c.put_used_behind.result
    (λ checks none. let both = checks none in (
      both.0,
      unlost_by method whole c.args.handing.now origin t values (c.in_ok-values.ensures.every within exits)
          (subst (λ vs. NoneBehind whole.points.items (steps_of whole) method.body t origin vs) c.deref.ensures.value both.1),
    ))
    (c.put_used_behind.ensures.checks wide are)

pub returns-clause-kept : goal.returns-clause-kept
returns-clause-kept c = λ within exits wide only. let method = c.args.method.now in let whole = c.args.flows.now.after.now in let origin = origin_in c.args.flows.now.origin.now in let t = c.args.is_throw in let values = c.in_ok-values.values.items in
    on_ok_weaker c.put_used_behind.result
    (λ kept none unlost. kept none (subst (λ vs. NoneBehind whole.points.items (steps_of whole) method.body t origin vs) (sym c.deref.ensures.value) (none_left method whole c.args.handing.now origin t values (c.in_ok-values.ensures.only within exits) unlost)))
    (c.put_used_behind.ensures.kept wide only)
