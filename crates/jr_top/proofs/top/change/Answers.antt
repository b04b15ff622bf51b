use Rattle.std.proofs.Common.{◌∙◌, inl, subst}
use Rattle.jr_commit.proofs.Moments.{started}
use Rattle.jr_commit.proofs.Phases.{shut_image}
use Rattle.jr_commit.specs.Restoring.{MayBegin}
use Rattle.jr_top.specs.Answers.{Reports}
use Rattle.jr_top.specs.declared.status.Phase.TheVariants.{Writing}
use Rattle.jr_top.specs.declared.status.Report.TheVariants.{Changed}
use Rattle.jr_top.specs.declared.status.Status.TheVariants.{Done}
use Rattle.jr_top.proofs.Starts.{begun, at_fault}
use Rattle.jr_top.proofs.top.change.Goals as goal

pub returns-in_default-clause-any_moment : goal.returns-in_default-clause-any_moment
returns-in_default-clause-any_moment g c f told start =
    let S = g.S.Store in
    started S.moment S.left_since c.args.store.now _ (λ image left.
    let here = g.met.S.Store.only_now c.args.store.now image left in
    inl (shut_image image f (start.gate image here) (start.files image here)))

pub returns-in_default-clause-next : goal.returns-in_default-clause-next
returns-in_default-clause-next g c begins =
    let S = g.S.Store in
    let s = c.args.store.now in
    begun (S.faults s) (S.faults s) (MayBegin (S.files s) (S.may_leave s)) begins c.write_line.result

pub returns-in-Ok-take_all-clause-next : goal.returns-in-Ok-take_all-clause-next
returns-in-Ok-take_all-clause-next g c begins =
    let S = g.S.Store in
    let s = c.take_all.new.store in
    begun (S.faults c.args.store.now) (S.faults s) (MayBegin (S.files s) (S.may_leave s)) (c.in-Ok-take_all.ensures.next begins) c.write_line-in-Ok-take_all.result

pub returns-in-Err-clause-next : goal.returns-in-Err-clause-next
returns-in-Err-clause-next g c begins =
    let S = g.S.Store in
    let O = g.O.Sink in
    let s = c.take_all.new.store in
    at_fault (S.faults c.args.store.now) (S.faults s) (MayBegin (S.files s) (S.may_leave s)) Writing _ c.write_line-in-Err.result (O.contents c.args.out.now) (O.contents c.write_line-in-Err.new.out) (O.faults c.args.out.now) (O.faults c.write_line-in-Err.new.out)
    c.in-Err.ensures.cause.failed c.write_line-in-Err.ensures

pub returns-in-Ok-take_all-clause-answer : goal.returns-in-Ok-take_all-clause-answer
returns-in-Ok-take_all-clause-answer g c =
    let O = g.O.Sink in (
      Done (Changed c.count.result),
      (c.count.ensures, c.in-Ok-take_all.ensures.taken, c.in-Ok-take_all.ensures.durable),
      subst (λ line. Reports (Done (Changed c.count.result)) line c.write_line-in-Ok-take_all.result (O.contents c.args.out.now) (O.contents c.write_line-in-Ok-take_all.new.out) (O.faults c.args.out.now) (O.faults c.write_line-in-Ok-take_all.new.out))
          (c.deref.ensures.value ∙ c.in-Ok.ensures) c.write_line-in-Ok-take_all.ensures,
    )
