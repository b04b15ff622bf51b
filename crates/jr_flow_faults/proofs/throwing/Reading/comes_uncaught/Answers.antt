use Rattle.std.proofs.Common.{sym, subst}
use Rattle.jr_defs.specs.Supertypes.{AtOrAbove}
use Rattle.jr_supers.specs.Supers.{ListsOnce}
use Rattle.jr_flow_faults.specs.Reading.{FollowsClass, rows_of, table_of, completes_of}
use Rattle.jr_flow_faults.proofs.Noted.{uncaught_none, uncaught_some}
use Rattle.jr_flow_faults.proofs.throwing.Reading.comes_uncaught.Goals as goal

pub returns-in_default : goal.returns-in_default
returns-in_default c = λ reading none lt. let p = rows_of c.args.self.now in let t = table_of c.args.self.now in let completes = completes_of c.args.self.now in
    let lists = subst (λ xs. ListsOnce xs (AtOrAbove p t c.args.class)) (sym c.deref.ensures.value) (c.in_ok-uppers.ensures t reading.view.above) in
    uncaught_none p t completes c.args.at c.args.class _ _ (subst (λ o. FollowsClass p t completes c.args.at c.args.class c.args.arrived.now c.follow.new.arrived o) c.in_default.is (c.in_ok-member.ensures reading none lt lists))

pub returns : goal.returns
returns c = λ reading none lt. let p = rows_of c.args.self.now in let t = table_of c.args.self.now in let completes = completes_of c.args.self.now in
    let lists = subst (λ xs. ListsOnce xs (AtOrAbove p t c.args.class)) (sym c.deref.ensures.value) (c.in_ok-uppers.ensures t reading.view.above) in
    uncaught_some p t completes c.args.at c.args.class _ _ reading.view.above.well.headed reading.view.local c.in-Some.member c.in_ok-lets.lets (c.in_ok-lets.ensures reading.view.above)
    (subst (λ o. FollowsClass p t completes c.args.at c.args.class c.args.arrived.now c.follow.new.arrived o) c.in-Some.is (c.in_ok-member.ensures reading none lt lists))
