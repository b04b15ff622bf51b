use Rattle.std.proofs.Common.{subst, length}
use Rattle.jr_kept.specs.Handed.{AddsPairs, ArePairedOnce, PutsPairs}
use Rattle.jr_kept.proofs.Crossing.{crosses}
use Rattle.jr_kept.proofs.Handover.{has_crossing}
use Rattle.jr_kept.proofs.handing.Handing.crossed.Goals as goal

pub returns-clause-only : goal.returns-clause-only
returns-clause-only c = let crossing = c.args.crossing.now in let start = c.in_ok-handing.handing in let mid = c.put_pairs.new.self in
    crosses start mid c.put_assigned.new.self crossing c.args.points.now c.in_ok-handing.ensures.none
    (subst (λ ds. AddsPairs start mid ds crossing.arguments.items) c.deref.ensures.value (subst (λ us. AddsPairs start mid c.deref.result.now us) c.deref-2.ensures.value c.put_pairs.ensures.adds)) c.put_assigned.ensures.adds

pub returns-clause-every : goal.returns-clause-every
returns-clause-every c = λ origin once. let crossing = c.args.crossing.now in let start = c.in_ok-handing.handing in let mid = c.put_pairs.new.self in
    has_crossing start mid c.put_assigned.new.self c.args.span crossing c.args.points.now origin c.in_ok-handing.ensures.spans
    (subst (λ ds. ArePairedOnce ds crossing.arguments.items → PutsPairs start mid ds crossing.arguments.items (length ds)) c.deref.ensures.value
    (subst (λ us. ArePairedOnce c.deref.result.now us → PutsPairs start mid c.deref.result.now us (length c.deref.result.now)) c.deref-2.ensures.value c.put_pairs.ensures.puts) once.once)
    c.put_assigned.ensures.puts once
