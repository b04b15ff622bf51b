use Rattle.std.proofs.Common.{subst}
use Rattle.std.proofs.lemmas.Result.{on_ok_weaker}
use Rattle.jr_places.specs.Stamps.{AddsStamp}
use Rattle.jr_kept.proofs.Uses.{compares_known, compares_now}
use Rattle.jr_kept.proofs.arriving.Comparing.compare.Goals as goal

pub returns-then-add-clause-checks : goal.returns-then-add-clause-checks
returns-then-add-clause-checks c = λ many bound inside lt is can. let uses = c.args.uses.now in let done = c.args.self.now.done in let adds = c.add.ensures bound can.counted in
    on_ok_weaker c.compare.result
    (λ ok. let now = compares_now uses done c.add.new.self c.args.lost.now c.compare.new.lost bound c.args.used c.args.old is (subst (AddsStamp done c.add.new.self bound c.args.used) c.if-add.true adds) ok.1 in (record { sides = ok.0; counted = adds.counted }, now.0, now.1))
    (c.compare.ensures.checks many bound inside can.sides)

pub returns-clause-checks : goal.returns-clause-checks
returns-clause-checks c = λ many bound inside lt is can. let uses = c.args.uses.now in let done = c.args.self.now.done in let adds = c.add.ensures bound can.counted in
    let known = compares_known uses done c.add.new.self c.args.lost.now bound c.args.used lt (subst (AddsStamp done c.add.new.self bound c.args.used) c.if-add.false adds) in
    (record { sides = can.sides; counted = adds.counted }, known.0, known.1)

pub returns-then-add-clause-kept : goal.returns-then-add-clause-kept
returns-then-add-clause-kept c = λ many bound before inside can. c.compare.ensures.kept many bound before inside can.sides

pub returns-clause-kept : goal.returns-clause-kept
returns-clause-kept c = λ many bound before inside can none same. none
