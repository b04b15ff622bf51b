use Rattle.std.proofs.Common.{◌∙◌, sym, subst, ap, take, Vec, Global}
use Rattle.jr_rule.specs.declared.Fault.{Fault}
use Rattle.jr_front.specs.Tested.{AreTakenOver}
use Rattle.jr_front.proofs.Taking.{none_taken, taken_more, taken_past, all_taken}
use Rattle.jr_front.proofs.found.take_over.Goals as goal
use Rattle.jr_front.proofs.found.take_over.Goals.{then-is_between+in_ok-push, else-is_between}

pub loop-fault-preserved : goal.loop-fault-preserved
loop-fault-preserved c = elim c.if-is_between.branch [
  | then-is_between+in_ok-push w ↦ taken_more c.args.first c.args.last c.args.found.now c.args.out.now.items c.loop-fault.out.items c.if-is_between.out.items c.loop-fault.fault-index _ c.loop-fault-test.true
      (sym c.is_between.ensures ∙ w.if-is_between.true) (ap (λ (v : Vec Fault Global). v.items) w.out-is ∙ w.in_ok-push.ensures.items) c.loop-fault.invariant
  | else-is_between w ↦ taken_past c.args.first c.args.last c.args.found.now c.args.out.now.items c.if-is_between.out.items c.loop-fault.fault-index _ c.loop-fault-test.true
      (sym c.is_between.ensures ∙ w.if-is_between.false) (subst (λ (v : Vec Fault Global). AreTakenOver c.args.first c.args.last (take (c.loop-fault.fault-index) c.args.found.now) c.args.out.now.items v.items) (sym w.out-is) c.loop-fault.invariant)
]

pub loop-fault-init : goal.loop-fault-init
loop-fault-init c = none_taken c.args.first c.args.last c.args.found.now c.args.out.now.items

pub returns : goal.returns
returns c = all_taken c.args.first c.args.last c.args.found.now c.args.out.now.items c.loop-fault.out.items c.loop-fault.fault-index c.loop-fault-test.false c.loop-fault.invariant
