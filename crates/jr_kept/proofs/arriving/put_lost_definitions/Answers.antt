use Rattle.std.proofs.Common.{sym, ◌∙◌, ap, subst, length, slice_get}
use Rattle.std.proofs.lemmas.Result.{on_ok_weaker}
use Rattle.jr_flow.specs.Reached.{steps_of}
use Rattle.jr_kept.specs.Gathered.{AreBelow}
use Rattle.jr_kept.proofs.Gathers.{reached_inside}
use Rattle.jr_kept.proofs.Uses.{uses_kept, uses_listed}
use Rattle.jr_kept.proofs.arriving.put_lost_definitions.Goals as goal

pub returns-clause-checks : goal.returns-clause-checks
returns-clause-checks c = let flows = c.args.flows.now in let after = c.in_ok-after.after in let new = c.row_bound-new.result in let points = flows.after.now.points.items in
    on_ok_weaker c.compare_uses.result
    (λ checks none. let both = checks none in (both.0, uses_kept flows c.in_ok-before.before after c.args.handing.now c.in_ok-before.ensures c.in_ok-after.ensures (λ k x old e. both.1 k x old (ap (λ ps. slice_get ps k) c.as_slice-3.ensures.value ∙ e))))
    (c.compare_uses.ensures.checks (reached_inside after new points (steps_of flows.after.now) c.in_ok-after.ensures (subst (λ ps. AreBelow ps (length ps) new) c.as_slice-2.ensures.value c.row_bound-new.ensures))
    (subst (λ ps. AreBelow ps (length ps) new) (c.as_slice-2.ensures.value ∙ sym c.as_slice-3.ensures.value) c.row_bound-new.ensures))

pub returns-clause-kept : goal.returns-clause-kept
returns-clause-kept c = let flows = c.args.flows.now in let before = c.in_ok-before.before in let after = c.in_ok-after.after in let old = c.row_bound-old.result in let new = c.row_bound-new.result in
    on_ok_weaker c.compare_uses.result
    (λ ok none keeps. ok none (λ k x used e is. uses_listed flows before after c.args.handing.now c.in_ok-before.ensures c.in_ok-after.ensures keeps k x used (sym (ap (λ ps. slice_get ps k) c.as_slice-3.ensures.value) ∙ e) is))
    (c.compare_uses.ensures.kept
    (reached_inside before old flows.before.now.points.items (steps_of flows.before.now) c.in_ok-before.ensures (subst (λ ps. AreBelow ps (length ps) old) c.as_slice.ensures.value c.row_bound-old.ensures))
    (reached_inside after new flows.after.now.points.items (steps_of flows.after.now) c.in_ok-after.ensures (subst (λ ps. AreBelow ps (length ps) new) c.as_slice-2.ensures.value c.row_bound-new.ensures))
    (subst (λ ps. AreBelow ps (length ps) new) (c.as_slice-2.ensures.value ∙ sym c.as_slice-3.ensures.value) c.row_bound-new.ensures))
