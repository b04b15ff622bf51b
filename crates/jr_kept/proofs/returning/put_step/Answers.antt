use Rattle.std.proofs.Common.{sym, ◌∙◌, ap, subst, false, None}
use Rattle.jr_kept.specs.Ordered.{Tells}
use Rattle.jr_kept.specs.Carried.{is_exit_at}
use Rattle.jr_kept.specs.Returned.{moved_at, LeadsOut}
use Rattle.jr_kept.proofs.Telling.{tells_still}
use Rattle.jr_kept.proofs.Moved.{step_told}
use Rattle.jr_kept.proofs.returning.put_step.Goals as goal

pub returns-in-Some : goal.returns-in-Some
returns-in-Some c = let body = c.args.body in let moved = c.args.moved.now in let points = c.args.points.now in let old = c.args.lost.now in let new = c.put_from.new.lost in
    subst (λ o. Tells old new (LeadsOut body moved points o)) (sym c.in-Some.is)
    (step_told body moved points c.in-Some.step c.moved_at-row.result c.is_exit.result old new (c.moved_at-row.ensures ∙ ap (moved_at body moved) c.point_at.ensures) (c.is_exit.ensures ∙ ap (is_exit_at body false) c.point_at-next.ensures) c.put_from.ensures)

pub returns-in-None : goal.returns-in-None
returns-in-None c = let body = c.args.body in let moved = c.args.moved.now in let points = c.args.points.now in let old = c.args.lost.now in
    subst (λ o. Tells old old (LeadsOut body moved points o)) (sym c.in-None.is) (tells_still old (LeadsOut body moved points None) tt)
