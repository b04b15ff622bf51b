use Rattle.std.proofs.Common.{◌≡◌, sym, subst, true}
use Rattle.jr_supers.specs.Supers.{ListsOnce}
use Rattle.jr_report.specs.Listed.{rows_in}
use Rattle.jr_report.specs.Reports.{IsListed, has_report}
use Rattle.jr_report.proofs.Referring.{if_ok_so, method_there}
use Rattle.jr_report.proofs.reporting.rows_of.Goals as goal

pub returns-in-References : goal.returns-in-References
returns-in-References c = λ whole has. if_ok_so c.references.result (λ rows lists. subst (λ w. ListsOnce rows.items (IsListed w c.args.view.now c.args.declared)) (sym c.in-References.is) lists) c.references.ensures

pub returns-in-Subtypes : goal.returns-in-Subtypes
returns-in-Subtypes c = λ whole has. if_ok_so c.subtypes.result (λ rows lists. subst (λ w. ListsOnce rows.items (IsListed w c.args.view.now c.args.declared)) (sym c.in-Subtypes.is) lists) (c.subtypes.ensures whole.world_is.seen.above)

pub returns-in-Callers : goal.returns-in-Callers
returns-in-Callers c = λ whole has. if_ok_so c.callers.result (λ rows lists. subst (λ w. ListsOnce rows.items (IsListed w c.args.view.now c.args.declared)) (sym c.in-Callers.is) lists)
    (c.callers.ensures whole (method_there (rows_in c.args.view.now.sight.world) c.args.declared (subst (λ w. has_report w (rows_in c.args.view.now.sight.world) c.args.declared ≡ true) c.in-Callers.is has)))
