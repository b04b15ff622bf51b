use Rattle.std.proofs.Common.{Ok, Err, None, ap, map, subst, ◌∙◌}
use Rattle.jr_top.specs.Showing.{ShownAs}
use Rattle.jr_top.specs.declared.show_fault.ShowFault.{ShowFault}
use Rattle.jr_top.specs.declared.show_fault.ShowFault.TheVariants as fault
use Rattle.jr_top.specs.Checking.{has_text, has_reason, has_refusal}
use Rattle.jr_top.specs.declared.status.Status.TheVariants.{BadRequest}
use Rattle.jr_top.proofs.show.shown.Goals as goal

pub returns-in-Ok : goal.returns-in-Ok
returns-in-Ok c = λ asked is. let shown : ShownAs asked c.args.found.now (Ok _) = c.in-Ok.ensures asked is in has_text shown.0 shown.1 c.plainly.ensures.status

pub returns-in-Err-Bad : goal.returns-in-Err-Bad
returns-in-Err-Bad c = λ asked is.
    let shown : ShownAs asked c.args.found.now (Err (fault.Bad c.in-Err-Bad.reason)) = subst (λ (f : ShowFault). ShownAs asked c.args.found.now (Err f)) c.in-Err-Bad.field-0-is (c.in-Err-Bad.ensures asked is) in
    has_reason c.in-Err-Bad.reason shown.0 shown.1
    (c.plainly-in-Err-Bad.ensures.status ∙ ap (λ n. BadRequest 0 n None) c.reason_number.ensures)

pub returns-in-Ok-paths_of : goal.returns-in-Ok-paths_of
returns-in-Ok-paths_of c = λ asked is.
    has_refusal (subst (λ (f : ShowFault). ShownAs asked c.args.found.now (Err f)) c.in-Err-Front.field-0-is (c.in-Err-Front.ensures asked is))
    (c.in-Ok-paths_of.ensures ∙ ap (map (λ e. e.0)) c.entries.ensures) c.refusal.ensures
