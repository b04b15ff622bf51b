use Rattle.std.proofs.Common.{sym, ◌∙◌}
use Rattle.jr_edges.proofs.Finding.{kept_told}
use Rattle.jr_edges.proofs.dispatched.is_kept.Goals as goal

pub returns : goal.returns
returns c = λ l are. kept_told c.args.locked.under.rows.now l c.args.copy.now c.args.before.class c.args.before.method c.args.before.found are.supers.well c.in-Some.class c.in-Some-row_for.method
    (sym c.row_for.ensures ∙ c.in-Some.is) (sym c.row_for-2.ensures ∙ c.in-Some-row_for.is) c.in_ok-found.found c.is_copy_found.result (c.in_ok-found.ensures l are) c.is_copy_found.ensures
