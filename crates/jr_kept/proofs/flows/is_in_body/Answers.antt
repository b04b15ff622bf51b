use Rattle.std.proofs.Common.{◌≤◌, ◌<◌, ◌&&◌, not, sym, ◌∙◌, ap₂, subst, nat_lt, Decides}
use Rattle.jr_tree.specs.Rows.{end}
use Rattle.jr_kept.proofs.Rounding.{within_tells}
use Rattle.jr_kept.proofs.flows.is_in_body.Goals as goal

pub returns : goal.returns
returns c = λ few. let body = c.args.body in let row = c.args.row in
    subst (λ b. Decides b ((body ≤ row) × (row < end c.args.rows.now body)))
    (sym (c.is_within.ensures ∙ ap₂ (λ first last. not (nat_lt row first) && nat_lt row last) c.rows_of.ensures.first (c.rows_of.ensures.end few)))
    (within_tells body (end c.args.rows.now body) row)
