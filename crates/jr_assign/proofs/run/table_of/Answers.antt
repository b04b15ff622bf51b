use Rattle.std.proofs.Common.{◌∙◌, ap, ◌-◌, ℕ}
use Rattle.jr_assign.proofs.Walking.{table_told}
use Rattle.jr_assign.proofs.run.table_of.Goals as goal

pub returns : goal.returns
returns c = table_told c.args.frame c.args.start _ _ _ _ (c.saturating_sub-size.ensures ∙ ap (λ (e : ℕ). e - c.args.frame.root) c.end_of.ensures.is) (c.in_ok-seen.ensures.items_if_clones_equal (λ y e. e)) c.fill_parts.ensures c.leave.ensures
