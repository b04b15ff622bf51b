use Rattle.std.proofs.Common.{sym, subst, Decides}
use Rattle.jr_defs.specs.MemberRules.{IsChecked}
use Rattle.jr_flow_faults.proofs.Rooted.{checked_told}
use Rattle.jr_flow_faults.proofs.classes.Roots.is_checked.Goals as goal

pub returns : goal.returns
returns c = λ t above are. subst (λ b. Decides b (IsChecked c.args.rows.now t c.args.at)) (sym c.is_first_alone.ensures)
    (checked_told c.args.rows.now t c.args.at c.args.self _ _ _ are (c.is_below-is_throwable.ensures t above) (c.is_below-is_error.ensures t above) (c.is_below-is_runtime.ensures t above))
