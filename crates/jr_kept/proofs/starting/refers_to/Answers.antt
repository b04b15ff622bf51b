use Rattle.std.proofs.Common.{sym, ◌∙◌, ap}
use Rattle.jr_supers.specs.Tabled as tabled
use Rattle.jr_kept.proofs.Begun.{same_declared, same_row}
use Rattle.jr_kept.proofs.starting.refers_to.Goals as goal

pub returns : goal.returns
returns c = λ m seen e. let row = c.args.row in
    sym (same_declared (m.targets row)) ∙ ap (λ t. tabled.declared (t row)) (sym seen.view.targets) ∙ sym c.declared.ensures ∙ same_row c.declared.result c.args.declaration (sym c.is_same.ensures ∙ e)
