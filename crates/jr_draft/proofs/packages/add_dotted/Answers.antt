use Rattle.std.proofs.Common.{◌∙◌, ap, ◌-◌, ◌++◌}
use Rattle.jr_tree.specs.Rows.{name}
use Rattle.jr_draft.proofs.Building.{dotted_more}
use Rattle.jr_draft.proofs.packages.add_dotted.Goals as goal

pub loop-before-preserved : goal.loop-before-preserved
loop-before-preserved c = dotted_more c.args.rows.now c.args.behind c.loop-before.before _ _ _ _ c.loop-before.invariant c.in_ok-add_dot.ensures
    (c.in_ok-extend_from_slice.ensures.items ∙ ap (λ xs. c.add_dot.new.all.items ++ xs) (c.name_at.ensures ∙ ap (name c.args.rows.now) (c.saturating_sub-at.ensures ∙ ap (λ n. n - 1) c.saturating_sub.ensures)))
