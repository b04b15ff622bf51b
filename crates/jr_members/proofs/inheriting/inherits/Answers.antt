use Rattle.std.proofs.Common.{◌≡◌, sym, ◌∙◌, ap, ap₂, ◌&&◌}
use Rattle.jr_members.proofs.inheriting.inherits.Goals as goal

pub returns : goal.returns
returns c = λ t right own_rows role. let p = c.args.sources.under.rows.now in
    c.all_three.ensures ∙ ap₂ (λ a b. a && b) c.passes-passed.ensures (ap₂ (λ a b. a && b) (c.can_inherit-can.ensures.plain right.seen.placed) (c.is_left-left.ensures p t right.signed own_rows role))
