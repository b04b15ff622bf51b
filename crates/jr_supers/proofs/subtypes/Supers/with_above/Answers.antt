use Rattle.std.proofs.Common.{◌∙◌, ap, ◌++◌}
use Rattle.jr_supers.specs.Supers.{object_if}
use Rattle.jr_supers.proofs.Listed.{once_listed}
use Rattle.jr_supers.proofs.subtypes.Supers.with_above.Goals as goal

pub returns : goal.returns
returns c = λ t h. once_listed c.args.rows.now t c.args.self.now h c.args.at _ _
    (c.deref_mut.ensures.value ∙ c.in_ok-push_object.ensures ∙ ap (λ xs. xs ++ object_if c.args.rows.now c.args.self.now c.args.at c.args.self.now.direct.object) c.in_ok-all.ensures) c.in_ok-out.ensures
