use Rattle.std.proofs.Common.{◌≡◌, ◌∙◌, ap, ◌++◌, ◌∷◌, []}
use Rattle.jr_supers.specs.Direct.{supers_in}
use Rattle.jr_members.proofs.Adding.{naming_listed}
use Rattle.jr_members.proofs.wanted.naming_types.Goals as goal

pub returns : goal.returns
returns c = λ t right. naming_listed c.args.rows.now t c.args.supers.now right c.args.over c.linked-linked.result c.deref.result.now _ _
    (c.deref.ensures.value ∙ c.in_ok-direct.ensures ∙ ap (λ l. supers_in l c.args.over) c.direct.ensures) c.linked-linked.ensures
    (c.in_ok-push.ensures.items ∙ ap (λ xs. xs ++ c.args.over ∷ []) c.new-all.ensures.items) (c.in_ok-push_further.ensures t right)
