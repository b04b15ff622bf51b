use Rattle.std.proofs.Common.{◌∙◌, ap, ◌++◌}
use Rattle.jr_members.specs.declared.declared.MemberKind.TheVariants as kind
use Rattle.jr_dispatch.proofs.dispatch.Methods.add_declared.Goals as goal

pub returns : goal.returns
returns c = λ t h. c.in_ok-extend_from_slice.ensures.items ∙ ap (λ xs. c.args.all.now.items ++ xs) (c.deref.ensures.value ∙ c.in_ok-methods.ensures c.args.self.under.rows.now kind.Method h.declared)
