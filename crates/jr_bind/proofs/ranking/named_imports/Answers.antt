use Rattle.std.proofs.Common.{◌∙◌, ap, ◌++◌}
use Rattle.jr_bind.proofs.Ranked.{named_imports, no_named_imports}
use Rattle.jr_bind.proofs.ranking.named_imports.Goals as goal

pub returns-then-is_hidden : goal.returns-then-is_hidden
returns-then-is_hidden c = λ p scopes. no_named_imports p c.args.unit c.args.name c.args.is_hidden c.new.result.items c.if-is_hidden.true

pub returns : goal.returns
returns c = λ p scopes. named_imports p c.args.unit c.args.name c.args.is_hidden c.in_ok-all.all.items c.in_ok-static_imports.field-0.items c.extend_from_slice.new.self.items
    (c.in_ok-all.ensures p scopes) (c.in_ok-static_imports.ensures p scopes) (let told = c.in_ok-extend_from_slice.ensures in told.items ∙ ap (λ xs. c.in_ok-all.all.items ++ xs) c.deref.ensures.value)
