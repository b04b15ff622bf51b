use Rattle.std.proofs.Common.{◌∙◌, ap, ◌++◌}
use Rattle.jr_bind.proofs.Ranked.{all_imports, no_more_imports}
use Rattle.jr_bind.proofs.ranking.imports_of.Goals as goal

pub returns-then-is_named : goal.returns-then-is_named
returns-then-is_named c = λ p scopes. no_more_imports p c.args.unit c.args.name c.args.is_hidden c.args.is_named c.in_ok-all.all.items (c.in_ok-all.ensures p scopes) c.if-is_named.true

pub returns : goal.returns
returns c = λ p scopes. all_imports p c.args.unit c.args.name c.args.is_hidden c.args.is_named c.in_ok-all.all.items c.in_ok-imports_on_demand.field-0.items c.extend_from_slice.new.self.items
    (c.in_ok-all.ensures p scopes) (c.in_ok-imports_on_demand.ensures p scopes) (let told = c.in_ok-extend_from_slice.ensures in told.items ∙ ap (λ xs. c.in_ok-all.all.items ++ xs) c.deref.ensures.value)
