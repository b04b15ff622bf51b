use Rattle.std.proofs.Common.{◌∙◌, refl, ap, slice_set}
use Rattle.jr_bind.proofs.Keeping.{set_rest}
use Rattle.jr_bind.proofs.filling.Filling.set_type.Goals as goal

pub returns-clause-typed : goal.returns-clause-typed
returns-clause-typed c = λ constant can. c.put_type.ensures ∙ ap (slice_set c.args.self.now.types.items c.args.at) (c.type_of-ty.ensures constant can)

pub returns-clause-rest : goal.returns-clause-rest
returns-clause-rest c = set_rest _ _ c.args.at _ c.put_type.ensures refl refl refl
