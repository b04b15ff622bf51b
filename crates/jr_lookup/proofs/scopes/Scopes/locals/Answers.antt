use Rattle.std.proofs.lemmas.Result.{IfOk-weaker}
use Rattle.jr_lookup.proofs.Nesting.{locals_visible}
use Rattle.jr_lookup.proofs.scopes.Scopes.locals.Goals as goal

pub returns-clause-visible : goal.returns-clause-visible
returns-clause-visible c = λ t x rows placed are lt number. IfOk-weaker c.first_locals.result _ _
    (λ found is. locals_visible c.args.rows.now rows placed t x c.args.name c.args.place lt number found.items is) (c.first_locals.ensures are)
