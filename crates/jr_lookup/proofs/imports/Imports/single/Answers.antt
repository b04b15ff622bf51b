use Rattle.std.proofs.Common.{sym, subst}
use Rattle.std.proofs.lemmas.Result.{IfOk-weaker}
use Rattle.jr_plain.specs.Search.{Lists}
use Rattle.jr_lookup.specs.Imports.{IsBrought}
use Rattle.jr_lookup.proofs.imports.Imports.single.Goals as goal

pub returns : goal.returns
returns c = λ p t imports. IfOk-weaker c.rows.result _ _ (λ rows is. subst (λ xs. Lists xs (IsBrought p t c.args.unit c.args.name)) (sym is) (imports.each c.args.unit c.args.name)) c.rows.ensures
