use Rattle.std.proofs.lemmas.Result.{on_ok_weaker}
use Rattle.jr_run.proofs.Naming.{front_is, front_none, path_away, path_there, unit_inside}
use Rattle.jr_run.proofs.names.push_package.Goals as goal

pub returns-in-Some : goal.returns-in-Some
returns-in-Some c = λ placed few.
    let is = c.unit.ensures.holds c.args.rows.now placed.are placed.local in
    on_ok_weaker c.push_declared.result (λ h. front_is _ _ _ _ h (path_there c.args.rows.now c.args.at _ _ is c.in-Some.is))
    (c.push_declared.ensures few placed.local.tree (unit_inside c.args.rows.now c.args.at _ _ is c.in-Some.is))

pub returns-in-None : goal.returns-in-None
returns-in-None c = λ placed few. front_none _ _ (path_away c.args.rows.now c.args.at _ (c.unit.ensures.holds c.args.rows.now placed.are placed.local) c.in-None.is)
