use Rattle.std.proofs.Common.{◌^◌, length}
use Rattle.std.proofs.lemmas.Result.{on_ok_weaker}
use Rattle.jr_run.proofs.Naming.{front_is, front_none, last_counted, package_spelled, package_there, package_unnamed}
use Rattle.jr_run.proofs.names.push_declared.Goals as goal

pub returns-in-Some : goal.returns-in-Some
returns-in-Some c = λ few tree lt.
    on_ok_weaker c.push_name.result (λ h. front_is _ _ _ _ h (package_spelled c.args.rows.now c.args.unit _ _ (c.package_row.ensures few lt) c.in-Some.is))
    (c.push_name.ensures (last_counted c.args.unit _ (length c.args.rows.now) (2 ^ 32) (package_there c.args.rows.now c.args.unit _ _ (c.package_row.ensures few lt) c.in-Some.is) lt few) (tree.nested _))

pub returns-in-None : goal.returns-in-None
returns-in-None c = λ few tree lt. front_none _ _ (package_unnamed c.args.rows.now c.args.unit _ (c.package_row.ensures few lt) c.in-None.is)
