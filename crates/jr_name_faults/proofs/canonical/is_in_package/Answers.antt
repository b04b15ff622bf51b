use Rattle.std.proofs.Common.{sym, ◌∙◌, ap, subst, Decides}
use Rattle.jr_defs.specs.Packages.{InPackage, spelled}
use Rattle.jr_places.specs.Packages.{same_some}
use Rattle.jr_places.proofs.Packing.{in_spelled}
use Rattle.jr_name_faults.proofs.canonical.is_in_package.Goals as goal

pub returns : goal.returns
returns c = λ placed few lt. subst (λ b. Decides b (InPackage c.args.rows.now (spelled c.args.rows.now c.args.name) c.args.row)) (sym (c.is_one.ensures ∙ ap (same_some c.spelled.result) c.package.ensures))
    (in_spelled c.args.rows.now placed.local c.args.places.now.packages (placed.are.packages_are placed.local placed.packages) c.args.name c.args.row c.spelled.result (c.spelled.ensures placed.are placed.local placed.packages few lt))
