use Rattle.jr_headed.proofs.Headed.{heads_told, well_headed}
use Rattle.jr_headed.proofs.heads.is_well_headed.Goals as goal

pub returns-clause-decides : goal.returns-clause-decides
returns-clause-decides c = let counted = c.in-Ok.ensures in
    heads_told c.args.rows.now c.find_object.result c.in-Ok.end c.are_all_well.result counted.1 counted.0 (c.find_object.ensures counted.0) c.are_all_well.ensures

pub returns-clause-headed : goal.returns-clause-headed
returns-clause-headed c = let counted = c.in-Ok.ensures in
    let told = heads_told c.args.rows.now c.find_object.result c.in-Ok.end c.are_all_well.result counted.1 counted.0 (c.find_object.ensures counted.0) c.are_all_well.ensures in
    λ units shaped is holds. well_headed c.args.rows.now units shaped is (told.0 holds)
