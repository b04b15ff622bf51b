use Rattle.jr_headed.proofs.Headed.{sizes_told}
use Rattle.jr_headed.proofs.heads.is_sized.Goals as goal

pub returns : goal.returns
returns c = let counted = c.in-Ok.ensures in sizes_told c.args.rows.now c.in-Ok.end c.are_shallow.result counted.1 counted.0 c.are_shallow.ensures
