use Rattle.std.proofs.Common.{arith}
use Rattle.jr_base.proofs.Entries.{count}
use Rattle.jr_base.proofs.files.Files.len.Goals as goal

pub returns : goal.returns
returns c = omega (arith, count c.self.inside.entries.items c.args.self.now c.self.invariant c.self.view_is, c.self.inside.entries.ok.0, c.len.ensures)
