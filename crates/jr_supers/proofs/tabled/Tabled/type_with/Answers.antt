use Rattle.std.proofs.Common.{◌+◌}
use Rattle.jr_defs.specs.Referents.{entries}
use Rattle.jr_supers.proofs.Written.{with_brackets_is}
use Rattle.jr_supers.proofs.tabled.Tabled.type_with.Goals as goal

pub returns-in-Some : goal.returns-in-Some
returns-in-Some c = λ sized. with_brackets_is c.args.self.rows.now (entries c.args.self.table.now) c.args.declared (c.args.before + 1) _ _ _ _ sized (c.type_behind.ensures sized.few) c.in-Some.is c.brackets_at-brackets.ensures c.deeper.ensures
