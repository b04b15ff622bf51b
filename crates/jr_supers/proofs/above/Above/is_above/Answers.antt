use Rattle.std.proofs.Common.{sym, subst, Decides}
use Rattle.jr_defs.specs.Supertypes.{Above}
use Rattle.jr_supers.specs.Above.{tables}
use Rattle.jr_supers.proofs.Telling.{above_tells}
use Rattle.jr_supers.proofs.above.Above.is_above.Goals as goal

pub returns : goal.returns
returns c = record {
  above = λ t headed one all. subst (λ b. Decides b (Above c.args.rows.now t c.args.at c.args.over)) (sym c.is_above_by_tables.ensures)
      (above_tells c.args.rows.now t (tables c.args.self.now) all.above one headed c.args.at c.args.over (all.all c.args.at));
}
