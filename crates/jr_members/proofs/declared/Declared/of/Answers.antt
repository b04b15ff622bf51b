use Rattle.jr_members.proofs.Declaring.{declared_start}
use Rattle.jr_members.proofs.declared.Declared.of.Goals as goal

pub returns : goal.returns
returns c = λ places. c.in_ok-add_rows.ensures c.args.kind places (declared_start c.args.under.rows.now c.args.kind _ c.new-declared.ensures.kind c.new-declared.ensures.own c.new-declared.ensures.by_type c.new-declared.ensures.by_name)
