use Rattle.jr_type_facts.specs.Views.{rows_in, table_in, types_in}
use Rattle.jr_type_facts.specs.Tables.{initializer_by}
use Rattle.jr_type_facts.proofs.Tabling.{grown_more}
use Rattle.jr_type_facts.proofs.tables.initializers_of.Goals as goal

pub loop-at-preserved : goal.loop-at-preserved
loop-at-preserved c = λ sized. grown_more (initializer_by (rows_in c.args.view.now) (table_in c.args.view.now) (types_in c.args.view.now)) c.loop-at.at _ _ _ _ (c.loop-at.invariant sized) c.deref.ensures.value (c.initializer_by-ty.ensures sized) c.in_ok-push.ensures.items
