use Rattle.jr_type_facts.specs.Tables.{call_by}
use Rattle.jr_type_facts.proofs.Tabling.{grown_more}
use Rattle.jr_type_facts.proofs.tables.calls_of.Goals as goal

pub loop-at-preserved : goal.loop-at-preserved
loop-at-preserved c = grown_more (call_by c.args.rows.now) c.loop-at.at _ _ _ _ c.loop-at.invariant c.deref.ensures.value c.is_in_call-inside.ensures c.in_ok-push.ensures.items
