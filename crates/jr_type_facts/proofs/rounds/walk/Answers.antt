use Rattle.std.proofs.Common.{sym, ◌∙◌, ap, arith}
use Rattle.jr_type_facts.specs.Rounds.{onward}
use Rattle.jr_type_facts.proofs.Walking.{walking_start, walking_more, walked_stops, walked_out}
use Rattle.jr_type_facts.proofs.rounds.walk.Goals as goal

pub loop-turn-init : goal.loop-turn-init
loop-turn-init c = λ size. let h = walking_start c.args.called.now c.args.ways.now.items c.args.first size in (h.0, let few = h.1 in omega arith)

pub returns-in_default : goal.returns-in_default
returns-in_default c = λ size. walked_stops c.args.called.now (ap (λ l. onward c.args.called.now l c.loop-turn.here) (sym c.deref.ensures.value) ∙ sym c.onward.ensures ∙ c.in_default.is) (c.loop-turn.invariant size).0

pub loop-turn-preserved : goal.loop-turn-preserved
loop-turn-preserved c = λ size. let h = c.loop-turn.invariant size in walking_more c.args.called.now c.in-Some.next c.loop-turn._turn (ap (λ l. onward c.args.called.now l c.loop-turn.here) (sym c.deref.ensures.value) ∙ sym c.onward.ensures ∙ c.in-Some.is) c.put.ensures h.0 h.1

pub returns : goal.returns
returns c = λ size. let h = c.loop-turn.invariant size in walked_out c.args.called.now c.loop-turn._turn (omega arith) h.1 h.0
