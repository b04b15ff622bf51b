use Rattle.std.proofs.Common.{sym, subst, arith}
use Rattle.std.proofs.lemmas.List.{drop_more, drop_all}
use Rattle.jr_spell.specs.declared.resolving.Before.TheVariants as code
use Rattle.jr_spell.specs.Standing.{LeadsOn}
use Rattle.jr_spell.proofs.Leading.{lead_start, lead_more, lead_nowhere, lead_end}
use Rattle.jr_spell.proofs.speller.Speller.qualifiers.Goals as goal

pub loop-name-init : goal.loop-name-init
loop-name-init c = λ whole numbers lt. subst (λ trace. LeadsOn c.args.self.now c.args.place c.args.kind c.args.names.now 0 code.Nothing trace) (sym c.new-trace.ensures.items)
    (lead_start c.args.self.now c.args.place c.args.kind c.args.names.now)

pub loop-name-preserved : goal.loop-name-preserved
loop-name-preserved c = λ whole numbers lt. let h = c.loop-name.invariant whole numbers lt in
    lead_more c.args.self.now c.args.place c.args.kind c.args.names.now c.loop-name.name-index _ c.loop-name.last c.loop-name.trace.items h (drop_more c.args.names.now c.loop-name.name-index _ (omega arith)) c.in_ok-found.found
    (c.in_ok-found.ensures h.before whole h.stands (numbers.each c.loop-name.name-index _ (omega arith)) lt) c.next.result (c.next.ensures h.before whole h.stands (numbers.each c.loop-name.name-index _ (omega arith))) c.in-Some.next c.in-Some.is
    c.push.new.self.items c.in_ok-push.ensures.items

pub returns-in-None : goal.returns-in-None
returns-in-None c = λ whole numbers lt. let h = c.loop-name.invariant whole numbers lt in
    lead_nowhere c.args.self.now c.args.place c.args.kind c.args.names.now c.loop-name.name-index _ c.loop-name.last c.loop-name.trace.items h (drop_more c.args.names.now c.loop-name.name-index _ (omega arith)) c.in_ok-found.found
    (c.in_ok-found.ensures h.before whole h.stands (numbers.each c.loop-name.name-index _ (omega arith)) lt) c.next.result (c.next.ensures h.before whole h.stands (numbers.each c.loop-name.name-index _ (omega arith))) c.in-None.is

pub returns : goal.returns
returns c = λ whole numbers lt. let h = c.loop-name.invariant whole numbers lt in
    lead_end c.args.self.now c.args.place c.args.kind c.args.names.now c.loop-name.name-index (record { last = c.loop-name.last; trace = c.loop-name.trace }) h (drop_all c.loop-name.name-index c.args.names.now (omega arith))
