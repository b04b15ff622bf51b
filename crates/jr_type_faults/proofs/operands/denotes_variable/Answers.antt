use Rattle.std.proofs.Common.{◌∙◌, sym, arith}
use Rattle.jr_type_facts.specs.Facts.{rows_of, table_of}
use Rattle.jr_type_faults.proofs.Denoting.{sought_start, sought_here, sought_none, sought_next, sought_end}
use Rattle.jr_type_faults.proofs.operands.denotes_variable.Goals as goal

pub loop-turn-init : goal.loop-turn-init
loop-turn-init c = λ right. sought_start (rows_of c.args.facts.now) (table_of c.args.facts.now) c.args.at

pub returns-then-denotes_plainly : goal.returns-then-denotes_plainly
returns-then-denotes_plainly c = λ right. sought_here (rows_of c.args.facts.now) (table_of c.args.facts.now) c.loop-turn._turn c.loop-turn.here _ (omega arith) (c.loop-turn.invariant right) (sym c.denotes_plainly.ensures ∙ c.if-denotes_plainly.true)

pub returns-in-None : goal.returns-in-None
returns-in-None c = λ right. sought_none (rows_of c.args.facts.now) (table_of c.args.facts.now) c.loop-turn._turn c.loop-turn.here _ (omega arith) (c.loop-turn.invariant right) (sym c.denotes_plainly.ensures ∙ c.if-denotes_plainly.false)
    (sym (c.inner_of.ensures right) ∙ c.in-None.is)

pub loop-turn-preserved : goal.loop-turn-preserved
loop-turn-preserved c = λ right. sought_next (rows_of c.args.facts.now) (table_of c.args.facts.now) c.loop-turn._turn c.loop-turn.here c.in-Some.inner _ (omega arith) (c.loop-turn.invariant right) (sym c.denotes_plainly.ensures ∙ c.if-denotes_plainly.false)
    (sym (c.inner_of.ensures right) ∙ c.in-Some.is)

pub returns : goal.returns
returns c = λ right. sought_end (rows_of c.args.facts.now) (table_of c.args.facts.now) c.loop-turn._turn c.loop-turn.here _ (omega arith) (c.loop-turn.invariant right)
