use Rattle.std.proofs.Common.{arith}
use Rattle.std.proofs.lemmas.Bool.{false≢true}
use Rattle.jr_meaning.proofs.Loops.{kept_more, kept_to}
use Rattle.jr_meaning.proofs.keeping.keeps_rows.Goals as goal

pub loop-at-init : goal.loop-at-init
loop-at-init c = λ le m w old new n low lt. absurd (omega (arith, low, lt))

pub loop-at-preserved : goal.loop-at-preserved
loop-at-preserved c = λ le m w old new. let test = c.loop-at-test.true in
    kept_more c.args.old.now.rows.now c.args.new.now.rows.now m w c.args.near.targets.now c.args.near.loops.now c.args.copy.now c.args.range c.loop-at.at _ (c.loop-at.invariant le m w old new)
    (c.keeps_row.ensures (omega (arith, le, test)) m w old new c.if-not-keeps_row.false) c.row_in.ensures

pub returns-then-not-keeps_row : goal.returns-then-not-keeps_row
returns-then-not-keeps_row c = λ le m w old new e. absurd (false≢true e)

pub returns : goal.returns
returns c = λ le m w old new e.
    kept_to c.args.old.now.rows.now c.args.new.now.rows.now m w c.args.near.targets.now c.args.near.loops.now c.args.copy.now c.args.range c.loop-at.at c.args.range.end (omega arith) (c.loop-at.invariant le m w old new)
