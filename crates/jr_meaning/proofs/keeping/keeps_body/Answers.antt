use Rattle.std.proofs.Common.{sym, ◌∙◌, arith}
use Rattle.std.proofs.lemmas.Bool.{false≢true}
use Rattle.jr_meaning.proofs.Loops.{no_body, no_run, by_rows}
use Rattle.jr_meaning.proofs.keeping.keeps_body.Goals as goal

pub returns-then-not-is_body : goal.returns-then-not-is_body
returns-then-not-is_body c = λ lt tree m w old new e.
    no_body c.args.old.now.rows.now c.args.new.now.rows.now m w c.args.near.targets.now c.args.near.loops.now c.args.copy.now c.args.body (sym c.is_body.ensures ∙ c.if-not-is_body.true)

pub returns-then-not-is_run : goal.returns-then-not-is_run
returns-then-not-is_run c = λ lt tree m w old new e. let few = old.few in
    no_run c.args.old.now.rows.now c.args.new.now.rows.now m w c.args.near.targets.now c.args.near.loops.now c.args.copy.now c.args.body _ (c.end_at.ensures (omega (arith, lt, few)))
    (λ run. false≢true (sym c.if-not-is_run.true ∙ c.is_run.ensures run))

pub returns : goal.returns
returns c = λ lt tree m w old new e. let few = old.few in let last = tree.last c.args.body lt in let stop = c.end_at.ensures (omega (arith, lt, few)) in
    by_rows c.args.old.now.rows.now c.args.new.now.rows.now m w c.args.near.targets.now c.args.near.loops.now c.args.copy.now c.args.body _ stop
    (c.keeps_rows.ensures (omega (arith, last, stop)) m w old new e)
