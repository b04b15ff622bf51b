use Rattle.std.proofs.Common.{◌≡◌, subst, arith, true, false, get_or}
use Rattle.std.proofs.lemmas.List.Elements.{Contains-get_or}
use Rattle.jr_spell.proofs.Turning.{mark_more}
use Rattle.jr_spell.proofs.turns.marks_of.Goals as goal

pub loop-row-preserved : goal.loop-row-preserved
loop-row-preserved c = λ n e. mark_more c.args.rows.now c.loop-row.all.items _ c.loop-row.invariant (Contains-get_or c.args.rows.now c.loop-row.row-index _ (omega arith)) n (subst (λ xs. get_or xs n false ≡ true) c.mark.ensures e)
