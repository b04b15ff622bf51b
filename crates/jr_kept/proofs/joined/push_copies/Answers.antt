use Rattle.std.proofs.Common.{◌++◌, ◌+◌, ◌-◌, sym, ◌∙◌, ap, arith}
use Rattle.std.proofs.lemmas.List.{append_assoc, append-nil}
use Rattle.jr_kept.specs.Spliced.{copies}
use Rattle.jr_kept.proofs.Splicing.{copies_next, copies_end}
use Rattle.jr_kept.proofs.joined.push_copies.Goals as goal

pub loop-turn-preserved : goal.loop-turn-preserved
loop-turn-preserved c = let points = c.args.points.now in let count = c.args.count in let turn = c.loop-turn._turn in let all = c.loop-turn.all.items in
    ap (λ xs. xs ++ copies (count - (turn + 1)) points) c.in_ok-extend_from_slice.ensures.items
    ∙ append_assoc all points (copies (count - (turn + 1)) points)
    ∙ ap (λ xs. all ++ xs) (sym (copies_next points count turn (omega arith)))
    ∙ c.loop-turn.invariant

pub returns : goal.returns
returns c = let points = c.args.points.now in let all = c.loop-turn.all.items in
    sym (append-nil all) ∙ ap (λ xs. all ++ xs) (sym (copies_end points c.args.count c.loop-turn._turn (omega arith))) ∙ c.loop-turn.invariant
