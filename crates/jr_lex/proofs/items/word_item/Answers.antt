use Rattle.std.proofs.Common.{◌∙◌, subst}
use Rattle.jr_lex.specs.Items.{IsKindOf}
use Rattle.jr_lex.proofs.Found.{word_found}
use Rattle.jr_lex.proofs.ByteLemmas.{range_front}
use Rattle.jr_lex.proofs.items.word_item.Goals as goal

pub returns-in_ok-kind-in-Some : goal.returns-in_ok-kind-in-Some
returns-in_ok-kind-in-Some c =
    word_found c.args.text.now c.in-Some.end c.in_ok-kind-in-Some.kind c.in-Some.ensures.0.0 c.in-Some.ensures.1 c.in-Some.ensures.2
    (subst (λ w. IsKindOf w c.in_ok-kind-in-Some.kind) (c.range.ensures.value ∙ range_front c.args.text.now c.in-Some.end) c.in_ok-kind-in-Some.ensures)
