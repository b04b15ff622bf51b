use Rattle.std.proofs.Common.{◌≡◌, ◌∙◌, sym, ap, subst, IfOk}
use Rattle.jr_shapes.specs.Names.{suffix}
use Rattle.jr_spelling_rules.specs.Candidates.{behind_first, texts}
use Rattle.jr_spell.specs.Adding.{AreWithin, AreNumbersOf}
use Rattle.jr_spell.specs.Spellers.{rows_of}
use Rattle.jr_spell.proofs.Suffixed.{suffix_within, behind_within}
use Rattle.jr_spell.proofs.speller.Speller.names_before.Goals as goal

pub returns : goal.returns
returns c = λ whole lt. let p = rows_of c.args.self.now in let count = c.args.suffix.count in let class = c.args.suffix.of in
    let same : c.behind_first.result.now ≡ behind_first (suffix p count class) =
    c.behind_first.ensures ∙ ap (λ xs. behind_first xs) (c.deref.ensures.value ∙ c.in_ok-rows.ensures ∙ ap (λ q. suffix q count class) c.rows.ensures) in
    let within = behind_within p (suffix p count class) (suffix_within p whole.sight_is.world.seen.placed.local.tree count class lt) in
    subst (λ xs. IfOk c.numbers_back.result (λ all. AreNumbersOf p (texts p xs) all.items)) same (c.numbers_back.ensures whole (subst (AreWithin p) (sym same) within))
