use Rattle.std.proofs.Common.{sym, ◌∙◌, arith}
use Rattle.jr_marks.proofs.Cuts.{cut_some, cut_none, holds_within, some_within}
use Rattle.jr_marks.proofs.searching.identifier_at.Goals as goal

pub returns-then-holds-clause-within : goal.returns-then-holds-clause-within
returns-then-holds-clause-within c = some_within _ _ _ c.small.ensures.same (holds_within c.args.tokens.now c.count_before-number.result c.args.offset (sym c.if-holds.true ∙ c.holds.ensures))

pub returns-then-holds-clause-found : goal.returns-then-holds-clause-found
returns-then-holds-clause-found c = λ apart few.
    let within = holds_within c.args.tokens.now c.count_before-number.result c.args.offset (sym c.if-holds.true ∙ c.holds.ensures) in
    c.small.ensures.fits (omega arith) ∙ cut_some apart (c.count_before-number.ensures.before apart) within (sym c.holds.ensures ∙ c.if-holds.true)

pub returns-else-holds-clause-found : goal.returns-else-holds-clause-found
returns-else-holds-clause-found c = λ apart few. cut_none apart (c.count_before-number.ensures.before apart) (sym c.holds.ensures ∙ c.if-holds.false)
