use Rattle.std.proofs.Common.{◌+◌, sym, ◌∙◌, subst}
use Rattle.jr_kept.specs.Searched.{ArePairs}
use Rattle.jr_kept.proofs.Searching.{pairs_more, pairs_left}
use Rattle.jr_kept.proofs.search.push_name.Goals as goal

pub returns-in_ok-push-in-Some : goal.returns-in_ok-push-in-Some
returns-in_ok-push-in-Some c = λ names at h. subst (λ ps. ArePairs names ps (c.args.point + 1)) (sym c.in_ok-push-in-Some.ensures.items) (pairs_more names c.args.pairs.now.items c.args.point c.in-Some.name (at ∙ c.in-Some.is) h)

pub returns-in-None : goal.returns-in-None
returns-in-None c = λ names at h. pairs_left names c.args.pairs.now.items c.args.point (at ∙ c.in-None.is) h
