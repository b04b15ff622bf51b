use Rattle.std.proofs.Common.{sym, ◌∙◌}
use Rattle.std.proofs.lemmas.Option.{none-some}
use Rattle.std.proofs.lemmas.Result.{on_ok_weaker}
use Rattle.jr_kept.specs.Named.{origin_in}
use Rattle.jr_kept.proofs.Uses.{compares_still, old_use_out}
use Rattle.jr_kept.proofs.arriving.Comparing.compare_at.Goals as goal

pub returns-in-Some-clause-checks : goal.returns-in-Some-clause-checks
returns-in-Some-clause-checks c = λ many bound inside lt can. on_ok_weaker c.compare.result (λ ok. (ok.0, ok.1, λ old is. ok.2))
    (c.compare.ensures.checks many bound inside lt (old_use_out (origin_in c.args.uses.now.origin.now) c.args.point c.in-Some.old (sym c.old_use.ensures ∙ c.in-Some.is)) can)

pub returns-in-None-clause-checks : goal.returns-in-None-clause-checks
returns-in-None-clause-checks c = λ many bound inside lt can. (can, compares_still c.args.uses.now c.args.self.now.done c.args.lost.now, λ old is. absurd (none-some old (sym (sym c.old_use.ensures ∙ c.in-None.is) ∙ is)))

pub returns-in-Some-clause-kept : goal.returns-in-Some-clause-kept
returns-in-Some-clause-kept c = λ many bound before inside can. on_ok_weaker c.compare.result (λ ok none same. ok none (same c.in-Some.old (sym c.old_use.ensures ∙ c.in-Some.is))) (c.compare.ensures.kept many bound before inside can)

pub returns-in-None-clause-kept : goal.returns-in-None-clause-kept
returns-in-None-clause-kept c = λ many bound before inside can none same. none
