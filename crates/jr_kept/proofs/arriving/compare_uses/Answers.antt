use Rattle.std.proofs.lemmas.Result.{on_ok_weaker}
use Rattle.jr_kept.proofs.Uses.{all_done}
use Rattle.jr_kept.proofs.arriving.compare_uses.Goals as goal

pub returns-clause-checks : goal.returns-clause-checks
returns-clause-checks c = λ inside below. let begun = c.in_ok-comparing.ensures in let new = c.args.new in
    on_ok_weaker c.compare_all.result
    (λ ok. all_done c.args.uses.now c.in_ok-comparing.comparing.done c.compare_all.new.self.done new c.args.lost.now c.compare_all.new.lost c.args.points.now begun.1 ok.0 ok.1)
    (c.compare_all.ensures.checks c.args.old new inside below (record { sides = begun.0; counted = begun.1.counted }))

pub returns-clause-kept : goal.returns-clause-kept
returns-clause-kept c = λ before inside below. let begun = c.in_ok-comparing.ensures in c.compare_all.ensures.kept c.args.old c.args.new before inside below (record { sides = begun.0; counted = begun.1.counted })
