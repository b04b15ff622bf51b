use Rattle.std.proofs.Common.{sym, ◌∙◌}
use Rattle.std.proofs.lemmas.Result.{on_ok_weaker}
use Rattle.jr_flow_faults.proofs.Arriving.{pair_kept, above_told}
use Rattle.jr_flow_faults.proofs.catches.Arrived.add.Goals as goal

pub returns-then-is_pair-clause-thrown : goal.returns-then-is_pair-clause-thrown
returns-then-is_pair-clause-thrown c = pair_kept c.args.self.now.thrown c.args.over c.args.class (sym c.if-is_pair.true ∙ c.is_pair.ensures)

pub returns-clause-above : goal.returns-clause-above
returns-clause-above c = λ p t lists are. on_ok_weaker c.add_pairs.result
    (λ h. above_told p t _ _ _ _ c.args.over c.args.class c.args.uppers.now lists are c.in_ok-add_pair.ensures h) c.add_pairs.ensures
