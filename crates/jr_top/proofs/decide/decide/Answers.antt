use Rattle.std.proofs.Common.{sym, subst}
use Rattle.jr_request.specs.declared.command.Command.{Command}
use Rattle.jr_top.specs.Decisions.{Chooses}
use Rattle.jr_top.proofs.BatchAnswers.{untaken}
use Rattle.jr_top.proofs.Choosing.{no_other}
use Rattle.jr_top.proofs.decide.decide.Goals as goal

pub returns-in-One-clause-decision : goal.returns-in-One-clause-decision
returns-in-One-clause-decision g c =
    let S = g.S.Store in
    let I = g.I.Source in
    let i = c.args.input.now in
    subst (λ (k : Command). Chooses k (I.left i) (I.faults i) (I.faults i) (S.files c.args.store.now) (S.faults c.args.store.now) (S.faults c.decide_one.new.store) c.decide_one.result) (sym c.in-One.is) c.decide_one.ensures.decision

pub unreachable-requires : goal.unreachable-requires
unreachable-requires g c = no_other c.args.command.now c.requires c.in_default.not-One c.in_default.not-Batch

pub returns-in-One-clause-taken : goal.returns-in-One-clause-taken
returns-in-One-clause-taken g c bytes is = untaken bytes (g.I.Source.left c.args.input.now) is
