use Rattle.jr_top.proofs.Settled.{taken_all}
use Rattle.jr_top.proofs.Starts.{commit_begins}
use Rattle.jr_top.proofs.top.take_all.Goals as goal

pub returns-clause-taken : goal.returns-clause-taken
returns-clause-taken g c =
    let S = g.S.Store in
    taken_all (S.files c.args.store.now) (S.files c.commit.new.store) c.args.plan.now c.in_ok-commit.ensures.steps c.commit.ensures.changes c.in_ok-commit.ensures.journal

pub returns-clause-next : goal.returns-clause-next
returns-clause-next g c = commit_begins g.S.Store.files g.S.Store.may_leave c.args.store.now c.commit.new.store c.args.plan.now.steps c.commit.ensures.none c.in_ok-commit.ensures.durable
